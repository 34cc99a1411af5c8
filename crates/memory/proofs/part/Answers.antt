-- `memory::part` meets its contract: the modes from j on, which are at most eight. Assumes nothing.
use Prim.Native.Nat.{◌+◌, ◌-◌}
use native.Mathlib.Omega.{arith}
use lib.ListN.{length}
use Rattle.memory.specs.MemoryLaws.{most_eight, part_none, part_more}
use Rattle.memory.proofs.part.Goals as goal

pub loop-j-init : goal.loop-j-init
loop-j-init c =
    let a = c.args in
    (omega arith, (omega arith, part_none a.state.now (length a.state.now) (length a.state.now) (a.at + 8 - length a.state.now) (omega arith)))

pub overflow_mul-word : goal.overflow_mul-word
overflow_mul-word c =
    let a = c.args in
    let l = c.loop-j in
    let q = part_more a.state.now (length a.state.now) a.at c.requires.two_bits_each l.j (omega arith) (omega arith) (omega arith) l.invariant.1.1 in
    omega (arith, most_eight)

pub overflow_add-word : goal.overflow_add-word
overflow_add-word c =
    let a = c.args in
    let l = c.loop-j in
    let q = part_more a.state.now (length a.state.now) a.at c.requires.two_bits_each l.j (omega arith) (omega arith) (omega arith) l.invariant.1.1 in
    omega (arith, c.from.ensures, most_eight)

pub loop-j-preserved : goal.loop-j-preserved
loop-j-preserved c =
    let a = c.args in
    let l = c.loop-j in
    let q = part_more a.state.now (length a.state.now) a.at c.requires.two_bits_each l.j (omega arith) (omega arith) (omega arith) l.invariant.1.1 in
    (omega arith, (omega arith, rw c.from.ensures q.0))
