-- `replay::promised::wanted` meets its contract. Assumes nothing.
use Prim.Native.Nat.{◌+◌, ◌*◌, ◌/◌, ◌≤◌}
use native.Mathlib.Nat.{mul-le-mul}
use native.Mathlib.Omega.{arith}
use mathlib.Core.Path.{refl}
use lib.ListN.{length}
use Rattle.judge.specs.Judged.{room_of}
use Rattle.replay.proofs.promised.wanted.Goals as goal

pub overflow_mul-result-2 : goal.overflow_mul-result-2
overflow_mul-result-2 c =
    let l = c.args.lists in
    let p : 2 * (length l.nodes.now / 3) ≤ 266 = omega (arith, l.few_nodes) in
    let q : length l.records.now + 1 ≤ 401 = omega (arith, l.few_records) in
    omega (arith, mul-le-mul p q)

pub returns : goal.returns
unfolding room_of
returns c = refl
