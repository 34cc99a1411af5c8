-- `memory::pack` meets its contract: four rows of bytes side by side. Assumes nothing.
use native.Mathlib.Omega.{arith}
use lib.ListN.{length}
use Rattle.memory.specs.MemoryLaws.{most_eight, pack_is}
use Rattle.memory.specs.Memory.{padded}
use Rattle.memory.proofs.pack.Goals as goal

pub overflow_mul-result : goal.overflow_mul-result
overflow_mul-result c = omega (arith, most_eight)

pub overflow_add-result : goal.overflow_add-result
overflow_add-result c = omega (arith, most_eight)

pub overflow_mul-result-2 : goal.overflow_mul-result-2
overflow_mul-result-2 c = omega (arith, most_eight)

pub overflow_add-result-2 : goal.overflow_add-result-2
overflow_add-result-2 c = omega (arith, most_eight)

pub overflow_mul-result-3 : goal.overflow_mul-result-3
overflow_mul-result-3 c = omega (arith, most_eight)

pub overflow_add-result-3 : goal.overflow_add-result-3
overflow_add-result-3 c = omega (arith, most_eight)

pub returns : goal.returns
returns c =
    let a = c.args in
    pack_is (padded a.state.now (length a.state.now)) a.at c.eight.ensures.0 c.eight-2.ensures.0 c.eight-3.ensures.0 c.eight-4.ensures.0
