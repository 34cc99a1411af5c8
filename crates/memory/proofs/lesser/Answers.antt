-- `memory::lesser` meets its contract: by which mark is smaller. Assumes nothing.
use native.Mathlib.Omega.{arith}
use borrow.Author.Tests.{lt-ltb, le-ltb}
use Rattle.memory.specs.Memory.{lesser}
use Rattle.memory.proofs.lesser.Goals as goal

pub returns-then-mark : goal.returns-then-mark
unfolding lesser
returns-then-mark c = let a = c.mark.ensures in let b = c.mark-2.ensures in (rw (lt-ltb _ _ (rw a at (rw b at c.if-mark.true))), omega arith)

pub returns-else-mark : goal.returns-else-mark
unfolding lesser
returns-else-mark c = let a = c.mark.ensures in let b = c.mark-2.ensures in (rw (le-ltb _ _ (rw a at (rw b at c.if-mark.false))), omega arith)
