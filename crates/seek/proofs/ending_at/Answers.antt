-- `seek::ending_at` meets its contract: one way for each of the three closings. Assumes nothing.
use native.Mathlib.Omega.{arith}
use Rattle.states.specs.Becomes.{on_done, on_withdrawn, on_failed}
use Rattle.seek.proofs.ending_at.Goals as goal

pub returns-then-j-x : goal.returns-then-j-x
returns-then-j-x c = search (on_done, arith)

pub returns-then-k-y : goal.returns-then-k-y
returns-then-k-y c = search (on_withdrawn, arith)

pub returns-else-k-y : goal.returns-else-k-y
returns-else-k-y c = search (on_failed, arith)
