-- `steps::turn_two` meets its contract: the place is compared with the first part's count. Assumes nothing.
use native.Mathlib.Omega.{arith}
use Rattle.steps.specs.Turns.{in_first, in_second}
use Rattle.steps.proofs.turn_two.Goals as goal

pub returns-then-k-n : goal.returns-then-k-n
returns-then-k-n c = let n = c.count_at-n.ensures in in_first (omega (arith, c.if-k-n.true)) c.enter_first.ensures

pub returns-else-k-n : goal.returns-else-k-n
returns-else-k-n c = let n = c.count_at-n.ensures in rw c.count_at-n.ensures (in_second (omega (arith, c.if-k-n.false)) c.enter_second.ensures)
