-- `matching::nth_number` meets its contract: the events from 1 up, then the closings. Assumes nothing.
use native.Mathlib.Omega.{arith}
use Rattle.matching.specs.NumberLaws.{nth_event, nth_closing}
use Rattle.matching.proofs.nth_number.Goals as goal

pub returns-then-place-events : goal.returns-then-place-events
returns-then-place-events c = nth_event _ (omega arith)

pub returns-else-place-events : goal.returns-else-place-events
returns-else-place-events c = rw c.from-events.ensures (nth_closing _ (omega arith) (omega arith))
