-- `states::as_drawn` meets its contract: each arm by the node. Assumes nothing.
use mathlib.Core.Path.{refl}
use Rattle.states.specs.Standings.{stand_drawn}
use Rattle.states.proofs.Arms.{other_drawn, both_drawn}
use Rattle.states.proofs.as_drawn.Goals as goal

pub returns-in-Event : goal.returns-in-Event
unfolding stand_drawn
returns-in-Event c = rw c.in-Event.is

pub returns-in-Basic : goal.returns-in-Basic
unfolding stand_drawn
returns-in-Basic c = rw c.in-Basic.is

pub returns-in-Standard : goal.returns-in-Standard
unfolding stand_drawn
returns-in-Standard c = rw c.in-Standard.is (both_drawn _ _ refl)

pub returns-in-Handler : goal.returns-in-Handler
unfolding stand_drawn
returns-in-Handler c = rw c.in-Handler.is

pub returns-in-Block : goal.returns-in-Block
unfolding stand_drawn
returns-in-Block c = rw c.in-Block.is

pub returns-in_default : goal.returns-in_default
unfolding stand_drawn
returns-in_default c = other_drawn c.args.node c.in_default.not-Event c.in_default.not-Basic c.in_default.not-Standard c.in_default.not-Handler c.in_default.not-Block
