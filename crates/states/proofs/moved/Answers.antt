-- `states::moved` meets its contract: each arm by the node, which is drawn no more. Assumes nothing.
use mathlib.Core.Path.{◌∙◌}
use borrow.Author.Tests.{ne_eqb}
use Rattle.states.specs.Standings.{as_drawn, stand_drawn}
use Rattle.states.proofs.Arms.{other_moved}
use Rattle.states.proofs.moved.Goals as goal

pub returns-in-Basic : goal.returns-in-Basic
unfolding stand_drawn
returns-in-Basic c = rw c.in-Basic.is

pub returns-in-Standard : goal.returns-in-Standard
unfolding stand_drawn
returns-in-Standard c = c.drawn_two.ensures ∙ (rw c.in-Standard.is)

pub returns-in-Handler : goal.returns-in-Handler
unfolding stand_drawn
returns-in-Handler c = c.only.ensures ∙ (rw (c.in-Handler.is, ne_eqb _ as_drawn c.requires))

pub returns-in-Block : goal.returns-in-Block
unfolding stand_drawn
returns-in-Block c = c.only-in-Block.ensures ∙ (rw (c.in-Block.is, ne_eqb _ as_drawn c.requires))

pub returns-in_default : goal.returns-in_default
unfolding stand_drawn
returns-in_default c = other_moved c.args.node c.args.mode c.requires c.in_default.not-Basic c.in_default.not-Standard c.in_default.not-Handler c.in_default.not-Block
