-- `states::stand_undoing` meets its contract: each arm by the node and the mode. Assumes nothing.
use mathlib.Core.Path.{◌∙◌}
use borrow.Author.Tests.{eq-eqb, ne_eqb}
use Rattle.states.specs.Standings.{stand_undoing}
use Rattle.states.proofs.Arms.{other_undoing}
use Rattle.states.proofs.stand_undoing.Goals as goal

pub returns-then-mode-eq-LEFT_SECOND : goal.returns-then-mode-eq-LEFT_SECOND
unfolding stand_undoing
returns-then-mode-eq-LEFT_SECOND c = c.only.ensures ∙ (rw (c.in-Pair.is, eq-eqb _ 1 c.if-mode-eq-LEFT_SECOND.true))

pub returns-else-mode-eq-LEFT_SECOND : goal.returns-else-mode-eq-LEFT_SECOND
unfolding stand_undoing
returns-else-mode-eq-LEFT_SECOND c = rw (c.in-Pair.is, ne_eqb _ 1 c.if-mode-eq-LEFT_SECOND.false)

pub returns-in-Compensable : goal.returns-in-Compensable
unfolding stand_undoing
returns-in-Compensable c = c.undoing_two.ensures ∙ (rw c.in-Compensable.is)

pub returns-in_default : goal.returns-in_default
unfolding stand_undoing
returns-in_default c = other_undoing c.args.node c.args.mode c.in_default.not-Pair c.in_default.not-Compensable
