-- `states::undoing_two` meets its contract: each arm by the operator and the mode. Assumes nothing.
use mathlib.Core.Path.{◌∙◌}
use borrow.Author.Tests.{eq-eqb, ne_eqb}
use Rattle.states.specs.Standings.{undoing_two}
use Rattle.states.proofs.undoing_two.Goals as goal

pub returns-then-mode-eq-LEFT_FIRST : goal.returns-then-mode-eq-LEFT_FIRST
unfolding undoing_two
returns-then-mode-eq-LEFT_FIRST c = c.only.ensures ∙ (rw (c.in-Sequence.is, eq-eqb _ 2 c.if-mode-eq-LEFT_FIRST.true))

pub returns-else-mode-eq-LEFT_FIRST : goal.returns-else-mode-eq-LEFT_FIRST
unfolding undoing_two
returns-else-mode-eq-LEFT_FIRST c = rw (c.in-Sequence.is, ne_eqb _ 2 c.if-mode-eq-LEFT_FIRST.false)

pub returns-then-mode-eq-FIRST_TAKEN : goal.returns-then-mode-eq-FIRST_TAKEN
unfolding undoing_two
returns-then-mode-eq-FIRST_TAKEN c = c.only-then-mode-eq-FIRST_TAKEN.ensures ∙ (rw (c.in-Choice.is, eq-eqb _ 1 c.if-mode-eq-FIRST_TAKEN.true))

pub returns-else-mode-eq-FIRST_TAKEN : goal.returns-else-mode-eq-FIRST_TAKEN
unfolding undoing_two
returns-else-mode-eq-FIRST_TAKEN c = c.only-else-mode-eq-FIRST_TAKEN.ensures ∙ (rw (c.in-Choice.is, ne_eqb _ 1 c.if-mode-eq-FIRST_TAKEN.false))

pub returns-in-Parallel : goal.returns-in-Parallel
unfolding undoing_two
returns-in-Parallel c = rw c.in-Parallel.is
