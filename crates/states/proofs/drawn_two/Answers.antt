-- `states::drawn_two` meets its contract: each arm by the operator and the mode. Assumes nothing.
use mathlib.Core.Path.{◌∙◌}
use borrow.Author.Tests.{eq-eqb, ne_eqb}
use Rattle.states.specs.Standings.{drawn_two}
use Rattle.states.proofs.Arms.{both_drawn}
use Rattle.states.proofs.drawn_two.Goals as goal

pub returns-then-mode-eq-AS_DRAWN : goal.returns-then-mode-eq-AS_DRAWN
unfolding drawn_two
returns-then-mode-eq-AS_DRAWN c = both_drawn _ _ c.if-mode-eq-AS_DRAWN.true

pub returns-in-Sequence : goal.returns-in-Sequence
unfolding drawn_two
returns-in-Sequence c = c.only.ensures ∙ (rw (c.in-Sequence.is, ne_eqb _ 0 c.if-mode-eq-AS_DRAWN.false))

pub returns-then-mode-eq-FIRST_TAKEN : goal.returns-then-mode-eq-FIRST_TAKEN
unfolding drawn_two
returns-then-mode-eq-FIRST_TAKEN c = c.only-then-mode-eq-FIRST_TAKEN.ensures ∙ (rw (c.in-Choice.is, ne_eqb _ 0 c.if-mode-eq-AS_DRAWN.false, eq-eqb _ 1 c.if-mode-eq-FIRST_TAKEN.true))

pub returns-else-mode-eq-FIRST_TAKEN : goal.returns-else-mode-eq-FIRST_TAKEN
unfolding drawn_two
returns-else-mode-eq-FIRST_TAKEN c = c.only-else-mode-eq-FIRST_TAKEN.ensures ∙ (rw (c.in-Choice.is, ne_eqb _ 0 c.if-mode-eq-AS_DRAWN.false, ne_eqb _ 1 c.if-mode-eq-FIRST_TAKEN.false))

pub returns-in-Parallel : goal.returns-in-Parallel
unfolding drawn_two
returns-in-Parallel c = rw c.in-Parallel.is
