-- `states::course_two` meets its contract: each arm by the operator and the mode. Assumes nothing.
use borrow.Author.Tests.{eq-eqb, ne_eqb}
use Rattle.states.specs.Standings.{course_two}
use Rattle.states.proofs.Arms.{both_course}
use Rattle.states.proofs.course_two.Goals as goal

pub returns-then-mode-eq-AS_DRAWN : goal.returns-then-mode-eq-AS_DRAWN
unfolding course_two
returns-then-mode-eq-AS_DRAWN c = both_course _ _ c.if-mode-eq-AS_DRAWN.true

pub returns-in-Sequence : goal.returns-in-Sequence
unfolding course_two
returns-in-Sequence c = rw (c.in-Sequence.is, ne_eqb _ 0 c.if-mode-eq-AS_DRAWN.false)

pub returns-then-mode-eq-FIRST_TAKEN : goal.returns-then-mode-eq-FIRST_TAKEN
unfolding course_two
returns-then-mode-eq-FIRST_TAKEN c = rw (c.in-Choice.is, ne_eqb _ 0 c.if-mode-eq-AS_DRAWN.false, eq-eqb _ 1 c.if-mode-eq-FIRST_TAKEN.true)

pub returns-else-mode-eq-FIRST_TAKEN : goal.returns-else-mode-eq-FIRST_TAKEN
unfolding course_two
returns-else-mode-eq-FIRST_TAKEN c = rw (c.in-Choice.is, ne_eqb _ 0 c.if-mode-eq-AS_DRAWN.false, ne_eqb _ 1 c.if-mode-eq-FIRST_TAKEN.false)

pub returns-in-Parallel : goal.returns-in-Parallel
unfolding course_two
returns-in-Parallel c = rw c.in-Parallel.is
