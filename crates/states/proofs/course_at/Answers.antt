-- `states::course_at` meets its contract: by the node and the mode. Assumes nothing.
use mathlib.Core.Path.{◌∙◌, sym}
use Rattle.states.specs.Standings.{course_of}
use Rattle.states.specs.State.{modes}
use Rattle.states.proofs.Arms.{other_course}
use Rattle.states.proofs.course_at.Goals as goal

pub returns-in-Pair : goal.returns-in-Pair
unfolding course_of
returns-in-Pair c = rw (sym c.node_at-node.ensures, c.in-Pair.is)

pub returns-in-Compensable : goal.returns-in-Compensable
unfolding course_of
returns-in-Compensable c = c.course_two.ensures ∙ (rw (sym c.node_at-node.ensures, c.in-Compensable.is, c.mode_of.ensures))

pub returns-in-Paired : goal.returns-in-Paired
unfolding course_of
returns-in-Paired c = rw (sym c.node_at-node.ensures, c.in-Paired.is)

pub returns-in_default : goal.returns-in_default
unfolding course_of
returns-in_default c = rw (sym c.node_at-node.ensures) (other_course c.node_at-node.result (modes c.args.t.now c.args.i) c.in_default.not-Pair c.in_default.not-Compensable c.in_default.not-Paired)
