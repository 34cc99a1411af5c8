-- `flow::check_sets` meets its contract. Assumes nothing.
use mathlib.Core.Path.{sym, ◌∙◌}
use Rattle.flow.specs.Refusals.{wrong_sets}
use Rattle.flow.specs.Checks.{sets_check}
use Rattle.flow.specs.FirstRefusal.{single_held, single_passed}
use Rattle.flow.proofs.check_sets.Goals as goal

pub returns-then-sets : goal.returns-then-sets
unfolding sets_check wrong_sets
returns-then-sets c = c.refuse.ensures ∙ sym (single_held 23 0 _ c.if-sets.true)

pub returns : goal.returns
unfolding sets_check wrong_sets
returns c = sym (single_passed 23 0 _ c.if-sets.false)
