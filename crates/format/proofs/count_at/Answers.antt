-- `format::count_at` meets its contract: a number, held to its range. Assumes nothing.
use mathlib.Core.Path.{◌∙◌}
use Rattle.format.specs.ItemLaws.{handed_on, value_ranged, ranged_bad}
use Rattle.format.proofs.count_at.Goals as goal

pub returns-in_err-number_at : goal.returns-in_err-number_at
returns-in_err-number_at c = handed_on _ _ _ _ (λ n p. ranged_bad _ _ _ _) c.in_err-number_at.ensures c.from_residual.ensures.1

pub returns : goal.returns
returns c = c.in_range.ensures ∙ value_ranged _ _ _ _ c.in_ok-number_at.ensures
