-- `format::length_at` meets its contract: a byte, held to its range. Assumes nothing.
use mathlib.Core.Path.{◌∙◌}
use Rattle.format.specs.ItemLaws.{handed_on, value_ranged, ranged_bad}
use Rattle.format.proofs.length_at.Goals as goal

pub returns-in_err-byte_at : goal.returns-in_err-byte_at
returns-in_err-byte_at c = handed_on _ _ _ _ (λ n p. ranged_bad _ _ _ _) c.in_err-byte_at.ensures c.from_residual.ensures.1

pub returns : goal.returns
returns c = c.in_range.ensures ∙ value_ranged _ _ _ _ c.in_ok-byte_at.ensures
