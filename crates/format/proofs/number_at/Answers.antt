-- `format::number_at` meets its contract: two bytes that stand in the file, or 15.
-- Assumes nothing.
use mathlib.Core.Path.{refl, ap, ◌∙◌}
use native.Mathlib.Omega.{arith}
use Rattle.std.specs.Prelude.{Ok}
use Rattle.format.specs.ItemLaws.{item_got, item_bad, number_cut, number_got}
use Rattle.format.proofs.number_at.Goals as goal

pub returns-then-file-at : goal.returns-then-file-at
returns-then-file-at c = item_bad _ _ c.refusal.ensures (number_cut _ _ c.if-file-at.true)

pub returns : goal.returns
returns c = ap Ok c.found.ensures ∙ item_got _ _ c.number_from.ensures refl (number_got _ _ (omega arith))
