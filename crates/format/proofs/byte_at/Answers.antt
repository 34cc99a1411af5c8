-- `format::byte_at` meets its contract: a byte that stands in the file, or 15.
-- Assumes nothing.
use mathlib.Core.Path.{refl, ap, ◌∙◌}
use native.Mathlib.Omega.{arith}
use Rattle.std.specs.Prelude.{Ok}
use Rattle.format.specs.ItemLaws.{item_got, item_bad, byte_cut, byte_got}
use Rattle.format.proofs.byte_at.Goals as goal

pub returns-then-file-at : goal.returns-then-file-at
returns-then-file-at c = item_bad _ _ c.refusal.ensures (byte_cut _ _ c.if-file-at.true)

pub returns : goal.returns
returns c = ap Ok c.found.ensures ∙ item_got _ _ c.from.ensures refl (byte_got _ _ (omega arith))
