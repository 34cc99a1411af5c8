-- `format::sets_at` meets its contract: the file ends, or a section of sets follows. Assumes nothing.
use mathlib.Core.Path.{refl, ap, sym, ◌∙◌}
use Rattle.std.specs.Prelude.{Ok}
use Rattle.format.specs.Items.{as_item}
use Rattle.format.specs.ItemLaws.{item_got}
use Rattle.format.specs.RunLaws.{sets_none, sets_some}
use Rattle.format.proofs.sets_at.Goals as goal

pub returns-then-file-c : goal.returns-then-file-c
returns-then-file-c c = ap Ok c.found.ensures ∙ item_got _ _ refl refl (sets_none _ _ c.if-file-c.true)

pub returns : goal.returns
returns c = c.items_at.ensures ∙ ap (as_item _) (sym (sets_some _ _ c.if-file-c.false))
