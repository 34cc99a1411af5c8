-- `format::section_at` meets its contract: the numbers are items of two bytes. Assumes nothing.
use mathlib.Core.Path.{◌∙◌}
use Rattle.format.specs.SectionLaws.{section_item}
use Rattle.format.proofs.section_at.Goals as goal

pub returns : goal.returns
returns c = c.items_at.ensures ∙ section_item _ _ _ _
