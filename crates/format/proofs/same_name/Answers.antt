-- `format::same_name` meets its contract: the bytes of the two names are compared. Assumes nothing.
use mathlib.Core.Path.{◌∙◌}
use Rattle.format.specs.NameLaws.{same_names}
use Rattle.format.proofs.same_name.Goals as goal

pub returns : goal.returns
returns c = c.eq.ensures ∙ same_names _ _ _ c.end_of_name-a_end.ensures c.end_of_name-b_end.ensures
