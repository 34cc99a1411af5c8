-- `format::same_step` meets its contract: step names are the same if they are equal byte by byte.
-- Assumes nothing.
use Rattle.format.specs.Sections.{same_step}
use Rattle.format.proofs.same_step.Goals as goal

pub returns : goal.returns
unfolding same_step
returns c = c.same_name.ensures
