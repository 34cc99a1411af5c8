-- `format::unnamed_event` meets its contract: the two tests are the definition's.
-- Assumes nothing.
use mathlib.Core.Path.{refl}
use Rattle.format.specs.Contents.{unnamed_event}
use Rattle.format.proofs.unnamed_event.Goals as goal

pub returns : goal.returns
unfolding unnamed_event
returns c = refl
