-- `counting::takes` meets its contract: the two tests are the definition's, of the number that the event is. Assumes nothing.
use mathlib.Core.Path.{refl}
use Rattle.flow.specs.Cues.{takes_cue}
use Rattle.counting.proofs.takes.Goals as goal

pub returns : goal.returns
unfolding takes_cue
returns c = rw c.from-e.ensures refl
