-- `counting::put_count` meets its contract: one count is written, and the others are as they were. Assumes nothing.
use mathlib.Core.Path.{refl}
use Rattle.states.specs.ChildLaws.{set_sets}
use Rattle.counting.proofs.put_count.Goals as goal

pub returns : goal.returns
returns c = set_sets c.requires refl
