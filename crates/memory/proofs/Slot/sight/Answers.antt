-- `Slot::sight` meets its contract: what is in the slot. Assumes nothing.
use Rattle.memory.specs.Memory.{sight_of}
use Rattle.memory.proofs.Slot.sight.Goals as goal

pub returns : goal.returns
unfolding sight_of
returns c = rw c.from.ensures
