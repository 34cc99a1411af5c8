-- `memory::Slot::mark` meets its contract. Assumes nothing.
use mathlib.Core.Path.{refl}
use Rattle.memory.specs.Memory.{mark_of}
use Rattle.memory.proofs.Slot.mark.Goals as goal

pub returns : goal.returns
unfolding mark_of
returns c = rw c.from.ensures (rw c.from-2.ensures (rw c.from-3.ensures refl))
