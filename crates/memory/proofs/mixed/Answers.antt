-- `memory::mixed` meets its contract: no sum is too large. Assumes nothing.
use Rattle.memory.specs.Memory.{mixed}
use Rattle.memory.proofs.mixed.Goals as goal

pub returns : goal.returns
unfolding mixed
returns c = rw c.from.ensures
