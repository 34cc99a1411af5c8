-- `memory::pair_of` meets its contract: the number that is squared is the mixed one. Assumes nothing.
use Rattle.memory.specs.Memory.{pair_of}
use Rattle.memory.proofs.pair_of.Goals as goal

pub returns : goal.returns
unfolding pair_of
returns c = rw c.mixed.ensures
