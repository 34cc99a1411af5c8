-- `search::room_wanted` meets its contract: at most 2 × 64 × 257 bytes. Assumes nothing.
use mathlib.Core.Path.{refl}
use native.Mathlib.Omega.{arith}
use Rattle.search.specs.Room.{room_of}
use Rattle.search.specs.SearchLaws.{room_small}
use Rattle.search.proofs.room_wanted.Goals as goal

pub overflow_mul-result-2 : goal.overflow_mul-result-2
overflow_mul-result-2 c = omega (arith, room_small c.args.nodes c.args.records c.requires.0 c.requires.1)

pub returns : goal.returns
unfolding room_of
returns c = refl
