-- `Slot::has` meets its contract: the key and both words are compared, and the slot's reach and key have 16 bits. Assumes nothing.
use mathlib.Core.Path.{refl}
use borrow.Author.Tests.{lt-ltb}
use native.Mathlib.Omega.{arith}
use Rattle.memory.specs.Memory.{is_short, has}
use Rattle.memory.proofs.Slot.has.Goals as goal

pub returns : goal.returns
unfolding has is_short
returns c = let s = c.args.self.now in rw (lt-ltb s.reached 65536 (omega arith), lt-ltb s.key 65536 (omega arith)) refl
