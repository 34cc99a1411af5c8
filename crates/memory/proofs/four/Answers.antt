-- `memory::four` meets its contract: four bytes of four modes. Assumes nothing.
use mathlib.Core.Path.{refl}
use native.Mathlib.Omega.{arith}
use lib.ListN.{length}
use Rattle.memory.specs.MemoryLaws.{four_is}
use Rattle.memory.proofs.four.Goals as goal

pub returns : goal.returns
returns c =
    let a = c.args in
    let is = four_is a.state.now (length a.state.now) a.at (omega arith) refl refl refl refl in
    (omega (arith, is, c.from_le_bytes.ensures, c.from.ensures), omega (arith, c.from_le_bytes.type_inv, c.from.ensures))
