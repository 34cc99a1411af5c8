-- `memory::fits` meets its contract: a mode after the other fits or not. Assumes nothing.
use mathlib.Core.Path.{◌∙◌}
use mathlib.Core.Bool.{true, ◌&&◌}
use lib.Dec.{ltb}
use Rattle.std.proofs.Common.{rules, tests}
use Rattle.std.proofs.lemmas.Iterator.{YieldsList-from_slice}
use Rattle.std.proofs.lemmas.Iterator.Consumers.{fold_from_yields_List}
use Rattle.memory.specs.MemoryLaws.{two_bits_all}
use Rattle.memory.proofs.fits.Goals as goal

pub returns : goal.returns
returns c =
    let t = c.args.state.now in
    fold_from_yields_List _ (λ b m. b && ltb m 4) true _ c.fold.ensures.ran (YieldsList-from_slice t cc) (λ b x r q k. search (rules, tests))
    ∙ two_bits_all t
