-- `seek::own_weight` meets its contract: by done, nothing weighs nothing. Assumes nothing.
use Rattle.tallies.specs.BareLaws.{nothing_weighs}
use Rattle.tallies.specs.Formulas.{none_t}
use mathlib.Core.Path.{refl}
use Rattle.seek.proofs.own_weight.Goals as goal

pub returns-in-Done : goal.returns-in-Done
returns-in-Done c = rw c.in-Done.is (nothing_weighs none_t c.args.g refl)
