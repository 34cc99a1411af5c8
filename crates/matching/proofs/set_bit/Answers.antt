-- `matching::set_bit` meets its contract: by whether the set has the event. Assumes nothing.
use mathlib.Core.Path.{sym, ◌∙◌}
use Rattle.matching.specs.SetLaws.{bit_whole}
use Rattle.matching.proofs.set_bit.Goals as goal

pub returns-then-in_set : goal.returns-then-in_set
returns-then-in_set c = rw (sym c.in_set.ensures ∙ c.if-in_set.true) (bit_whole _ c.requires)

pub returns-else-in_set : goal.returns-else-in_set
returns-else-in_set c = rw (sym c.in_set.ensures ∙ c.if-in_set.false)
