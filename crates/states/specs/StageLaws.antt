-- What is lent to one function after the other is still what was lent. Assumes nothing.
use mathlib.Core.Path.{◌∙◌}
use Rattle.states.specs.declared.Moving.{Moving}
use Rattle.states.specs.Stage.{SameLent}

pub still_lent : {s s' s'' : Moving} → SameLent s s' → SameLent s' s'' → SameLent s s''
still_lent h k = record { name = k.name ∙ h.name; long = k.long ∙ h.long }
