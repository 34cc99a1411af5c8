use mathlib.Core.Path.{◌≡◌}
use Rattle.flow.specs.Legends.{in_set}
use Rattle.flow.specs.Cues.{mask_of}
use Rattle.matching.proofs.mask.Given as goal

abbrev pub invariant-loop-set : goal.invariant-loop-set
invariant-loop-set l = l.bits ≡ mask_of (λ k. in_set l.sets k l.event) l.set
