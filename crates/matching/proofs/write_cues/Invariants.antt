use mathlib.Core.List.{map}
use mathlib.Core.Path.{◌≡◌}
use lib.ListN.{take}
use Rattle.flow.specs.Legends.{in_set}
use Rattle.flow.specs.Cues.{cue_of, masked}
use Rattle.format.specs.Told.{at_front}
use Rattle.matching.proofs.write_cues.Given as goal

abbrev pub invariant-loop-i : goal.invariant-loop-i
invariant-loop-i g l = l.cues ≡ at_front (map (cue_of (masked (in_set l.sets)) (g.N.Names.beside l.names)) (take l.i l.records)) l.initial.cues
