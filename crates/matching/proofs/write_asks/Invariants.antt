use Rattle.flow.specs.Legends.{in_set}
use Rattle.flow.specs.Cues.{masked}
use Rattle.matching.specs.Asks.{AskedTo}
use Rattle.matching.proofs.write_asks.Given as goal

abbrev pub invariant-loop-place : goal.invariant-loop-place
invariant-loop-place g l = AskedTo (masked (in_set l.sets)) (g.N.Names.beside l.names) l.nodes l.place l.table
