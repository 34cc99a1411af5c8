-- `matching::write_cues` meets its contract: the loop's invariant: the first i cues stand in front, and the rest is the table's.
-- Assumes nothing.
use native.Mathlib.Omega.{arith}
use Rattle.flow.specs.Legends.{in_set}
use Rattle.flow.specs.Cues.{cue_of, masked}
use Rattle.matching.proofs.CueLaws.{front_next}
use Rattle.matching.proofs.write_cues.Goals as goal

pub loop-i-preserved : goal.loop-i-preserved
loop-i-preserved g c =
    let a = c.args in
    front_next (cue_of (masked (in_set a.sets.now)) (g.N.Names.beside a.names.now)) a.records.now a.cues.now c.loop-i.i
    (omega arith) (omega (arith, c.requires)) c.loop-i.invariant c.cue.ensures
