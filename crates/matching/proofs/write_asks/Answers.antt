-- `matching::write_asks` meets its contract: the loop's invariant: what is asked for the numbers at the places passed stands in the table.
-- Assumes nothing.
use native.Mathlib.Omega.{arith}
use Rattle.flow.specs.Legends.{in_set}
use Rattle.matching.proofs.MarkLaws.{heard_none, asked_none, asked_next, asked_all}
use Rattle.matching.proofs.write_asks.Goals as goal

pub mark_leaves-requires : goal.mark_leaves-requires
mark_leaves-requires g c = heard_none _ _

pub loop-place-init : goal.loop-place-init
loop-place-init g c = asked_none _ _ _ _ c.requires

pub loop-place-preserved : goal.loop-place-preserved
loop-place-preserved g c =
    asked_next (in_set c.args.sets.now) (g.N.Names.beside c.args.names.now) c.args.nodes.now c.ask.result c.loop-place.invariant
    c.mark_leaves.ensures (omega (arith, c.requires)) c.ask.ensures c.nth_number.ensures

pub returns : goal.returns
returns g c = asked_all _ _ _ c.loop-place.invariant (omega (arith, c.requires))
