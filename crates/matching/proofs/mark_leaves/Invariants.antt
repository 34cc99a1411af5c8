-- `matching::mark_leaves` meets its contract: the loop's invariant: the marks are those of the first i nodes. Assumes nothing.
use Rattle.matching.specs.Asks.{HeardMarks}
use Rattle.matching.proofs.mark_leaves.Given as goal

abbrev pub invariant-loop-i : goal.invariant-loop-i
invariant-loop-i g l = HeardMarks (g.N.Names.beside l.names) l.nodes l.i l.marks
