use Rattle.flow.specs.Closings.{PassedOpen}
use Rattle.flow.proofs.nth_closing.Given as goal

-- `flow::nth_closing` meets its contract: how many closings are still passed over is kept with what was passed (Closings). Assumes nothing.
abbrev pub invariant-loop-i : goal.invariant-loop-i
invariant-loop-i l = PassedOpen l.records l.n l.i l.left
