use mathlib.Core.Path.{◌≡◌}
use Rattle.states.specs.Clauses.{scene}
use Rattle.counting.specs.StandIns.{StandIn}
use Rattle.counting.proofs.+counting.Given as goal

abbrev pub decreases-count_run : goal.decreases-count_run
decreases-count_run l = l.i

abbrev pub decreases-count_std : goal.decreases-count_std
decreases-count_std l = l.i

abbrev pub invariant-count_std-loop-event : goal.invariant-count_std-loop-event
invariant-count_std-loop-event l = (l.noted ≡ l.initial.noted) × StandIn (scene l.ns l.t l.a) l.initial.live l.i l.live l.here

abbrev pub decreases-count_std-loop-event : goal.decreases-count_std-loop-event
decreases-count_std-loop-event l = l.here
