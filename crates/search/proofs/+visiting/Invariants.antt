use Prim.Native.Nat.{◌+◌, ◌*◌}
use lib.ListN.{length}
use Rattle.search.proofs.Deeper.{Going}
use Rattle.search.proofs.+visiting.Given as goal

abbrev pub decreases-enter : goal.decreases-enter
decreases-enter l = 6 * length l.cues.now + 4

abbrev pub decreases-follow : goal.decreases-follow
decreases-follow l = 6 * length l.cues.now

abbrev pub decreases-try_each : goal.decreases-try_each
decreases-try_each l = 6 * length l.cues.now + 1

abbrev pub decreases-visit : goal.decreases-visit
decreases-visit l = 6 * length l.cues.now + 5

abbrev pub decreases-visit_each : goal.decreases-visit_each
decreases-visit_each l = 6 * length l.cues.now + 3

abbrev pub invariant-try_each-loop-k : goal.invariant-try_each-loop-k
invariant-try_each-loop-k l =
    Going l.ns l.cues l.initial.work l.role l.initial.asks l.left l.initial.slots l.work l.asks l.slots l.k l.far l.rest
