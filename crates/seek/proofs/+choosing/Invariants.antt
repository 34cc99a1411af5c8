use Prim.Native.Nat.{◌+◌, ◌*◌}
use Rattle.seek.proofs.+choosing.Given as goal

abbrev pub decreases-choose : goal.decreases-choose
decreases-choose l = l.i * 8 + 7

abbrev pub decreases-choose_both : goal.decreases-choose_both
decreases-choose_both l = l.i * 8 + 5

abbrev pub decreases-choose_by : goal.decreases-choose_by
decreases-choose_by l = l.i * 8 + 6

abbrev pub decreases-seek_choice : goal.decreases-seek_choice
decreases-seek_choice l = l.i * 8 + 4

abbrev pub decreases-seek_marked : goal.decreases-seek_marked
decreases-seek_marked l = l.i * 8 + 2

abbrev pub decreases-seek_parallel : goal.decreases-seek_parallel
decreases-seek_parallel l = l.i * 8 + 4

abbrev pub decreases-seek_running : goal.decreases-seek_running
decreases-seek_running l = l.i * 8 + 4

abbrev pub decreases-seek_second : goal.decreases-seek_second
decreases-seek_second l = l.i * 8 + 3
