use mathlib.Core.Path.{◌≡◌}
use Prim.Native.Nat.{◌+◌, ◌*◌}
use Rattle.states.specs.declared.Role.TheVariants.{Plain}
use Rattle.states.specs.Stage.{scene_at, notes_at, SameLent}
use Rattle.states.specs.Hands.{move}
use Rattle.steps.specs.Turns.{Reached}
use Rattle.steps.proofs.+stepping.Given as goal

abbrev pub decreases-meet : goal.decreases-meet
decreases-meet l = l.i * 4

abbrev pub decreases-step : goal.decreases-step
decreases-step l = l.i * 4 + 3

abbrev pub decreases-step_block : goal.decreases-step_block
decreases-step_block l = l.i * 4 + 1

abbrev pub decreases-step_run : goal.decreases-step_run
decreases-step_run l = l.i * 4 + 1

abbrev pub decreases-step_std : goal.decreases-step_std
decreases-step_std l = l.i * 4 + 2

abbrev pub invariant-step_std-loop-s : goal.invariant-step_std-loop-s
invariant-step_std-loop-s l = (l.s.c ≡ l.initial.s.c) × (SameLent l.initial.s l.s × Reached (scene_at l.by l.initial.s) (notes_at l.by l.s) (move (Plain l.initial.live) l.initial.here l.initial.at) l.s.t.now (move (Plain l.live) l.here l.at))

abbrev pub decreases-step_std-loop-s : goal.decreases-step_std-loop-s
decreases-step_std-loop-s l = l.here
