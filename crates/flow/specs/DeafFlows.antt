-- If no event leaf of a table takes the record of a cue, the flow that is drawn does not hear it (`deaf_flow`). So it can follow no beginning
-- (`deaf_passes`, calculus). Assumes nothing.
use Rattle.std.specs.Prelude.{ℕ, ◌<◌, false, List, ◌≡◌}
use Rattle.calculus.specs.Leaves.{AnySet}
use Rattle.calculus.specs.Deaf.{DeafLeaf, Deaf}
use Rattle.flow.specs.declared.Node.TheVariants.{Event}
use Rattle.flow.specs.Kinds.{node}
use Rattle.flow.specs.Refusals.{count}
use Rattle.flow.specs.Fine.{FineTable}
use Rattle.flow.specs.Drawn.{flow_by}
use Rattle.flow.specs.Cues.{takes_cue, cued}
use Rattle.flow.specs.DrawnLeaves.{flow_each}

pub deaf_flow : (ns : List ℕ) (x : ℕ) → FineTable ns → ((i e : ℕ) → i < count ns → node ns i ≡ Event e → takes_cue x e ≡ false) → Deaf x (flow_by cued ns)
deaf_flow ns x fine none = flow_each (DeafLeaf x) AnySet cued ns fine none (λ k. tt)
