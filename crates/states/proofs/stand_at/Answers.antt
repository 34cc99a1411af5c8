-- `states::stand_at` meets its contract: by the mode, the sense and the node. Assumes nothing.
use mathlib.Core.Path.{◌∙◌, sym}
use Rattle.states.specs.Standings.{stand, stand_drawn, stand_undoing}
use Rattle.states.proofs.stand_at.Goals as goal

pub returns-then-mode-eq-AS_DRAWN : goal.returns-then-mode-eq-AS_DRAWN
unfolding stand
returns-then-mode-eq-AS_DRAWN c = c.as_drawn.ensures ∙ (λ z. stand_drawn (c.node_at.ensures z) ((sym c.if-mode-eq-AS_DRAWN.true ∙ c.mode_of-mode.ensures) z)) ∙ (rw c.in-Drawn.is)

pub returns-else-mode-eq-AS_DRAWN : goal.returns-else-mode-eq-AS_DRAWN
unfolding stand
returns-else-mode-eq-AS_DRAWN c = c.moved.ensures ∙ (λ z. stand_drawn (c.node_at-else-mode-eq-AS_DRAWN.ensures z) (c.mode_of-mode.ensures z)) ∙ (rw c.in-Drawn.is)

pub returns-in-Undoing : goal.returns-in-Undoing
unfolding stand
returns-in-Undoing c = c.stand_undoing.ensures ∙ (λ z. stand_undoing (c.node_at-in-Undoing.ensures z) (c.mode_of-mode.ensures z)) ∙ (rw c.in-Undoing.is)
