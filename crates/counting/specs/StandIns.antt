-- A standard part that is live in place of another: it is what the other has become, and a step of the other is one of it.
-- Definitions only. Assumes nothing.
use Rattle.std.specs.Prelude.{ℕ, ◌≡◌}
use Rattle.flow.specs.Kinds.{shape}
use Rattle.flow.specs.Trees.{Under}
use Rattle.states.specs.declared.Sense.{Sense}
use Rattle.states.specs.Rows.{Notes}
use Rattle.states.specs.Clauses.{Scene, part_at, stored_at}

-- node j in sense v is live in place of i in sense z, or is it
pub record StandIn (s : Scene) (z : Sense) (i : ℕ) (v : Sense) (j : ℕ) : Type 0 where
  pub under : Under (shape s.ns) i j
  pub term : (part_at s i).std z ≡ (part_at s j).std v
  pub right : (c : Notes) → (stored_at s c i).std z ≡ (stored_at s c j).std v
