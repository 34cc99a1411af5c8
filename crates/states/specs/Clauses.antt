-- What the judge's functions on a state promise, as records that their contracts name: what the counting pass and the steps do. What
-- they ask and leave alone is in Scenes, what a choice among compensations is in Becomes, and how a step is made in Hands.
-- Definitions only. Assumes nothing.
use Rattle.std.specs.Prelude.{ℕ, ◌<◌, ◌≡◌, List, ◌≢◌, T, length}
use Rattle.tallies.specs.Places.{At}
use Rattle.states.specs.State.{part, modes}
use Rattle.states.specs.Rows.{Notes, entries}
use Rattle.states.specs.declared.Sense.TheVariants.{Undoing}
use Rattle.states.specs.declared.Role.{Role}
use Rattle.states.specs.Roles.{get, nexts, many, Sight, look, Keeps, ok}
pub use Rattle.states.specs.Scenes.{Sound, Inside, Spot, Sets, Kept, Redrawn, Scene, scene, part_at, stored_at, noted_at, weight_of, Ask, ask}
pub use Rattle.states.specs.Becomes.{Chosen}
use Rattle.states.specs.Hands.{move, Makes}

-- what is seen of node i is kept: c' are the tables c, but for its entry
pub record Writes (r : Role) (c : Notes) (i : ℕ) (v : Sight r) (c' : Notes) : Type 0 where
  pub here : Keeps r (entries c' i) v
  pub others : (j : ℕ) → j ≢ i → entries c' j ≡ entries c j
  pub long : length c'.rows ≡ length c.rows

-- the counting pass in a role: tables c before and c' after, answer v
pub record Counted (s : Scene) (r : Role) (i : ℕ) (c c' : Notes) (v : Sight r) : Type 0 where
  pub seen : v ≡ look r s.a (get r (part_at s i))
  pub right : T (ok r (noted_at s c' i))
  pub kept : Kept s.ns i (entries c) (entries c')
  pub long : length c'.rows ≡ length c.rows

-- what is kept of node i, which runs, and of what is live in it, is right; there are rows for 64 nodes
pub record Weighed (s : Scene) (c : Notes) (i : ℕ) : Type 0 where
  pub long : length c.rows ≡ 576
  pub right : T (noted_at s c i).run

-- node i has become a compensation, in s, and the tables c are right for it: nothing was changed outside
pub record Undone (s : Scene) (i : ℕ) (c₀ c : Notes) : Type 0 where
  pub right : T ((noted_at s c i).std Undoing)
  pub kept : Kept s.ns i (entries c₀) (entries c)

-- node i has a step by the event at place k, and what it looks at in the tables c is right
pub record Ready (s : Scene) (r : Role) (c : Notes) (i k : ℕ) : Type 0 where
  pub spot : Spot s.ns s.t i
  pub long : length c.rows ≡ 576
  pub right : T (ok r (stored_at s c i))
  pub room : k < many r s.a (part_at s i)

-- it makes that step: t' are the modes after, and `makes` says how they came about
pub record Stepped (s : Scene) (r : Role) (i k : ℕ) (t' : List ℕ) : Type 0 where
  pub goes : At (nexts r (get r (part_at s i)) s.a) k (get r (part s.ns (modes t') i))
  pub kept : Kept s.ns i (modes s.t) (modes t')
  pub makes : Makes s (move r i k) t'
