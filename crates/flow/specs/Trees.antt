-- What a tree of nodes is, what is under a node, and what is read off a table by going down from a node. Definitions only; Nodes has
-- what holds of them. Assumes nothing.
use Rattle.std.specs.Prelude.{ℕ, zero, suc, ◌<◌, ◌≡◌, cond, ◌≢◌, T, ltb}
use Rattle.flow.specs.Shapes.{Shape, Kid}

module _ (s : Shape) where
  -- j is i or under it
  pub data Under (i : ℕ) : ℕ → Type 0 where
    self : {j : ℕ} → j ≡ i → Under i j
    up : {p j : ℕ} → Kid s p j → Under i p → Under i j

  -- what checks 1 to 9 give
  pub record Tree : Type 0 where
    pub lower : (i c : ℕ) → Kid s i c → c < i
    pub once : (i j c : ℕ) → Kid s i c → Kid s j c → i ≡ j
    pub apart : (i : ℕ) → T (s.has1 i) → T (s.has2 i) → s.one i ≢ s.two i

-- What is read off by going down: what a node makes of what the lower nodes stand for. A node that is not lower stands for nothing.
module _ {A : Type 0} (bad : A) where
  abbrev pub below : ℕ → (ℕ → A) → ℕ → A
  below i g c = cond (ltb c i) (g c) bad

  unfoldable pub go : (ℕ → (ℕ → A) → A) → ℕ → ℕ → A
  go f zero i = bad
  go f (suc k) i = f i (below i (go f k))

  unfoldable pub descend : (ℕ → (ℕ → A) → A) → ℕ → A
  unfolding go
  descend f i = go f (suc i) i

  module _ (s : Shape) where
    -- a node looks at its children only
    abbrev pub Local : (ℕ → (ℕ → A) → A) → ℕ → Type 0
    Local f i = (g h : ℕ → A) → ((c : ℕ) → Kid s i c → g c ≡ h c) → f i g ≡ f i h
