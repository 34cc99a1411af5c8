-- Which nodes have children, and which these are. Definitions only: Nodes has what holds of trees. Assumes nothing.
use Rattle.std.specs.Prelude.{ℕ, ◌≡◌, Bool, T}

-- which nodes have a first and a second child, and which these are
pub record Shape : Type 0 where
  pub has1 : ℕ → Bool
  pub has2 : ℕ → Bool
  pub one : ℕ → ℕ
  pub two : ℕ → ℕ

-- c is a child of node i
module _ (s : Shape) where
  pub data Kid : ℕ → ℕ → Type 0 where
    kid1 : {i c : ℕ} → T (s.has1 i) → c ≡ s.one i → Kid i c
    kid2 : {i c : ℕ} → T (s.has2 i) → c ≡ s.two i → Kid i c
