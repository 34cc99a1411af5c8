-- The element at a place of a list, and the element that a number falls on where each has a weight. Definitions only; their
-- laws are in PlacesLaws. Assumes nothing.
use Rattle.std.specs.Prelude.{ℕ, suc, ◌+◌, ◌<◌, List, ◌∷◌}

module _ {A : Type 0} where
  -- x stands at place k, from 0
  pub data At : List A → ℕ → A → Type 0 where
    here : {x : A} {l : List A} → At (x ∷ l) 0 x
    past : {x y : A} {l : List A} {k : ℕ} → At l k x → At (y ∷ l) (suc k) x

  -- of the weights laid end to end, j falls on x, r after its beginning
  pub data Finds (f : A → ℕ) : List A → ℕ → A → ℕ → Type 0 where
    here : {x : A} {l : List A} {r : ℕ} → r < f x → Finds f (x ∷ l) r x r
    past : {x y : A} {l : List A} {j r : ℕ} → Finds f l j x r → Finds f (y ∷ l) (f y + j) x r
