-- What it means that a refusal is given, for any order of rounds (Refusals): its own ground holds, and no ground that stands earlier
-- in the order does, at any place (`Earliest`); and that nothing is refused: no ground holds anywhere (`Nowhere`).
-- Definitions only: FirstRefusal and the crate above prove that the check of an order answers exactly this. Assumes nothing.
use Rattle.std.specs.Prelude.{ℕ, ◌<◌, ◌≡◌, not, List, [], ◌∷◌, T}
use Rattle.flow.specs.declared.Refusal.{Refusal}
use Rattle.flow.specs.Refusals.{Ground, Round, lone, sweep}

---- In a list of grounds ----

-- r is the first refusal: its ground holds, and none before it does
pub data First (r : Refusal) : List Ground → Type 0 where
  here : {g : Ground} {gs : List Ground} → r ≡ g.refusal → T g.holds → First r (g ∷ gs)
  later : {g : Ground} {gs : List Ground} → T (not g.holds) → First r gs → First r (g ∷ gs)

-- no ground holds
pub data None : List Ground → Type 0 where
  none : None []
  more : {g : Ground} {gs : List Ground} → T (not g.holds) → None gs → None (g ∷ gs)

---- In an order ----

-- r is the earliest refusal: of a round it is the first at the lowest place that has one, and no ground of an earlier round holds
pub data Earliest (r : Refusal) : List Round → Type 0 where
  is_lone : {g : Ground} {order : List Round} → r ≡ g.refusal → T g.holds → Earliest r (lone g ∷ order)
  past_lone : {g : Ground} {order : List Round} → T (not g.holds) → Earliest r order → Earliest r (lone g ∷ order)
  in_sweep : {n : ℕ} {f : ℕ → List Ground} {order : List Round} (i : ℕ) → i < n → ((j : ℕ) → j < i → None (f j)) → First r (f i)
      → Earliest r (sweep n f ∷ order)
  past_sweep : {n : ℕ} {f : ℕ → List Ground} {order : List Round} → ((j : ℕ) → j < n → None (f j)) → Earliest r order
      → Earliest r (sweep n f ∷ order)

-- no ground of the order holds at any place
pub data Nowhere : List Round → Type 0 where
  end : Nowhere []
  not_lone : {g : Ground} {order : List Round} → T (not g.holds) → Nowhere order → Nowhere (lone g ∷ order)
  not_sweep : {n : ℕ} {f : ℕ → List Ground} {order : List Round} → ((j : ℕ) → j < n → None (f j)) → Nowhere order → Nowhere (sweep n f ∷ order)
