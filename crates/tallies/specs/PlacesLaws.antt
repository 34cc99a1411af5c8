-- Laws of places and of what a number falls on: over two lists one after the other, mapped lists, all pairs and lists of lists; and that
-- weights may be exchanged where they agree up to the greatest number. Theorems only, over any lists. Assumes nothing.
use Rattle.std.specs.Prelude.{ℕ, suc, ◌+◌, ◌*◌, ◌-◌, ◌≤◌, ◌<◌, ◌≡◌, Bool, T, length, drop}
use native.Mathlib.Omega.{arith}
use Rattle.std.proofs.Common.{suc-add}
use Rattle.std.proofs.Math.Path.{refl}
use Rattle.std.proofs.Math.Bool.{true, false}
use mathlib.Core.List.{List, [], ◌∷◌, ◌++◌, map}
use Rattle.std.proofs.lemmas.List.{length-map}
use Rattle.calculus.specs.Successors.{only, each}
use Rattle.tallies.specs.Capped.{cap, most}
use Rattle.tallies.specs.Counts.{sum_of}
use Rattle.tallies.specs.Grids.{grid}
use Rattle.tallies.specs.Places.{At, Finds}

-- Places ----------------------------------------------------------------------------------------------------------------

module _ {A : Type 0} where
  -- a place, and what it is equal to
  pub at_is : {l : List A} {k n : ℕ} {x : A} → n ≡ k → At l k x → At l n x
  at_is e h = rw e h

  pub at_left : {l : List A} {k : ℕ} {x : A} (m : List A) → At l k x → At (l ++ m) k x
  at_left m At.here = At.here
  at_left m (At.past h) = At.past (at_left m h)

  pub at_right : (l : List A) {m : List A} {k : ℕ} {x : A} → At m k x → At (l ++ m) (length l + k) x
  at_right [] h = at_is (omega arith) h
  at_right (y ∷ l) {k = k} h = at_is (suc-add (length l) k) (At.past (at_right l h))

  pub at_after : (l : List A) {m : List A} {k : ℕ} {x : A} → length l ≤ k → At m (k - length l) x → At (l ++ m) k x
  at_after l h p = at_is (omega arith) (at_right l p)

  pub at_drop : {l : List A} {k : ℕ} {x : A} → At l k x → drop k l ≡ x ∷ drop (suc k) l
  at_drop At.here = refl
  at_drop (At.past h) = at_drop h

  -- a condition on the whole list
  pub at_only : (b : Bool) {l : List A} {k : ℕ} {x : A} → T b → At l k x → At (only b l) k x
  unfolding only
  at_only true t h = h
  at_only false t h = elim t [ ]

module _ {A B : Type 0} where
  pub at_map : (f : A → B) {l : List A} {k : ℕ} {x : A} → At l k x → At (map f l) k (f x)
  at_map f At.here = At.here
  at_map f (At.past h) = At.past (at_map f h)

-- all pairs, by the order of the first and then of the second
pub at_grid : {A B C : Type 0} (h : A → B → C) {k : List A} {l : List B} {i m : ℕ} {x : A} {y : B} → At k i x → At l m y → At (grid h k l) (i * length l + m) (h x y)
unfolding each
at_grid h {l} (At.here {x}) u = at_is (omega arith) (at_left _ (at_map (h x) u))
at_grid h {l} (At.past {y} p) u = at_is (let e = length-map l (h y) in omega arith) (at_right (map (h y) l) (at_grid h p u))

-- What a number falls on ------------------------------------------------------------------------------------------------

module _ {A : Type 0} {f : A → ℕ} where
  pub finds_is : {l : List A} {j n : ℕ} {x : A} {r : ℕ} → n ≡ j → Finds f l j x r → Finds f l n x r
  finds_is e h = rw e h

  pub finds_left : {l : List A} {j : ℕ} {x : A} {r : ℕ} (m : List A) → Finds f l j x r → Finds f (l ++ m) j x r
  finds_left m (Finds.here h) = Finds.here h
  finds_left m (Finds.past h) = Finds.past (finds_left m h)

  pub finds_right : (l : List A) {m : List A} {j : ℕ} {x : A} {r : ℕ} → Finds f m j x r → Finds f (l ++ m) (sum_of f l + j) x r
  unfolding sum_of
  finds_right [] h = finds_is (omega arith) h
  finds_right (y ∷ l) h = finds_is (omega arith) (Finds.past (finds_right l h))

  pub finds_after : (l : List A) {m : List A} {j : ℕ} {x : A} {r : ℕ} → sum_of f l ≤ j → Finds f m (j - sum_of f l) x r → Finds f (l ++ m) j x r
  finds_after l h p = finds_is (omega arith) (finds_right l p)

  pub finds_one : {x : A} {r : ℕ} → r < f x → Finds f (x ∷ []) r x r
  finds_one h = Finds.here h

  -- the rest lies within what was found
  pub finds_rest : {l : List A} {j : ℕ} {x : A} {r : ℕ} → Finds f l j x r → r < f x
  finds_rest (Finds.here h) = h
  finds_rest (Finds.past h) = finds_rest h

  pub finds_rest_le : {l : List A} {j : ℕ} {x : A} {r : ℕ} → Finds f l j x r → r ≤ j
  finds_rest_le (Finds.here h) = omega arith
  finds_rest_le (Finds.past h) = let d = finds_rest_le h in omega arith

  pub finds_only : (b : Bool) {l : List A} {j : ℕ} {x : A} {r : ℕ} → T b → Finds f l j x r → Finds f (only b l) j x r
  unfolding only
  finds_only true t h = h
  finds_only false t h = elim t [ ]

module _ {A B : Type 0} where
  pub finds_map : (f : B → ℕ) (g : A → B) {l : List A} {j : ℕ} {x : A} {r : ℕ} → Finds (λ y. f (g y)) l j x r → Finds f (map g l) j (g x) r
  finds_map f g (Finds.here h) = Finds.here h
  finds_map f g (Finds.past h) = Finds.past (finds_map f g h)

  -- first the list, then the element of it
  pub finds_each : (f : B → ℕ) (g : A → List B) {l : List A} {j : ℕ} {x : A} {r : ℕ} {y : B} {s : ℕ} → Finds (λ z. sum_of f (g z)) l j x r → Finds f (g x) r y s → Finds f (each l g) j y s
  unfolding each
  finds_each f g (Finds.here {l} h) p = finds_left (each l g) p
  finds_each f g (Finds.past {y} h) p = finds_right (g y) (finds_each f g h p)

  pub at_each : (g : A → List B) {l : List A} {j : ℕ} {x : A} {r : ℕ} {y : B} → Finds (λ z. length (g z)) l j x r → At (g x) r y → At (each l g) j y
  unfolding each
  at_each g (Finds.here {l} h) p = at_left (each l g) p
  at_each g (Finds.past {y} h) p = at_right (g y) (at_each g h p)

-- Weights that agree up to the greatest number ----------------------------------------------------------------------------

module _ {A : Type 0} (f g : A → ℕ) (e : (x : A) → cap (f x) ≡ cap (g x)) where
  pub finds_cap : {l : List A} {j : ℕ} {x : A} {r : ℕ} → j < most → Finds f l j x r → Finds g l j x r
  finds_cap b (Finds.here {x} {r} h) = Finds.here {x = x} {r = r} (omega (arith, e x))
  finds_cap b (Finds.past {y} {j} h) = finds_is (omega (arith, e y)) (Finds.past (finds_cap (omega arith) h))

  pub sum_cap : (l : List A) → cap (sum_of f l) ≡ cap (sum_of g l)
  unfolding sum_of
  sum_cap [] = refl
  sum_cap (x ∷ l) = omega (arith, e x, sum_cap l)

-- What lies below the size of a list that is there under a condition -------------------------------------------------------

module _ {A : Type 0} (size : List A → ℕ) (none : size [] ≡ 0) (b : Bool) (l : List A) {k : ℕ} where
  pub only_holds : k < cap (size (only b l)) → T b
  unfolding only
  only_holds = elim b as (λ b. k < cap (size (only b l)) → T b) [ true ↦ λ h. tt | false ↦ λ h. omega arith ]

  pub only_room : k < cap (size (only b l)) → k < cap (size l)
  unfolding only
  only_room = elim b as (λ b. k < cap (size (only b l)) → k < cap (size l)) [ true ↦ λ h. h | false ↦ λ h. omega arith ]
