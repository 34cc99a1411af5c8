-- Membership in the lists that the successor functions build, and truth of their tests. Assumes nothing.
use Rattle.std.specs.Prelude.{◌≡◌, ◌≢◌, ◌⊎◌, Bool, cond, not, ◌&&◌, ◌||◌}
use Rattle.std.proofs.Math.Path.{refl, subst}
use Rattle.std.proofs.Common.{sym, inl, inr}
use Rattle.std.proofs.Math.Bool.{true, false}
use Rattle.std.proofs.Math.Dec.{T}
use mathlib.Core.List.Memᴰ
use mathlib.Core.List.{List, [], ◌∷◌, ◌++◌, map, Memᴰ}
use Rattle.calculus.specs.Term.{Closing, done, withdrawn, failed, eqc}
use Rattle.calculus.specs.Successors.{beside, closings, only, some_of, each, any_at_all}

pub is_true : (b : Bool) → T b → b ≡ true
is_true true h = refl
is_true false h = absurd h

pub is_false : (b : Bool) → (T b → ⊥) → b ≡ false
is_false true h = absurd (h tt)
is_false false h = refl

pub not_so : {b : Bool} → b ≡ false → T b → ⊥
not_so e h = subst T e h

pub or_in_left : (a b : Bool) → T a → T (a || b)
or_in_left true b h = tt
or_in_left false b h = absurd h

pub or_in_right : (a b : Bool) → T b → T (a || b)
or_in_right true b h = tt
or_in_right false b h = h

pub or_cases : (a b : Bool) → T (a || b) → T a ⊎ T b
or_cases true b h = inl tt
or_cases false b h = inr h

pub and_in : (a b : Bool) → T a → T b → T (a && b)
and_in true b g h = h
and_in false b g h = absurd g

pub and_left : (a b : Bool) → T (a && b) → T a
and_left true b h = tt
and_left false b h = absurd h

pub and_right : (a b : Bool) → T (a && b) → T b
and_right true b h = h
and_right false b h = absurd h

pub same : (u v : Closing) → T (eqc u v) → u ≡ v
same done = elim [ done ↦ λ h. refl | withdrawn ↦ λ h. absurd h | failed ↦ λ h. absurd h ]
same withdrawn = elim [ done ↦ λ h. absurd h | withdrawn ↦ λ h. refl | failed ↦ λ h. absurd h ]
same failed = elim [ done ↦ λ h. absurd h | withdrawn ↦ λ h. absurd h | failed ↦ λ h. refl ]

pub same_in : (u v : Closing) → u ≡ v → T (eqc u v)
same_in u v e = subst (λ x. T (eqc u x)) e (refl_in u)
  where
    refl_in : (u : Closing) → T (eqc u u)
    refl_in done = tt
    refl_in withdrawn = tt
    refl_in failed = tt

pub other : (u v : Closing) → T (not (eqc u v)) → u ≢ v
other u v h e = no_so (eqc u v) (same_in u v e) h
  where
    no_so : (b : Bool) → T b → T (not b) → ⊥
    no_so true g k = k
    no_so false g k = g

pub other_in : (u v : Closing) → u ≢ v → T (not (eqc u v))
other_in u v h = by (eqc u v) (λ g. h (same u v g))
  where
    by : (b : Bool) → (T b → ⊥) → T (not b)
    by true k = k tt
    by false k = tt

-- the two outcomes of comparing closings
pub data Compared (w u : Closing) : Bool → Type 0 where
  alike : w ≡ u → Compared w u true
  differ : w ≢ u → Compared w u false

pub compared : (w u : Closing) → Compared w u (eqc w u)
compared w u = by (eqc w u) (same w u) (other w u)
  where
    by : (b : Bool) → (T b → w ≡ u) → (T (not b) → w ≢ u) → Compared w u b
    by true f g = alike (f tt)
    by false f g = differ (g tt)

module _ {A : Type 0} where
  pub cond_other : {w u : Closing} (x y : A) → w ≢ u → cond (eqc w u) x y ≡ y
  cond_other {w} {u} x y n = by (compared w u)
    where
      by : {b : Bool} → Compared w u b → cond b x y ≡ y
      by (alike e) = absurd (n e)
      by (differ k) = refl

  pub cond_both : (P : A → Type 0) (b : Bool) (x y : A) → P x → P y → P (cond b x y)
  cond_both P true x y f g = f
  cond_both P false x y f g = g

pub in_closings : (w : Closing) → Memᴰ w closings
in_closings done = Memᴰ.head refl
in_closings withdrawn = Memᴰ.tail (Memᴰ.head refl)
in_closings failed = Memᴰ.tail (Memᴰ.tail (Memᴰ.head refl))

module _ {A : Type 0} where
  pub in_only : {x : A} {xs : List A} (b : Bool) → T b → Memᴰ x xs → Memᴰ x (only b xs)
  unfolding only
  in_only true h m = m
  in_only false h m = absurd h

  pub of_only : {x : A} {xs : List A} (b : Bool) → Memᴰ x (only b xs) → T b × Memᴰ x xs
  unfolding only
  of_only true m = (tt, m)
  of_only false m = absurd (Memᴰ.not-nil m)

  pub in_some : {x : A} {xs : List A} (f : A → Bool) → Memᴰ x xs → T (f x) → T (some_of f xs)
  unfolding some_of
  in_some f (Memᴰ.head {x} {xs} e) h = or_in_left (f x) (some_of f xs) (subst (λ y. T (f y)) e h)
  in_some f (Memᴰ.tail {x} {xs} m) h = or_in_right (f x) (some_of f xs) (in_some f m h)

  pub of_some : (f : A → Bool) (xs : List A) → T (some_of f xs) → (x : A) × Memᴰ x xs × T (f x)
  unfolding some_of
  of_some f [] h = absurd h
  of_some f (x ∷ xs) h = step (of_some f xs) (or_cases (f x) (some_of f xs) h)
    where
      step : (T (some_of f xs) → (y : A) × Memᴰ y xs × T (f y)) → T (f x) ⊎ T (some_of f xs) → (y : A) × Memᴰ y (x ∷ xs) × T (f y)
      step below (inl g) = (x, Memᴰ.head refl, g)
      step below (inr g) = let r = below g in (r.0, Memᴰ.tail r.1, r.2)

  pub in_any : {x : A} {xs : List A} → Memᴰ x xs → T (any_at_all xs)
  unfolding any_at_all
  in_any (Memᴰ.head e) = tt
  in_any (Memᴰ.tail m) = tt

  pub of_any : (xs : List A) → T (any_at_all xs) → (x : A) × Memᴰ x xs
  unfolding any_at_all
  of_any (x ∷ xs) h = (x, Memᴰ.head refl)
  of_any [] h = absurd h

module _ {A B : Type 0} where
  pub in_each : {x : A} {xs : List A} (f : A → List B) {y : B} → Memᴰ x xs → Memᴰ y (f x) → Memᴰ y (each xs f)
  unfolding each
  in_each f {y} (Memᴰ.head {xs} e) h = Memᴰ.append_left (each xs f) (subst (λ z. Memᴰ y (f z)) e h)
  in_each f (Memᴰ.tail {x} m) h = Memᴰ.append_right (f x) (in_each f m h)

  pub of_each : (xs : List A) (f : A → List B) {y : B} → Memᴰ y (each xs f) → (x : A) × Memᴰ x xs × Memᴰ y (f x)
  unfolding each
  of_each [] f m = absurd (Memᴰ.not-nil m)
  of_each (x ∷ xs) f {y} m = step (of_each xs f) (Memᴰ.append_cases (f x) m)
    where
      step : (Memᴰ y (each xs f) → (z : A) × Memᴰ z xs × Memᴰ y (f z)) → Memᴰ y (f x) ⊎ Memᴰ y (each xs f) → (z : A) × Memᴰ z (x ∷ xs) × Memᴰ y (f z)
      step below (inl g) = (x, Memᴰ.head refl, g)
      step below (inr g) = let r = below g in (r.0, Memᴰ.tail r.1, r.2)

  pub map_by : (f : A → B) (P : B → Type 0) (xs : List A) → ((x : A) → Memᴰ x xs → P (f x)) → (y : B) → Memᴰ y (map f xs) → P y
  map_by f P xs h y m = let e = Memᴰ.of_map f xs m in subst P e.2 (h e.0 e.1)

-- what holds of each of two lists holds of both together
pub append_by : {A P : Type 0} {x : A} (xs : List A) {ys : List A} → (Memᴰ x xs → P) → (Memᴰ x ys → P) → Memᴰ x (xs ++ ys) → P
append_by xs f g m = elim (Memᴰ.append_cases xs m) [ inl h ↦ f h | inr h ↦ g h ]

-- Two sides (`beside`) ----------------------------------------------------------------------------------------------------------

module _ {A : Type 0} (f : A → A → A) (p q : A) (ps qs : List A) where
  -- what holds of each step of one side alone, where nothing is joint, and of each joint step holds of what is listed
  pub beside_by : (P : A → Type 0) (b : Bool)
      → (b ≡ false → (x : A) → Memᴰ x ps → P (f x q)) → (b ≡ false → (y : A) → Memᴰ y qs → P (f p y))
      → (b ≡ true → (x y : A) → Memᴰ x ps → Memᴰ y qs → P (f x y)) → (r : A) → Memᴰ r (beside b f p q ps qs) → P r
  unfolding beside
  beside_by P true first second both r m = let g = of_each ps (λ x. map (f x) qs) m in map_by (f g.0) P qs (λ y n. both refl g.0 y g.1 n) r g.2
  beside_by P false first second both r m = append_by (map (λ x. f x q) ps) (map_by (λ x. f x q) P ps (first refl) r) (map_by (f p) P qs (second refl) r) m

  pub in_beside_first : {b : Bool} {x : A} → b ≡ false → Memᴰ x ps → Memᴰ (f x q) (beside b f p q ps qs)
  unfolding beside
  in_beside_first {x} e m = subst (λ b. Memᴰ (f x q) (beside b f p q ps qs)) (sym e) (Memᴰ.append_left (map (f p) qs) (Memᴰ.map (λ x. f x q) m))

  pub in_beside_second : {b : Bool} {y : A} → b ≡ false → Memᴰ y qs → Memᴰ (f p y) (beside b f p q ps qs)
  unfolding beside
  in_beside_second {y} e m = subst (λ b. Memᴰ (f p y) (beside b f p q ps qs)) (sym e) (Memᴰ.append_right (map (λ x. f x q) ps) (Memᴰ.map (f p) m))

  pub in_beside_both : {b : Bool} {x y : A} → b ≡ true → Memᴰ x ps → Memᴰ y qs → Memᴰ (f x y) (beside b f p q ps qs)
  unfolding beside
  in_beside_both {x} {y} e m n = subst (λ b. Memᴰ (f x y) (beside b f p q ps qs)) (sym e) (in_each (λ x. map (f x) qs) m (Memᴰ.map (f x) n))
