-- "Given exactly when", for any order of rounds: its check answers a refusal exactly if that is the earliest whose ground holds
-- (`earliest_exactly`), and nothing exactly if no ground holds at any place (`nowhere_exactly`). Then the orders of a table, of a
-- record list and of the judge, a line each. Assumes nothing.
use Prim.Native.Nat.{ℕ, zero, suc, ◌+◌, ◌<◌, ◌≤◌}
use Rattle.std.specs.Prelude.{◌≡◌, List, [], ◌∷◌, ◌++◌, ◌⊎◌, ◌↔◌, Ok, Err}
use Rattle.std.proofs.Common.{sym, inl, inr, arith, eq-or-lt_of_le}
use Rattle.std.proofs.Math.Path.{subst}
use Rattle.std.proofs.Math.Logic.{⊎_elim}
use Rattle.flow.specs.declared.Refusal.{Refusal}
use Rattle.flow.specs.declared.Extent.{Extent}
use Rattle.flow.specs.Refusals.{Ground, Round, lone, sweep, table_order, records_order}
use Rattle.flow.specs.Checks.{each, first, grounds, table_check, records_check}
use Rattle.flow.specs.Earliest.{First, here, later, None, none, more, Earliest, is_lone, past_lone, in_sweep, past_sweep, Nowhere, end, not_lone, not_sweep}
use Rattle.flow.specs.FirstRefusal.{refused_exactly, fine_exactly, none_both, none_each, grounds_sweep, fine_nowhere}
use Rattle.judge.specs.Judged.{judge_order, judge_check}

---- Lists of grounds in parts ----

pub none_all : (f : ℕ → List Ground) (i k : ℕ) → ((j : ℕ) → i ≤ j → j < i + k → None (f j)) → None (each f i k)
unfolding each
none_all f i zero n = none
none_all f i (suc k) n = none_both (n i (omega arith) (omega arith)) (none_all f (suc i) k (λ j lo hi. n j (omega arith) (omega arith)))

-- the first ground that holds stands in the one part or in the other
module _ {r : Refusal} where
  pub first_left : {gs : List Ground} (hs : List Ground) → First r gs → First r (gs ++ hs)
  first_left hs (here e t) = here e t
  first_left hs (later t f) = later t (first_left hs f)

  pub first_right : {gs hs : List Ground} → None gs → First r hs → First r (gs ++ hs)
  first_right none f = f
  first_right (more t n) f = later t (first_right n f)

  pub first_split : (gs hs : List Ground) → First r (gs ++ hs) → First r gs ⊎ (None gs × First r hs)
  first_split [] hs f = inr (none, f)
  first_split (g ∷ gs) hs (here e t) = inl (here e t)
  first_split (g ∷ gs) hs (later t f) = by (first_split gs hs f)
    where
      by : First r gs ⊎ (None gs × First r hs) → First r (g ∷ gs) ⊎ (None (g ∷ gs) × First r hs)
      by (inl x) = inl (later t x)
      by (inr x) = inr (more t x.0, x.1)

-- or at the lowest of several places that has one
pub record FirstAt (f : ℕ → List Ground) (i k : ℕ) (r : Refusal) : Type 0 where
  pub at : ℕ
  pub low : i ≤ at
  pub high : at < i + k
  pub before : (l : ℕ) → i ≤ l → l < at → None (f l)
  pub found : First r (f at)

module _ {r : Refusal} (f : ℕ → List Ground) where
  pub each_first_at : (i k : ℕ) → First r (each f i k) → FirstAt f i k r
  unfolding each
  each_first_at i zero h = elim h [ ]
  each_first_at i (suc k) h = by (first_split (f i) (each f (suc i) k) h) (each_first_at (suc i) k)
    where
      by : First r (f i) ⊎ (None (f i) × First r (each f (suc i) k)) → (First r (each f (suc i) k) → FirstAt f (suc i) k r) → FirstAt f i (suc k) r
      by (inl x) rec = record { at = i; low = omega arith; high = omega arith; before = λ l lo hi. absurd (omega arith); found = x }
      by (inr x) rec =
          let q = rec x.1 in
          let none_at : (l : ℕ) → i ≤ l → l < q.at → None (f l)
          = λ l lo hi. ⊎_elim (λ e. subst (λ (z : ℕ). None (f z)) e x.0) (λ lt. q.before l lt hi) (eq-or-lt_of_le lo) in
          record { at = q.at; low = omega (arith, q.low); high = omega (arith, q.high); before = none_at; found = q.found }

  pub first_at_each : (i k j : ℕ) → i ≤ j → j < i + k → ((l : ℕ) → i ≤ l → l < j → None (f l)) → First r (f j) → First r (each f i k)
  unfolding each
  first_at_each i zero j lo hi n h = absurd (omega arith)
  first_at_each i (suc k) j lo hi n h =
      ⊎_elim (λ e. first_left (each f (suc i) k) (subst (λ (z : ℕ). First r (f z)) (sym e) h))
      (λ lt. first_right (n i (omega arith) lt) (first_at_each (suc i) k j lt (omega arith) (λ l a b. n l (omega arith) b) h))
      (eq-or-lt_of_le lo)

---- Any order ----

module _ {r : Refusal} where
  first_earliest : (order : List Round) → First r (grounds order) → Earliest r order
  first_earliest [] f = elim f [ ]
  first_earliest (lone g ∷ order) (here e t) = is_lone e t
  first_earliest (lone g ∷ order) (later t f) = past_lone t (first_earliest order f)
  first_earliest (sweep n f ∷ order) h = by (first_split (each f 0 n) (grounds order) (subst (First r) (grounds_sweep n f order) h)) (first_earliest order)
    where
      by : First r (each f 0 n) ⊎ (None (each f 0 n) × First r (grounds order)) → (First r (grounds order) → Earliest r order) → Earliest r (sweep n f ∷ order)
      by (inl x) rec =
          let q = each_first_at f 0 n x in
          let before : (j : ℕ) → j < q.at → None (f j) = λ j l. q.before j (omega arith) l in
          in_sweep {n = n} {f = f} q.at (omega (arith, q.high)) before q.found
      by (inr x) rec =
          let passed : (j : ℕ) → j < n → None (f j) = λ j l. none_each f 0 n j x.0 (omega arith) (omega arith) in
          past_sweep passed (rec x.1)

  earliest_first : (order : List Round) → Earliest r order → First r (grounds order)
  earliest_first [] x = elim x [ ]
  earliest_first (lone g ∷ order) (is_lone e t) = here e t
  earliest_first (lone g ∷ order) (past_lone t x) = later t (earliest_first order x)
  earliest_first (sweep n f ∷ order) (in_sweep i h before x) =
      let none_at : (j : ℕ) → 0 ≤ j → j < i → None (f j) = λ j lo hi. before j hi in
      subst (First r) (sym (grounds_sweep n f order)) (first_left (grounds order) (first_at_each f 0 n i (omega arith) (omega arith) none_at x))
  earliest_first (sweep n f ∷ order) (past_sweep passed x) =
      let none_at : (j : ℕ) → 0 ≤ j → j < 0 + n → None (f j) = λ j lo hi. passed j (omega arith) in
      subst (First r) (sym (grounds_sweep n f order)) (first_right (none_all f 0 n none_at) (earliest_first order x))

nowhere_none : (order : List Round) → Nowhere order → None (grounds order)
nowhere_none [] end = none
nowhere_none (lone g ∷ order) (not_lone t n) = more t (nowhere_none order n)
nowhere_none (sweep n f ∷ order) (not_sweep passed x) =
    let none_at : (j : ℕ) → 0 ≤ j → j < 0 + n → None (f j) = λ j lo hi. passed j (omega arith) in
    subst None (sym (grounds_sweep n f order)) (none_both (none_all f 0 n none_at) (nowhere_none order x))

pub earliest_exactly : (order : List Round) (r : Refusal) → (first (grounds order) ≡ Err r) ↔ Earliest r order
earliest_exactly order r =
    let e = refused_exactly (grounds order) r in
    (λ h. first_earliest order (e.0 h), λ x. e.1 (earliest_first order x))

pub nowhere_exactly : (order : List Round) → (first (grounds order) ≡ Ok tt) ↔ Nowhere order
nowhere_exactly order = (fine_nowhere order, λ x. (fine_exactly (grounds order)).1 (nowhere_none order x))

---- The orders ----

-- 1 to 9, with 22 and 23
pub table_exactly : (sets ns : List ℕ) (r : Refusal) → (table_check sets ns ≡ Err r) ↔ Earliest r (table_order sets ns)
unfolding table_check
table_exactly sets ns r = earliest_exactly (table_order sets ns) r

pub table_passes_exactly : (sets ns : List ℕ) → (table_check sets ns ≡ Ok tt) ↔ Nowhere (table_order sets ns)
unfolding table_check
table_passes_exactly sets ns = nowhere_exactly (table_order sets ns)

-- 10 to 13
pub records_exactly : (extent : Extent) (ns rs : List ℕ) (r : Refusal) → (records_check extent ns rs ≡ Err r) ↔ Earliest r (records_order extent ns rs)
unfolding records_check
records_exactly extent ns rs r = earliest_exactly (records_order extent ns rs) r

-- 1 to 14, with 22 and 23
module _ (sets ns rs : List ℕ) (room : ℕ) where
  pub given_exactly : (r : Refusal) → (judge_check sets ns rs room ≡ Err r) ↔ Earliest r (judge_order sets ns rs room)
  unfolding judge_check
  given_exactly r = earliest_exactly (judge_order sets ns rs room) r

  pub passes_exactly : (judge_check sets ns rs room ≡ Ok tt) ↔ Nowhere (judge_order sets ns rs room)
  unfolding judge_check
  passes_exactly = nowhere_exactly (judge_order sets ns rs room)
