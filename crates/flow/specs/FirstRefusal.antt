-- "Given exactly when": a check answers a refusal exactly if its ground holds and no ground listed before it does, and nothing is
-- refused exactly if no ground holds. Said once, of any list of grounds; then what code needs to know of lists in parts and of
-- orders. What a check answers of any order of rounds is in the crate above (ExactlyWhen). Assumes nothing.
use Prim.Native.Nat.{ℕ, zero, suc, ◌+◌, ◌-◌, ◌%◌, ◌<◌, ◌≤◌}
use Rattle.std.proofs.lemmas.Result.{err_from_is_err_and}
use Rattle.std.specs.Prelude.{IsErrAnd, ◌≡◌, Bool, not, ◌↔◌, T, eqb, length, Result, Ok, Err, ⊤}
use Rattle.std.proofs.Math.Path.{refl, ap}
use Rattle.std.proofs.Common.{sym, ◌∙◌, subst, add-one, eq-or-lt_of_le, ⊎_elim, eqb-true, ltb-false}
use Rattle.std.proofs.Math.Bool.{true, false}
use mathlib.Core.List.{List, [], ◌∷◌, ◌++◌, append-nil, append_assoc}
use native.Mathlib.Omega.{arith}
use Rattle.std.proofs.lemmas.Bool.{eqb-false, not-false}
use Rattle.flow.specs.Tests.{is_true, is_false}
use Rattle.flow.specs.declared.Refusal.{Refusal}
use Rattle.flow.specs.declared.Extent.{Extent}
use Rattle.flow.specs.declared.Extent.TheVariants.{Whole, Beginning}
use Rattle.flow.specs.Legends.{set_count}
use Rattle.flow.specs.Refusals.{Ground, ground_of, Round, lone, sweep, count, no_nodes, not_whole, too_many_nodes, no_records, too_many_records, sets_order, nodes_order, table_length_order, values_order, closing_order, records_length_order}
use Rattle.flow.specs.Checks.{refused, or_else_check, answer, first, each, grounds, table_check, table_length_check, sets_check, nodes_check, records_check, records_length_check, values_check, closings_check}
use Rattle.flow.specs.Earliest.{Nowhere, end, not_lone, not_sweep}
use Rattle.flow.specs.Fine.{FineLength}
pub use Rattle.flow.specs.Earliest.{First, here, later, None, none, more}

abbrev pub IsFine : Result ⊤ Refusal → Type 0
IsFine (Ok tt) = Unit {0}
IsFine (Err r) = ⊥

abbrev refusal_or : Refusal → Result ⊤ Refusal → Refusal
refusal_or q (Ok tt) = q
refusal_or q (Err r) = r

not_held : {b : Bool} → b ≡ false → T (not b)
not_held e = subst (λ (x : Bool). T (not x)) (sym e) tt

is_held : {b : Bool} → b ≡ true → T b
is_held e = subst T (sym e) tt

-- the check of one ground more, by what the ground says
module _ (g : Ground) (gs : List Ground) where
  pub first_held : g.holds ≡ true → first (g ∷ gs) ≡ Err g.refusal
  unfolding first answer or_else_check
  first_held e = rw e

  pub first_passed : g.holds ≡ false → first (g ∷ gs) ≡ first gs
  unfolding first answer or_else_check
  first_passed e = rw e

module _ (r : Refusal) where
  answers : (gs : List Ground) → first gs ≡ Err r → First r gs
  unfolding first
  answers [] e = absurd (subst IsFine e tt)
  answers (g ∷ gs) e = by g.holds refl (answers gs)
    where
      by : (b : Bool) → g.holds ≡ b → (first gs ≡ Err r → First r gs) → First r (g ∷ gs)
      by true h next = here (ap (refusal_or r) (sym e ∙ first_held g gs h)) (is_held h)
      by false h next = later (not_held h) (next (sym (first_passed g gs h) ∙ e))

  answered : (gs : List Ground) → First r gs → first gs ≡ Err r
  answered gs (here {g} {gs = hs} e t) = first_held g hs (is_true g.holds t) ∙ ap Err (sym e)
  answered gs (later {g} {gs = hs} t f) = first_passed g hs (is_false g.holds t) ∙ answered hs f

passes : (gs : List Ground) → first gs ≡ Ok tt → None gs
passes [] e = none
passes (g ∷ gs) e = by g.holds refl (passes gs)
  where
    by : (b : Bool) → g.holds ≡ b → (first gs ≡ Ok tt → None gs) → None (g ∷ gs)
    by true h next = absurd (subst IsFine (sym e ∙ first_held g gs h) tt)
    by false h next = more (not_held h) (next (sym (first_passed g gs h) ∙ e))

passed : (gs : List Ground) → None gs → first gs ≡ Ok tt
unfolding first
passed gs none = refl
passed gs (more {g} {gs = hs} t n) = first_passed g hs (is_false g.holds t) ∙ passed hs n

---- Exactly when ----

pub refused_exactly : (gs : List Ground) (r : Refusal) → (first gs ≡ Err r) ↔ First r gs
refused_exactly gs r = (answers r gs, answered r gs)

pub fine_exactly : (gs : List Ground) → (first gs ≡ Ok tt) ↔ None gs
fine_exactly gs = (passes gs, passed gs)

---- Parts of a list of grounds ----

or_else_after : (a b c : Result ⊤ Refusal) → or_else_check (or_else_check a b) c ≡ or_else_check a (or_else_check b c)
unfolding or_else_check
or_else_after (Ok tt) b c = refl
or_else_after (Err r) b c = refl

pub first_append : (gs hs : List Ground) → first (gs ++ hs) ≡ or_else_check (first gs) (first hs)
unfolding first or_else_check
first_append [] hs = refl
first_append (g ∷ gs) hs = ap (or_else_check (answer g)) (first_append gs hs) ∙ sym (or_else_after (answer g) (first gs) (first hs))

pub none_append : (gs hs : List Ground) → None (gs ++ hs) → None gs × None hs
none_append [] hs n = (none, n)
none_append (g ∷ gs) hs (more t n) = let m = none_append gs hs n in (more t m.0, m.1)

pub none_both : {gs hs : List Ground} → None gs → None hs → None (gs ++ hs)
none_both none n = n
none_both (more t m) n = more t (none_both m n)

-- one place more
pub each_next : (f : ℕ → List Ground) (i n : ℕ) → i < n → each f i (n - i) ≡ f i ++ each f (i + 1) (n - (i + 1))
unfolding each
each_next f i n h =
    let e : n - i ≡ suc (n - (i + 1)) = omega arith in
    rw (e, add-one)

pub none_each : (f : ℕ → List Ground) (i k j : ℕ) → None (each f i k) → i ≤ j → j < i + k → None (f j)
unfolding each
none_each f i zero j n lo hi = absurd (omega arith)
none_each f i (suc k) j n lo hi =
    let m = none_append (f i) (each f (suc i) k) n in
    ⊎_elim (λ e. subst (λ (x : ℕ). None (f x)) e m.0) (λ l. none_each f (suc i) k j m.1 l (omega arith)) (eq-or-lt_of_le lo)

-- the check of places i to n: by the one at i, or by the others
module _ (f : ℕ → List Ground) (i n : ℕ) where
  each_first : i < n → first (each f i (n - i)) ≡ or_else_check (first (f i)) (first (each f (i + 1) (n - (i + 1))))
  each_first h = ap first (each_next f i n h) ∙ first_append (f i) (each f (i + 1) (n - (i + 1)))

  pub each_held : i < n → (r : Refusal) → first (f i) ≡ Err r → first (each f i (n - i)) ≡ Err r
  unfolding or_else_check
  each_held h r e = each_first h ∙ ap (λ (c : Result ⊤ Refusal). or_else_check c (first (each f (i + 1) (n - (i + 1))))) e

  pub each_passed : i < n → first (f i) ≡ Ok tt → first (each f i (n - i)) ≡ first (each f (i + 1) (n - (i + 1)))
  unfolding or_else_check
  each_passed h e = each_first h ∙ ap (λ (c : Result ⊤ Refusal). or_else_check c (first (each f (i + 1) (n - (i + 1))))) e

  pub each_over : n ≤ i → first (each f i (n - i)) ≡ Ok tt
  unfolding each first
  each_over h = let e : n - i ≡ zero = omega arith in rw e

pub each_start : (f : ℕ → List Ground) (n : ℕ) → first (each f 0 (n - 0)) ≡ first (each f 0 n)
each_start f n = let e : n - 0 ≡ n = omega arith in rw e

-- the check of all n places: by the first that is not passed
module _ (f : ℕ → List Ground) (n : ℕ) where
  passed_up_to : (i : ℕ) → i ≤ n → ((j : ℕ) → j < i → first (f j) ≡ Ok tt) → first (each f i (n - i)) ≡ first (each f 0 n)
  passed_up_to zero h p = each_start f n
  passed_up_to (suc i) h p =
      ap (λ (k : ℕ). first (each f k (n - k))) (sym (add-one i)) ∙ sym (each_passed f i n (omega arith) (p i (omega arith)))
      ∙ passed_up_to i (omega arith) (λ j l. p j (omega arith))

  pub earliest_held : (i : ℕ) → i < n → ((j : ℕ) → j < i → first (f j) ≡ Ok tt) → (r : Refusal) → first (f i) ≡ Err r → first (each f 0 n) ≡ Err r
  earliest_held i h p r e = sym (passed_up_to i (omega arith) p) ∙ each_held f i n h r e

  pub all_passed : ((j : ℕ) → j < n → first (f j) ≡ Ok tt) → first (each f 0 n) ≡ Ok tt
  all_passed p = sym (passed_up_to n (omega arith) p) ∙ each_over f n n (omega arith)

-- a check of one ground
module _ (number place : ℕ) (b : Bool) where
  pub single_held : b ≡ true → first (ground_of number place b ∷ []) ≡ refused number place
  single_held e = first_held (ground_of number place b) [] e

  pub single_passed : b ≡ false → first (ground_of number place b ∷ []) ≡ Ok tt
  unfolding first
  single_passed e = first_passed (ground_of number place b) [] e

---- The checks in parts ----

-- the grounds of an order, round by round
pub grounds_sweep : (n : ℕ) (f : ℕ → List Ground) (order : List Round) → grounds (sweep n f ∷ order) ≡ each f 0 n ++ grounds order
grounds_sweep n f [] = sym (append-nil (each f 0 n))
grounds_sweep n f (next ∷ order) = refl

pub grounds_append : (a b : List Round) → grounds (a ++ b) ≡ grounds a ++ grounds b
grounds_append [] b = refl
grounds_append (lone g ∷ a) b = ap (λ (gs : List Ground). g ∷ gs) (grounds_append a b)
grounds_append (sweep n f ∷ a) b =
    grounds_sweep n f (a ++ b)
    ∙ ap (λ (gs : List Ground). each f 0 n ++ gs) (grounds_append a b)
    ∙ sym (append_assoc (each f 0 n) (grounds a) (grounds b))
    ∙ ap (λ (gs : List Ground). gs ++ grounds b) (sym (grounds_sweep n f a))

-- the check of one order after another
pub orders_append : (a b : List Round) → first (grounds (a ++ b)) ≡ or_else_check (first (grounds a)) (first (grounds b))
orders_append a b = ap first (grounds_append a b) ∙ first_append (grounds a) (grounds b)

-- no ground of the list holds: none of the order does, anywhere
pub none_nowhere : (order : List Round) → None (grounds order) → Nowhere order
none_nowhere [] n = end
none_nowhere (lone g ∷ order) (more t n) = not_lone t (none_nowhere order n)
none_nowhere (sweep m f ∷ order) n =
    let p = none_append (each f 0 m) (grounds order) (subst None (grounds_sweep m f order) n) in
    let each_none : (j : ℕ) → j < m → None (f j) = λ j h. none_each f 0 m j p.0 (omega arith) (omega arith) in
    not_sweep each_none (none_nowhere order p.1)

pub fine_nowhere : (order : List Round) → first (grounds order) ≡ Ok tt → Nowhere order
fine_nowhere order e = none_nowhere order ((fine_exactly (grounds order)).0 e)

pub both_fine : (a b : Result ⊤ Refusal) → or_else_check a b ≡ Ok tt → (a ≡ Ok tt) × (b ≡ Ok tt)
unfolding or_else_check
both_fine (Ok tt) b e = (refl, e)
both_fine (Err r) b e = absurd (subst IsFine (sym e) tt)

pub or_else_refused : {a : Result ⊤ Refusal} {r : Refusal} (b : Result ⊤ Refusal) → a ≡ Err r → a ≡ or_else_check a b
unfolding or_else_check
or_else_refused {a} {r} b e = e ∙ sym (ap (λ (x : Result ⊤ Refusal). or_else_check x b) e)

pub or_else_fine : {a : Result ⊤ Refusal} (b : Result ⊤ Refusal) → a ≡ Ok tt → b ≡ or_else_check a b
unfolding or_else_check
or_else_fine b e = sym (ap (λ (x : Result ⊤ Refusal). or_else_check x b) e)

-- what `?` hands on is the refusal that came
pub refusal_handed : {A : Type 0} (i : Result A Refusal) {r : Refusal} → IsErrAnd i (λ q. q ≡ r) → i ≡ Err r
refusal_handed i h = let p = err_from_is_err_and i h in p.1 ∙ ap Err p.2

pub table_parts : (sets ns : List ℕ) → table_check sets ns ≡ or_else_check (table_length_check ns) (or_else_check (sets_check sets) (nodes_check (set_count sets) ns))
unfolding table_check table_length_check sets_check nodes_check
table_parts sets ns =
    orders_append (table_length_order ns) (sets_order sets ++ nodes_order (set_count sets) ns)
    ∙ ap (or_else_check (table_length_check ns)) (orders_append (sets_order sets) (nodes_order (set_count sets) ns))

pub records_parts : (extent : Extent) (ns rs : List ℕ) → records_check extent ns rs ≡ or_else_check (records_length_check extent rs) (or_else_check (values_check rs) (closings_check extent ns rs))
unfolding records_check records_length_check values_check closings_check
records_parts extent ns rs =
    orders_append (records_length_order extent rs) (values_order rs ++ closing_order extent ns rs)
    ∙ ap (or_else_check (records_length_check extent rs)) (orders_append (values_order rs) (closing_order extent ns rs))

---- Lengths ----

-- 1 to 3 do not hold
pub fine_length : (ns : List ℕ) → table_length_check ns ≡ Ok tt → FineLength ns
unfolding table_length_check no_nodes not_whole too_many_nodes
fine_length ns e = by (fine_nowhere (table_length_order ns) e)
  where
    by : Nowhere (table_length_order ns) → FineLength ns
    by (not_lone a (not_lone b (not_lone c end))) =
        let na = eqb-false (length ns) 0 (is_false (no_nodes ns) a) in
        let nb = eqb-true (length ns % 3) 0 (not-false (eqb (length ns % 3) 0) (is_false (not_whole ns) b)) in
        let nc = ltb-false 64 (count ns) (is_false (too_many_nodes ns) c) in
        record { some = omega (arith, na, nb); few = omega (arith, nb, nc); whole = omega (arith, nb) }

-- 10 and 11 do not hold
pub fine_records_length : (rs : List ℕ) → records_length_check Whole rs ≡ Ok tt → (1 ≤ length rs) × (length rs ≤ 256)
unfolding records_length_check no_records too_many_records
fine_records_length rs e = by (fine_nowhere (records_length_order Whole rs) e)
  where
    by : Nowhere (records_length_order Whole rs) → (1 ≤ length rs) × (length rs ≤ 256)
    by (not_lone a (not_lone b end)) =
        let na = eqb-false (length rs) 0 (is_false (no_records rs) a) in
        (omega (arith, na), ltb-false 256 (length rs) (is_false (too_many_records rs) b))

-- 11 does not hold
pub few_records : (extent : Extent) (rs : List ℕ) → records_length_check extent rs ≡ Ok tt → length rs ≤ 256
unfolding records_length_check too_many_records
few_records Whole rs e = (fine_records_length rs e).1
few_records Beginning rs e = by (fine_nowhere (records_length_order Beginning rs) e)
  where
    by : Nowhere (records_length_order Beginning rs) → length rs ≤ 256
    by (not_lone b end) = ltb-false 256 (length rs) (is_false (too_many_records rs) b)
