-- The numbers whose asks are answered: they are those that pass a test, where each ask tells what the test says of its number
-- (`picked_those`); and how the code writes them to the front of a table, one place after the other: none (`listed_none`), one more by an
-- answer (`listed_yes`) or the same (`listed_no`), at last all (`listed_many`, `listed_all`). What may follow fits the table
-- (`following_few`). Assumes nothing.
use Rattle.std.specs.Prelude.{ℕ, zero, suc, ◌+◌, ◌<◌, ◌≤◌, Bool, true, false, cond, List, [], ◌∷◌, ◌++◌, ◌≡◌, eqb, length, get_or, take, set}
use Rattle.std.proofs.Common.{append-nil, ap, ap₂, sym, ◌∙◌, subst, add-one, arith, eq-eqb, ne_eqb, length-append, length-set, take_all}
use Rattle.std.proofs.Math.Path.{refl}
use Rattle.calculus.specs.Records.{State}
use Rattle.calculus.specs.Ahead.{may_follow}
use Rattle.flow.specs.Records.{record_of, records, all_numbers}
use Rattle.format.specs.Told.{at_front}
use Rattle.format.specs.SectionLaws.{front_set}
use Rattle.search.specs.Visits.{follows_mark}
use Rattle.matching.specs.NumberLaws.{numbers_length}
use Rattle.ahead.specs.Told.{those, following, numbers_wanted}
use Rattle.ahead.specs.Answering.{picked, ListedTo}

---- What is picked ----

pub picked_those : (test : ℕ → Bool) (rs qs : List ℕ) → length qs ≡ length rs
    → ((j : ℕ) → j < length rs → eqb (get_or qs j 0) follows_mark ≡ test (get_or rs j 0)) → picked rs qs ≡ those test rs
unfolding picked those
picked_those test [] qs l e = refl
picked_those test (r ∷ rs) [] l e = absurd (omega arith)
picked_those test (r ∷ rs) (q ∷ qs) l e =
    ap₂ (λ (b : Bool) (xs : List ℕ). cond b (r ∷ xs) xs) (e 0 (omega arith)) (picked_those test rs qs (omega arith) (λ j h. e (suc j) (omega arith)))

-- one place more
picked_more : (rs qs : List ℕ) (j : ℕ) → j < length rs → j < length qs
    → picked (take (suc j) rs) (take (suc j) qs) ≡ picked (take j rs) (take j qs) ++ cond (eqb (get_or qs j 0) follows_mark) (get_or rs j 0 ∷ []) []
unfolding picked
picked_more [] qs j h l = absurd (omega arith)
picked_more (r ∷ rs) [] j h l = absurd (omega arith)
picked_more (r ∷ rs) (q ∷ qs) zero h l = refl
picked_more (r ∷ rs) (q ∷ qs) (suc j) h l =
    ap (λ (xs : List ℕ). cond (eqb q follows_mark) (r ∷ xs) xs) (picked_more rs qs j (omega arith) (omega arith)) ∙ by (eqb q follows_mark) _ _
  where
    by : (b : Bool) (xs ys : List ℕ) → cond b (r ∷ (xs ++ ys)) (xs ++ ys) ≡ cond b (r ∷ xs) xs ++ ys
    by true xs ys = refl
    by false xs ys = refl

---- At the front of the table ----

module _ (qs list : List ℕ) where
  pub listed_none : ListedTo qs list 0 0 list
  unfolding picked
  listed_none = record { few = omega arith; within = omega arith; many = refl; size = refl; front = refl }

  module _ (all : length qs ≡ numbers_wanted) {j n : ℕ} {list' : List ℕ} (m : ListedTo qs list j n list') where
    next_is : j < numbers_wanted
        → picked (take (j + 1) all_numbers) (take (j + 1) qs)
        ≡ picked (take j all_numbers) (take j qs) ++ cond (eqb (get_or qs j 0) follows_mark) (get_or all_numbers j 0 ∷ []) []
    next_is h =
        ap (λ (k : ℕ). picked (take k all_numbers) (take k qs)) (add-one j)
        ∙ picked_more all_numbers qs j (omega (arith, numbers_length)) (omega arith)

    pub listed_yes : numbers_wanted ≤ length list → j < numbers_wanted → get_or qs j 0 ≡ follows_mark → {r : ℕ} → r ≡ get_or all_numbers j 0
        → ListedTo qs list (j + 1) (n + 1) (set list' n r)
    listed_yes room h t {r} is =
        let here = picked (take j all_numbers) (take j qs) in
        let there : picked (take (j + 1) all_numbers) (take (j + 1) qs) ≡ here ++ (r ∷ []) =
        next_is h ∙ ap (λ (b : Bool). here ++ cond b (get_or all_numbers j 0 ∷ []) []) (eq-eqb (get_or qs j 0) follows_mark t) ∙ ap (λ (x : ℕ). here ++ (x ∷ [])) (sym is) in
        record {
          few = omega (arith, m.few);
          within = omega arith;
          many = omega (arith, m.many, length-append here (r ∷ []), ap length there);
          size = length-set list' n r ∙ m.size;
          front =
              ap (λ (xs : List ℕ). set xs n r) m.front
              ∙ front_set here r list (sym m.many) (omega (arith, m.few))
              ∙ ap (λ (xs : List ℕ). at_front xs list) (sym there);
        }

    pub listed_no : j < numbers_wanted → (get_or qs j 0 ≡ follows_mark → ⊥) → ListedTo qs list (j + 1) n list'
    listed_no h f =
        let here = picked (take j all_numbers) (take j qs) in
        let same : picked (take (j + 1) all_numbers) (take (j + 1) qs) ≡ here =
        next_is h ∙ ap (λ (b : Bool). here ++ cond b (get_or all_numbers j 0 ∷ []) []) (ne_eqb (get_or qs j 0) follows_mark f) ∙ append-nil here in
        record {
          few = omega (arith, m.few);
          within = omega arith;
          many = m.many ∙ sym (ap length same);
          size = m.size;
          front = m.front ∙ ap (λ (xs : List ℕ). at_front xs list) (sym same);
        }

    module _ (h : numbers_wanted ≤ j) where
      all_picked : picked (take j all_numbers) (take j qs) ≡ picked all_numbers qs
      all_picked = ap₂ picked (take_all j all_numbers (omega (arith, numbers_length))) (take_all j qs (omega arith))

      pub listed_many : n ≡ length (picked all_numbers qs)
      listed_many = m.many ∙ ap length all_picked

      pub listed_all : list' ≡ at_front (picked all_numbers qs) list
      listed_all = m.front ∙ ap (λ (xs : List ℕ). at_front xs list) all_picked

---- How many there are ----

pub those_few : (test : ℕ → Bool) (xs : List ℕ) → length (those test xs) ≤ length xs
unfolding those
those_few test [] = omega arith
those_few test (x ∷ xs) = by (test x) (those_few test xs)
  where
    by : (b : Bool) → length (those test xs) ≤ length xs → length (cond b (x ∷ those test xs) (those test xs)) ≤ length (x ∷ xs)
    by true h = omega arith
    by false h = omega arith

-- there are no more numbers than are wanted room for
pub following_few : (flow : State) (rs : List ℕ) → length (following flow rs) ≤ numbers_wanted
unfolding following
following_few flow rs =
    let test : ℕ → Bool = λ r. may_follow (records rs) flow (record_of r) in
    subst (λ (n : ℕ). length (those test all_numbers) ≤ n) numbers_length (those_few test all_numbers)
