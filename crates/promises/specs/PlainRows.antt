-- The tests of the refusal table mean the conditions that Plain puts in words: 22, 5, 7, 8 and 9 of a node (`no_such_set_means` and so
-- on), 23 of lent sets (`wrong_sets_means`), 13 with its place, in both directions (`wrong_closings_means`, `closings_when`,
-- `closings_fine_when`), of a beginning too (`extra_closing_means`, `extra_closing_when`, `extra_closing_fine_when`), and of a file's
-- names 19 and 20 (`unnamed_leaf_means`, `unnamed_event_means`). Assumes nothing.
use Prim.Native.Nat.{ℕ, zero, suc, ◌+◌, ◌*◌, ◌-◌, ◌/◌, ◌%◌, ◌<◌, ◌≤◌}
use Rattle.std.specs.Prelude.{◌≡◌, Bool, ◌&&◌, ◌||◌, List, [], ◌∷◌, ◌⊎◌, ◌↔◌, ◌≢◌, eqb, ltb, take, Result, Ok, Err, ⊤}
use Rattle.std.proofs.Math.Path.{refl, sym, ap, subst}
use Rattle.std.proofs.Common.{ap₂, ◌∙◌, inl, inr, arith, eq-or-lt_of_le, eqb→eq, ltb→lt, lt→ltb}
use Rattle.std.proofs.Math.Bool.{true, false, not, xor, cond, and-false}
use Rattle.std.proofs.Math.Dec.{T, leb, T_not, eqb_refl}
use Rattle.std.proofs.Math.ListN.{length}
use borrow.Author.Tests.{leb-true, le-leb, le-ltb}
use Rattle.calculus.proofs.Members.{or_in_left, or_in_right, or_cases, and_in, and_left, and_right}
use Rattle.flow.specs.declared.Refusal.{Refusal}
use Rattle.flow.specs.declared.Extent.TheVariants.{Whole, Beginning}
use Rattle.flow.specs.declared.Operator.TheVariants.{Parallel}
use Rattle.flow.specs.declared.Node.TheVariants.{Standard, Compensable, Unknown}
use Rattle.flow.specs.Shapes.{Kid, kid1, kid2}
use Rattle.flow.specs.Kinds.{form, is_standard, node, one_of, two_of, shape, two, most_sets, kind_in, joint_kind, node_of, set_number}
use Rattle.flow.specs.EachKind.{beyond, each_kind}
use Rattle.flow.specs.Records.{most_events, is_event_number, is_closing_number}
use Rattle.flow.specs.Refusals.{count, has_one, has_two, no_such_set, wrong_field, taken, wrong_sort, child_taken, nobodys_child, wrong_sets, closings_wanted, closed, wrong_closings, closings_place, after_closings, closings_allowed, too_many_closings, extra_closing}
use Rattle.flow.specs.Checks.{refused, closings_check}
use Rattle.flow.specs.Tests.{is_true}
use Rattle.flow.specs.FirstRefusal.{IsFine}
use Rattle.flow.specs.FineTable.{kid_taken, taken_kid}
use Rattle.flow.specs.Closings.{event_closed, event_place, closings_fine, closings_refused, wanted_some, event_many, event_extra, closing_many, closing_extra, closing_over, open_fine, open_refused}
use Rattle.format.specs.Contents.{unnamed_leaf, unnamed_event}
use Rattle.promises.specs.Plain.{kind_of, HasSet, standard_form, compensable_form, SetNotThere, WrongField, event_out, first_unused, second_unused, WrongSort, wrong_child, ChildTaken, taken_already, same_twice, NobodysChild, closings_in, NthClosing, WrongClosings, goes_on, too_few}

---- Tests ----

and_split : (a b : Bool) → T (a && b) → T a × T b
and_split a b t = (and_left a b t, and_right a b t)

not_in : (b : Bool) → (T b → ⊥) → T (not b)
not_in true n = absurd (n tt)
not_in false n = tt

apart_of : (a b : Bool) → T (xor a b) → a ≢ b
unfolding xor
apart_of true true t e = t
apart_of true false t e = subst T e tt
apart_of false true t e = subst T (sym e) tt
apart_of false false t e = t

apart_in : (a b : Bool) → a ≢ b → T (xor a b)
unfolding xor
apart_in true true n = absurd (n refl)
apart_in true false n = tt
apart_in false true n = tt
apart_in false false n = absurd (n refl)

same_in : {a b : ℕ} → a ≡ b → T (eqb a b)
same_in {a} e = subst (λ (x : ℕ). T (eqb a x)) e (eqb_refl a)

differ_of : (a b : ℕ) → T (not (eqb a b)) → a ≢ b
differ_of a b t e = T_not (eqb a b) t (same_in e)

differ_in : (a b : ℕ) → a ≢ b → T (not (eqb a b))
differ_in a b n = not_in (eqb a b) (λ t. n (eqb→eq a b t))

---- The set number of a kind ----

pub of_range : (base n : ℕ) → kind_in base n ≡ true → (base ≤ n) × (n < base + most_sets)
of_range base n e =
    let p = and_split (leb base n) (ltb n (base + most_sets)) (subst T (sym e) tt) in
    (leb-true base n (is_true (leb base n) p.0), ltb→lt n (base + most_sets) p.1)

in_range : (base k : ℕ) → k < most_sets → kind_in base (base + k) ≡ true
in_range base k l =
    is_true (kind_in base (base + k))
    (and_in (leb base (base + k)) (ltb (base + k) (base + most_sets))
    (subst T (sym (le-leb base (base + k) (omega arith))) tt) (lt→ltb (base + k) (base + most_sets) (omega arith)))

module _ (x y : ℕ) where
  -- of the kinds behind the sixteen, by their ranges
  set_behind : (n : ℕ) → 17 ≤ n → set_number (node_of n x y) ≡ cond (kind_in 256 n) (n - 256) (cond (kind_in 512 n) (n - 512) most_sets)
  unfolding joint_kind
  set_behind n l = ap set_number (beyond n x y l) ∙ by (kind_in 256 n) (kind_in 512 n)
    where
      by : (a b : Bool)
          → set_number (cond a (Standard (Parallel (n - 256)) (two x y)) (cond b (Compensable (Parallel (n - 512)) (two x y)) Unknown))
          ≡ cond a (n - 256) (cond b (n - 512) most_sets)
      by true b = refl
      by false true = refl
      by false false = refl

  -- a kind's set number, where it is the number of a set, is that of its form
  set_form : (n : ℕ) → set_number (node_of n x y) < most_sets → HasSet n (set_number (node_of n x y))
  set_form = each_kind Formed none none none none none none none none none none none none none none none none none behind
    where
      Formed : ℕ → Type 0
      Formed n = set_number (node_of n x y) < most_sets → HasSet n (set_number (node_of n x y))

      none : {A : Type 0} → most_sets < most_sets → A
      none l = absurd (omega arith)

      behind : (n : ℕ) → 17 ≤ n → Formed n
      behind n l = subst (λ (s : ℕ). s < most_sets → HasSet n s) (sym (set_behind n l)) (by (kind_in 256 n) refl (kind_in 512 n) refl)
        where
          by : (a : Bool) → kind_in 256 n ≡ a → (b : Bool) → kind_in 512 n ≡ b
              → cond a (n - 256) (cond b (n - 512) most_sets) < most_sets → HasSet n (cond a (n - 256) (cond b (n - 512) most_sets))
          by true e b d h = let w = of_range 256 n e in standard_form (omega (arith, w.0)) (omega (arith, w.0, w.1))
          by false e true d h = let w = of_range 512 n d in compensable_form (omega (arith, w.0)) (omega (arith, w.0, w.1))
          by false e false d h = absurd (omega arith)

  -- and a kind of either form has its set number
  form_set : {n k : ℕ} → HasSet n k → set_number (node_of n x y) ≡ k
  form_set {n} {k} (standard_form e l) =
      set_behind n (omega arith)
      ∙ ap (λ (a : Bool). cond a (n - 256) (cond (kind_in 512 n) (n - 512) most_sets)) (ap (kind_in 256) e ∙ in_range 256 k l)
      ∙ omega arith
  form_set {n} {k} (compensable_form e l) =
      let below : kind_in 256 n ≡ false = ap (λ (b : Bool). leb 256 n && b) (le-ltb n (256 + most_sets) (omega arith)) ∙ and-false (leb 256 n) in
      set_behind n (omega arith)
      ∙ ap₂ (λ (a b : Bool). cond a (n - 256) (cond b (n - 512) most_sets)) below (ap (kind_in 512) e ∙ in_range 512 k l)
      ∙ omega arith

---- A node ----

module _ (ns : List ℕ) (i : ℕ) where
  -- 22
  pub no_such_set_means : (many : ℕ) → T (no_such_set ns i many) ↔ SetNotThere ns i many
  unfolding no_such_set
  no_such_set_means many = (
    λ t.
        let p = and_split (ltb number most_sets) (leb many number) t in
        (number, set_form (one_of ns i) (two_of ns i) (kind_of ns i) (ltb→lt number most_sets p.0), leb-true many number (is_true (leb many number) p.1)),
    λ q. subst (λ (k : ℕ). T (ltb k most_sets && leb many k)) (sym (form_set (one_of ns i) (two_of ns i) q.1)) (of q.0 (low q.1) q.2),
  )
    where
      number : ℕ
      number = set_number (node ns i)

      low : {n k : ℕ} → HasSet n k → k < most_sets
      low (standard_form e l) = l
      low (compensable_form e l) = l

      of : (k : ℕ) → k < most_sets → many ≤ k → T (ltb k most_sets && leb many k)
      of k l h = and_in (ltb k most_sets) (leb many k) (lt→ltb k most_sets l) (subst T (sym (le-leb many k h)) tt)

  in_event : (r : ℕ) → 1 ≤ r → r ≤ most_events → T (is_event_number r)
  unfolding is_event_number
  in_event r lo hi = and_in (leb 1 r) (leb r most_events) (subst T (sym (le-leb 1 r lo)) tt) (subst T (sym (le-leb r most_events hi)) tt)

  of_event : (r : ℕ) → T (is_event_number r) → (1 ≤ r) × (r ≤ most_events)
  unfolding is_event_number
  of_event r t =
      let p = and_split (leb 1 r) (leb r most_events) t in
      (leb-true 1 r (is_true (leb 1 r) p.0), leb-true r most_events (is_true (leb r most_events) p.1))

  abbrev event : Bool
  event = (form (node ns i)).event

  abbrev no_event : Bool
  no_event = event && not (is_event_number (one_of ns i))

  abbrev leaf_field : Bool
  leaf_field = not event && (eqb (form (node ns i)).kids 0 && not (eqb (one_of ns i) 0))

  abbrev second_field : Bool
  second_field = not (has_two ns i) && not (eqb (two_of ns i) 0)

  -- 5
  pub wrong_field_means : T (wrong_field ns i) ↔ WrongField ns i
  unfolding wrong_field
  wrong_field_means = (λ t. to (or_cases no_event (leaf_field || second_field) t), of)
    where
      to_rest : T leaf_field ⊎ T second_field → WrongField ns i
      to_rest (inl t) =
          let p = and_split (not event) (eqb (form (node ns i)).kids 0 && not (eqb (one_of ns i) 0)) t in
          let q = and_split (eqb (form (node ns i)).kids 0) (not (eqb (one_of ns i) 0)) p.1 in
          first_unused (T_not event p.0) (eqb→eq (form (node ns i)).kids 0 q.0) (differ_of (one_of ns i) 0 q.1)
      to_rest (inr t) =
          let p = and_split (not (has_two ns i)) (not (eqb (two_of ns i) 0)) t in
          second_unused (differ_of (form (node ns i)).kids 2 p.0) (differ_of (two_of ns i) 0 p.1)

      to : T no_event ⊎ T (leaf_field || second_field) → WrongField ns i
      to (inl t) =
          let p = and_split event (not (is_event_number (one_of ns i))) t in
          event_out p.0 (λ lo hi. T_not (is_event_number (one_of ns i)) p.1 (in_event (one_of ns i) lo hi))
      to (inr t) = to_rest (or_cases leaf_field second_field t)

      of : WrongField ns i → T (no_event || (leaf_field || second_field))
      of (event_out e n) =
          or_in_left no_event (leaf_field || second_field)
          (and_in event (not (is_event_number (one_of ns i))) e
          (not_in (is_event_number (one_of ns i)) (λ t. let p = of_event (one_of ns i) t in n p.0 p.1)))
      of (first_unused n e d) =
          or_in_right no_event (leaf_field || second_field)
          (or_in_left leaf_field second_field
          (and_in (not event) (eqb (form (node ns i)).kids 0 && not (eqb (one_of ns i) 0)) (not_in event n)
          (and_in (eqb (form (node ns i)).kids 0) (not (eqb (one_of ns i) 0)) (same_in e) (differ_in (one_of ns i) 0 d))))
      of (second_unused n d) =
          or_in_right no_event (leaf_field || second_field)
          (or_in_right leaf_field second_field
          (and_in (not (has_two ns i)) (not (eqb (two_of ns i) 0)) (differ_in (form (node ns i)).kids 2 n) (differ_in (two_of ns i) 0 d)))

  -- a test that is made of each child
  module _ (test : ℕ → Bool) where
    abbrev of_a_child : Bool
    of_a_child = (has_one ns i && test (one_of ns i)) || (has_two ns i && test (two_of ns i))

    child_of : T of_a_child → (c : ℕ) × Kid (shape ns) i c × T (test c)
    child_of t = by (or_cases (has_one ns i && test (one_of ns i)) (has_two ns i && test (two_of ns i)) t)
      where
        by : T (has_one ns i && test (one_of ns i)) ⊎ T (has_two ns i && test (two_of ns i)) → (c : ℕ) × Kid (shape ns) i c × T (test c)
        by (inl u) = let p = and_split (has_one ns i) (test (one_of ns i)) u in (one_of ns i, kid1 p.0 refl, p.1)
        by (inr u) = let p = and_split (has_two ns i) (test (two_of ns i)) u in (two_of ns i, kid2 p.0 refl, p.1)

    child_in : (c : ℕ) → Kid (shape ns) i c → T (test c) → T of_a_child
    child_in c (kid1 h e) t =
        or_in_left (has_one ns i && test (one_of ns i)) (has_two ns i && test (two_of ns i))
        (and_in (has_one ns i) (test (one_of ns i)) h (subst (λ (x : ℕ). T (test x)) e t))
    child_in c (kid2 h e) t =
        or_in_right (has_one ns i && test (one_of ns i)) (has_two ns i && test (two_of ns i))
        (and_in (has_two ns i) (test (two_of ns i)) h (subst (λ (x : ℕ). T (test x)) e t))

  abbrev wrong : ℕ → Bool
  wrong c = xor (is_standard (node ns c)) (form (node ns i)).inner

  -- 7
  pub wrong_sort_means : T (wrong_sort ns i) ↔ WrongSort ns i
  unfolding wrong_sort
  wrong_sort_means = (to, of)
    where
      to : T (of_a_child wrong) → WrongSort ns i
      to t =
          let p = child_of wrong t in
          wrong_child p.1 (apart_of (is_standard (node ns p.0)) (form (node ns i)).inner p.2)

      of : WrongSort ns i → T (of_a_child wrong)
      of (wrong_child {c} k n) = child_in wrong c k (apart_in (is_standard (node ns c)) (form (node ns i)).inner n)

  abbrev twice : Bool
  twice = has_two ns i && eqb (one_of ns i) (two_of ns i)

  abbrev first_taken : Bool
  first_taken = has_one ns i && taken ns i (one_of ns i)

  abbrev second_taken : Bool
  second_taken = has_two ns i && taken ns i (two_of ns i)

  -- 8
  pub child_taken_means : T (child_taken ns i) ↔ ChildTaken ns i
  unfolding child_taken
  child_taken_means = (λ t. to (or_cases first_taken (second_taken || twice) t), of)
    where
      already : T (of_a_child (taken ns i)) → ChildTaken ns i
      already t =
          let p = child_of (taken ns i) t in
          let q = taken_kid ns i p.0 p.2 in
          taken_already p.1 q.1 q.2

      to_rest : T second_taken ⊎ T twice → ChildTaken ns i
      to_rest (inl t) = already (or_in_right first_taken second_taken t)
      to_rest (inr t) =
          let p = and_split (has_two ns i) (eqb (one_of ns i) (two_of ns i)) t in
          same_twice p.0 (eqb→eq (one_of ns i) (two_of ns i) p.1)

      to : T first_taken ⊎ T (second_taken || twice) → ChildTaken ns i
      to (inl t) = already (or_in_left first_taken second_taken t)
      to (inr t) = to_rest (or_cases second_taken twice t)

      join : T first_taken ⊎ T second_taken → T (first_taken || (second_taken || twice))
      join (inl t) = or_in_left first_taken (second_taken || twice) t
      join (inr t) = or_in_right first_taken (second_taken || twice) (or_in_left second_taken twice t)

      of : ChildTaken ns i → T (first_taken || (second_taken || twice))
      of (taken_already {c} {j} k h k') = join (or_cases first_taken second_taken (child_in (taken ns i) c k (kid_taken ns i j c h k')))
      of (same_twice h e) =
          or_in_right first_taken (second_taken || twice)
          (or_in_right second_taken twice (and_in (has_two ns i) (eqb (one_of ns i) (two_of ns i)) h (same_in e)))

  -- 9
  pub nobodys_child_means : T (nobodys_child ns i) ↔ NobodysChild ns i
  unfolding nobodys_child
  nobodys_child_means = (
    λ t j h k. T_not (taken ns (count ns) i) t (kid_taken ns (count ns) j i h k),
    λ n. not_in (taken ns (count ns) i) (λ t. let q = taken_kid ns (count ns) i t in n q.0 q.1 q.2),
  )

---- Lent sets ----

-- 23: their length is no multiple of 32, or above 512
pub wrong_sets_means : (sets : List ℕ) → T (wrong_sets sets) ↔ (((n : ℕ) → length sets ≢ 32 * n) ⊎ (512 < length sets))
unfolding wrong_sets
wrong_sets_means sets = (λ t. to (or_cases odd long t), of)
  where
    odd : Bool
    odd = not (eqb (length sets % 32) 0)

    long : Bool
    long = ltb 512 (length sets)

    to : T odd ⊎ T long → ((n : ℕ) → length sets ≢ 32 * n) ⊎ (512 < length sets)
    to (inl t) = inl (λ n e. differ_of (length sets % 32) 0 t (omega arith))
    to (inr t) = inr (ltb→lt 512 (length sets) t)

    of : ((n : ℕ) → length sets ≢ 32 * n) ⊎ (512 < length sets) → T (odd || long)
    of (inl n) = or_in_left odd long (differ_in (length sets % 32) 0 (λ e. n (length sets / 32) (omega arith)))
    of (inr h) = or_in_right odd long (lt→ltb 512 (length sets) h)

---- The closings ----

-- one record more
module _ (r : ℕ) (rs : List ℕ) where
  count_closing : is_closing_number r ≡ true → closings_in (r ∷ rs) ≡ suc (closings_in rs)
  unfolding closings_in
  count_closing e = rw e

  count_event : is_closing_number r ≡ false → closings_in (r ∷ rs) ≡ closings_in rs
  unfolding closings_in
  count_event e = rw e

  closing_on : (n : ℕ) → is_closing_number r ≡ true → closed (r ∷ rs) (suc n) ≡ closed rs n
  unfolding closed
  closing_on n e = rw e

  closing_after : (n : ℕ) → is_closing_number r ≡ true → after_closings (r ∷ rs) (suc n) ≡ suc (after_closings rs n)
  unfolding after_closings
  closing_after n e = rw e

module _ (r : ℕ) (rs : List ℕ) {n k : ℕ} (x : NthClosing rs n k) where
  closing_more : is_closing_number r ≡ true → NthClosing (r ∷ rs) (suc n) (suc k)
  closing_more e = record { closing = x.closing; nth = count_closing r (take (suc k) rs) e ∙ ap suc x.nth }

  event_more : is_closing_number r ≡ false → NthClosing (r ∷ rs) n (suc k)
  event_more e = record { closing = x.closing; nth = count_event r (take (suc k) rs) e ∙ x.nth }

-- what the test and the place are if the n-th closing stands at k
record AtNth (rs : List ℕ) (n k : ℕ) : Type 0 where
  some : 1 ≤ n
  place : after_closings rs n ≡ suc k
  last : suc k ≡ length rs → closed rs n ≡ true
  early : suc k < length rs → closed rs n ≡ false

closing_here : (r : ℕ) (rs : List ℕ) → is_closing_number r ≡ true → AtNth (r ∷ rs) 1 0
unfolding closed after_closings
closing_here r [] e = record {
  some = omega arith;
  place = closing_after r [] 0 e;
  last = λ h. closing_on r [] 0 e;
  early = λ h. absurd (omega arith);
}
closing_here r (q ∷ qs) e = record {
  some = omega arith;
  place = closing_after r (q ∷ qs) 0 e;
  last = λ h. absurd (omega arith);
  early = λ h. closing_on r (q ∷ qs) 0 e;
}

nth_at : (rs : List ℕ) (n k : ℕ) → NthClosing rs n k → AtNth rs n k
unfolding is_closing_number closings_in
nth_at [] n k x = absurd (subst (λ (b : Bool). T (not b)) x.closing tt)
nth_at (r ∷ rs) n zero x =
    let e : 1 ≡ n = sym (count_closing r [] x.closing) ∙ x.nth in
    subst (λ (m : ℕ). AtNth (r ∷ rs) m 0) e (closing_here r rs x.closing)
nth_at (r ∷ rs) n (suc k) x = by (is_closing_number r) refl (nth_at rs (closings_in (take (suc k) rs)) k (record { closing = x.closing; nth = refl }))
  where
    m : ℕ
    m = closings_in (take (suc k) rs)

    by : (b : Bool) → is_closing_number r ≡ b → AtNth rs m k → AtNth (r ∷ rs) n (suc k)
    by true e s =
        subst (λ (z : ℕ). AtNth (r ∷ rs) z (suc k)) (sym (count_closing r (take (suc k) rs) e) ∙ x.nth)
        (record {
          some = omega arith;
          place = closing_after r rs m e ∙ ap suc s.place;
          last = λ h. closing_on r rs m e ∙ s.last (omega arith);
          early = λ h. closing_on r rs m e ∙ s.early (omega arith);
        })
    by false e s =
        subst (λ (z : ℕ). AtNth (r ∷ rs) z (suc k)) (sym (count_event r (take (suc k) rs) e) ∙ x.nth)
        (record {
          some = s.some;
          place = event_place r rs m s.some e ∙ ap suc s.place;
          last = λ h. event_closed r rs m s.some e ∙ s.last (omega arith);
          early = λ h. event_closed r rs m s.some e ∙ s.early (omega arith);
        })

few_at : (rs : List ℕ) (n : ℕ) → closings_in rs < n → (closed rs n ≡ false) × (after_closings rs n ≡ length rs)
unfolding closed after_closings
few_at [] zero h = absurd (omega arith)
few_at [] (suc n) h = (refl, refl)
few_at (r ∷ rs) zero h = absurd (omega arith)
few_at (r ∷ rs) (suc n) h = by (is_closing_number r) refl (few_at rs)
  where
    by : (b : Bool) → is_closing_number r ≡ b → ((m : ℕ) → closings_in rs < m → (closed rs m ≡ false) × (after_closings rs m ≡ length rs))
        → (closed (r ∷ rs) (suc n) ≡ false) × (after_closings (r ∷ rs) (suc n) ≡ length (r ∷ rs))
    by true e rec =
        let c = count_closing r rs e in
        let q = rec n (omega arith) in
        (closing_on r rs n e ∙ q.0, closing_after r rs n e ∙ ap suc q.1)
    by false e rec =
        let c = count_event r rs e in
        let q = rec (suc n) (omega arith) in
        (event_closed r rs (suc n) (omega arith) e ∙ q.0, event_place r rs (suc n) (omega arith) e ∙ ap suc q.1)

-- the n-th closing stands somewhere, or they are fewer
find_nth : (rs : List ℕ) (n : ℕ) → 1 ≤ n → ((k : ℕ) × (suc k ≤ length rs) × NthClosing rs n k) ⊎ (closings_in rs < n)
unfolding closings_in
find_nth [] n h = inr h
find_nth (r ∷ rs) zero h = absurd (omega arith)
find_nth (r ∷ rs) (suc n) h = by (is_closing_number r) refl n (find_nth rs)
  where
    by : (b : Bool) → is_closing_number r ≡ b → (m : ℕ) → ((l : ℕ) → 1 ≤ l → ((k : ℕ) × (suc k ≤ length rs) × NthClosing rs l k) ⊎ (closings_in rs < l))
        → ((k : ℕ) × (suc k ≤ length (r ∷ rs)) × NthClosing (r ∷ rs) (suc m) k) ⊎ (closings_in (r ∷ rs) < suc m)
    by true e zero rec = inl (0, omega arith, record { closing = e; nth = count_closing r [] e })
    by true e (suc m) rec = on (rec (suc m) (omega arith))
      where
        on : ((k : ℕ) × (suc k ≤ length rs) × NthClosing rs (suc m) k) ⊎ (closings_in rs < suc m)
            → ((k : ℕ) × (suc k ≤ length (r ∷ rs)) × NthClosing (r ∷ rs) (suc (suc m)) k) ⊎ (closings_in (r ∷ rs) < suc (suc m))
        on (inl x) = inl (suc x.0, omega (arith, x.1), closing_more r rs x.2 e)
        on (inr l) = let c = count_closing r rs e in inr (omega arith)
    by false e m rec = on (rec (suc m) (omega arith))
      where
        on : ((k : ℕ) × (suc k ≤ length rs) × NthClosing rs (suc m) k) ⊎ (closings_in rs < suc m)
            → ((k : ℕ) × (suc k ≤ length (r ∷ rs)) × NthClosing (r ∷ rs) (suc m) k) ⊎ (closings_in (r ∷ rs) < suc m)
        on (inl x) = inl (suc x.0, omega (arith, x.1), event_more r rs x.2 e)
        on (inr l) = let c = count_event r rs e in inr (omega arith)

abbrev place_of : Result ⊤ Refusal → ℕ
place_of (Ok tt) = 0
place_of (Err r) = r.place

module _ (ns rs : List ℕ) where
  abbrev wanted : ℕ
  wanted = closings_wanted ns

  place_is : {place : ℕ} → WrongClosings rs wanted place → (closed rs wanted ≡ false) × (after_closings rs wanted ≡ place)
  place_is (goes_on {k} x h) = let s = nth_at rs wanted k x in (s.early h, s.place)
  place_is (too_few h) = few_at rs wanted h

  refused_at : {place : ℕ} → WrongClosings rs wanted place → closings_check Whole ns rs ≡ refused 13 place
  refused_at {place} w = let q = place_is w in closings_refused ns rs place q.0 (sym q.1)

  fine_at : {k : ℕ} → NthClosing rs wanted k → suc k ≡ length rs → closings_check Whole ns rs ≡ Ok tt
  fine_at {k} x h = closings_fine ns rs ((nth_at rs wanted k x).last h)

  -- the n-th closing is last, or 13 is given, and where
  by_closings : ((k : ℕ) × (suc k ≡ length rs) × NthClosing rs wanted k) ⊎ ((place : ℕ) × WrongClosings rs wanted place)
  by_closings = by (find_nth rs wanted (wanted_some ns))
    where
      on : (k : ℕ) → NthClosing rs wanted k → (suc k ≡ length rs) ⊎ (suc k < length rs)
          → ((k : ℕ) × (suc k ≡ length rs) × NthClosing rs wanted k) ⊎ ((place : ℕ) × WrongClosings rs wanted place)
      on k x (inl e) = inl (k, e, x)
      on k x (inr l) = inr (suc k, goes_on x l)

      by : ((k : ℕ) × (suc k ≤ length rs) × NthClosing rs wanted k) ⊎ (closings_in rs < wanted)
          → ((k : ℕ) × (suc k ≡ length rs) × NthClosing rs wanted k) ⊎ ((place : ℕ) × WrongClosings rs wanted place)
      by (inl x) = on x.0 x.2 (eq-or-lt_of_le x.1)
      by (inr l) = inr (length rs, too_few l)

  -- 13, as it stands in the order, with its place
  pub wrong_closings_means : (place : ℕ) → (T (wrong_closings Whole ns rs) × (place ≡ closings_place Whole ns rs)) ↔ WrongClosings rs wanted place
  unfolding wrong_closings closings_place
  wrong_closings_means place = (λ q. by q.0 q.1 by_closings, of)
    where
      by : T (not (closed rs wanted)) → place ≡ after_closings rs wanted
          → ((k : ℕ) × (suc k ≡ length rs) × NthClosing rs wanted k) ⊎ ((p : ℕ) × WrongClosings rs wanted p) → WrongClosings rs wanted place
      by t e (inl x) = absurd (T_not (closed rs wanted) t (subst T (sym ((nth_at rs wanted x.0 x.2).last x.1)) tt))
      by t e (inr x) = subst (WrongClosings rs wanted) (sym (place_is x.1).1 ∙ sym e) x.1

      of : WrongClosings rs wanted place → T (not (closed rs wanted)) × (place ≡ after_closings rs wanted)
      of w = let q = place_is w in (subst (λ (b : Bool). T (not b)) (sym q.0) tt, sym q.1)

  -- 13 is given at a place exactly when it is the first after the closings that the root needs, or they are too few and it is the
  -- number of records
  pub closings_when : (place : ℕ) → (closings_check Whole ns rs ≡ refused 13 place) ↔ WrongClosings rs wanted place
  closings_when place = (λ e. by e by_closings, refused_at)
    where
      by : closings_check Whole ns rs ≡ refused 13 place → ((k : ℕ) × (suc k ≡ length rs) × NthClosing rs wanted k) ⊎ ((p : ℕ) × WrongClosings rs wanted p)
          → WrongClosings rs wanted place
      by e (inl x) = absurd (subst IsFine (sym (fine_at x.2 x.1) ∙ e) tt)
      by e (inr x) = subst (WrongClosings rs wanted) (ap place_of (sym (refused_at x.1) ∙ e)) x.1

  -- and it is not given exactly when the last closing that the root needs is the last record
  pub closings_fine_when : (closings_check Whole ns rs ≡ Ok tt) ↔ ((k : ℕ) × (suc k ≡ length rs) × NthClosing rs wanted k)
  closings_fine_when = (λ e. by e by_closings, λ x. fine_at x.2 x.1)
    where
      by : closings_check Whole ns rs ≡ Ok tt → ((k : ℕ) × (suc k ≡ length rs) × NthClosing rs wanted k) ⊎ ((p : ℕ) × WrongClosings rs wanted p)
          → (k : ℕ) × (suc k ≡ length rs) × NthClosing rs wanted k
      by e (inl x) = x
      by e (inr x) = absurd (subst IsFine (sym e ∙ refused_at x.1) tt)

---- The closings of a beginning ----

-- where the closing behind n others stands at k, there are too many, and it is the one
nth_open : (rs : List ℕ) (n k : ℕ) → NthClosing rs (suc n) k → (too_many_closings rs n ≡ true) × (extra_closing rs n ≡ k)
unfolding is_closing_number closings_in
nth_open [] n k x = absurd (subst (λ (b : Bool). T (not b)) x.closing tt)
nth_open (r ∷ rs) n zero x =
    let c = count_closing r [] x.closing in
    let e : 0 ≡ n = omega (arith, x.nth) in
    subst (λ (m : ℕ). (too_many_closings (r ∷ rs) m ≡ true) × (extra_closing (r ∷ rs) m ≡ 0)) e (closing_over r rs x.closing)
nth_open (r ∷ rs) n (suc k) x = by (is_closing_number r) refl (nth_open rs)
  where
    by : (b : Bool) → is_closing_number r ≡ b → ((m j : ℕ) → NthClosing rs (suc m) j → (too_many_closings rs m ≡ true) × (extra_closing rs m ≡ j))
        → (too_many_closings (r ∷ rs) n ≡ true) × (extra_closing (r ∷ rs) n ≡ suc k)
    by true e rec =
        let c = count_closing r (take (suc k) rs) e in
        let s = nth_at rs (closings_in (take (suc k) rs)) k (record { closing = x.closing; nth = refl }) in
        let some : 1 ≤ n = omega (arith, x.nth, s.some) in
        let q = rec (n - 1) k (record { closing = x.closing; nth = omega (arith, x.nth) }) in
        (closing_many r rs n some e ∙ q.0, closing_extra r rs n some e ∙ ap suc q.1)
    by false e rec =
        let q = rec n k (record { closing = x.closing; nth = sym (count_event r (take (suc k) rs) e) ∙ x.nth }) in
        (event_many r rs n e ∙ q.0, event_extra r rs n e ∙ ap suc q.1)

few_open : (rs : List ℕ) (n : ℕ) → closings_in rs ≤ n → too_many_closings rs n ≡ false
unfolding too_many_closings closings_in
few_open [] n h = refl
few_open (r ∷ rs) n h = by (is_closing_number r) refl (few_open rs)
  where
    by : (b : Bool) → is_closing_number r ≡ b → ((m : ℕ) → closings_in rs ≤ m → too_many_closings rs m ≡ false) → too_many_closings (r ∷ rs) n ≡ false
    by true e rec = let c = count_closing r rs e in closing_many r rs n (omega arith) e ∙ rec (n - 1) (omega arith)
    by false e rec = let c = count_event r rs e in event_many r rs n e ∙ rec n (omega arith)

module _ (ns rs : List ℕ) where
  -- one more than is allowed
  wanted_over : suc (closings_allowed ns) ≡ closings_wanted ns
  unfolding closings_allowed
  wanted_over = omega (arith, wanted_some ns)

  at_extra : {place : ℕ} → NthClosing rs (closings_wanted ns) place → (too_many_closings rs (closings_allowed ns) ≡ true) × (extra_closing rs (closings_allowed ns) ≡ place)
  at_extra {place} x = nth_open rs (closings_allowed ns) place (subst (λ (n : ℕ). NthClosing rs n place) (sym wanted_over) x)

  refused_extra : {place : ℕ} → NthClosing rs (closings_wanted ns) place → closings_check Beginning ns rs ≡ refused 13 place
  refused_extra {place} x = let q = at_extra x in open_refused ns rs place q.0 (sym q.1)

  fine_open : closings_in rs < closings_wanted ns → closings_check Beginning ns rs ≡ Ok tt
  fine_open h = open_fine ns rs (few_open rs (closings_allowed ns) (omega (arith, wanted_over)))

  by_extra : ((k : ℕ) × (suc k ≤ length rs) × NthClosing rs (closings_wanted ns) k) ⊎ (closings_in rs < closings_wanted ns)
  by_extra = find_nth rs (closings_wanted ns) (wanted_some ns)

  -- 13 of a beginning, as it stands in the order, with its place: the last closing that the root needs, so any of a standard root and the
  -- second of a compensable one
  pub extra_closing_means : (place : ℕ) → (T (wrong_closings Beginning ns rs) × (place ≡ closings_place Beginning ns rs)) ↔ NthClosing rs (closings_wanted ns) place
  unfolding wrong_closings closings_place
  extra_closing_means place = (λ q. by q.0 q.1 by_extra, of)
    where
      by : T (too_many_closings rs (closings_allowed ns)) → place ≡ extra_closing rs (closings_allowed ns)
          → ((k : ℕ) × (suc k ≤ length rs) × NthClosing rs (closings_wanted ns) k) ⊎ (closings_in rs < closings_wanted ns) → NthClosing rs (closings_wanted ns) place
      by t e (inl x) = subst (NthClosing rs (closings_wanted ns)) (sym (at_extra x.2).1 ∙ sym e) x.2
      by t e (inr h) = absurd (subst T (few_open rs (closings_allowed ns) (omega (arith, wanted_over))) t)

      of : NthClosing rs (closings_wanted ns) place → T (too_many_closings rs (closings_allowed ns)) × (place ≡ extra_closing rs (closings_allowed ns))
      of x = let q = at_extra x in (subst T (sym q.0) tt, sym q.1)

  -- it is given at a place exactly when that closing stands there
  pub extra_closing_when : (place : ℕ) → (closings_check Beginning ns rs ≡ refused 13 place) ↔ NthClosing rs (closings_wanted ns) place
  extra_closing_when place = (λ e. by e by_extra, refused_extra)
    where
      by : closings_check Beginning ns rs ≡ refused 13 place → ((k : ℕ) × (suc k ≤ length rs) × NthClosing rs (closings_wanted ns) k) ⊎ (closings_in rs < closings_wanted ns)
          → NthClosing rs (closings_wanted ns) place
      by e (inl x) = subst (NthClosing rs (closings_wanted ns)) (ap place_of (sym (refused_extra x.2) ∙ e)) x.2
      by e (inr h) = absurd (subst IsFine (sym (fine_open h) ∙ e) tt)

  -- and it is not given exactly when there are fewer closings than the root needs
  pub extra_closing_fine_when : (closings_check Beginning ns rs ≡ Ok tt) ↔ (closings_in rs < closings_wanted ns)
  extra_closing_fine_when = (λ e. by e by_extra, fine_open)
    where
      by : closings_check Beginning ns rs ≡ Ok tt → ((k : ℕ) × (suc k ≤ length rs) × NthClosing rs (closings_wanted ns) k) ⊎ (closings_in rs < closings_wanted ns) → closings_in rs < closings_wanted ns
      by e (inl x) = absurd (subst IsFine (sym e ∙ refused_extra x.2) tt)
      by e (inr h) = h

---- The names of a file ----

-- 19: node i is an event leaf, and its event is above the number of names
pub unnamed_leaf_means : (names : ℕ) (ns : List ℕ) (i : ℕ) → T (unnamed_leaf names ns i) ↔ (T (form (node ns i)).event × (names < one_of ns i))
unfolding unnamed_leaf
unnamed_leaf_means names ns i = (
  λ t. let p = and_split (form (node ns i)).event (ltb names (one_of ns i)) t in (p.0, ltb→lt names (one_of ns i) p.1),
  λ q. and_in (form (node ns i)).event (ltb names (one_of ns i)) q.0 (lt→ltb names (one_of ns i) q.1),
)

-- 20: the record is an event, and above the number of names
pub unnamed_event_means : (names r : ℕ) → T (unnamed_event names r) ↔ ((r ≤ most_events) × (names < r))
unfolding unnamed_event
unnamed_event_means names r = (
  λ t.
      let p = and_split (leb r most_events) (ltb names r) t in
      (leb-true r most_events (is_true (leb r most_events) p.0), ltb→lt names r p.1),
  λ q. and_in (leb r most_events) (ltb names r) (subst T (sym (le-leb r most_events q.0)) tt) (lt→ltb names r q.1),
)
