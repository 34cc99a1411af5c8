-- What request Three rests on, whatever entry point lists: the numbers that are computed are a list of all that can follow (`following_all`),
-- and the only one (`listing_once`, `lists_once`), of any flow whose runs follow the same records (`same_runs_listing`); they fit a table of
-- 259 (`following_few`). A call, by its contract, is refused exactly if
-- its check refuses (`call_refusal`, `call_not_refused`), and else comes to what request Three says (`call_lists`); what is kept, cleared and
-- left alone (`call_keeps`, `call_clears`, `call_length`), and that there is one outcome (`call_once`). Assumes nothing.
use Rattle.std.specs.Prelude.{ℕ, zero, suc, ◌+◌, ◌≤◌, ◌<◌, Bool, cond, ◌⊎◌, ◌↔◌, ◌≡◌, leb, length, drop, Result, Ok, Err, ⊤}
use Rattle.std.proofs.Math.Bool.{true, false}
use mathlib.Core.List.Memᴰ
use mathlib.Core.List.{List, [], ◌∷◌, ◌++◌, Memᴰ}
use Rattle.std.proofs.Common.{inl, inr, ⊎_elim, sym, ◌∙◌, subst, subst₂, arith, eq-or-lt_of_le, length-append, length-drop, leb-true, leb-false}
use Rattle.std.proofs.Math.Logic.Iff
use Rattle.std.proofs.Math.Path.{refl, ap}
use Rattle.std.proofs.Math.Decide.{dec_le}
use Rattle.std.proofs.Math.Dec.{T}
use Rattle.std.proofs.Math.Seq.{append_snoc}
use Rattle.calculus.specs.Records.{Record, State, Follows, Complete, InTraces}
use Rattle.calculus.proofs.Members.{cond_both}
use Rattle.calculus.specs.Ahead.{may_follow, entered}
use Rattle.calculus.proofs.AheadLaws.{may_follow_follows}
use Rattle.calculus.proofs.AheadRuns.{passes_complete, passes_traces, complete_passes}
use Rattle.flow.specs.declared.Refusal.{Refusal}
use Rattle.flow.specs.Records.{done_number, withdrawn_number, failed_number, most_events, record_of, records, from, all_numbers}
use Rattle.format.specs.Told.{at_front}
use Rattle.judge.specs.Judged.{unless_refused, room_wanted, cleared}
use Rattle.judge.specs.JudgedLaws.{refused_bytes, fine_bytes}
use Rattle.ahead.specs.declared.answer.Next.{Next}
use Rattle.ahead.specs.declared.answer.Next.TheVariants.{Listed, Undecided}
use Rattle.ahead.specs.Told.{NextWord, NextTold, found, refusal, told, numbers_wanted, those, following}
use Rattle.ahead.proofs.PickedLaws.{following_few}
use Rattle.ahead.specs.Outcome.{allowed, next_by, list_by, NextBy}
use Rattle.promises.specs.FollowingStated.{EventOrClosing, is_event, is_done, is_withdrawn, is_failed, Rising, none, below, Listing, Lists}

---- Rising lists ----

pub rising_append : {xs ys : List ℕ} → Rising xs → Rising ys → ((p q : ℕ) → Memᴰ p xs → Memᴰ q ys → p < q) → Rising (xs ++ ys)
rising_append none g h = g
rising_append {ys} (below {r} {rs} l f) g h = below (λ q m. ⊎_elim (l q) (h r q (Memᴰ.head refl)) (Memᴰ.append_cases rs m)) (rising_append f g (λ p q m. h p q (Memᴰ.tail m)))

rising_front : {r : ℕ} {rs : List ℕ} → Rising (r ∷ rs) → (q : ℕ) → Memᴰ q rs → r < q
rising_front (below l f) = l

rising_rest : {r : ℕ} {rs : List ℕ} → Rising (r ∷ rs) → Rising rs
rising_rest (below l f) = f

-- two rising lists that hold the same are the same
pub rising_once : (xs ys : List ℕ) → Rising xs → Rising ys → ((r : ℕ) → Memᴰ r xs ↔ Memᴰ r ys) → xs ≡ ys
rising_once [] [] f g same = refl
rising_once [] (y ∷ ys) f g same = absurd (Memᴰ.not-nil ((same y).1 (Memᴰ.head refl)))
rising_once (x ∷ xs) [] f g same = absurd (Memᴰ.not-nil ((same x).0 (Memᴰ.head refl)))
rising_once (x ∷ xs) (y ∷ ys) f g same = λ i. first i ∷ rising_once xs ys (rising_rest f) (rising_rest g) (λ r. (there r, back r)) i
  where
    first : x ≡ y
    first = by (Memᴰ.cases_cons ((same x).0 (Memᴰ.head refl))) (Memᴰ.cases_cons ((same y).1 (Memᴰ.head refl)))
      where
        by : (x ≡ y) ⊎ Memᴰ x ys → (y ≡ x) ⊎ Memᴰ y xs → x ≡ y
        by (inl e) o = e
        by (inr m) (inl e) = sym e
        by (inr m) (inr n) = let h = rising_front f y n in let k = rising_front g x m in absurd (omega arith)

    there : (r : ℕ) → Memᴰ r xs → Memᴰ r ys
    there r m = ⊎_elim (λ e. let h = rising_front f r m in absurd (omega (arith, first))) (λ n. n) (Memᴰ.cases_cons ((same r).0 (Memᴰ.tail m)))

    back : (r : ℕ) → Memᴰ r ys → Memᴰ r xs
    back r m = ⊎_elim (λ e. let h = rising_front g r m in absurd (omega (arith, first))) (λ n. n) (Memᴰ.cases_cons ((same r).1 (Memᴰ.tail m)))

---- All numbers ----

of_from : (i n : ℕ) {r : ℕ} → Memᴰ r (from i n) → (i ≤ r) × (r < i + n)
unfolding from
of_from i zero m = absurd (Memᴰ.not-nil m)
of_from i (suc n) {r} m = ⊎_elim (λ e. (omega arith, omega arith)) (λ k. let b = of_from (suc i) n k in (omega arith, omega arith)) (Memᴰ.cases_cons m)

in_from : (i n r : ℕ) → i ≤ r → r < i + n → Memᴰ r (from i n)
unfolding from
in_from i zero r l h = absurd (omega arith)
in_from i (suc n) r l h = ⊎_elim (λ e. Memᴰ.head (sym e)) (λ k. Memᴰ.tail (in_from (suc i) n r k (omega arith))) (eq-or-lt_of_le l)

from_rises : (i n : ℕ) → Rising (from i n)
unfolding from
from_rises i zero = none
from_rises i (suc n) = below (λ q m. (of_from (suc i) n m).0) (from_rises (suc i) n)

abbrev closings : List ℕ
closings = done_number ∷ withdrawn_number ∷ failed_number ∷ []

of_closings : {r : ℕ} → Memᴰ r closings → EventOrClosing r
of_closings (Memᴰ.head e) = is_done e
of_closings (Memᴰ.tail (Memᴰ.head e)) = is_withdrawn e
of_closings (Memᴰ.tail (Memᴰ.tail (Memᴰ.head e))) = is_failed e
of_closings (Memᴰ.tail (Memᴰ.tail (Memᴰ.tail m))) = elim m [ ]

-- the events and the closings
pub all_exactly : (r : ℕ) → Memᴰ r all_numbers ↔ EventOrClosing r
unfolding all_numbers
all_exactly r = (λ m. ⊎_elim (λ k. let b = of_from 1 most_events k in is_event b.0 (omega arith)) of_closings (Memᴰ.append_cases (from 1 most_events) m), into)
  where
    into : EventOrClosing r → Memᴰ r (from 1 most_events ++ closings)
    into (is_event l h) = Memᴰ.append_left closings (in_from 1 most_events r l (omega arith))
    into (is_done e) = Memᴰ.append_right (from 1 most_events) (Memᴰ.head e)
    into (is_withdrawn e) = Memᴰ.append_right (from 1 most_events) (Memᴰ.tail (Memᴰ.head e))
    into (is_failed e) = Memᴰ.append_right (from 1 most_events) (Memᴰ.tail (Memᴰ.tail (Memᴰ.head e)))

-- no closing has an event's number
pub all_rises : Rising all_numbers
unfolding all_numbers
all_rises = rising_append (from_rises 1 most_events) closings_rise (λ p q m k. let b = of_from 1 most_events m in let c = high q k in omega arith)
  where
    after_done : (q : ℕ) → Memᴰ q (withdrawn_number ∷ failed_number ∷ []) → done_number < q
    after_done q m = ⊎_elim (λ e. omega arith) (λ k. let e = Memᴰ.eq_of_singleton k in omega arith) (Memᴰ.cases_cons m)

    after_withdrawn : (q : ℕ) → Memᴰ q (failed_number ∷ []) → withdrawn_number < q
    after_withdrawn q m = let e = Memᴰ.eq_of_singleton m in omega arith

    closings_rise : Rising closings
    closings_rise = below after_done (below after_withdrawn (below (λ q m. absurd (Memᴰ.not-nil m)) none))

    high : (q : ℕ) → Memᴰ q closings → most_events < q
    high q m = ⊎_elim (λ e. omega arith) (λ k. ⊎_elim (λ e. omega arith) (λ n. let e = Memᴰ.eq_of_singleton n in omega arith) (Memᴰ.cases_cons k)) (Memᴰ.cases_cons m)

length_from : (i n : ℕ) → length (from i n) ≡ n
unfolding from
length_from i zero = refl
length_from i (suc n) = ap suc (length_from (suc i) n)

all_length : length all_numbers ≡ 259
unfolding all_numbers
all_length = omega (arith, length-append (from 1 most_events) closings, length_from 1 most_events)

---- Those that pass a test ----

module _ (test : ℕ → Bool) where
  pub in_those : {r : ℕ} {xs : List ℕ} → Memᴰ r xs → T (test r) → Memᴰ r (those test xs)
  unfolding those
  in_those {r} (Memᴰ.head {x} {xs} e) t = by (test x) (subst (λ (n : ℕ). T (test n)) e t)
    where
      by : (b : Bool) → T b → Memᴰ r (cond b (x ∷ those test xs) (those test xs))
      by true h = Memᴰ.head e
      by false h = absurd h
  in_those {r} (Memᴰ.tail {x} {xs} m) t = by (test x) (in_those m t)
    where
      by : (b : Bool) → Memᴰ r (those test xs) → Memᴰ r (cond b (x ∷ those test xs) (those test xs))
      by true k = Memᴰ.tail k
      by false k = k

  pub of_those : {r : ℕ} (xs : List ℕ) → Memᴰ r (those test xs) → Memᴰ r xs × T (test r)
  unfolding those
  of_those [] m = absurd (Memᴰ.not-nil m)
  of_those {r} (x ∷ xs) m = by (test x) refl (of_those xs) m
    where
      on : Memᴰ r xs × T (test r) → Memᴰ r (x ∷ xs) × T (test r)
      on f = (Memᴰ.tail f.0, f.1)

      by : (b : Bool) → test x ≡ b → (Memᴰ r (those test xs) → Memᴰ r xs × T (test r))
          → Memᴰ r (cond b (x ∷ those test xs) (those test xs)) → Memᴰ r (x ∷ xs) × T (test r)
      by true e rec k = ⊎_elim (λ d. (Memᴰ.head d, subst T (sym (ap test d ∙ e)) tt)) (λ n. on (rec n)) (Memᴰ.cases_cons k)
      by false e rec k = on (rec k)

  pub those_rise : {xs : List ℕ} → Rising xs → Rising (those test xs)
  unfolding those
  those_rise none = none
  those_rise (below {r} {rs} l f) = by (test r) (those_rise f)
    where
      by : (b : Bool) → Rising (those test rs) → Rising (cond b (r ∷ those test rs) (those test rs))
      by true g = below (λ q m. l q (of_those rs m).0) g
      by false g = g

---- The list of all that can follow ----

same_second : {A B C : Type 0} → B ↔ C → (A × B) ↔ (A × C)
same_second e = (λ p. (p.0, e.0 p.1), λ p. (p.0, e.1 p.1))

-- one record more, and any after it
more_after : (beginning : List Record) (r : Record) (P : List Record → Type 0)
    → ((rest : List Record) × P ((beginning ++ (r ∷ [])) ++ rest)) ↔ ((rest : List Record) × P (beginning ++ (r ∷ rest)))
more_after beginning r P = (
  λ c. (c.0, subst P (append_snoc beginning r c.0) c.1),
  λ c. (c.0, subst P (sym (append_snoc beginning r c.0)) c.1),
)

module _ (flow : State) (rs : List ℕ) where
  abbrev test : ℕ → Bool
  test r = may_follow (records rs) flow (record_of r)

  pub following_exactly : (r : ℕ) → Memᴰ r (following flow rs) ↔ (EventOrClosing r × T (may_follow (records rs) flow (record_of r)))
  unfolding following
  following_exactly r = (
    λ m. let o = of_those test all_numbers m in ((all_exactly r).0 o.0, o.1),
    λ p. in_those test ((all_exactly r).1 p.0) p.1,
  )

  abbrev on : ℕ → List Record
  on r = records rs ++ (record_of r ∷ [])

  pub following_all : Listing flow (records rs) (following flow rs)
  unfolding following
  following_all = record {
    rises = those_rise test all_rises;
    exactly = λ r. Iff.trans (following_exactly r) (same_second (may_follow_follows (records rs) flow (record_of r) [] refl));
    runs_listed = λ r value rest c. (following_exactly r).1 (value, complete_passes (on r) rest flow (subst (Complete flow) (sym (append_snoc (records rs) (record_of r) rest)) c));
    exactly_runs = λ free r. Iff.trans (following_exactly r) (same_second (Iff.trans (passes_complete (on r) flow free) (more_after (records rs) (record_of r) (Complete flow))));
    exactly_traces = λ free r. Iff.trans (following_exactly r) (same_second (Iff.trans (passes_traces (on r) flow free) (more_after (records rs) (record_of r) (InTraces flow))));
  }

-- a number is in such a list exactly if the test of the search passes
pub listing_tests : {flow : State} {beginning : List Record} {listed : List ℕ} → Listing flow beginning listed
    → (r : ℕ) → Memᴰ r listed ↔ (EventOrClosing r × T (may_follow beginning flow (record_of r)))
listing_tests {flow} {beginning} f r = Iff.trans (f.exactly r) (same_second (Iff.symm (may_follow_follows beginning flow (record_of r) [] refl)))

-- there is one such list
pub listing_once : {flow : State} {beginning : List Record} {listed other : List ℕ} → Listing flow beginning listed → Listing flow beginning other → listed ≡ other
listing_once {listed} {other} f g = rising_once listed other f.rises g.rises (λ r. Iff.trans (f.exactly r) (Iff.symm (g.exactly r)))

-- flows whose runs follow the same records have the same one
module _ (flow flow' : State) (same : (batch : List Record) (n : ℕ) → Follows flow batch n ↔ Follows flow' batch n) where
  pub same_runs_listing : {beginning : List Record} {listed other : List ℕ} → Listing flow beginning listed → Listing flow' beginning other → listed ≡ other
  same_runs_listing {beginning} {listed} {other} f g =
      rising_once listed other f.rises g.rises
      (λ r. Iff.trans (f.exactly r) (Iff.trans (same_second (same (beginning ++ (record_of r ∷ [])) (suc (length beginning)))) (Iff.symm (g.exactly r))))

---- Words are different ----

abbrev IsUndecided : NextWord → Type 0
IsUndecided NextWord.listed = ⊥
IsUndecided NextWord.undecided = Unit {0}
IsUndecided NextWord.refused = ⊥

abbrev IsRefused : NextWord → Type 0
IsRefused NextWord.listed = ⊥
IsRefused NextWord.undecided = ⊥
IsRefused NextWord.refused = Unit {0}

not_undecided_word : {w : NextWord} → (IsUndecided w → ⊥) → w ≡ NextWord.undecided → ⊥
not_undecided_word n e = n (subst IsUndecided (sym e) tt)

not_refused_word : {w : NextWord} → (IsRefused w → ⊥) → w ≡ NextWord.refused → ⊥
not_refused_word n e = n (subst IsRefused (sym e) tt)

---- What is told and written ----

pub lists_not_refused : {flow : State} {beginning : List Record} {allowance : ℕ} {t : NextTold} {list list' : List ℕ}
    → Lists flow beginning allowance t list list' → t.word ≡ NextWord.refused → ⊥
lists_not_refused x w =
    let l = x.else_listed (λ u. not_undecided_word (λ z. z) (sym w ∙ u)) in
    not_refused_word (λ z. z) (sym (ap (λ (t : NextTold). t.word) l.1.tells) ∙ w)

-- it leaves one answer and one table
pub lists_once : {flow : State} {beginning : List Record} {allowance : ℕ} {t u : NextTold} {list list' list'' : List ℕ}
    → Lists flow beginning allowance t list list' → Lists flow beginning allowance u list list'' → (t ≡ u) × (list' ≡ list'')
lists_once {flow} {beginning} {allowance} {t} {u} {list} {list'} {list''} x y = elim (dec_le (entered beginning flow) allowance) [ no n ↦ neither (omega (arith, n)) | yes h ↦ both h ]
  where
    neither : allowance < entered beginning flow → (t ≡ u) × (list' ≡ list'')
    neither h =
        let v = x.undecided_exactly.1 h in
        let w = y.undecided_exactly.1 h in
        (x.undecided_is v ∙ sym (y.undecided_is w), x.undecided_keeps v ∙ sym (y.undecided_keeps w))

    both : entered beginning flow ≤ allowance → (t ≡ u) × (list' ≡ list'')
    both h =
        let v = x.else_listed (λ z. let l : allowance < entered beginning flow = x.undecided_exactly.0 z in omega arith) in
        let w = y.else_listed (λ z. let l : allowance < entered beginning flow = y.undecided_exactly.0 z in omega arith) in
        let e = listing_once v.1.all w.1.all in
        let d = v.1.tells ∙ ap (λ (xs : List ℕ). found NextWord.listed (length xs) (entered beginning flow)) e ∙ sym w.1.tells in
        (d, v.1.written ∙ ap (λ (xs : List ℕ). at_front xs list) e ∙ sym w.1.written)

-- before any record
entered_start : (flow : State) → entered [] flow ≡ 1
unfolding entered
entered_start flow = refl

pub start_listed : {flow : State} {rs : List ℕ} {allowance : ℕ} {t : NextTold} {list list' : List ℕ}
    → Lists flow (records rs) allowance t list list' → rs ≡ [] → 1 ≤ allowance → (t.word ≡ NextWord.listed) × (t.count ≡ 1)
start_listed {flow} {rs} {allowance} x empty enough =
    let one : entered (records rs) flow ≡ 1 = ap (λ (xs : List ℕ). entered (records xs) flow) empty ∙ entered_start flow in
    let w = x.else_listed (λ u. let l : allowance < entered (records rs) flow = x.undecided_exactly.0 u in absurd (omega arith)) in
    (ap (λ (t : NextTold). t.word) w.1.tells, ap (λ (t : NextTold). t.count) w.1.tells ∙ one)

-- by whether the allowance is enough
abbrev answer_if : Bool → State → List ℕ → ℕ → Next
answer_if b flow rs allowance =
    cond b (Listed (record { length = length (following flow rs); count = entered (records rs) flow })) (Undecided (record { length = 0; count = allowance }))

lists_if : (flow : State) (rs : List ℕ) (allowance : ℕ) (list : List ℕ) (b : Bool) → leb (entered (records rs) flow) allowance ≡ b
    → Lists flow (records rs) allowance (told (answer_if b flow rs allowance)) list (cond b (at_front (following flow rs) list) list)
unfolding told
lists_if flow rs allowance list true h = record {
  undecided_exactly = (λ w. absurd (not_undecided_word (λ x. x) w), λ l. let k = leb-true (entered (records rs) flow) allowance h in absurd (omega arith));
  undecided_is = λ w. absurd (not_undecided_word (λ x. x) w);
  undecided_keeps = λ w. absurd (not_undecided_word (λ x. x) w);
  else_listed = λ n. (following flow rs, record { all = following_all flow rs; tells = refl; written = refl });
}
lists_if flow rs allowance list false h = record {
  undecided_exactly = (λ w. leb-false (entered (records rs) flow) allowance h, λ l. refl);
  undecided_is = λ w. refl;
  undecided_keeps = λ w. refl;
  else_listed = λ n. absurd (n refl);
}

-- by what is refused and the flow, whatever entry point it is
module _ (c : Result ⊤ Refusal) (flow : State) (rs : List ℕ) (allowance : ℕ) where
  abbrev tells : NextTold
  tells = told (next_by c flow rs allowance)

  pub next_told_refused : (r : Refusal) → c ≡ Err r → tells ≡ refusal r.number r.place
  unfolding told next_by unless_refused
  next_told_refused r e = ap (λ (x : Result ⊤ Refusal). told (next_by x flow rs allowance)) e

  pub list_kept : (r : Refusal) (list : List ℕ) → c ≡ Err r → list_by c flow rs allowance list ≡ list
  unfolding list_by unless_refused
  list_kept r list e = ap (λ (x : Result ⊤ Refusal). list_by x flow rs allowance list) e

  next_is : c ≡ Ok tt → next_by c flow rs allowance ≡ answer_if (leb (entered (records rs) flow) allowance) flow rs allowance
  unfolding next_by unless_refused allowed
  next_is e = ap (λ (x : Result ⊤ Refusal). next_by x flow rs allowance) e

  list_is : (list : List ℕ) → c ≡ Ok tt → list_by c flow rs allowance list ≡ cond (leb (entered (records rs) flow) allowance) (at_front (following flow rs) list) list
  unfolding list_by unless_refused allowed
  list_is list e = ap (λ (x : Result ⊤ Refusal). list_by x flow rs allowance list) e

  -- what is not refused is what request Three says
  pub fine_lists : (list : List ℕ) → c ≡ Ok tt → Lists flow (records rs) allowance tells list (list_by c flow rs allowance list)
  fine_lists list e =
      subst₂ (λ (t : NextTold) (l : List ℕ). Lists flow (records rs) allowance t list l) (sym (ap told (next_is e))) (sym (list_is list e))
      (lists_if flow rs allowance list (leb (entered (records rs) flow) allowance) refl)

  -- what is not refused
  pub next_not_refused : (tells.word ≡ NextWord.refused → ⊥) ↔ (c ≡ Ok tt)
  next_not_refused = (λ n. by n c refl, λ e w. lists_not_refused (fine_lists [] e) w)
    where
      by : (tells.word ≡ NextWord.refused → ⊥) → (x : Result ⊤ Refusal) → c ≡ x → c ≡ Ok tt
      by n (Ok tt) e = e
      by n (Err r) e = absurd (n (ap (λ (t : NextTold). t.word) (next_told_refused r e)))

  pub next_refused_so : tells.word ≡ NextWord.refused → (r : Refusal) × (c ≡ Err r)
  next_refused_so w = by c refl
    where
      by : (x : Result ⊤ Refusal) → c ≡ x → (r : Refusal) × (c ≡ Err r)
      by (Ok tt) e = absurd (next_not_refused.1 e w)
      by (Err r) e = (r, e)

  pub next_refusal_told : (number place : ℕ) → (tells ≡ refusal number place) ↔ (c ≡ Err (record { number = number; place = place }))
  next_refusal_told number place = (there, λ e. next_told_refused (record { number = number; place = place }) e)
    where
      there : tells ≡ refusal number place → c ≡ Err (record { number = number; place = place })
      there e =
          let q = next_refused_so (ap (λ (t : NextTold). t.word) e) in
          q.1 ∙ ap (λ (t : NextTold). Err (record { number = t.number; place = t.place })) (sym (next_told_refused q.0 q.1) ∙ e)

---- A call, by its contract ----

module _ {c : Result ⊤ Refusal} {flow : State} {ns rs : List ℕ} {allowance : ℕ} {list work : List ℕ} {r : Next} {list' after : List ℕ}
    (call : NextBy c flow ns rs allowance list work r list' after) where
  abbrev answer_is : told r ≡ told (next_by c flow rs allowance)
  answer_is = ap told call.answers

  pub call_refusal : (number place : ℕ) → (told r ≡ refusal number place) ↔ (c ≡ Err (record { number = number; place = place }))
  call_refusal number place =
      subst (λ (t : NextTold). (t ≡ refusal number place) ↔ (c ≡ Err (record { number = number; place = place }))) (sym answer_is)
      (next_refusal_told c flow rs allowance number place)

  pub call_not_refused : ((told r).word ≡ NextWord.refused → ⊥) ↔ (c ≡ Ok tt)
  call_not_refused = subst (λ (t : NextTold). (t.word ≡ NextWord.refused → ⊥) ↔ (c ≡ Ok tt)) (sym answer_is) (next_not_refused c flow rs allowance)

  pub call_refused_so : (told r).word ≡ NextWord.refused → (q : Refusal) × (c ≡ Err q)
  call_refused_so w = next_refused_so c flow rs allowance (ap (λ (t : NextTold). t.word) (sym answer_is) ∙ w)

  pub call_lists : ((told r).word ≡ NextWord.refused → ⊥) → Lists flow (records rs) allowance (told r) list list'
  call_lists n =
      let f = fine_lists c flow rs allowance list (call_not_refused.0 n) in
      subst₂ (λ (t : NextTold) (l : List ℕ). Lists flow (records rs) allowance t list l) (sym answer_is) (sym call.lists) f

  -- a refusal keeps the table and the work bytes
  pub call_keeps : (told r).word ≡ NextWord.refused → (list' ≡ list) × (after ≡ work)
  call_keeps w =
      let q = call_refused_so w in
      (call.lists ∙ list_kept c flow rs allowance q.0 list q.1, call.leaves ∙ refused_bytes (room_wanted ns rs) work q.0 q.1)

  -- an undecided call keeps the table
  pub call_undecided_keeps : (told r).word ≡ NextWord.undecided → list' ≡ list
  call_undecided_keeps w = (call_lists (λ u. not_undecided_word (λ x. x) (sym u ∙ w))).undecided_keeps w

  -- the table keeps its length, if it is as long as is wanted where something is listed
  pub call_length : (c ≡ Ok tt → numbers_wanted ≤ length list) → length list' ≡ length list
  call_length long = by c refl
    where
      by : (x : Result ⊤ Refusal) → c ≡ x → length list' ≡ length list
      by (Ok tt) e =
          ap length (call.lists ∙ list_is c flow rs allowance list e)
          ∙ cond_both (λ (l : List ℕ). length l ≡ length list) (leb (entered (records rs) flow) allowance) (at_front (following flow rs) list) list
          (omega (arith, long e, following_few flow rs, length-append (following flow rs) (drop (length (following flow rs)) list), length-drop (length (following flow rs)) list)) refl
      by (Err q) e = ap length (call.lists ∙ list_kept c flow rs allowance q list e)

  -- any other answer clears the work bytes that are wanted
  pub call_clears : ((told r).word ≡ NextWord.refused → ⊥) → after ≡ cleared (room_wanted ns rs) work
  call_clears n = call.leaves ∙ fine_bytes (room_wanted ns rs) work (call_not_refused.0 n)

-- one outcome
pub call_once : {c : Result ⊤ Refusal} {flow : State} {ns rs : List ℕ} {allowance : ℕ} {list work : List ℕ} {r r' : Next} {list' list'' after after' : List ℕ}
    → NextBy c flow ns rs allowance list work r list' after → NextBy c flow ns rs allowance list work r' list'' after' → (r ≡ r') × (list' ≡ list'') × (after ≡ after')
call_once p q = (p.answers ∙ sym q.answers, p.lists ∙ sym q.lists, p.leaves ∙ sym q.leaves)
