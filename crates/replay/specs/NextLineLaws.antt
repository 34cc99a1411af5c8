-- The list and the work bytes are found clean exactly if what is promised of them holds (`next_clean_exactly`), `next` leaves them so, with
-- names and without, and there is room in the line for what it lists (`next_tellable`, `next_case`). Assumes nothing.
use Rattle.std.specs.Prelude.{ℕ, ◌≤◌, Bool, ◌↔◌, ◌≡◌, drop, replicate, Result, Ok, Err, ⊤, Some, None}
use native.Mathlib.Omega.{arith}
use Rattle.std.proofs.Math.Bool.{true, false, cond}
use mathlib.Core.List.{List, []}
use Rattle.std.proofs.Math.Path.{refl, ap, ap₂}
use Rattle.std.proofs.Common.{◌∙◌, subst₂, length-append}
use Rattle.std.proofs.Math.ListN.{length}
use Rattle.std.proofs.lemmas.List.{length-replicate}
use Rattle.calculus.specs.Records.{State}
use Rattle.calculus.specs.Ahead.{entered}
use Rattle.flow.specs.declared.Refusal.{Refusal}
use Rattle.flow.specs.Drawn.{flow_of}
use Rattle.flow.specs.Records.{records}
use Rattle.flow.specs.Tests.{both_true}
use Rattle.format.specs.Told.{at_front}
use Rattle.judge.specs.Judged.{named_flow, unless_refused, cleared, room_wanted, bytes_by}
use Rattle.line.specs.Line.{Put}
use Rattle.ahead.specs.declared.answer.Next.{Next}
use Rattle.ahead.specs.declared.answer.Next.TheVariants.{Listed, Undecided}
use Rattle.ahead.specs.Told.{following, numbers_wanted}
use Rattle.ahead.specs.Outcome.{allowed, next_check, named_next_check, next_by, list_by, NextBy, NextOf, NamedNextOf}
use Rattle.ahead.proofs.PickedLaws.{following_few}
use Rattle.replay.specs.Filler.{filler, number_filler, kept, Kept}
use Rattle.replay.specs.Promised.{promised, is_clean}
use Rattle.replay.specs.Lent.{LentNext}
use Rattle.replay.specs.NextLine.{length_listed, next_zeros, next_clean, next_line, Tellable, NextCase, NextCaseOf}
use Rattle.replay.specs.FillerLaws.{kept_exactly, kept_front}
use Rattle.replay.specs.PromisedLaws.{clean_exactly, cleared_clean}

---- The promise ----

-- `clean` is printed exactly if the list is filler behind the numbers listed, and the work bytes are the promised ones
pub next_clean_exactly : (a : Next) (numbers records : ℕ) (list work : List ℕ)
    → (next_clean a numbers records list work ≡ true) ↔ (Kept number_filler (length_listed a) list × (work ≡ promised (next_zeros a numbers records) (length work)))
unfolding next_clean
next_clean_exactly a numbers records list work = (λ e. to e, λ h. from h)
  where
    zeros : ℕ
    zeros = next_zeros a numbers records

    to : next_clean a numbers records list work ≡ true → Kept number_filler (length_listed a) list × (work ≡ promised zeros (length work))
    to e =
        let h = both_true (kept number_filler (length_listed a) list) (is_clean zeros work) e in
        ((kept_exactly number_filler (length_listed a) list).0 h.0, (clean_exactly zeros work).0 h.1)

    from : Kept number_filler (length_listed a) list × (work ≡ promised zeros (length work)) → next_clean a numbers records list work ≡ true
    from h = rw ((kept_exactly number_filler (length_listed a) list).1 h.0, (clean_exactly zeros work).1 h.1)

---- What stands first in the list ----

-- nothing, of a call that is refused or undecided
unfoldable list_first : Result ⊤ Refusal → State → List ℕ → ℕ → List ℕ
unfolding unless_refused allowed following
list_first c flow rs allowance = unless_refused c (λ r. []) (cond (allowed flow rs allowance) (following flow rs) [])

module _ (flow : State) (rs : List ℕ) (allowance : ℕ) where
  list_is : (c : Result ⊤ Refusal) (list : List ℕ) → list_by c flow rs allowance list ≡ at_front (list_first c flow rs allowance) list
  unfolding list_by list_first unless_refused
  list_is (Ok tt) list = by (allowed flow rs allowance) (following flow rs)
    where
      by : (b : Bool) (xs : List ℕ) → cond b (at_front xs list) list ≡ at_front (cond b xs []) list
      by true xs = refl
      by false xs = refl
  list_is (Err r) list = refl

  -- as many as the answer says
  first_length : (c : Result ⊤ Refusal) → length_listed (next_by c flow rs allowance) ≡ length (list_first c flow rs allowance)
  unfolding next_by list_first unless_refused length_listed
  first_length (Ok tt) = by (allowed flow rs allowance) (following flow rs) (entered (records rs) flow)
    where
      by : (b : Bool) (xs : List ℕ) (count : ℕ)
          → length_listed (cond b (Listed (record { length = length xs; count = count })) (Undecided (record { length = 0; count = allowance }))) ≡ length (cond b xs [])
      by true xs count = refl
      by false xs count = refl
  first_length (Err r) = refl

  first_few : (c : Result ⊤ Refusal) → length (list_first c flow rs allowance) ≤ numbers_wanted
  unfolding list_first unless_refused
  first_few (Ok tt) = by (allowed flow rs allowance) (following flow rs) (following_few flow rs)
    where
      by : (b : Bool) (xs : List ℕ) → length xs ≤ numbers_wanted → length (cond b xs []) ≤ numbers_wanted
      by true xs h = h
      by false xs h = omega arith
  first_few (Err r) = omega arith

  -- the work bytes
  zeros_clean : (c : Result ⊤ Refusal) (ns : List ℕ) (n : ℕ)
      → is_clean (next_zeros (next_by c flow rs allowance) (length ns) (length rs)) (bytes_by c (room_wanted ns rs) (replicate n filler)) ≡ true
  unfolding next_by bytes_by unless_refused next_zeros cleared
  zeros_clean (Ok tt) ns n = by (allowed flow rs allowance) (following flow rs) (entered (records rs) flow)
    where
      by : (b : Bool) (xs : List ℕ) (count : ℕ)
          → is_clean (next_zeros (cond b (Listed (record { length = length xs; count = count })) (Undecided (record { length = 0; count = allowance }))) (length ns) (length rs))
          (cleared (room_wanted ns rs) (replicate n filler)) ≡ true
      by true xs count = cleared_clean n (room_wanted ns rs)
      by false xs count = cleared_clean n (room_wanted ns rs)
  zeros_clean (Err r) ns n = cleared_clean n 0

---- The call leaves them clean ----

module _ {c : Result ⊤ Refusal} {flow : State} {ns rs list work list' after : List ℕ} {allowance : ℕ} {a : Next}
    (h : NextBy c flow ns rs allowance list work a list' after) where
  first_is : length_listed a ≡ length (list_first c flow rs allowance)
  first_is = ap length_listed h.answers ∙ first_length flow rs allowance c

  left_is : list' ≡ at_front (list_first c flow rs allowance) list
  left_is = h.lists ∙ list_is flow rs allowance c list

  -- what is listed fits the line
  pub next_tellable : Tellable a list'
  next_tellable =
      let first = list_first c flow rs allowance in
      record {
        short = omega (arith, first_is, first_few flow rs allowance c);
        there = omega (arith, first_is, ap length left_is, length-append first (drop (length first) list));
      }

  module _ (room n : ℕ) (filled : list ≡ replicate room number_filler) (cleaned : work ≡ replicate n filler) where
    -- `dirty` is never printed
    pub next_always_clean : next_clean a (length ns) (length rs) list' after ≡ true
    unfolding next_clean
    next_always_clean =
        let bytes = h.leaves ∙ ap (bytes_by c (room_wanted ns rs)) cleaned in
        let work_clean = ap₂ (λ (x : Next) (w : List ℕ). is_clean (next_zeros x (length ns) (length rs)) w) h.answers bytes ∙ zeros_clean flow rs allowance c ns n in
        rw (kept_front number_filler room (list_first c flow rs allowance) filled left_is first_is, work_clean)

---- The line ----

-- so the line of a case ends in `clean`, whatever is listed; what is refused may depend on how many numbers and work bytes are lent
module _ (c : ℕ → ℕ → Result ⊤ Refusal) (room n : ℕ) {flow : State} {ns rs list work list' after : List ℕ} {allowance : ℕ} {a : Next}
    (filled : list ≡ replicate room number_filler) (cleaned : work ≡ replicate n filler)
    (h : NextBy (c (length list) (length work)) flow ns rs allowance list work a list' after) where
  check_is : c (length list) (length work) ≡ c room n
  check_is = ap₂ c (ap length filled ∙ length-replicate room number_filler) (ap length cleaned ∙ length-replicate n filler)

  pub next_case : {b : Bool} {out out' : List ℕ} {r : ℕ} → b ≡ next_clean a (length ns) (length rs) list' after → Put (next_line a list' b) out 0 out' r
      → NextCase (c room n) flow ns rs allowance room n list' after out out' r
  next_case {b} {out} {out'} {r} q w =
      record {
        line =
            subst₂ (λ (x : Next) (y : Bool). Put (next_line x list' y) out 0 out' r)
            (h.answers ∙ ap (λ (d : Result ⊤ Refusal). next_by d flow rs allowance) check_is)
            (q ∙ next_always_clean h room n filled cleaned) w;
        list_after = h.lists ∙ ap₂ (λ (d : Result ⊤ Refusal) (l : List ℕ). list_by d flow rs allowance l) check_is filled;
        work_after = h.leaves ∙ ap₂ (λ (d : Result ⊤ Refusal) (w : List ℕ). bytes_by d (room_wanted ns rs) w) check_is cleaned;
      }

---- With names or without ----

-- the promise of `next` and that of its case are those of the library's two functions
module _ (sets ns rs : List ℕ) (allowance : ℕ) (list work list' after : List ℕ) where
  pub lent_next_none : {r : Next} → LentNext None sets ns rs allowance list work r list' after ↔ NextOf sets ns rs allowance list work r list' after
  lent_next_none = ((λ h. h), (λ h. h))

  pub lent_next_some : (s : List ℕ) {r : Next} → LentNext (Some s) sets ns rs allowance list work r list' after ↔ NamedNextOf s sets ns rs allowance list work r list' after
  lent_next_some s = ((λ h. h), (λ h. h))

  module _ (out out' : List ℕ) (r : ℕ) where
    pub next_case_none : NextCaseOf None sets ns rs allowance list work list' after out out' r
        ↔ NextCase (next_check sets ns rs (length list) (length work)) (flow_of sets ns) ns rs allowance (length list) (length work) list' after out out' r
    next_case_none = ((λ h. h), (λ h. h))

    pub next_case_some : (s : List ℕ) → NextCaseOf (Some s) sets ns rs allowance list work list' after out out' r
        ↔ NextCase (named_next_check s sets ns rs (length list) (length work)) (named_flow s sets ns) ns rs allowance (length list) (length work) list' after out out' r
    next_case_some s = ((λ h. h), (λ h. h))
