-- Demand 3 for what may come next: "Redrawing changes nothing. If one flow becomes another by any number of exchanges from document 01's list of
-- laws .., and both are within the limits, then for every record list, with room enough lent to each, both are refused or both get the same".
-- The list is the same (`redrawn_listing`, of any flows), and so is what two calls come to, unless either is undecided (`redrawn_next`); with
-- names likewise, for flows whose events all have entries (`named_redrawn_next`). Theorems only. Assumes nothing.
use Rattle.std.specs.Prelude.{ℕ, ◌≤◌, ◌<◌, List, ◌≡◌, refl, length, Result, Ok, Err, ⊤}
use Rattle.std.proofs.Math.Path.{sym, ap}
use Rattle.std.proofs.Common.{◌∙◌, subst, subst₂, arith}
use Rattle.std.proofs.Math.Decide.{dec_le}
use Rattle.calculus.specs.Records.{Record, State}
use Rattle.calculus.specs.Ahead.{entered}
use Rattle.calculus.specs.Laws.{Redrawn}
use Rattle.calculus.proofs.Redrawn.{redrawn_flip, redrawn_follows}
use Rattle.flow.specs.declared.Refusal.{Refusal}
use Rattle.flow.specs.declared.Extent.TheVariants.{Beginning}
use Rattle.flow.specs.Refusals.{wrong_closings, closings_place, closings_allowed}
use Rattle.flow.specs.Checks.{first, grounds, or_else_check, table_length_check, sets_check, nodes_check, table_check, records_length_check, values_check, closings_check, records_check}
use Rattle.flow.specs.FirstRefusal.{both_fine, or_else_fine, table_parts}
use Rattle.flow.specs.Legends.{set_count, plain}
use Rattle.flow.specs.Drawn.{flow_by, flow_of}
use Rattle.flow.specs.FineTable.{fine_table}
use Rattle.format.specs.Format.{Entry, names_section}
use Rattle.format.specs.Limits.{GoodNames}
use Rattle.format.specs.Matching.{with_names}
use Rattle.format.specs.Told.{at_front}
use Rattle.format.specs.ContentChecks.{events_grounds}
use Rattle.format.specs.ContentLaws.{contents_is}
use Rattle.format.specs.ListChecks.{lists_check}
use Rattle.format.specs.ListLaws.{lists_is, lists_then}
use Rattle.judge.specs.Told.{room_wanted}
use Rattle.judge.specs.JudgedLaws.{plain_then}
use Rattle.ahead.specs.declared.answer.Next.{Next}
use Rattle.ahead.specs.Told.{NextWord, NextTold, found, told, numbers_wanted, next_room_order}
use Rattle.ahead.specs.Outcome.{next_check, named_next_check, NextBy, NextOf, NamedNextOf}
use Rattle.promises.specs.Stated.{EventsNamed}
use Rattle.promises.specs.FollowingStated.{Listing, Lists, SameList}
use Rattle.promises.specs.ExactlyWhen.{nowhere_exactly}
use Rattle.promises.specs.Verdicts.{redrawn_closings, redrawn_records}
use Rattle.promises.specs.NamedDemands.{or_else_last, events_pass, alone_is}
use Rattle.promises.specs.Listings.{same_runs_listing, call_refusal, call_not_refused, call_lists}
use Rattle.promises.specs.Beginnings.{room_passes}
use Rattle.promises.specs.Following.{named_next_call}

---- The list ----

module _ {flow flow' : State} (redrawn : Redrawn flow flow') where
  pub redrawn_listing : {beginning : List Record} {listed other : List ℕ} → Listing flow beginning listed → Listing flow' beginning other → listed ≡ other
  redrawn_listing f g = same_runs_listing flow flow' (λ batch n. (redrawn_follows redrawn, redrawn_follows (redrawn_flip redrawn))) f g

  -- what two calls come to that are not refused
  redrawn_lists : {beginning : List Record} {allowance allowance' : ℕ} {t u : NextTold} {list list' other other' : List ℕ}
      → Lists flow beginning allowance t list list' → Lists flow' beginning allowance' u other other' → SameList list list' other other' t u
  redrawn_lists {beginning} {allowance} {allowance'} {t} {u} {list} {list'} {other} {other'} x y =
      by (dec_le (entered beginning flow) allowance) (dec_le (entered beginning flow') allowance')
    where
      first_so : t.word ≡ NextWord.undecided → SameList list list' other other' t u
      first_so w = subst (λ (z : NextTold). SameList list list' other other' z u) (sym (x.undecided_is w)) SameList.first_undecided

      second_so : u.word ≡ NextWord.undecided → SameList list list' other other' t u
      second_so w = subst (SameList list list' other other' t) (sym (y.undecided_is w)) SameList.second_undecided

      both : entered beginning flow ≤ allowance → entered beginning flow' ≤ allowance' → SameList list list' other other' t u
      both h k =
          let v = x.else_listed (λ z. let l : allowance < entered beginning flow = x.undecided_exactly.0 z in omega arith) in
          let w = y.else_listed (λ z. let l : allowance' < entered beginning flow' = y.undecided_exactly.0 z in omega arith) in
          let e = redrawn_listing v.1.all w.1.all in
          let o : other' ≡ at_front v.0 other = w.1.written ∙ ap (λ (xs : List ℕ). at_front xs other) (sym e) in
          let d = w.1.tells ∙ ap (λ (xs : List ℕ). found NextWord.listed (length xs) (entered beginning flow')) (sym e) in
          subst₂ (SameList list list' other other') (sym v.1.tells) (sym d) (SameList.both_listed v.0 v.1.written o)

      by : Dec (entered beginning flow ≤ allowance) → Dec (entered beginning flow' ≤ allowance') → SameList list list' other other' t u
      by (no n) d = first_so (x.undecided_exactly.1 (omega (arith, n)))
      by (yes h) (no n) = second_so (y.undecided_exactly.1 (omega (arith, n)))
      by (yes h) (yes k) = both h k

---- Two calls of which the same is refused ----

module _ {c c' : Result ⊤ Refusal} {flow flow' : State} {ns ns' rs : List ℕ} {allowance allowance' : ℕ} {list work list' after other work' other' after' : List ℕ} {r q : Next}
    (same : c ≡ c') (redrawn : Redrawn flow flow') (call : NextBy c flow ns rs allowance list work r list' after) (call' : NextBy c' flow' ns' rs allowance' other work' q other' after') where
  pub redrawn_calls : SameList list list' other other' (told r) (told q)
  redrawn_calls = by c refl
    where
      by : (x : Result ⊤ Refusal) → c ≡ x → SameList list list' other other' (told r) (told q)
      by (Ok tt) e = redrawn_lists redrawn (call_lists call ((call_not_refused call).1 e)) (call_lists call' ((call_not_refused call').1 (sym same ∙ e)))
      by (Err x) e =
          let d = (call_refusal call x.number x.place).1 e in
          let f = (call_refusal call' x.number x.place).1 (sym same ∙ e) in
          subst₂ (SameList list list' other other') (sym d) (sym f) SameList.both_refused

---- `next` ----

-- 14 is not given where enough is lent
room_fine : (ns rs : List ℕ) (numbers room : ℕ) → numbers_wanted ≤ numbers → room_wanted ns rs ≤ room → first (grounds (next_room_order ns rs numbers room)) ≡ Ok tt
room_fine ns rs numbers room h l = (nowhere_exactly (next_room_order ns rs numbers room)).1 (room_passes ns rs numbers room h l)

-- a fine table with enough lent is refused as its records are
next_decide : (sets ns rs : List ℕ) (numbers room : ℕ) → table_check sets ns ≡ Ok tt → numbers_wanted ≤ numbers → room_wanted ns rs ≤ room → next_check sets ns rs numbers room ≡ records_check Beginning ns rs
unfolding next_check
next_decide sets ns rs numbers room fine h l =
    plain_then Beginning sets ns rs (next_room_order ns rs numbers room)
    ∙ sym (or_else_fine _ fine)
    ∙ or_else_last (records_check Beginning ns rs) _ (room_fine ns rs numbers room h l)

-- 02, Four: "both judged with the same sets"
module _ (sets ns ns' : List ℕ) (redrawn : Redrawn (flow_of sets ns) (flow_of sets ns')) (within : table_check sets ns ≡ Ok tt) (within' : table_check sets ns' ≡ Ok tt) where
  pub redrawn_next : {rs : List ℕ} {allowance allowance' : ℕ} {list work list' after other work' other' after' : List ℕ} {r q : Next}
      → NextOf sets ns rs allowance list work r list' after → NextOf sets ns' rs allowance' other work' q other' after'
      → numbers_wanted ≤ length list → numbers_wanted ≤ length other → room_wanted ns rs ≤ length work → room_wanted ns' rs ≤ length work'
      → SameList list list' other other' (told r) (told q)
  redrawn_next {rs} {list} {work} {other} {work'} call call' h h' l l' =
      redrawn_calls
      (next_decide sets ns rs (length list) (length work) within h l
      ∙ redrawn_records (plain sets) ns ns' (fine_table ns sets within) (fine_table ns' sets within') redrawn Beginning rs
      ∙ sym (next_decide sets ns' rs (length other) (length work') within' h' l'))
      redrawn call call'

---- `next_named` ----

module _ (es : List Entry) (good : GoodNames es) where
  -- what is refused then depends on the records alone, and on the closings that may come
  named_next_decide : (sets ns rs : List ℕ) (numbers room : ℕ) → table_check sets ns ≡ Ok tt → EventsNamed es ns → numbers_wanted ≤ numbers → room_wanted ns rs ≤ room
      → named_next_check (names_section es) sets ns rs numbers room
      ≡ or_else_check (records_length_check Beginning rs) (or_else_check (values_check rs) (or_else_check (closings_check Beginning ns rs) (first (events_grounds (length es) rs))))
  unfolding named_next_check
  named_next_decide sets ns rs numbers room within events h l =
      let s = names_section es in
      let t = both_fine (table_length_check ns) (or_else_check (sets_check sets) (nodes_check (set_count sets) ns)) (sym (table_parts sets ns) ∙ within) in
      let u = both_fine (sets_check sets) (nodes_check (set_count sets) ns) t.1 in
      lists_then Beginning s sets ns rs (next_room_order ns rs numbers room)
      ∙ or_else_last (lists_check Beginning s sets ns rs) _ (room_fine ns rs numbers room h l)
      ∙ lists_is Beginning s sets ns rs (alone_is es good)
      ∙ sym (or_else_fine _ t.0)
      ∙ ap (or_else_check (records_length_check Beginning rs))
      (sym (or_else_fine _ u.0) ∙ contents_is Beginning (length es) (set_count sets) ns rs ∙ sym (or_else_fine _ u.1)
      ∙ ap (λ (c : Result ⊤ Refusal). or_else_check (values_check rs) (or_else_check (closings_check Beginning ns rs) c)) (sym (or_else_fine _ (events_pass es ns events))))

  module _ (sets ns ns' : List ℕ) (redrawn : Redrawn (flow_by (with_names es sets) ns) (flow_by (with_names es sets) ns')) (within : table_check sets ns ≡ Ok tt) (within' : table_check sets ns' ≡ Ok tt)
      (events : EventsNamed es ns) (events' : EventsNamed es ns') where
    same_closings : (rs : List ℕ) → closings_check Beginning ns rs ≡ closings_check Beginning ns' rs
    unfolding closings_check wrong_closings closings_place closings_allowed
    same_closings rs = rw (redrawn_closings (with_names es sets) ns ns' (fine_table ns sets within) (fine_table ns' sets within') redrawn)

    pub named_redrawn_next : {rs : List ℕ} {allowance allowance' : ℕ} {list work list' after other work' other' after' : List ℕ} {r q : Next}
        → NamedNextOf (names_section es) sets ns rs allowance list work r list' after → NamedNextOf (names_section es) sets ns' rs allowance' other work' q other' after'
        → numbers_wanted ≤ length list → numbers_wanted ≤ length other → room_wanted ns rs ≤ length work → room_wanted ns' rs ≤ length work'
        → SameList list list' other other' (told r) (told q)
    named_redrawn_next {rs} {list} {work} {other} {work'} call call' h h' l l' =
        redrawn_calls
        (named_next_decide sets ns rs (length list) (length work) within events h l
        ∙ ap (λ (c : Result ⊤ Refusal). or_else_check (records_length_check Beginning rs) (or_else_check (values_check rs) (or_else_check c (first (events_grounds (length es) rs))))) (same_closings rs)
        ∙ sym (named_next_decide sets ns' rs (length other) (length work') within' events' h' l'))
        redrawn (named_next_call es good sets call) (named_next_call es good sets call')
