-- What may come next and the judge's verdict, of the same flow. Where the judge rejects, the list after the records before its place does
-- not have the record at that place, and as many states are entered (`rejected_next`); where it accepts, each record is in the list after
-- those before it (`accepted_next`). With names likewise (`named_rejected_next`, `named_accepted_next`). What does not depend on the entry
-- points is said once for both pairs (`rejected_not_listed`, `accepted_listed`). Theorems only. Assumes nothing.
use Rattle.std.specs.Prelude.{ℕ, zero, suc, ◌≤◌, ◌<◌, false, ◌≡◌, refl, T, length, get_or, take, drop, Result, Ok, ⊤}
use mathlib.Core.List.{List, [], ◌∷◌, ◌++◌, Memᴰ}
use Rattle.std.proofs.Common.{sym, ap, ◌∙◌, subst, arith}
use Rattle.std.proofs.lemmas.List.{length-map}
use Rattle.std.proofs.Math.ListN.{get_or-map}
use Rattle.std.proofs.Math.Seq.{split_at}
use Rattle.calculus.specs.Records.{Record, State, Fits}
use Rattle.calculus.specs.Search.{visit}
use Rattle.calculus.proofs.Members.{is_false}
use Rattle.calculus.specs.Ahead.{may_follow, entered}
use Rattle.calculus.proofs.AheadLaws.{place_entered, place_not_followed, place_inside, found_may_follow}
use Rattle.flow.specs.declared.Refusal.{Refusal}
use Rattle.flow.specs.declared.Extent.TheVariants.{Whole}
use Rattle.flow.specs.Records.{record_of, records}
use Rattle.flow.specs.Checks.{table_check, records_check}
use Rattle.flow.specs.Earliest.{Nowhere}
use Rattle.flow.specs.Legends.{plain}
use Rattle.flow.specs.Drawn.{flow_by, flow_of}
use Rattle.flow.specs.FineTable.{fine_table}
use Rattle.flow.specs.RecordsFit.{records_fit}
use Rattle.format.specs.Format.{Entry, names_section}
use Rattle.format.specs.Limits.{GoodNames}
use Rattle.format.specs.Matching.{with_names}
use Rattle.judge.specs.declared.Answer.{Answer}
use Rattle.judge.specs.Told.{VerdictWord, Told, verdict, told as verdict_told, room_wanted, room_order, named_judge_order}
use Rattle.judge.specs.Judged.{judge_check, named_judge_check, JudgedBy, Judged, NamedJudged}
use Rattle.ahead.specs.declared.answer.Next.{Next}
use Rattle.ahead.specs.Told.{NextTold, told, numbers_wanted, next_room_order, next_order, named_next_order}
use Rattle.ahead.specs.Outcome.{next_check, named_next_check, NextBy, NextOf, NamedNextOf}
use Rattle.promises.specs.FollowingStated.{EventOrClosing, WritesList}
use Rattle.promises.specs.ExactlyWhen.{passes_exactly, nowhere_exactly}
use Rattle.promises.specs.Verdicts.{Decided, undecides, accepts, rejects, fine_decided, not_refused_fine, not_refused_word, not_undecided_word, not_accepted_word}
use Rattle.promises.specs.Listings.{listing_tests, call_not_refused, call_lists}
use Rattle.promises.specs.Beginnings.{plain_parts, lists_parts, values_are, plain_first, lists_first, room_passes, named_check_nowhere}
use Rattle.promises.specs.NamedDemands.{named_flow_is}
use Rattle.promises.specs.Following.{named_next_call}

---- The first records of a list ----

records_take : (k : ℕ) (rs : List ℕ) → records (take k rs) ≡ take k (records rs)
records_take zero rs = refl
records_take (suc k) [] = refl
records_take (suc k) (r ∷ rs) = ap (λ (xs : List Record). record_of r ∷ xs) (records_take k rs)

-- the record at a place stands behind those before it
split_records : (rs : List ℕ) (k : ℕ) → k < length rs → records rs ≡ take k (records rs) ++ (record_of (get_or rs k 0) ∷ drop (suc k) (records rs))
split_records rs k h =
    split_at (records rs) k (record_of 0) (omega (arith, length-map rs record_of))
    ∙ ap (λ (r : Record). take k (records rs) ++ (r ∷ drop (suc k) (records rs))) (get_or-map record_of rs k 0)

---- What the judge's search saw ----

rejected_saw : {flow : State} {batch : List Record} {n : ℕ} {t : Told} {place count : ℕ} → Decided flow batch n t → t ≡ verdict VerdictWord.rejected place count
    → ((visit batch flow).found ≡ false) × ((visit batch flow).reached ≡ place) × ((visit batch flow).entered ≡ count)
rejected_saw (undecides h) e = absurd (not_undecided_word (λ x. x) (sym (ap (λ (u : Told). u.word) e)))
rejected_saw (accepts h f) e = absurd (not_accepted_word (λ x. x) (sym (ap (λ (u : Told). u.word) e)))
rejected_saw {flow} {batch} (rejects h f) e = (is_false (visit batch flow).found f, ap (λ (u : Told). u.place) e, ap (λ (u : Told). u.count) e)

accepted_saw : {flow : State} {batch : List Record} {n : ℕ} {t : Told} → Decided flow batch n t → t.word ≡ VerdictWord.accepted → T (visit batch flow).found
accepted_saw (undecides h) e = absurd (not_undecided_word (λ x. x) (sym e))
accepted_saw (accepts h f) e = f
accepted_saw (rejects h f) e = absurd (not_accepted_word (λ x. x) e)

---- By what is refused and the flow, whatever entry points they are ----

module _ {c : Result ⊤ Refusal} {flow : State} {ns rs : List ℕ} {allowance : ℕ} {work : List ℕ} {a : Answer} {after : List ℕ} where
  judged_fine : JudgedBy c flow ns rs allowance work a after → ((verdict_told a).word ≡ VerdictWord.refused → ⊥) → c ≡ Ok tt
  judged_fine j n = not_refused_fine c flow rs allowance (subst (λ (b : Answer). (verdict_told b).word ≡ VerdictWord.refused → ⊥) j.answers n)

  judged_decided : JudgedBy c flow ns rs allowance work a after → c ≡ Ok tt → Decided flow (records rs) allowance (verdict_told a)
  judged_decided j e = subst (λ (b : Answer). Decided flow (records rs) allowance (verdict_told b)) (sym j.answers) (fine_decided c flow rs allowance e)

-- a call whose count is within the allowance lists
module _ {d : Result ⊤ Refusal} {flow : State} {ns xs : List ℕ} {allowance : ℕ} {list work : List ℕ} {r : Next} {list' after : List ℕ}
    (call : NextBy d flow ns xs allowance list work r list' after) (passes : d ≡ Ok tt) (enough : entered (records xs) flow ≤ allowance) where
  writes : (listed : List ℕ) × WritesList flow (records xs) (told r) list list' listed
  writes =
      let l = call_lists call ((call_not_refused call).1 passes) in
      l.else_listed (λ u. let over : allowance < entered (records xs) flow = l.undecided_exactly.0 u in omega arith)

module _ {c : Result ⊤ Refusal} {flow : State} {ns rs : List ℕ} {allowance : ℕ} {work : List ℕ} {a : Answer} {after : List ℕ}
    (judged : JudgedBy c flow ns rs allowance work a after) (fine : c ≡ Ok tt) where
  module _ {place count : ℕ} (rejected : verdict_told a ≡ verdict VerdictWord.rejected place count) (fits : Fits flow (records rs)) where
    abbrev saw : ((visit (records rs) flow).found ≡ false) × ((visit (records rs) flow).reached ≡ place) × ((visit (records rs) flow).entered ≡ count)
    saw = rejected_saw (judged_decided judged fine) rejected

    -- the place is a record's
    pub rejected_inside : place < length rs
    rejected_inside = omega (arith, place_inside (records rs) flow saw.0 fits, saw.1, length-map rs record_of)

    beginning_is : records (take place rs) ≡ take (visit (records rs) flow).reached (records rs)
    beginning_is = records_take place rs ∙ ap (λ (k : ℕ). take k (records rs)) (sym saw.1)

    count_is : entered (records (take place rs)) flow ≡ count
    count_is = ap (λ (xs : List Record). entered xs flow) beginning_is ∙ place_entered (records rs) flow saw.0 ∙ saw.2

    not_followed : may_follow (records (take place rs)) flow (record_of (get_or rs place 0)) ≡ false
    not_followed =
        let split = split_records rs place rejected_inside ∙ ap (λ (k : ℕ). take k (records rs) ++ (record_of (get_or rs place 0) ∷ drop (suc place) (records rs))) (sym saw.1) in
        ap (λ (xs : List Record). may_follow xs flow (record_of (get_or rs place 0))) beginning_is
        ∙ place_not_followed (records rs) flow saw.0 (record_of (get_or rs place 0)) (drop (suc place) (records rs)) split

    pub rejected_not_listed : {d : Result ⊤ Refusal} {allowance' : ℕ} {list work' : List ℕ} {r : Next} {list' after' : List ℕ}
        → NextBy d flow ns (take place rs) allowance' list work' r list' after' → d ≡ Ok tt → count ≤ allowance'
        → (listed : List ℕ) × WritesList flow (records (take place rs)) (told r) list list' listed × ((told r).count ≡ count) × (Memᴰ (get_or rs place 0) listed → ⊥)
    rejected_not_listed call passes enough =
        let w = writes call passes (omega (arith, count_is)) in
        (w.0, w.1, ap (λ (t : NextTold). t.count) w.1.tells ∙ count_is, λ m. subst T not_followed ((listing_tests w.1.all (get_or rs place 0)).0 m).1)

  module _ (accepted : (verdict_told a).word ≡ VerdictWord.accepted) (k : ℕ) (inside : k < length rs) (value : EventOrClosing (get_or rs k 0)) where
    followed : T (may_follow (records (take k rs)) flow (record_of (get_or rs k 0)))
    followed =
        let has_end = accepted_saw (judged_decided judged fine) accepted in
        subst (λ (xs : List Record). T (may_follow xs flow (record_of (get_or rs k 0)))) (sym (records_take k rs))
        (found_may_follow (records rs) flow has_end (take k (records rs)) (record_of (get_or rs k 0)) (drop (suc k) (records rs)) (split_records rs k inside))

    pub accepted_listed : {d : Result ⊤ Refusal} {allowance' : ℕ} {list work' : List ℕ} {r : Next} {list' after' : List ℕ}
        → NextBy d flow ns (take k rs) allowance' list work' r list' after' → d ≡ Ok tt → entered (records (take k rs)) flow ≤ allowance'
        → (listed : List ℕ) × WritesList flow (records (take k rs)) (told r) list list' listed × Memᴰ (get_or rs k 0) listed
    accepted_listed call passes enough =
        let w = writes call passes enough in (w.0, w.1, (listing_tests w.1.all (get_or rs k 0)).1 (value, followed))

-- a rejection and an acceptance are no refusals
rejected_word : {t : Told} {place count : ℕ} → t ≡ verdict VerdictWord.rejected place count → t.word ≡ VerdictWord.refused → ⊥
rejected_word e w = not_refused_word (λ x. x) (sym (ap (λ (u : Told). u.word) e) ∙ w)

accepted_word : {word : VerdictWord} → word ≡ VerdictWord.accepted → word ≡ VerdictWord.refused → ⊥
accepted_word e w = not_refused_word (λ x. x) (sym e ∙ w)

---- `judge` and `next` ----

module _ (sets : List ℕ) {ns rs : List ℕ} {allowance : ℕ} {work : List ℕ} {a : Answer} {after : List ℕ} (judged : Judged sets ns rs allowance work a after) where
  module _ (decided : (verdict_told a).word ≡ VerdictWord.refused → ⊥) where
    fine : judge_check sets ns rs (length work) ≡ Ok tt
    fine = judged_fine judged decided

    parts : (table_check sets ns ≡ Ok tt) × (records_check Whole ns rs ≡ Ok tt)
    parts = plain_parts Whole sets ns rs (room_order ns rs (length work)) ((passes_exactly sets ns rs (length work)).0 fine)

    -- what stands before a record is not refused as a beginning
    next_passes : (k numbers room : ℕ) → k < length rs → numbers_wanted ≤ numbers → room_wanted ns (take k rs) ≤ room → next_check sets ns (take k rs) numbers room ≡ Ok tt
    unfolding next_check
    next_passes k numbers room inside h l =
        (nowhere_exactly (next_order sets ns (take k rs) numbers room)).1
        (plain_first sets ns rs k inside (room_order ns rs (length work)) (next_room_order ns (take k rs) numbers room) (room_passes ns (take k rs) numbers room h l)
        ((passes_exactly sets ns rs (length work)).0 fine))

  -- rejected: the record at the place is not listed after those before it, and as many states are entered
  pub rejected_next : {place count : ℕ} → verdict_told a ≡ verdict VerdictWord.rejected place count
      → {allowance' : ℕ} {list work' : List ℕ} {r : Next} {list' after' : List ℕ} → NextOf sets ns (take place rs) allowance' list work' r list' after'
      → numbers_wanted ≤ length list → room_wanted ns (take place rs) ≤ length work' → count ≤ allowance'
      → (place < length rs) × (listed : List ℕ) × WritesList (flow_of sets ns) (records (take place rs)) (told r) list list' listed
      × ((told r).count ≡ count) × (Memᴰ (get_or rs place 0) listed → ⊥)
  rejected_next {place} e {list} {work'} call h l enough =
      let decided = rejected_word e in
      let p = parts decided in
      let fits = records_fit ns rs (plain sets) (fine_table ns sets p.0) p.1 in
      let inside = rejected_inside judged (fine decided) e fits in
      let q = rejected_not_listed judged (fine decided) e fits call (next_passes decided place (length list) (length work') inside h l) enough in
      (inside, q.0, q.1, q.2, q.3)

  -- accepted: each record is listed after those before it
  pub accepted_next : (verdict_told a).word ≡ VerdictWord.accepted → (k : ℕ) → k < length rs
      → {allowance' : ℕ} {list work' : List ℕ} {r : Next} {list' after' : List ℕ} → NextOf sets ns (take k rs) allowance' list work' r list' after'
      → numbers_wanted ≤ length list → room_wanted ns (take k rs) ≤ length work' → entered (records (take k rs)) (flow_of sets ns) ≤ allowance'
      → (listed : List ℕ) × WritesList (flow_of sets ns) (records (take k rs)) (told r) list list' listed × Memᴰ (get_or rs k 0) listed
  accepted_next e k inside {list} {work'} call h l enough =
      let decided = accepted_word e in
      accepted_listed judged (fine decided) e k inside (values_are Whole ns rs (parts decided).1 k inside) call (next_passes decided k (length list) (length work') inside h l) enough

---- `judge_named` and `next_named` ----

module _ (es : List Entry) (good : GoodNames es) (sets : List ℕ) {ns rs : List ℕ} {allowance : ℕ} {work : List ℕ} {a : Answer} {after : List ℕ}
    (judged : NamedJudged (names_section es) sets ns rs allowance work a after) where
  -- of a good section the flow is the one that its entries draw
  by_entries : JudgedBy (named_judge_check (names_section es) sets ns rs (length work)) (flow_by (with_names es sets) ns) ns rs allowance work a after
  by_entries = subst (λ (flow : State). JudgedBy (named_judge_check (names_section es) sets ns rs (length work)) flow ns rs allowance work a after) (named_flow_is es good sets ns) judged

  module _ (decided : (verdict_told a).word ≡ VerdictWord.refused → ⊥) where
    named_fine : named_judge_check (names_section es) sets ns rs (length work) ≡ Ok tt
    named_fine = judged_fine judged decided

    named_nowhere : Nowhere (named_judge_order sets ns rs (length work) es)
    unfolding named_judge_check
    named_nowhere = (named_check_nowhere es good (named_judge_order sets ns rs (length work))).0 named_fine

    named_parts : (table_check sets ns ≡ Ok tt) × (records_check Whole ns rs ≡ Ok tt)
    named_parts = lists_parts Whole sets ns rs (length es) (room_order ns rs (length work)) named_nowhere

    named_next_passes : (k numbers room : ℕ) → k < length rs → numbers_wanted ≤ numbers → room_wanted ns (take k rs) ≤ room
        → named_next_check (names_section es) sets ns (take k rs) numbers room ≡ Ok tt
    unfolding named_next_check
    named_next_passes k numbers room inside h l =
        (named_check_nowhere es good (named_next_order sets ns (take k rs) numbers room)).1
        (lists_first sets ns rs k inside (length es) (room_order ns rs (length work)) (next_room_order ns (take k rs) numbers room) (room_passes ns (take k rs) numbers room h l) named_nowhere)

  pub named_rejected_next : {place count : ℕ} → verdict_told a ≡ verdict VerdictWord.rejected place count
      → {allowance' : ℕ} {list work' : List ℕ} {r : Next} {list' after' : List ℕ} → NamedNextOf (names_section es) sets ns (take place rs) allowance' list work' r list' after'
      → numbers_wanted ≤ length list → room_wanted ns (take place rs) ≤ length work' → count ≤ allowance'
      → (place < length rs) × (listed : List ℕ) × WritesList (flow_by (with_names es sets) ns) (records (take place rs)) (told r) list list' listed
      × ((told r).count ≡ count) × (Memᴰ (get_or rs place 0) listed → ⊥)
  named_rejected_next {place} e {list} {work'} call h l enough =
      let decided = rejected_word e in
      let p = named_parts decided in
      let fits = records_fit ns rs (with_names es sets) (fine_table ns sets p.0) p.1 in
      let inside = rejected_inside by_entries (named_fine decided) e fits in
      let q = rejected_not_listed by_entries (named_fine decided) e fits (named_next_call es good sets call) (named_next_passes decided place (length list) (length work') inside h l) enough in
      (inside, q.0, q.1, q.2, q.3)

  pub named_accepted_next : (verdict_told a).word ≡ VerdictWord.accepted → (k : ℕ) → k < length rs
      → {allowance' : ℕ} {list work' : List ℕ} {r : Next} {list' after' : List ℕ} → NamedNextOf (names_section es) sets ns (take k rs) allowance' list work' r list' after'
      → numbers_wanted ≤ length list → room_wanted ns (take k rs) ≤ length work' → entered (records (take k rs)) (flow_by (with_names es sets) ns) ≤ allowance'
      → (listed : List ℕ) × WritesList (flow_by (with_names es sets) ns) (records (take k rs)) (told r) list list' listed × Memᴰ (get_or rs k 0) listed
  named_accepted_next e k inside {list} {work'} call h l enough =
      let decided = accepted_word e in
      accepted_listed by_entries (named_fine decided) e k inside (values_are Whole ns rs (named_parts decided).1 k inside) (named_next_call es good sets call)
      (named_next_passes decided k (length list) (length work') inside h l) enough
