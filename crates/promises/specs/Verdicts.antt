-- What the demands rest on, whatever entry point answers: an answer told is a refusal or what the search decided (`refusal_told`,
-- `decided_told`), and flows redrawn get the same one where the same is refused (`redrawn_answers`). Then that a fine table with room
-- enough is refused as its records are (`records_decide`), and that flows redrawn want the same closings (`redrawn_closings`). Assumes
-- nothing.
use Rattle.std.specs.Prelude.{ℕ, ◌<◌, ◌≤◌, ◌≡◌, Bool, List, ◌↔◌, T, leb, length, Result, Ok, Err, ⊤}
use Rattle.std.proofs.Math.Path.{refl, sym, ap}
use Rattle.std.proofs.Common.{◌∙◌, subst, arith, leb-true, leb-false}
use Rattle.std.proofs.Math.Bool.{true, false, cond}
use Rattle.calculus.specs.Term.{Std, Cmp}
use Rattle.calculus.specs.Records.{Record, State, std, cmp, Complete}
use Rattle.calculus.specs.Search.{Verdict, visit, settle}
use Rattle.calculus.specs.Search as search
use Rattle.calculus.specs.Laws.{Redrawn}
use Rattle.calculus.proofs.Found.{found_complete, place_follows, place_longest}
use Rattle.calculus.specs.Alike.{Alike}
use Rattle.calculus.proofs.Completes.{complete_traces}
use Rattle.calculus.proofs.Redrawn.{redrawn_alike}
use Rattle.flow.specs.declared.Refusal.{Refusal}
use Rattle.flow.specs.declared.Extent.{Extent}
use Rattle.flow.specs.declared.Extent.TheVariants.{Whole, Beginning}
use Rattle.flow.specs.Kinds.{node, is_standard}
use Rattle.flow.specs.Records.{records}
use Rattle.flow.specs.Refusals.{root, wrong_closings, closings_place, closings_wanted, closings_allowed}
use Rattle.flow.specs.Checks.{or_else_check, table_check, records_check}
use Rattle.flow.specs.Legends.{Legend}
use Rattle.flow.specs.Drawn.{flow_by}
use Rattle.flow.specs.FineTable.{FineTable}
use Rattle.flow.specs.OneFlow.{flow_standard, flow_compensable}
use Rattle.judge.specs.declared.Answer.{Answer}
use Rattle.judge.specs.Judged.{VerdictWord, Told, told, verdict, refusal, room_wanted, judge_check, answer_of, judged_by}
use Rattle.judge.specs.Settled.{room_check}
use Rattle.judge.specs.JudgedLaws.{fine_is, refused_is, check_parts, room_passes}
use Rattle.promises.specs.Stated.{Decides, SameAnswer}

---- Words are different ----

abbrev IsRefused : VerdictWord → Type 0
IsRefused VerdictWord.accepted = ⊥
IsRefused VerdictWord.rejected = ⊥
IsRefused VerdictWord.undecided = ⊥
IsRefused VerdictWord.refused = Unit {0}

abbrev IsUndecided : VerdictWord → Type 0
IsUndecided VerdictWord.accepted = ⊥
IsUndecided VerdictWord.rejected = ⊥
IsUndecided VerdictWord.undecided = Unit {0}
IsUndecided VerdictWord.refused = ⊥

abbrev IsAccepted : VerdictWord → Type 0
IsAccepted VerdictWord.accepted = Unit {0}
IsAccepted VerdictWord.rejected = ⊥
IsAccepted VerdictWord.undecided = ⊥
IsAccepted VerdictWord.refused = ⊥

pub not_refused_word : {w : VerdictWord} → (IsRefused w → ⊥) → w ≡ VerdictWord.refused → ⊥
not_refused_word n e = n (subst IsRefused (sym e) tt)

pub not_undecided_word : {w : VerdictWord} → (IsUndecided w → ⊥) → w ≡ VerdictWord.undecided → ⊥
not_undecided_word n e = n (subst IsUndecided (sym e) tt)

pub not_accepted_word : {w : VerdictWord} → (IsAccepted w → ⊥) → w ≡ VerdictWord.accepted → ⊥
not_accepted_word n e = n (subst IsAccepted (sym e) tt)

---- What the search decided ----

-- the answer that is told for a flow, its records and an allowance, by what the search saw
pub data Decided (s : State) (rs : List Record) (n : ℕ) : Told → Type 0 where
  undecides : n < (visit rs s).entered → Decided s rs n (verdict VerdictWord.undecided 0 n)
  accepts : (visit rs s).entered ≤ n → T (visit rs s).found → Decided s rs n (verdict VerdictWord.accepted (length rs) (visit rs s).entered)
  rejects : (visit rs s).entered ≤ n → (T (visit rs s).found → ⊥) → Decided s rs n (verdict VerdictWord.rejected (visit rs s).reached (visit rs s).entered)

pub decided : (s : State) (rs : List Record) (n : ℕ) → Decided s rs n (told (answer_of (search.judge s rs n)))
unfolding search.judge settle told answer_of
decided s rs n = by (leb (visit rs s).entered n) refl (visit rs s).found refl
  where
    by : (e : Bool) → leb (visit rs s).entered n ≡ e → (f : Bool) → (visit rs s).found ≡ f
        → Decided s rs n (told (answer_of (settle e f (length rs) n (visit rs s))))
    by false e f g = undecides (leb-false (visit rs s).entered n e)
    by true e true g = accepts (leb-true (visit rs s).entered n e) (subst T (sym g) tt)
    by true e false g = rejects (leb-true (visit rs s).entered n e) (λ t. subst T g t)

decided_not_refused : {s : State} {rs : List Record} {n : ℕ} {t : Told} → Decided s rs n t → t.word ≡ VerdictWord.refused → ⊥
decided_not_refused (undecides h) = not_refused_word (λ x. x)
decided_not_refused (accepts h f) = not_refused_word (λ x. x)
decided_not_refused (rejects h f) = not_refused_word (λ x. x)

-- so demand 2 holds of it
pub decides : {flow : State} {batch : List Record} {n : ℕ} {t : Told} → Decided flow batch n t → Decides flow batch n t
decides {flow} {batch} (undecides h) = record {
  undecided_exactly = (λ e. h, λ l. refl);
  accepted_exactly = λ n. absurd (n refl);
  accepted_traces = λ n. absurd (n refl);
  else_rejected = λ n. absurd (n refl);
  undecided_is = λ e. refl;
  accepted_is = λ e. absurd (not_accepted_word (λ x. x) e);
  rejected_is = λ e. absurd (not_undecided_word (λ x. x) (sym e));
}
decides {flow} {batch} (accepts h f) =
    let c : Complete flow batch = (found_complete flow batch).0 f in
    record {
      undecided_exactly = (λ e. absurd (not_undecided_word (λ x. x) e), λ l. absurd (omega arith));
      accepted_exactly = λ n. (λ e. c, λ d. refl);
      accepted_traces = λ n. (λ e. (complete_traces flow batch).0 c, λ d. refl);
      else_rejected = λ n m. absurd (m c);
      undecided_is = λ e. absurd (not_undecided_word (λ x. x) e);
      accepted_is = λ e. refl;
      rejected_is = λ e. absurd (not_accepted_word (λ x. x) (sym e));
    }
decides {flow} {batch} (rejects h f) =
    let none : Complete flow batch → ⊥ = λ c. f ((found_complete flow batch).1 c) in
    record {
      undecided_exactly = (λ e. absurd (not_undecided_word (λ x. x) e), λ l. absurd (omega arith));
      accepted_exactly = λ n. (λ e. absurd (not_accepted_word (λ x. x) e), λ c. absurd (none c));
      accepted_traces = λ n. (λ e. absurd (not_accepted_word (λ x. x) e), λ t. absurd (none ((complete_traces flow batch).1 t)));
      else_rejected = λ n m. refl;
      undecided_is = λ e. absurd (not_undecided_word (λ x. x) e);
      accepted_is = λ e. absurd (not_accepted_word (λ x. x) e);
      rejected_is = λ e. record { follows = place_follows batch flow f; longest = λ n a. place_longest a f; counted = refl };
    }

---- An answer told ----

-- by what is refused and the flow, whatever entry point it is
module _ (c : Result ⊤ Refusal) (flow : State) (rs : List ℕ) (allowance : ℕ) where
  abbrev tells : Told
  tells = told (judged_by c flow rs allowance)

  pub told_as_refused : (r : Refusal) → c ≡ Err r → tells ≡ refusal r.number r.place
  unfolding told
  told_as_refused r e = ap told (refused_is flow rs allowance r e)

  pub fine_decided : c ≡ Ok tt → Decided flow (records rs) allowance tells
  fine_decided e = subst (λ (a : Answer). Decided flow (records rs) allowance (told a)) (sym (fine_is flow rs allowance e)) (decided flow (records rs) allowance)

  pub not_refused_fine : (tells.word ≡ VerdictWord.refused → ⊥) → c ≡ Ok tt
  not_refused_fine n = by c refl
    where
      by : (x : Result ⊤ Refusal) → c ≡ x → c ≡ Ok tt
      by (Ok tt) e = e
      by (Err r) e = absurd (n (ap (λ (t : Told). t.word) (told_as_refused r e)))

  -- what is not refused is what the search decided
  pub decided_told : (tells.word ≡ VerdictWord.refused → ⊥) → Decides flow (records rs) allowance tells
  decided_told n = decides (fine_decided (not_refused_fine n))

  pub told_refused : tells.word ≡ VerdictWord.refused → (r : Refusal) × (c ≡ Err r)
  told_refused w = by c refl
    where
      by : (x : Result ⊤ Refusal) → c ≡ x → (r : Refusal) × (c ≡ Err r)
      by (Ok tt) e = absurd (decided_not_refused (fine_decided e) w)
      by (Err r) e = (r, e)

  pub fine_not_refused : c ≡ Ok tt → tells.word ≡ VerdictWord.refused → ⊥
  fine_not_refused e w = decided_not_refused (fine_decided e) w

  pub refusal_told : (number place : ℕ) → (tells ≡ refusal number place) ↔ (c ≡ Err (record { number = number; place = place }))
  refusal_told number place = (there, λ e. told_as_refused (record { number = number; place = place }) e)
    where
      there : tells ≡ refusal number place → c ≡ Err (record { number = number; place = place })
      there e =
          let q = told_refused (ap (λ (t : Told). t.word) e) in
          q.1 ∙ ap (λ (t : Told). Err (record { number = t.number; place = t.place })) (sym (told_as_refused q.0 q.1) ∙ e)

---- Answers to flows redrawn ----

alike_same : {v w : Verdict} → Alike v w → SameAnswer (told (answer_of v)) (told (answer_of w))
unfolding told answer_of
alike_same Alike.both_accepted = SameAnswer.both_accepted
alike_same (Alike.both_rejected {place} {a = a} {b} e) = subst (λ (n : ℕ). SameAnswer (verdict VerdictWord.rejected place a) (verdict VerdictWord.rejected n b)) e SameAnswer.both_rejected
alike_same Alike.first_undecided = SameAnswer.first_undecided
alike_same Alike.second_undecided = SameAnswer.second_undecided

module _ {c c' : Result ⊤ Refusal} {flow flow' : State} (same : c ≡ c') (redrawn : Redrawn flow flow') (rs : List ℕ) (allowance allowance' : ℕ) where
  -- where the same is refused of both, the answers are the same
  pub redrawn_answers : SameAnswer (told (judged_by c flow rs allowance)) (told (judged_by c' flow' rs allowance'))
  redrawn_answers = by c refl
    where
      by : (x : Result ⊤ Refusal) → c ≡ x → SameAnswer (told (judged_by c flow rs allowance)) (told (judged_by c' flow' rs allowance'))
      by (Ok tt) e =
          let p = fine_is flow rs allowance e in
          let q = fine_is flow' rs allowance' (sym same ∙ e) in
          rw (p, q) (alike_same (redrawn_alike redrawn (records rs) allowance allowance'))
      by (Err r) e =
          let p = told_as_refused c flow rs allowance r e in
          let q = told_as_refused c' flow' rs allowance' r (sym same ∙ e) in
          rw (p, q) SameAnswer.both_refused

---- The check of a fine table ----

module _ (sets ns rs : List ℕ) (room : ℕ) where
  -- a fine table with room enough is refused as its records are
  pub records_decide : table_check sets ns ≡ Ok tt → room_wanted ns rs ≤ room → judge_check sets ns rs room ≡ records_check Whole ns rs
  unfolding or_else_check
  records_decide t h =
      check_parts sets ns rs room
      ∙ ap (λ (c : Result ⊤ Refusal). or_else_check c (or_else_check (records_check Whole ns rs) (room_check ns rs room))) t
      ∙ by (records_check Whole ns rs) (room_check ns rs room) (room_passes ns rs room h)
    where
      by : (c d : Result ⊤ Refusal) → d ≡ Ok tt → or_else_check (Ok tt) (or_else_check c d) ≡ c
      by (Ok tt) d e = e
      by (Err r) d e = refl

---- Flows redrawn ----

-- none is of the other sort
redrawn_mixed : {s t : State} {p : Std} {pp : Cmp} → Redrawn s t → s ≡ std p → t ≡ cmp pp → ⊥
redrawn_mixed {t} {p} r e d = elim (subst (Redrawn (std p)) d (subst (λ (z : State). Redrawn z t) e r)) [ ]

mixed_redrawn : {s t : State} {p : Std} {pp : Cmp} → Redrawn s t → s ≡ cmp pp → t ≡ std p → ⊥
mixed_redrawn {t} {pp} r e d = elim (subst (Redrawn (cmp pp)) d (subst (λ (z : State). Redrawn z t) e r)) [ ]

module _ (legend : Legend) (ns ns' : List ℕ) (fine : FineTable ns) (fine' : FineTable ns') (h : Redrawn (flow_by legend ns) (flow_by legend ns')) where
  -- they are of one sort
  pub redrawn_closings : closings_wanted ns ≡ closings_wanted ns'
  unfolding closings_wanted
  redrawn_closings = ap (λ (b : Bool). cond b 1 2) (by (is_standard (node ns (root ns))) refl (is_standard (node ns' (root ns'))) refl)
    where
      by : (a : Bool) → is_standard (node ns (root ns)) ≡ a → (b : Bool) → is_standard (node ns' (root ns')) ≡ b → is_standard (node ns (root ns)) ≡ is_standard (node ns' (root ns'))
      by true e true d = e ∙ sym d
      by false e false d = e ∙ sym d
      by true e false d = absurd (redrawn_mixed h (flow_standard legend ns fine e).1 (flow_compensable legend ns' fine' d).1)
      by false e true d = absurd (mixed_redrawn h (flow_compensable legend ns fine e).1 (flow_standard legend ns' fine' d).1)

  pub redrawn_records : (extent : Extent) (rs : List ℕ) → records_check extent ns rs ≡ records_check extent ns' rs
  unfolding records_check wrong_closings closings_place closings_allowed
  redrawn_records Whole rs = rw redrawn_closings
  redrawn_records Beginning rs = rw redrawn_closings
