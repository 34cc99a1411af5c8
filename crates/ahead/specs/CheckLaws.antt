-- The checks of `next` and `next_named` as the code comes to them, one after the other, and what is known where nothing is refused
-- (`next_passed`, `named_next_lists`, `named_next_passed`). Assumes nothing.
use Rattle.std.specs.Prelude.{ℕ, ◌≤◌, true, false, ◌||◌, ◌≡◌, List, [], ◌∷◌, Result, Ok, Err, ⊤}
use Rattle.std.proofs.Common.{sym, ◌∙◌}
use Rattle.std.proofs.Math.Path.{ap}
use borrow.Author.Tests.{ltb-false}
use Rattle.std.proofs.Math.Dec.{ltb}
use Rattle.flow.specs.declared.Refusal.{Refusal}
use Rattle.flow.specs.declared.Extent.TheVariants.{Beginning}
use Rattle.flow.specs.Tests.{is_false, neither_one, neither_two}
use Rattle.flow.specs.Refusals.{ground_of}
use Rattle.flow.specs.Checks.{refused, or_else_check, table_check, records_check}
use Rattle.flow.specs.FirstRefusal.{None, more, fine_exactly, both_fine, or_else_refused, or_else_fine, single_held, single_passed}
use Rattle.format.specs.ListChecks.{lists_check}
use Rattle.format.specs.ListLaws.{ListsPassed, lists_passed, lists_then}
use Rattle.judge.specs.Told.{room_wanted, too_short}
use Rattle.flow.specs.FineTable.{fine_table}
use Rattle.judge.specs.JudgedLaws.{plain_then, Passed}
use Rattle.ahead.specs.Told.{numbers_wanted, no_room, next_room_order}
use Rattle.ahead.specs.Outcome.{next_check, named_next_check}
use Rattle.ahead.specs.Answering.{next_room_check}

module _ (ns rs : List ℕ) (numbers room : ℕ) where
  ---- 14 ----

  module _ {wanted : ℕ} (is : wanted ≡ room_wanted ns rs) where
    no_room_is : no_room ns rs numbers room ≡ (ltb numbers numbers_wanted || ltb room wanted)
    unfolding no_room too_short
    no_room_is = ap (λ (n : ℕ). ltb numbers numbers_wanted || ltb room n) (sym is)

    pub next_room_refuses : (ltb numbers numbers_wanted || ltb room wanted) ≡ true → refused 14 0 ≡ next_room_check ns rs numbers room
    next_room_refuses t = sym (single_held 14 0 (no_room ns rs numbers room) (no_room_is ∙ t))

    pub next_room_passes : (ltb numbers numbers_wanted || ltb room wanted) ≡ false → Ok tt ≡ next_room_check ns rs numbers room
    next_room_passes t = sym (single_passed 14 0 (no_room ns rs numbers room) (no_room_is ∙ t))

  next_room_enough : next_room_check ns rs numbers room ≡ Ok tt → (room_wanted ns rs ≤ room) × (numbers_wanted ≤ numbers)
  unfolding no_room too_short
  next_room_enough e = by ((fine_exactly (ground_of 14 0 (no_room ns rs numbers room) ∷ [])).0 e)
    where
      by : None (ground_of 14 0 (no_room ns rs numbers room) ∷ []) → (room_wanted ns rs ≤ room) × (numbers_wanted ≤ numbers)
      by (more t n) =
          let few = ltb numbers numbers_wanted in
          let short = ltb room (room_wanted ns rs) in
          let neither = is_false (no_room ns rs numbers room) t in
          (ltb-false room (room_wanted ns rs) (neither_two few short neither), ltb-false numbers numbers_wanted (neither_one few short neither))

---- The checks, as the code comes to them ----

module _ (sets ns rs : List ℕ) (numbers room : ℕ) where
  next_parts : next_check sets ns rs numbers room ≡ or_else_check (table_check sets ns) (or_else_check (records_check Beginning ns rs) (next_room_check ns rs numbers room))
  unfolding next_check
  next_parts = plain_then Beginning sets ns rs (next_room_order ns rs numbers room)

  pub next_table_refuses : {c : Result ⊤ Refusal} {r : Refusal} → c ≡ table_check sets ns → c ≡ Err r → c ≡ next_check sets ns rs numbers room
  next_table_refuses q h = q ∙ or_else_refused _ (sym q ∙ h) ∙ sym next_parts

  module _ (table : table_check sets ns ≡ Ok tt) where
    pub next_records_refuse : {c : Result ⊤ Refusal} {r : Refusal} → c ≡ records_check Beginning ns rs → c ≡ Err r → c ≡ next_check sets ns rs numbers room
    next_records_refuse q h = q ∙ or_else_refused _ (sym q ∙ h) ∙ or_else_fine _ table ∙ sym next_parts

    pub next_room_last : {c : Result ⊤ Refusal} → records_check Beginning ns rs ≡ Ok tt → c ≡ next_room_check ns rs numbers room → c ≡ next_check sets ns rs numbers room
    next_room_last list q = q ∙ or_else_fine _ list ∙ or_else_fine _ table ∙ sym next_parts

  -- with names
  module _ (s : List ℕ) where
    named_next_parts : named_next_check s sets ns rs numbers room ≡ or_else_check (lists_check Beginning s sets ns rs) (next_room_check ns rs numbers room)
    unfolding named_next_check
    named_next_parts = lists_then Beginning s sets ns rs (next_room_order ns rs numbers room)

    pub next_lists_refuse : {c : Result ⊤ Refusal} {r : Refusal} → c ≡ lists_check Beginning s sets ns rs → c ≡ Err r → c ≡ named_next_check s sets ns rs numbers room
    next_lists_refuse q h = q ∙ or_else_refused _ (sym q ∙ h) ∙ sym named_next_parts

    pub named_next_room_last : {c : Result ⊤ Refusal} → lists_check Beginning s sets ns rs ≡ Ok tt → c ≡ next_room_check ns rs numbers room → c ≡ named_next_check s sets ns rs numbers room
    named_next_room_last lists q = q ∙ or_else_fine _ lists ∙ sym named_next_parts

---- Nothing is refused ----

pub next_passed : (sets ns rs : List ℕ) (numbers room : ℕ) → next_check sets ns rs numbers room ≡ Ok tt → Passed Beginning ns rs room × (259 ≤ numbers)
next_passed sets ns rs numbers room e =
    let last = next_room_check ns rs numbers room in
    let a = both_fine (table_check sets ns) (or_else_check (records_check Beginning ns rs) last) (sym (next_parts sets ns rs numbers room) ∙ e) in
    let b = both_fine (records_check Beginning ns rs) last a.1 in
    let enough = next_room_enough ns rs numbers room b.1 in
    (record { table = fine_table ns sets a.0; records = b.0; enough = enough.0 }, enough.1)

module _ (s sets ns rs : List ℕ) (numbers room : ℕ) (e : named_next_check s sets ns rs numbers room ≡ Ok tt) where
  parts : (lists_check Beginning s sets ns rs ≡ Ok tt) × (next_room_check ns rs numbers room ≡ Ok tt)
  parts = both_fine (lists_check Beginning s sets ns rs) (next_room_check ns rs numbers room) (sym (named_next_parts sets ns rs numbers room s) ∙ e)

  pub named_next_lists : ListsPassed Beginning s sets ns rs
  named_next_lists = lists_passed Beginning s sets ns rs parts.0

  pub named_next_passed : Passed Beginning ns rs room × (259 ≤ numbers)
  named_next_passed =
      let enough = next_room_enough ns rs numbers room parts.1 in
      (record { table = fine_table ns sets named_next_lists.table; records = named_next_lists.records; enough = enough.0 }, enough.1)
