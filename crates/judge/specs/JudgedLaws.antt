-- What ties the code of `judge` and `judge_named` to their outcome: what is answered and left by what the check says, and the checks as
-- the code comes to them, one after the other. That the search by cues is the search that is meant is in ByCues. Assumes nothing.
use Rattle.std.specs.Prelude.{ℕ, ◌<◌, ◌≤◌, ◌≡◌, List, [], ◌∷◌, ◌++◌, length, Result, Ok, Err, ⊤}
use Rattle.std.proofs.Math.Path.{sym, ap}
use Rattle.std.proofs.Common.{◌∙◌, arith}
use borrow.Author.Tests.{ltb-false, lt-ltb, le-ltb}
use Rattle.calculus.specs.Records.{State}
use Rattle.calculus.specs.Search as search
use Rattle.flow.specs.declared.Refusal.{Refusal}
use Rattle.flow.specs.declared.Extent.{Extent}
use Rattle.flow.specs.declared.Extent.TheVariants.{Whole}
use Rattle.flow.specs.Tests.{is_false}
use Rattle.flow.specs.Records.{records}
use Rattle.flow.specs.Refusals.{ground_of, Round, table_order, records_order}
use Rattle.flow.specs.Checks.{refused, first, grounds, or_else_check, table_check, records_check}
use Rattle.flow.specs.FirstRefusal.{None, more, fine_exactly, orders_append, both_fine, or_else_refused, or_else_fine, single_held, single_passed}
use Rattle.flow.specs.FineTable.{FineTable, fine_table}
use Rattle.flow.specs.RecordsFit.{fine_records}
use Rattle.format.specs.ListChecks.{lists_check}
use Rattle.format.specs.ListLaws.{ListsPassed, lists_passed, lists_then}
use Rattle.judge.specs.declared.Answer.{Answer}
use Rattle.judge.specs.declared.Answer.TheVariants.{Refused}
use Rattle.judge.specs.Judged.{room_wanted, too_short, room_order, judge_check, named_judge_check, answer_of, unless_refused, judged_by, cleared, bytes_by, JudgedBy}
use Rattle.judge.specs.Settled.{room_check}

---- The outcome, by what the check says ----

module _ {c : Result ⊤ Refusal} (flow : State) (rs : List ℕ) (allowance : ℕ) where
  pub fine_is : c ≡ Ok tt → judged_by c flow rs allowance ≡ answer_of (search.judge flow (records rs) allowance)
  unfolding judged_by unless_refused
  fine_is e = ap (λ (x : Result ⊤ Refusal). judged_by x flow rs allowance) e

  pub refused_is : (r : Refusal) → c ≡ Err r → judged_by c flow rs allowance ≡ Refused r
  unfolding judged_by unless_refused
  refused_is r e = ap (λ (x : Result ⊤ Refusal). judged_by x flow rs allowance) e

module _ {c : Result ⊤ Refusal} (room : ℕ) (work : List ℕ) where
  pub fine_bytes : c ≡ Ok tt → bytes_by c room work ≡ cleared room work
  unfolding bytes_by unless_refused
  fine_bytes e = ap (λ (x : Result ⊤ Refusal). bytes_by x room work) e

  pub refused_bytes : (r : Refusal) → c ≡ Err r → bytes_by c room work ≡ work
  unfolding bytes_by unless_refused
  refused_bytes r e = ap (λ (x : Result ⊤ Refusal). bytes_by x room work) e

-- what the entry points come to
module _ {c : Result ⊤ Refusal} (flow : State) (ns rs : List ℕ) (allowance : ℕ) (work : List ℕ) where
  pub judge_refuses : (r : Refusal) → c ≡ Err r → JudgedBy c flow ns rs allowance work (Refused r) work
  judge_refuses r e = record { answers = sym (refused_is flow rs allowance r e); leaves = sym (refused_bytes (room_wanted ns rs) work r e) }

  pub judge_searches : {r : Answer} {after : List ℕ} → c ≡ Ok tt → r ≡ answer_of (search.judge flow (records rs) allowance) → after ≡ cleared (room_wanted ns rs) work
      → JudgedBy c flow ns rs allowance work r after
  judge_searches e a b = record { answers = a ∙ sym (fine_is flow rs allowance e); leaves = b ∙ sym (fine_bytes (room_wanted ns rs) work e) }

---- The checks, as the code comes to them ----

-- rounds behind those of nodes and records, of any extent
pub plain_then : (extent : Extent) (sets ns rs : List ℕ) (order : List Round)
    → first (grounds (table_order sets ns ++ (records_order extent ns rs ++ order))) ≡ or_else_check (table_check sets ns) (or_else_check (records_check extent ns rs) (first (grounds order)))
unfolding table_check records_check
plain_then extent sets ns rs order =
    orders_append (table_order sets ns) (records_order extent ns rs ++ order)
    ∙ ap (or_else_check (table_check sets ns)) (orders_append (records_order extent ns rs) order)

module _ (ns rs : List ℕ) (room : ℕ) where
  -- 14
  pub room_refuses : room < room_wanted ns rs → refused 14 0 ≡ room_check ns rs room
  unfolding too_short
  room_refuses h = sym (single_held 14 0 (too_short ns rs room) (lt-ltb room (room_wanted ns rs) h))

  pub room_passes : room_wanted ns rs ≤ room → room_check ns rs room ≡ Ok tt
  unfolding too_short
  room_passes h = single_passed 14 0 (too_short ns rs room) (le-ltb room (room_wanted ns rs) h)

  pub room_enough : room_check ns rs room ≡ Ok tt → room_wanted ns rs ≤ room
  unfolding too_short
  room_enough e = by ((fine_exactly (ground_of 14 0 (too_short ns rs room) ∷ [])).0 e)
    where
      by : None (ground_of 14 0 (too_short ns rs room) ∷ []) → room_wanted ns rs ≤ room
      by (more t n) = ltb-false room (room_wanted ns rs) (is_false (too_short ns rs room) t)

module _ (sets ns rs : List ℕ) (room : ℕ) where
  pub check_parts : judge_check sets ns rs room ≡ or_else_check (table_check sets ns) (or_else_check (records_check Whole ns rs) (room_check ns rs room))
  unfolding judge_check
  check_parts = plain_then Whole sets ns rs (room_order ns rs room)

  pub table_refuses : {c : Result ⊤ Refusal} {r : Refusal} → c ≡ table_check sets ns → c ≡ Err r → c ≡ judge_check sets ns rs room
  table_refuses q h = q ∙ or_else_refused _ (sym q ∙ h) ∙ sym check_parts

  module _ (table : table_check sets ns ≡ Ok tt) where
    pub records_refuse : {c : Result ⊤ Refusal} {r : Refusal} → c ≡ records_check Whole ns rs → c ≡ Err r → c ≡ judge_check sets ns rs room
    records_refuse q h = q ∙ or_else_refused _ (sym q ∙ h) ∙ or_else_fine _ table ∙ sym check_parts

    pub room_last : {c : Result ⊤ Refusal} → records_check Whole ns rs ≡ Ok tt → c ≡ room_check ns rs room → c ≡ judge_check sets ns rs room
    room_last list q = q ∙ or_else_fine _ list ∙ or_else_fine _ table ∙ sym check_parts

  -- with names
  module _ (s : List ℕ) where
    pub named_parts : named_judge_check s sets ns rs room ≡ or_else_check (lists_check Whole s sets ns rs) (room_check ns rs room)
    unfolding named_judge_check
    named_parts = lists_then Whole s sets ns rs (room_order ns rs room)

    pub lists_refuse : {c : Result ⊤ Refusal} {r : Refusal} → c ≡ lists_check Whole s sets ns rs → c ≡ Err r → c ≡ named_judge_check s sets ns rs room
    lists_refuse q h = q ∙ or_else_refused _ (sym q ∙ h) ∙ sym named_parts

    pub named_room_last : {c : Result ⊤ Refusal} → lists_check Whole s sets ns rs ≡ Ok tt → c ≡ room_check ns rs room → c ≡ named_judge_check s sets ns rs room
    named_room_last lists q = q ∙ or_else_fine _ lists ∙ sym named_parts

-- how long lists are that pass
pub table_few : (ns : List ℕ) → FineTable ns → length ns ≤ 192
table_few ns fine = omega (arith, fine.few, fine.whole)

pub table_some : (ns : List ℕ) → FineTable ns → 3 ≤ length ns
table_some ns fine = omega (arith, fine.some)

pub records_few : (extent : Extent) (ns rs : List ℕ) → records_check extent ns rs ≡ Ok tt → length rs ≤ 256
records_few extent ns rs e = (fine_records extent ns rs e).few

---- Nothing is refused ----

-- a table, records and room that pass
pub record Passed (extent : Extent) (ns rs : List ℕ) (room : ℕ) : Type 0 where
  pub table : FineTable ns
  pub records : records_check extent ns rs ≡ Ok tt
  pub enough : room_wanted ns rs ≤ room

module _ (sets ns rs : List ℕ) (room : ℕ) where
  pub judge_passed : judge_check sets ns rs room ≡ Ok tt → Passed Whole ns rs room
  judge_passed e =
      let a = both_fine (table_check sets ns) (or_else_check (records_check Whole ns rs) (room_check ns rs room)) (sym (check_parts sets ns rs room) ∙ e) in
      let b = both_fine (records_check Whole ns rs) (room_check ns rs room) a.1 in
      record { table = fine_table ns sets a.0; records = b.0; enough = room_enough ns rs room b.1 }

  module _ (s : List ℕ) (e : named_judge_check s sets ns rs room ≡ Ok tt) where
    parts : (lists_check Whole s sets ns rs ≡ Ok tt) × (room_check ns rs room ≡ Ok tt)
    parts = both_fine (lists_check Whole s sets ns rs) (room_check ns rs room) (sym (named_parts sets ns rs room s) ∙ e)

    pub named_lists : ListsPassed Whole s sets ns rs
    named_lists = lists_passed Whole s sets ns rs parts.0

    pub named_passed : Passed Whole ns rs room
    named_passed = record { table = fine_table ns sets named_lists.table; records = named_lists.records; enough = room_enough ns rs room parts.1 }
