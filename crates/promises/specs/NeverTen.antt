-- 02, Three: "10 isn't given here", for `next` and `next_named` (`next_never_ten`, `named_next_never_ten`). A refusal's number is one of the
-- order's grounds (`earliest_among`), or of a names section, which has none of the records'. Theorems only. Assumes nothing.
use Rattle.std.specs.Prelude.{ℕ, List, [], ◌∷◌, ◌≢◌, ◌≡◌, refl, length}
use Rattle.std.proofs.Common.{sym, subst, arith}
use Rattle.flow.specs.declared.Refusal.{Refusal}
use Rattle.flow.specs.Refusals.{Ground, Round, lone, sweep, node_grounds, child_grounds, value_grounds}
use Rattle.flow.specs.Earliest.{First, here, later, Earliest, is_lone, past_lone, in_sweep, past_sweep}
use Rattle.format.specs.declared.Range.{Range}
use Rattle.format.specs.Format.{Entry}
use Rattle.format.specs.Limits.{Bytes}
use Rattle.format.specs.NameFaults.{RangeFault, cut_count, NameFault, in_length, cut_bytes, EntryFault, in_step, in_machine, NamesFault, in_name_count, in_entry, met_again, NamedRefuses, in_section, after_section, in_order}
use Rattle.ahead.specs.declared.answer.Next.{Next}
use Rattle.ahead.specs.Told.{refusal, told, next_order, named_next_order}
use Rattle.ahead.specs.Outcome.{NextOf, NamedNextOf}
use Rattle.promises.specs.Following.{next_refused_when, named_next_refused_when}

---- The numbers of an order ----

module _ (P : ℕ → Type 0) where
  -- every ground has such a number
  abbrev pub EachNumber : List Ground → Type 0
  EachNumber [] = Unit {0}
  EachNumber (g ∷ gs) = P g.refusal.number × EachNumber gs

  abbrev pub EachGiven : List Round → Type 0
  EachGiven [] = Unit {0}
  EachGiven (lone g ∷ order) = P g.refusal.number × EachGiven order
  EachGiven (sweep n f ∷ order) = ((i : ℕ) → EachNumber (f i)) × EachGiven order

  first_among : {r : Refusal} {gs : List Ground} → First r gs → EachNumber gs → P r.number
  first_among (here e t) a = subst (λ (q : Refusal). P q.number) (sym e) a.0
  first_among (later t f) a = first_among f a.1

  pub earliest_among : {r : Refusal} {order : List Round} → Earliest r order → EachGiven order → P r.number
  earliest_among (is_lone e t) a = subst (λ (q : Refusal). P q.number) (sym e) a.0
  earliest_among (past_lone t x) a = earliest_among x a.1
  earliest_among (in_sweep i l b f) a = first_among f (a.0 i)
  earliest_among (past_sweep b x) a = earliest_among x a.1

---- None is 10 ----

abbrev NotTen : ℕ → Type 0
NotTen n = n ≢ 10

next_given : (sets ns rs : List ℕ) (numbers room : ℕ) → EachGiven NotTen (next_order sets ns rs numbers room)
unfolding node_grounds child_grounds value_grounds
next_given sets ns rs numbers room = omega arith

named_next_given : (sets ns rs : List ℕ) (numbers room : ℕ) (es : List Entry) → EachGiven NotTen (named_next_order sets ns rs numbers room es)
unfolding node_grounds child_grounds value_grounds
named_next_given sets ns rs numbers room es = omega arith

-- the names section has 15 to 18
module _ {s : List ℕ} where
  range_not : {g : Range} {size : ℕ} {bytes : ℕ → List ℕ} {at k p : ℕ} → NotTen g.few → NotTen g.many → RangeFault s g size bytes at k p → NotTen k
  range_not low high (cut_count h) = omega arith
  range_not low high (RangeFault.below v h l) = low
  range_not low high (RangeFault.above v h l) = high

  name_not : {g : Range} {at k p : ℕ} → NotTen g.few → NotTen g.many → NameFault s g at k p → NotTen k
  name_not low high (in_length f) = range_not low high f
  name_not low high (cut_bytes l h i o) = omega arith

  entry_not : {at k p : ℕ} → EntryFault s at k p → NotTen k
  entry_not (in_step f) = name_not (omega arith) (omega arith) f
  entry_not (in_machine st i h f) = name_not (omega arith) (omega arith) f

  names_not : {k p : ℕ} → NamesFault s k p → NotTen k
  names_not (in_name_count f) = range_not (omega arith) (omega arith) f
  names_not (in_entry n es at e f) = entry_not f
  names_not (met_again n es at e d g h m) = omega arith

---- `next` and `next_named` ----

pub next_never_ten : (sets : List ℕ) {ns rs : List ℕ} {allowance : ℕ} {list work : List ℕ} {r : Next} {list' after : List ℕ} → NextOf sets ns rs allowance list work r list' after
    → (place : ℕ) → told r ≡ refusal 10 place → ⊥
next_never_ten sets {ns} {rs} {list = list} {work = work} call place e =
    earliest_among NotTen ((next_refused_when sets call 10 place).0 e) (next_given sets ns rs (length list) (length work)) refl

pub named_next_never_ten : (s sets : List ℕ) {ns rs : List ℕ} {allowance : ℕ} {list work : List ℕ} {r : Next} {list' after : List ℕ} → NamedNextOf s sets ns rs allowance list work r list' after
    → Bytes s → (place : ℕ) → told r ≡ refusal 10 place → ⊥
named_next_never_ten s sets {ns} {rs} {list = list} {work = work} call bytes place e = refused ((named_next_refused_when s sets call bytes 10 place).0 e) refl
  where
    refused : {k p : ℕ} → NamedRefuses s (named_next_order sets ns rs (length list) (length work)) k p → NotTen k
    refused (in_section f) = names_not f
    refused (after_section es g h l) = omega arith
    refused (in_order es g d x) = earliest_among NotTen x (named_next_given sets ns rs (length list) (length work) es)
