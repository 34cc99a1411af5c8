-- What the demands are stated with: what the place and the count of a rejection are, what demand 2 says of an answer, when two answers
-- are the same, and what is asked of names. Definitions only: Demands, NamedDemands and Files have the theorems. Assumes nothing.
use Rattle.std.specs.Prelude.{ℕ, ◌≤◌, ◌<◌, not, List, ◌↔◌, ◌≡◌, T, length}
use Rattle.calculus.specs.Records.{Record, State, Follows, Complete, InTraces}
use Rattle.calculus.specs.Search.{visit}
use Rattle.flow.specs.Refusals.{count}
use Rattle.format.specs.Format.{Entry}
use Rattle.format.specs.Contents.{unnamed_leaf}
use Rattle.judge.specs.Told.{VerdictWord, Told, verdict, refusal}

-- 01: "rejected: place = the longest beginning of the records, in records, that some run follows; count"
pub record Rejection (flow : State) (batch : List Record) (place count : ℕ) : Type 0 where
  pub follows : Follows flow batch place
  pub longest : (n : ℕ) → Follows flow batch n → n ≤ place
  pub counted : count ≡ (visit batch flow).entered

-- Demand 2, of what is told of a flow, its records and an allowance: "undecided exactly if the search that document 01 defines enters more
-- states than the caller allowed. If not undecided, it is accepted exactly if its records are a complete run of the flow under the
-- published transition rules, and equally if they are one of its traces under the published trace semantics. Else it is rejected."
pub record Decides (flow : State) (batch : List Record) (allowance : ℕ) (t : Told) : Type 0 where
  pub undecided_exactly : (t.word ≡ VerdictWord.undecided) ↔ (allowance < (visit batch flow).entered)
  pub accepted_exactly : (t.word ≡ VerdictWord.undecided → ⊥) → (t.word ≡ VerdictWord.accepted) ↔ Complete flow batch
  pub accepted_traces : (t.word ≡ VerdictWord.undecided → ⊥) → (t.word ≡ VerdictWord.accepted) ↔ InTraces flow batch
  pub else_rejected : (t.word ≡ VerdictWord.undecided → ⊥) → (Complete flow batch → ⊥) → t.word ≡ VerdictWord.rejected
  -- 01: "undecided: place 0; count = allowance"
  pub undecided_is : t.word ≡ VerdictWord.undecided → t ≡ verdict VerdictWord.undecided 0 allowance
  -- 01: "accepted: place = number of records; count"
  pub accepted_is : t.word ≡ VerdictWord.accepted → t ≡ verdict VerdictWord.accepted (length batch) (visit batch flow).entered
  pub rejected_is : t.word ≡ VerdictWord.rejected → Rejection flow batch t.place t.count

-- both refused, with the same number and place; or both accepted; or both rejected, at the same place; or either undecided
pub data SameAnswer : Told → Told → Type 0 where
  both_refused : {number place : ℕ} → SameAnswer (refusal number place) (refusal number place)
  both_accepted : {place count count' : ℕ} → SameAnswer (verdict VerdictWord.accepted place count) (verdict VerdictWord.accepted place count')
  both_rejected : {place count count' : ℕ} → SameAnswer (verdict VerdictWord.rejected place count) (verdict VerdictWord.rejected place count')
  first_undecided : {place count : ℕ} {t : Told} → SameAnswer (verdict VerdictWord.undecided place count) t
  second_undecided : {place count : ℕ} {t : Told} → SameAnswer t (verdict VerdictWord.undecided place count)

-- 02, Two: "The laws stay for flows whose events all have entries."
abbrev pub EventsNamed : List Entry → List ℕ → Type 0
EventsNamed es ns = (i : ℕ) → i < count ns → T (not (unnamed_leaf (length es) ns i))
