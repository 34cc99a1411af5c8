-- The three demands, over what `judge` answers (`told (judged ..)`) and leaves in the work bytes (`work_after`). Each theorem
-- stands under the words that it keeps; `judge` itself ensures the record `Judged` for every input (src/lib.rt).
-- The definitions it is stated with: Stated; of judge Told; of search Room; of the calculus Records, Search and Laws; of flow Refusals,
-- Earliest, Draws. Theorems only. Assumes nothing.
use Rattle.std.specs.Prelude.{ℕ, ◌<◌, ◌≤◌, ◌≡◌, List, ◌↔◌, length, Ok}
use Rattle.std.proofs.Common.{sym, ap, ◌∙◌}
use Rattle.std.proofs.Math.Logic.Iff
use Rattle.std.proofs.lemmas.List.{length-map}
use Rattle.calculus.specs.Records.{Record, State, Complete, InTraces}
use Rattle.calculus.specs.Search.{visit}
use Rattle.calculus.specs.Laws.{Redrawn}
use Rattle.calculus.proofs.Completes.{complete_traces}
use Rattle.calculus.proofs.Redrawn.{redrawn_flip, redrawn_complete}
use Rattle.flow.specs.declared.Extent.TheVariants.{Whole}
use Rattle.flow.specs.Records.{record_of, records}
use Rattle.flow.specs.Refusals.{root}
use Rattle.flow.specs.Checks.{table_check, records_check}
use Rattle.flow.specs.Earliest.{Earliest, Nowhere}
use Rattle.flow.specs.Legends.{Legend, plain}
use Rattle.flow.specs.Draws.{Draws}
use Rattle.flow.specs.Drawn.{flow_by, flow_of}
use Rattle.flow.specs.FineTable.{fine_table}
use Rattle.flow.specs.OneFlow.{flow_drawn, flow_only}
use Rattle.judge.specs.declared.Answer.{Answer}
use Rattle.judge.specs.Judged.{VerdictWord, Told, told, verdict, refusal, room_wanted, judge_order, judge_check, judged, cleared, work_after, Judged}
use Rattle.judge.specs.JudgedLaws.{refused_bytes, fine_bytes}
pub use Rattle.promises.specs.Stated.{Rejection, Decides, SameAnswer}
use Rattle.promises.specs.ExactlyWhen.{given_exactly, passes_exactly}
use Rattle.promises.specs.Verdicts.{not_refused_fine, decided_told, told_refused, fine_not_refused, refusal_told, redrawn_answers, records_decide, redrawn_records}

---- Demand 1 ----
-- "The judge takes every flow, record list and file, damaged ones included, and always ends. It refuses bad input itself, by the
-- numbers and in the order of document 01. A refusal gives the number and the place and changes no byte it was lent."

module _ (sets ns rs : List ℕ) where
  -- a number is given at a place exactly when its condition holds there and, in the order of 01, no earlier one holds at its place
  pub refused_when : (room allowance number place : ℕ)
      → (told (judged sets ns rs room allowance) ≡ refusal number place) ↔ Earliest (record { number = number; place = place }) (judge_order sets ns rs room)
  refused_when room allowance number place =
      Iff.trans (refusal_told (judge_check sets ns rs room) (flow_of sets ns) rs allowance number place) (given_exactly sets ns rs room (record { number = number; place = place }))

  -- and nothing is refused exactly when no condition of the table holds anywhere
  pub judged_when : (room allowance : ℕ) → ((told (judged sets ns rs room allowance)).word ≡ VerdictWord.refused → ⊥) ↔ Nowhere (judge_order sets ns rs room)
  judged_when room allowance = (
    λ n. (passes_exactly sets ns rs room).0 (not_refused_fine (judge_check sets ns rs room) (flow_of sets ns) rs allowance n),
    λ p. fine_not_refused (judge_check sets ns rs room) (flow_of sets ns) rs allowance ((passes_exactly sets ns rs room).1 p),
  )

  -- "changes no byte"
  pub refusal_keeps : (allowance : ℕ) (work : List ℕ) → (told (judged sets ns rs (length work) allowance)).word ≡ VerdictWord.refused → work_after sets ns rs work ≡ work
  refusal_keeps allowance work w =
      let q = told_refused (judge_check sets ns rs (length work)) (flow_of sets ns) rs allowance w in refused_bytes (room_wanted ns rs) work q.0 q.1

  -- 01: "After any verdict but a refusal the first 2 × nodes × (records + 1) are zero and the others unchanged."
  pub verdict_clears : (allowance : ℕ) (work : List ℕ) → ((told (judged sets ns rs (length work) allowance)).word ≡ VerdictWord.refused → ⊥)
      → work_after sets ns rs work ≡ cleared (room_wanted ns rs) work
  verdict_clears allowance work n = fine_bytes (room_wanted ns rs) work (not_refused_fine (judge_check sets ns rs (length work)) (flow_of sets ns) rs allowance n)

-- a table that is not refused means exactly one flow, whatever records its leaves take and whichever events are joint
pub one_flow_by : (legend : Legend) (sets ns : List ℕ) → table_check sets ns ≡ Ok tt
    → Draws legend ns (root ns) (flow_by legend ns) × ((s : State) → Draws legend ns (root ns) s → s ≡ flow_by legend ns)
one_flow_by legend sets ns e = let fine = fine_table ns sets e in (flow_drawn legend ns fine, flow_only legend ns fine)

-- where no names are lent, a node takes its own event, and the sets are those that are lent
pub one_flow : (sets ns : List ℕ) → table_check sets ns ≡ Ok tt → Draws (plain sets) ns (root ns) (flow_of sets ns) × ((s : State) → Draws (plain sets) ns (root ns) s → s ≡ flow_of sets ns)
one_flow sets ns e = one_flow_by (plain sets) sets ns e

---- Demand 2 ----
-- "A batch that isn't refused is undecided exactly if the search that document 01 defines enters more states than the caller
-- allowed. If not undecided, it is accepted exactly if its records are a complete run of the flow under the published transition
-- rules, and equally if they are one of its traces under the published trace semantics. Else it is rejected."

module _ (sets ns rs : List ℕ) (room allowance : ℕ) (judged_so : (told (judged sets ns rs room allowance)).word ≡ VerdictWord.refused → ⊥) where
  abbrev answer : Told
  answer = told (judged sets ns rs room allowance)

  abbrev flow : State
  flow = flow_of sets ns

  abbrev batch : List Record
  batch = records rs

  abbrev entered : ℕ
  entered = (visit batch flow).entered

  -- all of it, in one record (Stated)
  pub judge_decides : Decides flow batch allowance answer
  judge_decides = decided_told (judge_check sets ns rs room) flow rs allowance judged_so

  pub undecided_exactly : (answer.word ≡ VerdictWord.undecided) ↔ (allowance < entered)
  undecided_exactly = judge_decides.undecided_exactly

  -- 01: "undecided: place 0; count = allowance"
  pub undecided_is : answer.word ≡ VerdictWord.undecided → answer ≡ verdict VerdictWord.undecided 0 allowance
  undecided_is = judge_decides.undecided_is

  module _ (decided_so : answer.word ≡ VerdictWord.undecided → ⊥) where
    -- "accepted exactly if its records are a complete run of the flow under the published transition rules"
    pub accepted_exactly : (answer.word ≡ VerdictWord.accepted) ↔ Complete flow batch
    accepted_exactly = judge_decides.accepted_exactly decided_so

    -- "and equally if they are one of its traces under the published trace semantics"
    pub accepted_traces : (answer.word ≡ VerdictWord.accepted) ↔ InTraces flow batch
    accepted_traces = judge_decides.accepted_traces decided_so

    -- "Else it is rejected."
    pub else_rejected : (Complete flow batch → ⊥) → answer.word ≡ VerdictWord.rejected
    else_rejected = judge_decides.else_rejected decided_so

  -- 01: "accepted: place = number of records; count"
  pub accepted_is : answer.word ≡ VerdictWord.accepted → answer ≡ verdict VerdictWord.accepted (length rs) entered
  accepted_is w = judge_decides.accepted_is w ∙ ap (λ (n : ℕ). verdict VerdictWord.accepted n entered) (length-map rs record_of)

  -- 01: "rejected: place = the longest beginning of the records, in records, that some run follows; count"
  pub rejected_is : answer.word ≡ VerdictWord.rejected → Rejection flow batch answer.place answer.count
  rejected_is = judge_decides.rejected_is

---- Demand 3 ----
-- "Redrawing changes nothing. If one flow becomes another by any number of exchanges from document 01's list of laws, at any
-- depth, and both are within the limits, then for every record list, with room enough lent to each, both are refused or both get
-- the same verdict by demand 2, unless either is undecided. Place and count may differ."
-- 02, Four: "The laws stay for flows whose set numbers are all present, both judged with the same sets."

-- over demand 2's runs: the complete runs of the one are those of the other, and so are the traces
module _ {flow flow' : State} (redrawn : Redrawn flow flow') where
  pub redrawn_flow_runs : (batch : List Record) → Complete flow batch ↔ Complete flow' batch
  redrawn_flow_runs batch = (redrawn_complete redrawn batch, redrawn_complete (redrawn_flip redrawn) batch)

  pub redrawn_flow_traces : (batch : List Record) → InTraces flow batch ↔ InTraces flow' batch
  redrawn_flow_traces batch =
      Iff.trans (Iff.symm (complete_traces flow batch)) (Iff.trans (redrawn_flow_runs batch) (complete_traces flow' batch))

module _ (sets ns ns' : List ℕ) (redrawn : Redrawn (flow_of sets ns) (flow_of sets ns')) (within : table_check sets ns ≡ Ok tt) (within' : table_check sets ns' ≡ Ok tt) where
  -- of tables
  pub redrawn_runs : (batch : List Record) → Complete (flow_of sets ns) batch ↔ Complete (flow_of sets ns') batch
  redrawn_runs = redrawn_flow_runs redrawn

  pub redrawn_traces : (batch : List Record) → InTraces (flow_of sets ns) batch ↔ InTraces (flow_of sets ns') batch
  redrawn_traces = redrawn_flow_traces redrawn

  -- hence the verdicts: both accepted or neither, where both are decided
  pub redrawn_accepted : (rs : List ℕ) (room room' allowance allowance' : ℕ)
      (judged_so : (told (judged sets ns rs room allowance)).word ≡ VerdictWord.refused → ⊥) (judged_so' : (told (judged sets ns' rs room' allowance')).word ≡ VerdictWord.refused → ⊥)
      → ((told (judged sets ns rs room allowance)).word ≡ VerdictWord.undecided → ⊥) → ((told (judged sets ns' rs room' allowance')).word ≡ VerdictWord.undecided → ⊥)
      → ((told (judged sets ns rs room allowance)).word ≡ VerdictWord.accepted) ↔ ((told (judged sets ns' rs room' allowance')).word ≡ VerdictWord.accepted)
  redrawn_accepted rs room room' allowance allowance' j j' d d' =
      Iff.trans (accepted_exactly sets ns rs room allowance j d) (Iff.trans (redrawn_runs (records rs)) (Iff.symm (accepted_exactly sets ns' rs room' allowance' j' d')))

  -- and in all: the same refusal, or the same word and, where both are rejected, the same place
  pub redrawn_same : (rs : List ℕ) (room room' allowance allowance' : ℕ) → room_wanted ns rs ≤ room → room_wanted ns' rs ≤ room'
      → SameAnswer (told (judged sets ns rs room allowance)) (told (judged sets ns' rs room' allowance'))
  redrawn_same rs room room' allowance allowance' enough enough' = redrawn_answers (one ∙ sym two) redrawn rs allowance allowance'
    where
      one : judge_check sets ns rs room ≡ records_check Whole ns rs
      one = records_decide sets ns rs room within enough

      two : judge_check sets ns' rs room' ≡ records_check Whole ns rs
      two = records_decide sets ns' rs room' within' enough' ∙ sym (redrawn_records (plain sets) ns ns' (fine_table ns sets within) (fine_table ns' sets within') redrawn Whole rs)

---- One outcome ----
-- 01: "For each public function and every input, refused ones too, the contract leaves one possible outcome: the result and each
-- lent byte. That uniqueness is itself a proved fact."

pub judge_unique : (sets : List ℕ) {ns rs : List ℕ} {allowance : ℕ} {work : List ℕ} {r r' : Answer} {after after' : List ℕ}
    → Judged sets ns rs allowance work r after → Judged sets ns rs allowance work r' after' → (r ≡ r') × (after ≡ after')
judge_unique sets p q = (p.answers ∙ sym q.answers, p.leaves ∙ sym q.leaves)
