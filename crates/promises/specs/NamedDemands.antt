-- The three demands for `judge_named`, over what it answers (`told (judged_named ..)`) and leaves in the work bytes (`named_work_after`).
-- 02, Two: "Demand 2 reads such a node as the choice of all those entries, counted as one step. The laws stay for flows whose events all
-- have entries. Judging without a names section is unchanged. Refusals: with a names section, those of One in One's order."
-- The flow is the one that the nodes draw with the entries' leaves and the lent sets (`with_names`, format Matching); what such a leaf
-- means is in Machines. What does not depend on the matching is said once for both entry points (Verdicts). Theorems only. Assumes nothing.
use Rattle.std.specs.Prelude.{ℕ, ◌≤◌, ◌≡◌, refl, List, [], ◌∷◌, ◌↔◌, length, Result, Ok, Err, ⊤}
use Rattle.std.proofs.Common.{sym, ap, ◌∙◌, subst}
use Rattle.std.proofs.Math.Logic.Iff
use Rattle.calculus.specs.Records.{Record, State, Complete, InTraces}
use Rattle.calculus.specs.Laws.{Redrawn}
use Rattle.flow.specs.declared.Refusal.{Refusal}
use Rattle.flow.specs.declared.Extent.TheVariants.{Whole}
use Rattle.flow.specs.Records.{records}
use Rattle.flow.specs.Refusals.{sweep, count, root, wrong_closings, closings_place}
use Rattle.flow.specs.Checks.{first, or_else_check, table_length_check, sets_check, nodes_check, table_check, records_length_check, values_check, closings_check}
use Rattle.flow.specs.FirstRefusal.{both_fine, or_else_fine, table_parts}
use Rattle.flow.specs.Earliest.{none, more, Nowhere, end, not_sweep}
use Rattle.flow.specs.Legends.{set_count}
use Rattle.flow.specs.Draws.{Draws}
use Rattle.flow.specs.Drawn.{flow_by}
use Rattle.flow.specs.FineTable.{fine_table}
use Rattle.format.specs.Format.{Entry, names_section}
use Rattle.format.specs.Limits.{GoodNames, Bytes}
use Rattle.format.specs.Matching.{with_names}
use Rattle.format.specs.Contents.{leaf_grounds}
use Rattle.format.specs.NameFaults.{NamedRefuses, in_section, after_section, in_order}
use Rattle.format.specs.ContentChecks.{leaves_grounds, events_grounds}
use Rattle.format.specs.ContentLaws.{contents_is}
use Rattle.format.specs.Plan.{got}
use Rattle.format.specs.ListChecks.{section_alone, lists_check}
use Rattle.format.specs.ListLaws.{entries_in_is, lists_is}
use Rattle.judge.specs.declared.Answer.{Answer}
use Rattle.judge.specs.Judged.{VerdictWord, told, refusal, room_wanted, named_judge_order, named_judge_check, judged_named, named_flow, cleared, named_work_after, NamedJudged}
use Rattle.judge.specs.Settled.{room_check}
use Rattle.judge.specs.JudgedLaws.{refused_bytes, fine_bytes, named_parts, room_passes}
use Rattle.promises.specs.Stated.{Decides, SameAnswer, EventsNamed}
use Rattle.promises.specs.ExactlyWhen.{nowhere_exactly}
use Rattle.promises.specs.Verdicts.{not_refused_fine, decided_told, told_refused, fine_not_refused, refusal_told, redrawn_answers, redrawn_closings}
use Rattle.promises.specs.Demands.{one_flow_by, redrawn_flow_runs, redrawn_flow_traces}
use Rattle.promises.specs.ListRefusals.{section_found, named_exactly, named_fine}

---- Demand 1 ----
-- "It refuses bad input itself, by the numbers and in the order of document 01. A refusal gives the number and the place and changes no
-- byte it was lent."

module _ (s sets ns rs : List ℕ) where
  module _ (bytes : Bytes s) (room allowance : ℕ) where
    -- a refusal is given exactly when one of its ways holds: of the names section, or the earliest of the order behind it
    pub named_refused_when : (number place : ℕ)
        → (told (judged_named s sets ns rs room allowance) ≡ refusal number place) ↔ NamedRefuses s (named_judge_order sets ns rs room) number place
    unfolding named_judge_check
    named_refused_when number place =
        Iff.trans (refusal_told (named_judge_check s sets ns rs room) (named_flow s sets ns) rs allowance number place)
        (named_exactly s (named_judge_order sets ns rs room) bytes number place)

    -- and nothing is refused exactly of a good names section, with nothing behind it, where no ground of the order holds anywhere
    pub named_judged_when : ((told (judged_named s sets ns rs room allowance)).word ≡ VerdictWord.refused → ⊥)
        ↔ ((es : List Entry) × GoodNames es × (s ≡ names_section es) × Nowhere (named_judge_order sets ns rs room es))
    unfolding named_judge_check
    named_judged_when =
        let f = named_fine s (named_judge_order sets ns rs room) bytes in (
          λ n. f.0 (not_refused_fine (named_judge_check s sets ns rs room) (named_flow s sets ns) rs allowance n),
          λ p. fine_not_refused (named_judge_check s sets ns rs room) (named_flow s sets ns) rs allowance (f.1 p),
        )

  -- "changes no byte"
  pub named_refusal_keeps : (allowance : ℕ) (work : List ℕ) → (told (judged_named s sets ns rs (length work) allowance)).word ≡ VerdictWord.refused
      → named_work_after s sets ns rs work ≡ work
  named_refusal_keeps allowance work w =
      let q = told_refused (named_judge_check s sets ns rs (length work)) (named_flow s sets ns) rs allowance w in refused_bytes (room_wanted ns rs) work q.0 q.1

  -- 01: "After any verdict but a refusal the first 2 × nodes × (records + 1) are zero and the others unchanged."
  pub named_verdict_clears : (allowance : ℕ) (work : List ℕ) → ((told (judged_named s sets ns rs (length work) allowance)).word ≡ VerdictWord.refused → ⊥)
      → named_work_after s sets ns rs work ≡ cleared (room_wanted ns rs) work
  named_verdict_clears allowance work n =
      fine_bytes (room_wanted ns rs) work (not_refused_fine (named_judge_check s sets ns rs (length work)) (named_flow s sets ns) rs allowance n)

---- The flow ----

-- of a good section the flow is the one that its entries draw
module _ (es : List Entry) (good : GoodNames es) where
  pub alone_is : section_alone (names_section es) ≡ got es (length (names_section es))
  alone_is = section_found (names_section es) good refl

  pub named_flow_is : (sets ns : List ℕ) → named_flow (names_section es) sets ns ≡ flow_by (with_names es sets) ns
  named_flow_is sets ns = ap (λ (ds : List Entry). flow_by (with_names ds sets) ns) (entries_in_is (names_section es) alone_is)

-- and the only one
pub named_one_flow : (es : List Entry) (sets ns : List ℕ) → table_check sets ns ≡ Ok tt
    → Draws (with_names es sets) ns (root ns) (flow_by (with_names es sets) ns) × ((s : State) → Draws (with_names es sets) ns (root ns) s → s ≡ flow_by (with_names es sets) ns)
named_one_flow es sets ns e = one_flow_by (with_names es sets) sets ns e

---- Demand 2 ----

module _ (es : List Entry) (good : GoodNames es) (sets ns rs : List ℕ) (room allowance : ℕ)
    (judged_so : (told (judged_named (names_section es) sets ns rs room allowance)).word ≡ VerdictWord.refused → ⊥) where
  -- of the flow that the nodes draw with these entries, and the records
  pub named_decides : Decides (flow_by (with_names es sets) ns) (records rs) allowance (told (judged_named (names_section es) sets ns rs room allowance))
  named_decides =
      subst (λ (flow : State). Decides flow (records rs) allowance (told (judged_named (names_section es) sets ns rs room allowance))) (named_flow_is es good sets ns)
      (decided_told (named_judge_check (names_section es) sets ns rs room) (named_flow (names_section es) sets ns) rs allowance judged_so)

---- Demand 3 ----
-- "Redrawing changes nothing .. both are refused or both get the same verdict by demand 2, unless either is undecided."
-- 02, Two: "The laws stay for flows whose events all have entries." Four: "The laws stay for flows whose set numbers are all present, both
-- judged with the same sets."

pub or_else_last : (a b : Result ⊤ Refusal) → b ≡ Ok tt → or_else_check a b ≡ a
unfolding or_else_check
or_else_last (Ok tt) b e = e
or_else_last (Err r) b e = refl

-- 19 is given nowhere where all events have entries
pub events_pass : (es : List Entry) (ns : List ℕ) → EventsNamed es ns → first (leaves_grounds (length es) ns) ≡ Ok tt
unfolding leaves_grounds
events_pass es ns h = (nowhere_exactly (sweep (count ns) (leaf_grounds (length es) ns) ∷ [])).1 (not_sweep (λ i l. more (h i l) none) end)

module _ (es : List Entry) (good : GoodNames es) (sets ns rs : List ℕ) (room : ℕ) (within : table_check sets ns ≡ Ok tt) (events : EventsNamed es ns) (enough : room_wanted ns rs ≤ room) where
  -- what is refused then depends on the records alone, and on the closings that the root needs
  named_decide : named_judge_check (names_section es) sets ns rs room
      ≡ or_else_check (records_length_check Whole rs) (or_else_check (values_check rs) (or_else_check (closings_check Whole ns rs) (first (events_grounds (length es) rs))))
  named_decide =
      let s = names_section es in
      let t = both_fine (table_length_check ns) (or_else_check (sets_check sets) (nodes_check (set_count sets) ns)) (sym (table_parts sets ns) ∙ within) in
      let u = both_fine (sets_check sets) (nodes_check (set_count sets) ns) t.1 in
      named_parts sets ns rs room s
      ∙ or_else_last (lists_check Whole s sets ns rs) (room_check ns rs room) (room_passes ns rs room enough)
      ∙ lists_is Whole s sets ns rs (alone_is es good)
      ∙ sym (or_else_fine _ t.0)
      ∙ ap (or_else_check (records_length_check Whole rs))
      (sym (or_else_fine _ u.0) ∙ contents_is Whole (length es) (set_count sets) ns rs ∙ sym (or_else_fine _ u.1)
      ∙ ap (λ (c : Result ⊤ Refusal). or_else_check (values_check rs) (or_else_check (closings_check Whole ns rs) c)) (sym (or_else_fine _ (events_pass es ns events))))

module _ (es : List Entry) (good : GoodNames es) (sets ns ns' : List ℕ) (redrawn : Redrawn (flow_by (with_names es sets) ns) (flow_by (with_names es sets) ns'))
    (within : table_check sets ns ≡ Ok tt) (within' : table_check sets ns' ≡ Ok tt) where
  -- over demand 2's runs
  pub named_redrawn_runs : (batch : List Record) → Complete (flow_by (with_names es sets) ns) batch ↔ Complete (flow_by (with_names es sets) ns') batch
  named_redrawn_runs = redrawn_flow_runs redrawn

  pub named_redrawn_traces : (batch : List Record) → InTraces (flow_by (with_names es sets) ns) batch ↔ InTraces (flow_by (with_names es sets) ns') batch
  named_redrawn_traces = redrawn_flow_traces redrawn

  same_closings : (rs : List ℕ) → closings_check Whole ns rs ≡ closings_check Whole ns' rs
  unfolding closings_check wrong_closings closings_place
  same_closings rs = rw (redrawn_closings (with_names es sets) ns ns' (fine_table ns sets within) (fine_table ns' sets within') redrawn)

  module _ (events : EventsNamed es ns) (events' : EventsNamed es ns') where
    -- the same refusal, or the same word and, where both are rejected, the same place
    pub named_redrawn_same : (rs : List ℕ) (room room' allowance allowance' : ℕ) → room_wanted ns rs ≤ room → room_wanted ns' rs ≤ room'
        → SameAnswer (told (judged_named (names_section es) sets ns rs room allowance)) (told (judged_named (names_section es) sets ns' rs room' allowance'))
    named_redrawn_same rs room room' allowance allowance' enough enough' =
        redrawn_answers
        (named_decide es good sets ns rs room within events enough
        ∙ ap (λ (c : Result ⊤ Refusal). or_else_check (records_length_check Whole rs) (or_else_check (values_check rs) (or_else_check c (first (events_grounds (length es) rs))))) (same_closings rs)
        ∙ sym (named_decide es good sets ns' rs room' within' events' enough'))
        (redrawn_as (sym (named_flow_is es good sets ns)) (sym (named_flow_is es good sets ns')) redrawn) rs allowance allowance'
      where
        redrawn_as : {a b c d : State} → a ≡ b → c ≡ d → Redrawn a c → Redrawn b d
        redrawn_as {b} {c} p q r = subst (Redrawn b) q (subst (λ (z : State). Redrawn z c) p r)

-- a names section that is refused by itself, by 15 to 18 or 21, is refused alike whatever is drawn
pub names_refuse_all : {s : List ℕ} {number place : ℕ} → Bytes s → NamedRefuses s (λ es. []) number place → (sets ns rs : List ℕ) (room allowance : ℕ)
    → told (judged_named s sets ns rs room allowance) ≡ refusal number place
names_refuse_all {s} bytes x sets ns rs room allowance = (named_refused_when s sets ns rs bytes room allowance _ _).1 (by x)
  where
    by : {k p : ℕ} → NamedRefuses s (λ es. []) k p → NamedRefuses s (named_judge_order sets ns rs room) k p
    by (in_section f) = in_section f
    by (after_section es g h l) = after_section es g h l
    by (in_order es g e y) = elim y [ ]

---- One outcome ----

pub named_unique : (s sets : List ℕ) {ns rs : List ℕ} {allowance : ℕ} {work : List ℕ} {r r' : Answer} {after after' : List ℕ}
    → NamedJudged s sets ns rs allowance work r after → NamedJudged s sets ns rs allowance work r' after' → (r ≡ r') × (after ≡ after')
named_unique s sets p q = (p.answers ∙ sym q.answers, p.leaves ∙ sym q.leaves)
