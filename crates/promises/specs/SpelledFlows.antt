-- 02, Two: "Demand 2 reads such a node as the choice of all those entries", of whole flows. A flow that is drawn with names has exactly the
-- traces (`spelled_traces`) and exactly the complete runs (`spelled_runs`) of the flow in which each leaf is the choice of the entries that
-- it takes. So records that are judged are accepted exactly if they are a complete run, and equally if they are a trace, of the flow of
-- choices (`spelled_accepted`, `spelled_accepted_traces`). Of a single leaf Machines has this. Assumes nothing.
use Rattle.std.specs.Prelude.{ℕ, ◌<◌, ◌≡◌, Bool, not, List, ◌↔◌, T, length, Ok}
use Rattle.std.proofs.Common.{sym, ap, ◌∙◌, subst}
use Rattle.std.proofs.Math.Logic.Iff
use Rattle.calculus.specs.Records.{Record, Complete, InTraces}
use Rattle.calculus.specs.Leaves.{EachState, AnySet, SameLeaf}
use Rattle.calculus.proofs.SpelledTraces.{spelled_in_traces, spelled_complete}
use Rattle.flow.specs.declared.Extent.TheVariants.{Whole}
use Rattle.flow.specs.declared.Node.TheVariants.{Event}
use Rattle.flow.specs.Tests.{is_false}
use Rattle.flow.specs.Kinds.{node}
use Rattle.flow.specs.Records.{records}
use Rattle.flow.specs.Refusals.{count}
use Rattle.flow.specs.Checks.{table_check}
use Rattle.flow.specs.Drawn.{flow_by}
use Rattle.flow.specs.FineTable.{fine_table}
use Rattle.flow.specs.DrawnLeaves.{flow_each}
use Rattle.format.specs.Format.{Entry, names_section}
use Rattle.format.specs.Limits.{GoodNames}
use Rattle.format.specs.Matching.{named, with_names}
use Rattle.format.specs.Contents.{unnamed_leaf}
use Rattle.format.specs.ContentLaws.{leaf_named}
use Rattle.format.specs.ListLaws.{ListsPassed, entries_in_is}
use Rattle.judge.specs.Judged.{VerdictWord, told, named_judge_check, named_flow, judged_named}
use Rattle.judge.specs.JudgedLaws.{named_lists}
use Rattle.promises.specs.Stated.{EventsNamed}
use Rattle.promises.specs.Takers.{taken_choice, spelled_out}
use Rattle.promises.specs.Machines.{named_leaf_traces}
use Rattle.promises.specs.Verdicts.{not_refused_fine}
use Rattle.promises.specs.NamedDemands.{alone_is, named_decides}

module _ (es : List Entry) (good : GoodNames es) (sets ns : List ℕ) (passed : table_check sets ns ≡ Ok tt) (events : EventsNamed es ns) where
  event_spelled : (i e : ℕ) → i < count ns → node ns i ≡ Event e → SameLeaf (taken_choice es) (named es e)
  event_spelled i e w n =
      let q = leaf_named (length es) ns (fine_table ns sets passed) i e w n (is_false (unnamed_leaf (length es) ns i) (events i w)) in
      named_leaf_traces es good e q.0 q.1

  leaves_spelled : EachState (SameLeaf (taken_choice es)) AnySet (flow_by (with_names es sets) ns)
  leaves_spelled = flow_each (SameLeaf (taken_choice es)) AnySet (with_names es sets) ns (fine_table ns sets passed) event_spelled (λ k. tt)

  pub spelled_traces : (batch : List Record) → InTraces (flow_by (with_names es sets) ns) batch ↔ InTraces (spelled_out es (flow_by (with_names es sets) ns)) batch
  spelled_traces = spelled_in_traces (taken_choice es) (flow_by (with_names es sets) ns) leaves_spelled

  pub spelled_runs : (batch : List Record) → Complete (flow_by (with_names es sets) ns) batch ↔ Complete (spelled_out es (flow_by (with_names es sets) ns)) batch
  spelled_runs = spelled_complete (taken_choice es) (flow_by (with_names es sets) ns) leaves_spelled

---- Demand 2 ----

module _ (es : List Entry) (good : GoodNames es) (sets ns rs : List ℕ) (room allowance : ℕ)
    (judged_so : (told (judged_named (names_section es) sets ns rs room allowance)).word ≡ VerdictWord.refused → ⊥)
    (decided : (told (judged_named (names_section es) sets ns rs room allowance)).word ≡ VerdictWord.undecided → ⊥) where
  lists : ListsPassed Whole (names_section es) sets ns rs
  lists = named_lists sets ns rs room (names_section es) (not_refused_fine (named_judge_check (names_section es) sets ns rs room) (named_flow (names_section es) sets ns) rs allowance judged_so)

  -- what is judged has an entry for each event
  events : EventsNamed es ns
  events i w =
      let e = ap (λ (ds : List Entry). unnamed_leaf (length ds) ns i) (sym (entries_in_is (names_section es) (alone_is es good))) in
      subst (λ (b : Bool). T (not b)) (sym (e ∙ lists.contents.leaves i w)) tt

  pub spelled_accepted : ((told (judged_named (names_section es) sets ns rs room allowance)).word ≡ VerdictWord.accepted) ↔ Complete (spelled_out es (flow_by (with_names es sets) ns)) (records rs)
  spelled_accepted = Iff.trans ((named_decides es good sets ns rs room allowance judged_so).accepted_exactly decided) (spelled_runs es good sets ns lists.table events (records rs))

  pub spelled_accepted_traces : ((told (judged_named (names_section es) sets ns rs room allowance)).word ≡ VerdictWord.accepted) ↔ InTraces (spelled_out es (flow_by (with_names es sets) ns)) (records rs)
  spelled_accepted_traces = Iff.trans ((named_decides es good sets ns rs room allowance judged_so).accepted_traces decided) (spelled_traces es good sets ns lists.table events (records rs))
