-- What holds of the leaf of each event node of a table that is not refused, and of each set of its legend, holds of each leaf and set of
-- its flow (`flow_each`).
-- Assumes nothing.
use Rattle.std.specs.Prelude.{ℕ, ◌<◌, ◌≡◌, List, T}
use Rattle.calculus.specs.Term.{Leaf, Joint, Std, Cmp}
use Rattle.calculus.specs.Records.{State}
use Rattle.calculus.specs.Leaves.{Each, CEach, EachState}
use Rattle.flow.specs.declared.Simple.{Simple}
use Rattle.flow.specs.declared.Simple.TheVariants.{Skip, Throw, Yield}
use Rattle.flow.specs.declared.Operator.{Operator}
use Rattle.flow.specs.declared.Operator.TheVariants.{Sequence, Choice, Parallel}
use Rattle.flow.specs.declared.Node.{Node}
use Rattle.flow.specs.declared.Node.TheVariants.{Event}
use Rattle.flow.specs.Kinds.{form, node, set_of, basic, paired, standard, compensable}
use Rattle.flow.specs.Refusals.{count}
use Rattle.flow.specs.Legends.{Legend}
use Rattle.flow.specs.Draws.{Draws, at_event, at_basic, at_standard, at_handler, at_block, at_pair, at_compensable, at_paired}
use Rattle.flow.specs.Drawn.{flow_by}
use Rattle.flow.specs.FineTable.{FineTable, node_within}
use Rattle.flow.specs.EventLeaves.{event_leaf}
use Rattle.flow.specs.OneFlow.{flow_drawn}

module _ (Q : Leaf → Type 0) (J : Joint → Type 0) where
  basic_each : (b : Simple) → Each Q J (basic b)
  basic_each Skip = tt
  basic_each Throw = tt
  basic_each Yield = tt

  paired_each : (b : Simple) → CEach Q J (paired b)
  paired_each Skip = (tt, tt)
  paired_each Throw = (tt, tt)
  paired_each Yield = (tt, tt)

  module _ (sets : ℕ → Joint) (all : (k : ℕ) → J (set_of sets k)) where
    standard_each : (o : Operator) (p q : Std) → Each Q J p → Each Q J q → Each Q J (standard sets o p q)
    standard_each Sequence p q h k = (h, k)
    standard_each Choice p q h k = (h, k)
    standard_each (Parallel s) p q h k = (all s, h, k)

    compensable_each : (o : Operator) (pp qq : Cmp) → CEach Q J pp → CEach Q J qq → CEach Q J (compensable sets o pp qq)
    compensable_each Sequence pp qq h k = (h, k)
    compensable_each Choice pp qq h k = (h, k)
    compensable_each (Parallel s) pp qq h k = (all s, h, k)

module _ (Q : Leaf → Type 0) (J : Joint → Type 0) (legend : Legend) (ns : List ℕ) (fine : FineTable ns)
    (each : (i e : ℕ) → i < count ns → node ns i ≡ Event e → Q (legend.leaves e)) (all : (k : ℕ) → J (set_of legend.sets k)) where
  event_node : (i e : ℕ) → node ns i ≡ Event e → Q (legend.leaves e)
  event_node i e n = each i e (node_within ns fine (λ (m : Node). T (form m).event) (λ t. t) i (event_leaf ns i n)) n

  drawn_each : {i : ℕ} {s : State} → Draws legend ns i s → EachState Q J s
  drawn_each (at_event {i} {e} n) = event_node i e n
  drawn_each (at_basic {b} n) = basic_each Q J b
  drawn_each (at_standard {o} {p} {q} n d d') = standard_each Q J legend.sets all o p q (drawn_each d) (drawn_each d')
  drawn_each (at_handler n d d') = (drawn_each d, drawn_each d')
  drawn_each (at_block n d) = drawn_each d
  drawn_each (at_pair n d d') = (drawn_each d, drawn_each d')
  drawn_each (at_compensable {o} {pp} {qq} n d d') = compensable_each Q J legend.sets all o pp qq (drawn_each d) (drawn_each d')
  drawn_each (at_paired {b} n) = paired_each Q J b

  pub flow_each : EachState Q J (flow_by legend ns)
  flow_each = drawn_each (flow_drawn legend ns fine)
