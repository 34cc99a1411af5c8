-- A flow in which each leaf is spelled out by a part that has the leaf's traces: it has the traces of the flow (`spelled_part`,
-- `cspelled_part`; over record lists `spelled_in_traces`), and its complete runs (`spelled_complete`). Assumes nothing.
use Rattle.std.specs.Prelude.{◌↔◌, List}
use Rattle.std.proofs.Math.Logic.Iff
use Rattle.calculus.specs.Term.{Leaf, Std, Cmp, skip, throw, yield, ev, seq, alt, par, hnd, blk, pair, cseq, calt, cpar, held}
use Rattle.calculus.specs.Traces.{Trace, SamePairs, Tr, CTr}
use Rattle.calculus.specs.Records.{Record, State, over, std, cmp, Complete, InTraces}
use Rattle.calculus.specs.Spelled.{spelled, cspelled, spelled_state}
use Rattle.calculus.specs.Leaves.{Each, CEach, EachState, AnySet, SameLeaf}
use Rattle.calculus.proofs.Completes.{complete_traces, std_traces, cmp_traces}
use Rattle.calculus.proofs.SetLaws.{sets_self, then_cong, beside_cong, either_cong, blocked_cong, paired_cong, cthen_cong, ceither_cong, cbeside_cong, holding_cong}

module _ (f : Leaf → Std) where
  mutual
    pub spelled_part : (p : Std) → Each (SameLeaf f) AnySet p → (z : Trace) → Tr p z ↔ Tr (spelled f p) z
    spelled_part skip h z = sets_self (λ x. Tr skip x) z
    spelled_part throw h z = sets_self (λ x. Tr throw x) z
    spelled_part yield h z = sets_self (λ x. Tr yield x) z
    spelled_part (ev l) h z = h z
    spelled_part (seq p q) h z = then_cong (λ x. spelled_part p h.0 x) (λ y. spelled_part q h.1 y) z
    spelled_part (alt p q) h z = either_cong (λ x. spelled_part p h.0 x) (λ y. spelled_part q h.1 y) z
    spelled_part (par j p q) h z = beside_cong (λ x. spelled_part p h.1 x) (λ y. spelled_part q h.2 y) z
    spelled_part (hnd p q) h z = then_cong (λ x. spelled_part p h.0 x) (λ y. spelled_part q h.1 y) z
    spelled_part (blk pp) h z = blocked_cong (cspelled_part pp h) z

    pub cspelled_part : (pp : Cmp) → CEach (SameLeaf f) AnySet pp → SamePairs (CTr pp) (CTr (cspelled f pp))
    cspelled_part (pair p q) h = paired_cong (λ x. spelled_part p h.0 x) (λ y. spelled_part q h.1 y)
    cspelled_part (cseq pp qq) h = cthen_cong (cspelled_part pp h.0) (cspelled_part qq h.1)
    cspelled_part (calt pp qq) h = ceither_cong (cspelled_part pp h.0) (cspelled_part qq h.1)
    cspelled_part (cpar j pp qq) h = cbeside_cong (cspelled_part pp h.1) (cspelled_part qq h.2)
    cspelled_part (held qq r) h = holding_cong (cspelled_part qq h.0) (λ y. spelled_part r h.1 y)

  pub spelled_in_traces : (s : State) → EachState (SameLeaf f) AnySet s → (batch : List Record) → InTraces s batch ↔ InTraces (spelled_state f s) batch
  spelled_in_traces over h batch = Iff.rfl
  spelled_in_traces (std p) h batch = std_traces p (spelled f p) (spelled_part p h) batch
  spelled_in_traces (cmp pp) h batch = cmp_traces pp (cspelled f pp) (cspelled_part pp h) batch

  pub spelled_complete : (s : State) → EachState (SameLeaf f) AnySet s → (batch : List Record) → Complete s batch ↔ Complete (spelled_state f s) batch
  spelled_complete s h batch = Iff.trans (complete_traces s batch) (Iff.trans (spelled_in_traces s h batch) (Iff.symm (complete_traces (spelled_state f s) batch)))
