-- A leaf that takes several events means the choice of the plain leaves of these events: it has the traces and the runs of the choice
-- (`leaf_traces`, `leaf_runs`). But it is one leaf, and not a choice, to the search that is counted: a record that it takes is one step
-- and not a step for each event that would take it (`leaf_once`). Assumes nothing.
use Rattle.std.specs.Prelude.{ℕ, ◌≤◌, ◌≡◌, ◌↔◌, Bool, true, false, T, eqb, length}
use Rattle.std.proofs.Common.{subst, inl, inr, arith, eqb→eq}
use mathlib.Core.List.Memᴰ
use mathlib.Core.List.{List, [], ◌∷◌, Memᴰ}
use Rattle.std.proofs.Math.Dec.{eqb_refl}
use Rattle.calculus.specs.Term.{Closing, done, Leaf, leaf, skip, ev}
use Rattle.calculus.specs.Rules.{Run}
use Rattle.calculus.specs.Traces.{Trace, tr, Tr}
use Rattle.calculus.specs.Successors.{only, steps}
use Rattle.calculus.specs.Choices.{choice_of}
use Rattle.calculus.proofs.RunsAreTraces.{runs_are_traces}

-- the trace of one event of the list
abbrev OneOf : List ℕ → Trace → Type 0
OneOf ks z = (a : ℕ) × Memᴰ a ks × (z ≡ tr (a ∷ []) done)

leaf_one : (k : ℕ) (ks : List ℕ) (z : Trace) → Tr (ev (leaf k)) z → OneOf (k ∷ ks) z
leaf_one k ks z t = (t.0, Memᴰ.head (eqb→eq t.0 k t.1), t.2)

choice_one : (k : ℕ) (ks : List ℕ) (z : Trace) → Tr (choice_of k ks) z → OneOf (k ∷ ks) z
choice_one k [] z t = leaf_one k [] z t
choice_one k (j ∷ js) z (inl t) = leaf_one k (j ∷ js) z t
choice_one k (j ∷ js) z (inr t) = let h = choice_one j js z t in (h.0, Memᴰ.tail h.1, h.2)

one_leaf : (k a : ℕ) (z : Trace) → a ≡ k → z ≡ tr (a ∷ []) done → Tr (ev (leaf k)) z
one_leaf k a z e h = (a, subst (λ x. T (eqb a x)) e (eqb_refl a), h)

one_choice : (k : ℕ) (ks : List ℕ) (a : ℕ) (z : Trace) → Memᴰ a (k ∷ ks) → z ≡ tr (a ∷ []) done → Tr (choice_of k ks) z
one_choice k [] a z (Memᴰ.head e) h = one_leaf k a z e h
one_choice k [] a z (Memᴰ.tail m) h = absurd (Memᴰ.not-nil m)
one_choice k (j ∷ js) a z (Memᴰ.head e) h = inl (one_leaf k a z e h)
one_choice k (j ∷ js) a z (Memᴰ.tail m) h = inr (one_choice j js a z m h)

module _ (l : Leaf) (k : ℕ) (ks : List ℕ) (takes : (a : ℕ) → T (l.takes a) ↔ Memᴰ a (k ∷ ks)) where
  pub leaf_traces : (z : Trace) → Tr (ev l) z ↔ Tr (choice_of k ks) z
  leaf_traces z = (
    λ t. one_choice k ks t.0 z ((takes t.0).0 t.1) t.2,
    λ t. let h = choice_one k ks z t in (h.0, (takes h.0).1 h.1, h.2),
  )

  pub leaf_runs : (s : List ℕ) (w : Closing) → Run (ev l) s w ↔ Run (choice_of k ks) s w
  leaf_runs s w = (
    λ r. (runs_are_traces (choice_of k ks) s w).1 ((leaf_traces (tr s w)).0 ((runs_are_traces (ev l) s w).0 r)),
    λ r. (runs_are_traces (ev l) s w).1 ((leaf_traces (tr s w)).1 ((runs_are_traces (choice_of k ks) s w).0 r)),
  )

-- counted as one step
pub leaf_once : (l : Leaf) (a : ℕ) → length (steps (ev l) a) ≤ 1
unfolding steps only
leaf_once l a = by (l.takes a)
  where
    by : (b : Bool) → length (only b (skip ∷ [])) ≤ 1
    by true = omega arith
    by false = omega arith
