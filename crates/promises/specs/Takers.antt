-- 02, Two: which entries a node without a machine stands for, as the list of their numbers, and a flow in which each leaf is the choice of
-- them. Definitions only; Machines proves that the node means the choice of them, and SpelledFlows that the flow means the flow of choices.
-- Assumes nothing.
use Rattle.std.specs.Prelude.{ℕ, zero, suc, List, [], ◌∷◌, ◌++◌, length}
use Rattle.calculus.specs.Term.{Leaf, Std}
use Rattle.calculus.specs.Records.{State}
use Rattle.calculus.specs.Successors.{only}
use Rattle.calculus.specs.Choices.{choice_of}
use Rattle.calculus.specs.Spelled.{spelled_state}
use Rattle.format.specs.Format.{Entry}
use Rattle.format.specs.Matching.{matches}

-- of the entries 1 to m, the numbers of those whose records a node of event n takes
unfoldable pub matched_to : List Entry → ℕ → ℕ → List ℕ
unfolding only matches
matched_to es n zero = []
matched_to es n (suc m) = matched_to es n m ++ only (matches es n (suc m)) (suc m ∷ [])

-- "all those entries"
abbrev pub matched : List Entry → ℕ → List ℕ
matched es n = matched_to es n (length es)

-- "the choice of all those entries", for the event that a leaf names
abbrev pub taken_choice : List Entry → Leaf → Std
taken_choice es l = choice_of l.names (matched es l.names)

-- a flow with that choice in the place of each leaf
abbrev pub spelled_out : List Entry → State → State
spelled_out es s = spelled_state (taken_choice es) s
