-- The choice of several events, each a plain leaf, as a part of the calculus. Definitions only; LeafChoice proves that a leaf that takes
-- several events is such a choice. Assumes nothing.
use Rattle.std.specs.Prelude.{ℕ, List, [], ◌∷◌}
use Rattle.calculus.specs.Term.{Std, leaf, ev, alt}

-- event k or one of the others
abbrev pub choice_of : ℕ → List ℕ → Std
choice_of k [] = ev (leaf k)
choice_of k (j ∷ js) = alt (ev (leaf k)) (choice_of j js)
