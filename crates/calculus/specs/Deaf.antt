-- Flows that do not hear an event: no leaf takes it. A reader need not believe this file: DeafLaws proves that the event can then follow
-- no beginning. Definitions only. Assumes nothing.
use Rattle.std.specs.Prelude.{ℕ, ◌≡◌, false}
use Rattle.calculus.specs.Term.{Leaf}
use Rattle.calculus.specs.Records.{State}
use Rattle.calculus.specs.Leaves.{EachState, AnySet}

-- the leaf does not take the event a
abbrev pub DeafLeaf : ℕ → Leaf → Type 0
DeafLeaf a l = l.takes a ≡ false

-- nor does any leaf of what is left
abbrev pub Deaf : ℕ → State → Type 0
Deaf a s = EachState (DeafLeaf a) AnySet s
