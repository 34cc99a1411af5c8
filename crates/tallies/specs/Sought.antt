-- What a search for a compensation answers, over terms. Definitions only; the laws are in SeekLaws. Assumes nothing.
use Rattle.std.specs.Prelude.{ℕ, ◌<◌, ◌≡◌, Bool, List}
use Rattle.calculus.specs.Term.{Closing, done, withdrawn, failed, Std}
use Rattle.calculus.specs.Successors.{closings, ends}
use Rattle.tallies.specs.Capped.{cap}
use Rattle.tallies.specs.Counts.{sum_of, moves, weight}
use Rattle.tallies.specs.Places.{Finds}
use Rattle.tallies.specs.declared.Weight.{Weight}

-- among the compensations l, each weighing g, j falls on k, r after its beginning; k has n steps by a, and b says that it can
-- end done
pub record Sought (a : ℕ) (g : Weight) (l : List Std) (j : ℕ) (k : Std) (r n : ℕ) (b : Bool) : Type 0 where
  pub found : Finds (weight a g) l j k r
  pub counted : n ≡ cap (moves a k)
  pub ended : b ≡ ends k done

-- three numbers, one for each closing
abbrev pub by_closing : ℕ → ℕ → ℕ → Closing → ℕ
by_closing x y z done = x
by_closing x y z withdrawn = y
by_closing x y z failed = z

-- the three closings weigh x, y and something more: j falls on w, r after its beginning
pub record Falls (x y j : ℕ) (w : Closing) (r : ℕ) : Type 0 where
  pub falls : (z : ℕ) → j < cap (sum_of (by_closing x y z) closings) → Finds (by_closing x y z) closings j w r
