-- Views, tallies and words of terms: the counts themselves, that the formulas of Formulas give from part to whole (CountsLaws).
-- Throughout, a is the event of the next record. Definitions only. Assumes nothing.
use Rattle.std.specs.Prelude.{ℕ, ◌+◌, ◌*◌, Bool, cond, List, [], ◌∷◌, length}
use Rattle.calculus.specs.Term.{done, withdrawn, failed, Std, Cmp}
use Rattle.calculus.specs.Successors.{some_of, ends, steps, comps, csteps}
use Rattle.tallies.specs.Capped.{cap}
use Rattle.tallies.specs.Formulas.{viewed, tallied, worded}
use Rattle.tallies.specs.declared.View.{View}
use Rattle.tallies.specs.declared.Tally.{Tally}
use Rattle.tallies.specs.declared.Word.{Word}
use Rattle.tallies.specs.declared.Weight.{Weight}

-- the sum of f over a list
module _ {A : Type 0} where
  unfoldable pub sum_of : (A → ℕ) → List A → ℕ
  sum_of f [] = 0
  sum_of f (x ∷ xs) = f x + sum_of f xs

-- how many steps two sides have that have m and n, where b says that the event is joint
abbrev pub moves_both : Bool → ℕ → ℕ → ℕ
moves_both b m n = cond b (m * n) (m + n)

module _ (a : ℕ) where
  -- how many steps, and 1 if the term can end done
  unfoldable pub moves : Std → ℕ
  moves k = length (steps k a)

  unfoldable pub able : Std → ℕ
  able k = cond (ends k done) 1 0

  unfoldable pub view : Std → View
  view p = viewed (cap (moves p)) (ends p done) (ends p withdrawn) (ends p failed)

  unfoldable pub tally : List Std → Tally
  tally l = tallied (cap (length l)) (cap (sum_of able l)) (cap (sum_of moves l)) (some_of (λ k. ends k withdrawn) l) (some_of (λ k. ends k failed) l)

  unfoldable pub word : Cmp → Word
  unfolding tally
  word pp = worded (cap (length (csteps pp a))) (tally (comps pp done)) (tally (comps pp withdrawn)) (tally (comps pp failed))

  -- what a compensation weighs
  unfoldable pub weight : Weight → Std → ℕ
  weight g k = g.own + g.moves * moves k + g.able * able k
