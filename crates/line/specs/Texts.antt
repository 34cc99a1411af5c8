-- Texts one after the other: one for each number of a list. Definitions only: TextLaws has what a loop that puts them learns. Assumes nothing.
use Rattle.std.specs.Prelude.{ℕ, ◌+◌, ◌*◌, ◌≤◌, List, [], ◌∷◌, ◌++◌, length, take}
use Rattle.line.specs.Line.{Put}

unfoldable pub texts : (ℕ → List ℕ) → List ℕ → List ℕ
texts text [] = []
texts text (x ∷ xs) = text x ++ texts text xs

-- the texts of the first i numbers stand at an offset of the room, each no longer than `most`; `end` is the offset behind them
pub record PutTo (text : ℕ → List ℕ) (most : ℕ) (xs out : List ℕ) (at i : ℕ) (out' : List ℕ) (end : ℕ) : Type 0 where
  pub within : i ≤ length xs
  pub short : end ≤ at + most * i
  pub put : Put (texts text (take i xs)) out at out' end
