-- What is lent is filler before a call; whether it still is, behind the first bytes or numbers of it. Definitions only: FillerLaws has
-- what this means of a list. Assumes nothing.
use Rattle.std.specs.Prelude.{ℕ, ◌-◌, ◌≤◌, Bool, ◌&&◌, List, ◌++◌, ◌≡◌, eqb, leb, length, drop, replicate}
use Rattle.std.specs.List.{list_all}

-- what a byte holds, and what a number does
abbrev pub filler : ℕ
filler = 165

abbrev pub number_filler : ℕ
number_filler = 42405

-- whether every number of a list is b
unfoldable pub all_are : ℕ → List ℕ → Bool
all_are b xs = list_all (λ x. eqb x b) xs

-- whether there are n numbers, and every one behind them is b
unfoldable pub kept : ℕ → ℕ → List ℕ → Bool
unfolding all_are
kept b n xs = leb n (length xs) && all_are b (drop n xs)

-- the same, as a promise
pub record Kept (b n : ℕ) (xs : List ℕ) : Type 0 where
  pub there : n ≤ length xs
  pub unchanged : drop n xs ≡ replicate (length xs - n) b

-- the first i numbers are filled, and the others as they were
pub record FilledTo (b i : ℕ) (xs xs' : List ℕ) : Type 0 where
  pub within : i ≤ length xs
  pub filled : xs' ≡ replicate i b ++ drop i xs
  pub as_long : length xs' ≡ length xs
