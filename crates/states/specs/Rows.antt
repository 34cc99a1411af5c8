-- What the counting pass leaves of a state's parts, in two tables: how many steps a part has, one number a node, and a row of nine
-- numbers a node, three for the compensations by each closing of a part that runs. Definitions only; their laws are in RowLaws.
-- Assumes nothing.
use Rattle.std.specs.Prelude.{ℕ, ◌+◌, ◌*◌, ◌<◌, ◌≤◌, ◌≡◌, Bool, false, ◌&&◌, List, ◌≢◌, eqb, length, get_or}
use Rattle.tallies.specs.declared.Tally.{Tally}
use Rattle.tallies.specs.declared.Word.{Word}
use Rattle.tallies.specs.Formulas.{tallied, worded}
use Rattle.tallies.specs.Bare.{bare_t, bare_w}

-- a tally by the three numbers at place k: how many, how many that can end done, how many steps
abbrev pub share : List ℕ → ℕ → Tally
share d k = tallied (get_or d k 0) (get_or d (k + 1) 0) (get_or d (k + 2) 0) false false

-- what is kept of node i
unfoldable pub row : List ℕ → ℕ → Word
row d i = worded 0 (share d (9 * i)) (share d (9 * i + 3)) (share d (9 * i + 6))

-- d' is d, but for the numbers of x at place k
pub record Shared (d : List ℕ) (k : ℕ) (x : Tally) (d' : List ℕ) : Type 0 where
  pub here : share d' k ≡ bare_t x
  pub before : (j : ℕ) → j < k → get_or d' j 0 ≡ get_or d j 0
  pub after : (j : ℕ) → k + 3 ≤ j → get_or d' j 0 ≡ get_or d j 0
  pub long : length d' ≡ length d

-- d' is d, but for node i, of which x is kept
pub record Written (d : List ℕ) (i : ℕ) (x : Word) (d' : List ℕ) : Type 0 where
  pub here : row d' i ≡ bare_w x
  pub others : (j : ℕ) → j ≢ i → row d' j ≡ row d j
  pub long : length d' ≡ length d

-- whether the numbers of a row are those of x
unfoldable pub same_share : Tally → Tally → Bool
same_share y x = eqb y.many x.many && (eqb y.able x.able && eqb y.moves x.moves)

unfoldable pub same_row : Word → Word → Bool
same_row y x = same_share y.done x.done && (same_share y.withdrawn x.withdrawn && same_share y.failed x.failed)

-- Both tables ---------------------------------------------------------------------------------------------------------------------

pub record Notes : Type 0 where
  pub steps : List ℕ
  pub rows : List ℕ

abbrev pub notes : List ℕ → List ℕ → Notes
notes c d = record { steps = c; rows = d }

-- what they hold of a node
pub record Entry : Type 0 where
  pub steps : ℕ
  pub row : Word

abbrev pub entries : Notes → ℕ → Entry
entries n j = record { steps = get_or n.steps j 0; row = row n.rows j }
