-- The line of a call of the reader, and when the two tables count as clean. Their numbers are all 42405 before the call. 01, "The flow
-- file": "the first numbers of the two tables are the file's and the rest unchanged"; refused, all are. Definitions only: ReadLineLaws has
-- that the reader leaves them clean. Assumes nothing.
use Rattle.std.specs.Prelude.{ℕ, ◌*◌, Bool, ◌&&◌, Result, Ok, Err, List, [], ◌∷◌, ◌++◌}
use Rattle.flow.specs.declared.Refusal.{Refusal}
use Rattle.line.specs.Line.{spaced}
use Rattle.reader.specs.declared.Counts.{Counts}
use Rattle.replay.specs.Filler.{number_filler, kept, Kept}
use Rattle.replay.specs.Text.{refused_text, noted}

---- The tables ----

-- how many numbers of each table are the file's
unfoldable pub nodes_taken : Result Counts Refusal → ℕ
nodes_taken (Ok c) = 3 * c.nodes
nodes_taken (Err r) = 0

unfoldable pub records_taken : Result Counts Refusal → ℕ
records_taken (Ok c) = c.records
records_taken (Err r) = 0

-- whether the others are filler
unfoldable pub tables_clean : Result Counts Refusal → List ℕ → List ℕ → Bool
unfolding kept nodes_taken records_taken
tables_clean a nodes records = kept number_filler (nodes_taken a) nodes && kept number_filler (records_taken a) records

-- the same, as a promise
pub record TablesKept (a : Result Counts Refusal) (nodes records : List ℕ) : Type 0 where
  pub nodes_kept : Kept number_filler (nodes_taken a) nodes
  pub records_kept : Kept number_filler (records_taken a) records

---- The line ----

-- the offset and count of the sets
unfoldable pub sets_text : Counts → List ℕ
sets_text c = spaced c.sets_at ++ spaced c.sets

-- "read" in ASCII, the counts of names, nodes and records, and what is told of the sets
unfoldable pub counts_text : Counts → List ℕ
unfolding sets_text
counts_text c = (114 ∷ 101 ∷ 97 ∷ 100 ∷ []) ++ (spaced c.names ++ (spaced c.nodes ++ (spaced c.records ++ sets_text c)))

unfoldable pub read_text : Result Counts Refusal → List ℕ
read_text (Ok c) = counts_text c
read_text (Err r) = refused_text r

-- the offset of the sets; 0 of a refusal
unfoldable pub sets_place : Result Counts Refusal → ℕ
sets_place (Ok c) = c.sets_at
sets_place (Err r) = 0

-- what the answer tells, and whether the tables are clean
unfoldable pub read_line : Result Counts Refusal → Bool → List ℕ
unfolding read_text noted
read_line a clean = read_text a ++ noted clean
