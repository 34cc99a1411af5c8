-- What the reader answers, as one definition in the order of 01, "The flow file": 14; then through the file item by item (`format`,
-- Sections); then 21; then what the numbers mean (`format`, Contents).
-- A reader need not believe this file, but only that `ReadAs` is what `read` ensures: promises/specs/Reads tells by Report and Faults
-- alone what is answered then, and what becomes of the two tables. Definitions only. Assumes nothing.
use Rattle.std.specs.Prelude.{ℕ, ◌||◌, cond, List, [], ◌≡◌, ltb, length, Result, Ok, Err, ⊤}
use Rattle.flow.specs.declared.Refusal.{Refusal}
use Rattle.format.specs.Format.{File}
use Rattle.format.specs.Plan.{Ran, got, bad, run}
use Rattle.format.specs.Sections.{layout}
use Rattle.format.specs.ContentChecks.{content_check}
use Rattle.format.specs.Items.{refusal_of, at_front}
use Rattle.reader.specs.declared.Counts.{Counts}
pub use Rattle.reader.specs.Report.{Report, counts_of}
unfoldable pub use Rattle.reader.specs.Report.{reported}

---- What is answered ----

-- the answer, and the numbers that stand first in the two tables then
pub record Outcome : Type 0 where
  pub answer : Result Counts Refusal
  pub nodes : List ℕ
  pub records : List ℕ

abbrev pub refused_outcome : Refusal → Outcome
refused_outcome r = record { answer = Err r; nodes = []; records = [] }

abbrev pub read_outcome : File → Outcome
read_outcome f = record { answer = Ok (counts_of f); nodes = f.nodes; records = f.records }

unfoldable pub checked : File → Result ⊤ Refusal → Outcome
checked f (Ok tt) = read_outcome f
checked f (Err r) = refused_outcome r

-- 21: "bytes after the last record", at "the first byte too many"; 02, Four: "21 now follows the sets"
unfoldable pub laid : List ℕ → Ran File → Outcome
unfolding checked
laid s (bad n p) = refused_outcome (refusal_of n p)
laid s (got f at) = cond (ltb at (length s)) (refused_outcome (refusal_of 21 at)) (checked f (content_check f))

-- "The reader needs room for 192 node numbers and 256 records, and checks this first (14)."
unfoldable pub reading : List ℕ → ℕ → ℕ → Outcome
unfolding laid run layout
reading s nodes_room records_room =
    cond (ltb nodes_room 192 || ltb records_room 256) (refused_outcome (refusal_of 14 0)) (laid s (run s 0 layout))

---- The contract ----

-- of `read`: the answer and the two tables are those of `reading`
pub record ReadAs (s nodes records nodes' records' : List ℕ) (r : Result Counts Refusal) : Type 0 where
  pub answer : r ≡ (reading s (length nodes) (length records)).answer
  pub nodes_after : nodes' ≡ at_front (reading s (length nodes) (length records)).nodes nodes
  pub records_after : records' ≡ at_front (reading s (length nodes) (length records)).records records
