-- When the work bytes of a case count as clean, and the line of the case. They are all 165 before the call. 01, "What comes back":
-- "After any verdict but a refusal the first 2 × nodes × (records + 1) are zero and the others unchanged. After a refusal all are
-- unchanged." Definitions only: PromisedLaws has that the judge leaves them clean. Assumes nothing.
use Rattle.std.specs.Prelude.{ℕ, ◌-◌, ◌/◌, Bool, ◌&&◌, List, ◌++◌, take, replicate}
use Rattle.judge.specs.declared.Answer.{Answer}
use Rattle.judge.specs.declared.Answer.TheVariants.{Accepted, Rejected, Undecided, Refused}
use Rattle.judge.specs.Judged.{room_of}
use Rattle.line.specs.Line.{text_of}
use Rattle.program.specs.Program.{line_for}
use Rattle.replay.specs.Filler.{filler, all_are, kept}
use Rattle.replay.specs.Text.{noted}

-- how many bytes are promised to be zero, by how many numbers the nodes have and how many records there are
unfoldable pub zeros_after : Answer → ℕ → ℕ → ℕ
zeros_after (Accepted v) numbers records = room_of (numbers / 3) records
zeros_after (Rejected v) numbers records = room_of (numbers / 3) records
zeros_after (Undecided v) numbers records = room_of (numbers / 3) records
zeros_after (Refused r) numbers records = 0

-- the promised bytes, of so many in all
abbrev pub promised : ℕ → ℕ → List ℕ
promised zeros length = replicate zeros 0 ++ replicate (length - zeros) filler

-- whether so many bytes are zero and the others 165
unfoldable pub is_clean : ℕ → List ℕ → Bool
unfolding all_are kept
is_clean zeros work = kept filler zeros work && all_are 0 (take zeros work)

---- The line ----

-- what the answer tells, and whether the work bytes are clean
unfoldable pub case_line : Answer → Bool → List ℕ
unfolding noted
case_line a clean = text_of (line_for a) ++ noted clean
