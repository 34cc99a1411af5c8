-- What is known of a file once it is read into tables, or of its refusal. A reader need not believe this file. Definitions only. Assumes
-- nothing.
use Rattle.std.specs.Prelude.{ℕ, ◌*◌, ◌≤◌, Result, Ok, Err, List, ◌≡◌, length, take}
use Rattle.flow.specs.declared.Refusal.{Refusal}
use Rattle.reader.specs.Reading.{reading}
use Rattle.program.specs.declared.tables.Tables.{Tables}

-- the numbers that the counts give, of the front of each table, are what the reader read
pub record Held (s : List ℕ) (t : Tables) : Type 0 where
  pub records_inside : t.counts.records ≤ length t.records
  pub sets_inside : t.counts.sets_at ≤ length s
  pub outcome : reading s 192 256 ≡ record { answer = Ok t.counts; nodes = take (3 * t.counts.nodes) t.nodes; records = take t.counts.records t.records }

-- the contract of `read`
abbrev pub FileRead : List ℕ → Result Tables Refusal → Type 0
FileRead s (Ok t) = Held s t
FileRead s (Err r) = (reading s 192 256).answer ≡ Err r
