-- What the program `next` prints for the bytes of a file and a number of records, computed: the reader's refusal, or what `next_named` makes of
-- the file's own names section, nodes, first records and sets.
-- A reader need not believe how it is computed: promises tells of each text when it is printed. Definitions only. Assumes nothing.
use Rattle.std.specs.Prelude.{ℕ, ◌≤◌, ◌<◌, Result, Ok, Err, List, length, get_or}
use Rattle.flow.specs.declared.Refusal.{Refusal}
use Rattle.flow.specs.Records.{most_events}
use Rattle.format.specs.ListChecks.{entries_in, Whole}
use Rattle.judge.specs.declared.Answer.TheVariants as answer
use Rattle.judge.specs.Judged.{named_flow}
use Rattle.reader.specs.declared.Counts.{Counts}
use Rattle.reader.specs.Reading.{reading}
use Rattle.line.specs.Line.{line_of, Put}
use Rattle.ahead.specs.declared.answer.Next.{Next}
use Rattle.ahead.specs.Told.{following, numbers_wanted}
use Rattle.ahead.specs.Outcome.{named_next_check, next_by}
use Rattle.program.specs.Program.{states_allowed, work_lent, line_for}
use Rattle.program.specs.FileParts.{names_of, sets_of}
use Rattle.program.specs.Listing.{beginning, answer_text}

---- The text ----

-- what is answered for a names section, sets, nodes and a beginning, with room for every number and for the largest flow
abbrev pub next_answer : List ℕ → List ℕ → List ℕ → List ℕ → Next
next_answer s sets ns rs = next_by (named_next_check s sets ns rs numbers_wanted work_lent) (named_flow s sets ns) rs states_allowed

unfoldable pub tables_text : List ℕ → List ℕ → List ℕ → List ℕ → List ℕ
unfolding entries_in following next_by answer_text
tables_text s sets ns rs = answer_text (entries_in s) (following (named_flow s sets ns) rs) (next_answer s sets ns rs)

-- a file that the reader refuses is refused so; of any other it is what may follow its first k records
unfoldable pub text_by : List ℕ → ℕ → Result Counts Refusal → List ℕ → List ℕ → List ℕ
unfolding names_of tables_text beginning
text_by file k (Ok c) ns rs = tables_text (names_of file) (sets_of c file) ns (beginning k rs)
text_by file k (Err r) ns rs = line_of (line_for (answer.Refused r))

unfoldable pub file_text : List ℕ → ℕ → List ℕ
unfolding text_by reading
file_text file k = text_by file k (reading file 192 256).answer (reading file 192 256).nodes (reading file 192 256).records

---- The contracts ----

-- of `next_file`: the text stands at the start of the room
abbrev pub NextPrinted : List ℕ → ℕ → List ℕ → List ℕ → ℕ → Type 0
NextPrinted file k out out' r = Put (file_text file k) out 0 out' r

-- a number that a names section shows: a closing, or an event that has an entry
pub record Showable (s : List ℕ) (number : ℕ) : Type 0 where
  pub some : 1 ≤ number
  pub named : number ≤ most_events → number ≤ length (entries_in s)

-- numbers that a names section shows, which is not refused
pub record ListShowable (s list : List ℕ) : Type 0 where
  pub section : Whole s
  pub few : length list ≤ numbers_wanted
  pub each : (i : ℕ) → i < length list → Showable s (get_or list i 0)
