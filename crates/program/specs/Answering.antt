-- What the program answers to the bytes of a file, and the bytes that it prints, computed: the reader's refusal, or what the judge makes of
-- the file's own names section, nodes, records and sets.
-- A reader need not believe how it is computed: promises/specs/Files tells of each answer when it is given. Definitions only. Assumes
-- nothing.
use Rattle.std.specs.Prelude.{ℕ, Result, Ok, Err, List, ◌≡◌}
use Rattle.flow.specs.declared.Refusal.{Refusal}
use Rattle.reader.specs.declared.Counts.{Counts}
use Rattle.reader.specs.Reading.{reading}
use Rattle.judge.specs.declared.Answer.{Answer}
use Rattle.judge.specs.declared.Answer.TheVariants.{Refused}
use Rattle.judge.specs.Judged.{judged_named}
use Rattle.line.specs.declared.Line.{Line}
use Rattle.line.specs.Line.{line_of, Put}
use Rattle.program.specs.Program.{states_allowed, work_lent, line_for}
use Rattle.program.specs.FileParts.{names_of, sets_of}

---- The answer ----

-- a file that the reader refuses is refused so; any other is judged by its names, nodes, records and sets
unfoldable pub answered : List ℕ → Result Counts Refusal → List ℕ → List ℕ → Answer
unfolding names_of
answered file (Ok c) ns rs = judged_named (names_of file) (sets_of c file) ns rs work_lent states_allowed
answered file (Err r) ns rs = Refused r

unfoldable pub answer_of_file : List ℕ → Answer
unfolding answered
answer_of_file file = answered file (reading file 192 256).answer (reading file 192 256).nodes (reading file 192 256).records

-- what the program prints for a file
unfoldable pub printed : List ℕ → List ℕ
unfolding line_for line_of answer_of_file
printed file = line_of (line_for (answer_of_file file))

---- The contracts ----

-- of `judge_file`
abbrev pub FileAnswered : List ℕ → Answer → Type 0
FileAnswered file r = r ≡ answer_of_file file

-- of `line_for`
abbrev pub AnswerTold : Answer → Line → Type 0
AnswerTold a r = r ≡ line_for a

-- of `write_file_line`: the line stands at the start of the room
abbrev pub FilePrinted : List ℕ → List ℕ → List ℕ → ℕ → Type 0
FilePrinted file out out' r = Put (printed file) out 0 out' r
