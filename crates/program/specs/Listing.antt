-- What the program `next` prints of a flow file (02, Three): a line for each number that may follow the file's first records, and the count.
-- The line of an event shows its number and its entry's names; that of a closing, its number and its word. Of a file that is refused, and
-- of one that is undecided, it is the line that the judging program prints. Definitions only. Assumes nothing.
use Rattle.std.specs.Prelude.{ℕ, ◌-◌, cond, List, [], ◌∷◌, ◌++◌, eqb, ltb, leb, length, take}
use Rattle.flow.specs.Records.{done_number, withdrawn_number, most_events}
use Rattle.format.specs.Format.{Entry}
use Rattle.format.specs.Matching.{entry_of}
use Rattle.judge.specs.declared.Answer.TheVariants as answer
use Rattle.line.specs.Line.{decimal, spaced, line_of}
use Rattle.line.specs.Shown.{shown, texts}
use Rattle.ahead.specs.declared.answer.Next.{Next}
use Rattle.ahead.specs.declared.answer.Next.TheVariants.{Listed, Undecided, Refused}
use Rattle.program.specs.Program.{line_for}

---- How many records the beginning has ----

-- what is asked for where no number is given
abbrev pub all_but_last : ℕ
all_but_last = 65535

-- of n records: all but the last, or the first k; all, where there are no more
unfoldable pub so_many : ℕ → ℕ → ℕ
so_many k n = cond (eqb k all_but_last) (n - 1) (cond (ltb k n) k n)

unfoldable pub beginning : ℕ → List ℕ → List ℕ
unfolding so_many
beginning k rs = take (so_many k (length rs)) rs

---- The lines ----

-- "done", "withdrawn", "failed" in ASCII
unfoldable pub closing_word : ℕ → List ℕ
closing_word r =
    cond (eqb r done_number) (100 ∷ 111 ∷ 110 ∷ 101 ∷ [])
    (cond (eqb r withdrawn_number) (119 ∷ 105 ∷ 116 ∷ 104 ∷ 100 ∷ 114 ∷ 97 ∷ 119 ∷ 110 ∷ [])
    (102 ∷ 97 ∷ 105 ∷ 108 ∷ 101 ∷ 100 ∷ []))

-- the step's name, a TAB, and the machine's name, which may be empty
unfoldable pub entry_text : Entry → List ℕ
entry_text e = shown e.step ++ (9 ∷ shown e.machine)

-- what a number stands for
unfoldable pub meaning : List Entry → ℕ → List ℕ
unfolding entry_text closing_word
meaning es r = cond (leb r most_events) (entry_text (entry_of es r)) (closing_word r)

-- the number, a TAB, and what it stands for
unfoldable pub number_line : List Entry → ℕ → List ℕ
unfolding meaning
number_line es r = decimal r ++ (9 ∷ (meaning es r ++ (10 ∷ [])))

-- "count" and the count
unfoldable pub count_line : ℕ → List ℕ
count_line n = (99 ∷ 111 ∷ 117 ∷ 110 ∷ 116 ∷ []) ++ (spaced n ++ (10 ∷ []))

-- a line for each number of the list, then the count's
unfoldable pub list_text : List Entry → List ℕ → ℕ → List ℕ
unfolding number_line count_line
list_text es list count = texts (number_line es) list ++ count_line count

---- By the answer ----

-- the list is that of the answer, if it gives one
unfoldable pub answer_text : List Entry → List ℕ → Next → List ℕ
unfolding list_text line_for line_of
answer_text es list (Listed f) = list_text es list f.count
answer_text es list (Undecided f) = line_of (line_for (answer.Undecided (record { place = 0; count = f.count })))
answer_text es list (Refused r) = line_of (line_for (answer.Refused r))
