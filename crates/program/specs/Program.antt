-- What the program allows and lends, and what the line that it prints tells. 01, "The flow file": "The program .. allows 1,000,000
-- states and prints one line: the verdict word, refusal number or 0, place, count." Its answer to a file is in Answering.
-- Definitions only. Assumes nothing.
use Rattle.std.specs.Prelude.{ℕ}
use Rattle.judge.specs.declared.Answer.{Answer}
use Rattle.judge.specs.Told.{told}
use Rattle.judge.specs.Told as judge
use Rattle.line.specs.declared.VerdictWord.{VerdictWord}
use Rattle.line.specs.declared.VerdictWord.TheVariants as word
use Rattle.line.specs.declared.Line.{Line}

---- What is lent ----

-- "allows 1,000,000 states"
abbrev pub states_allowed : ℕ
states_allowed = 1000000

-- the work bytes that the largest flow wants: 2 × 64 × (256 + 1)
abbrev pub work_lent : ℕ
work_lent = 32896

---- The line ----

abbrev verdict_word : judge.VerdictWord → VerdictWord
verdict_word judge.VerdictWord.accepted = word.Accepted
verdict_word judge.VerdictWord.rejected = word.Rejected
verdict_word judge.VerdictWord.undecided = word.Undecided
verdict_word judge.VerdictWord.refused = word.Refused

-- "the verdict word, refusal number or 0, place, count"
unfoldable pub line_for : Answer → Line
unfolding told
line_for a = record { word = verdict_word (told a).word; number = (told a).number; place = (told a).place; count = (told a).count }
