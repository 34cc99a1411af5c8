-- The line that the program prints, as bytes. 01, "The flow file": "prints one line: the verdict word, refusal number or 0, place,
-- count", with single spaces and one line feed. Numbers are written in decimal, with as few digits as hold them.
-- Not here: that so many digits are the fewest (LineLaws). Definitions only. Assumes nothing.
use Rattle.std.specs.Prelude.{ℕ, zero, suc, ◌+◌, ◌/◌, cond, List, [], ◌∷◌, ◌++◌, ◌≡◌, ltb, length, take, drop}
use Rattle.io.specs.Digits.{last_digits}
use Rattle.line.specs.declared.VerdictWord.{VerdictWord}
use Rattle.line.specs.declared.VerdictWord.TheVariants.{Accepted, Rejected, Undecided, Refused}
use Rattle.line.specs.declared.Line.{Line}

---- Numbers ----

-- how many decimal digits hold a number of at most so many
unfoldable pub places : ℕ → ℕ → ℕ
places zero n = 1
places (suc most) n = cond (ltb n 10) 1 (suc (places most (n / 10)))

unfoldable pub size : ℕ → ℕ
unfolding places
size n = places n n

unfoldable pub decimal : ℕ → List ℕ
decimal n = last_digits 10 (size n) n

-- a space, and the number
unfoldable pub spaced : ℕ → List ℕ
spaced n = 32 ∷ decimal n

---- The line ----

-- the verdict words, in ASCII
unfoldable pub spelled : VerdictWord → List ℕ
spelled Accepted = 97 ∷ 99 ∷ 99 ∷ 101 ∷ 112 ∷ 116 ∷ 101 ∷ 100 ∷ []
spelled Rejected = 114 ∷ 101 ∷ 106 ∷ 101 ∷ 99 ∷ 116 ∷ 101 ∷ 100 ∷ []
spelled Undecided = 117 ∷ 110 ∷ 100 ∷ 101 ∷ 99 ∷ 105 ∷ 100 ∷ 101 ∷ 100 ∷ []
spelled Refused = 114 ∷ 101 ∷ 102 ∷ 117 ∷ 115 ∷ 101 ∷ 100 ∷ []

-- "the verdict word, refusal number or 0, place, count"
unfoldable pub text_of : Line → List ℕ
text_of l = spelled l.word ++ (spaced l.number ++ (spaced l.place ++ spaced l.count))

-- and a line feed
unfoldable pub line_of : Line → List ℕ
unfolding text_of
line_of l = text_of l ++ (10 ∷ [])

---- Writing ----

-- the text stands at an offset of the room, everything else is as it was, and r is the offset behind it
pub record Put (text out : List ℕ) (at : ℕ) (out' : List ℕ) (r : ℕ) : Type 0 where
  pub end : r ≡ at + length text
  pub written : out' ≡ take at out ++ (text ++ drop r out)

-- the contract of `write_line`: the line stands at the start of the room
abbrev pub LineWritten : Line → List ℕ → List ℕ → ℕ → Type 0
LineWritten line out out' r = Put (line_of line) out 0 out' r
