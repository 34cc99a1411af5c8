-- What the lines of several kinds of case have, in ASCII: a refusal, bytes in hexadecimal, numbers, and the word for what was lent.
-- Definitions only. Assumes nothing.
use Rattle.std.specs.Prelude.{ℕ, Bool, true, false, List, [], ◌∷◌, ◌++◌}
use Rattle.flow.specs.declared.Refusal.{Refusal}
use Rattle.line.specs.declared.VerdictWord.TheVariants.{Refused}
use Rattle.line.specs.Line.{spaced, spelled}
use Rattle.line.specs.Shown.{texts, hex_byte}

-- "refused", the number and the place
unfoldable pub refused_text : Refusal → List ℕ
refused_text r = spelled Refused ++ (spaced r.number ++ spaced r.place)

-- bytes, two digits each
abbrev pub hex_of : List ℕ → List ℕ
hex_of bytes = texts hex_byte bytes

-- numbers, each with a space before it
abbrev pub numbers_text : List ℕ → List ℕ
numbers_text ns = texts spaced ns

-- " clean" or " dirty" and a line feed
unfoldable pub noted : Bool → List ℕ
noted true = 32 ∷ 99 ∷ 108 ∷ 101 ∷ 97 ∷ 110 ∷ 10 ∷ []
noted false = 32 ∷ 100 ∷ 105 ∷ 114 ∷ 116 ∷ 121 ∷ 10 ∷ []
