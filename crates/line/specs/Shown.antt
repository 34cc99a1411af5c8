-- How a name is shown: text as it is, any other byte as a backslash, an x and two hexadecimal digits. So a name stands on one line whatever
-- its bytes, with no TAB in it, and the backslash itself is shown so, since no two names may look alike. Definitions only: ShownLaws has
-- both. Assumes nothing.
use Rattle.std.specs.Prelude.{ℕ, ◌/◌, ◌%◌, Bool, ◌&&◌, not, cond, List, [], ◌∷◌, eqb, leb}
use Rattle.io.specs.Digits.{hex_digit_ascii}
unfoldable pub use Rattle.line.specs.Texts.{texts}

-- a byte as two digits
unfoldable pub hex_byte : ℕ → List ℕ
hex_byte b = hex_digit_ascii (b / 16) ∷ hex_digit_ascii (b % 16) ∷ []

-- text from the space to the tilde, but for the backslash
unfoldable pub is_text : ℕ → Bool
is_text b = (leb 32 b && leb b 126) && not (eqb b 92)

unfoldable pub shown_byte : ℕ → List ℕ
unfolding is_text hex_byte
shown_byte b = cond (is_text b) (b ∷ []) (92 ∷ 120 ∷ hex_byte b)

-- byte by byte
abbrev pub shown : List ℕ → List ℕ
shown name = texts shown_byte name
