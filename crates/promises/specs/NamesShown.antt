-- Names as they are shown (`line`, Shown): every byte that is shown is text (`shown_text`), so that a TAB or a line feed in a name breaks no line
-- of a list; and no two names look alike (`shown_apart`). Theorems only. Assumes nothing.
use Rattle.std.specs.Prelude.{ℕ, suc, ◌+◌, ◌/◌, ◌%◌, ◌≤◌, ◌<◌, Bool, ◌&&◌, not, cond, ◌≡◌, eqb, leb, ltb, length, drop}
use Rattle.std.proofs.Common.{arith, sym, ap₂, ◌∙◌, leb-true, ltb-true, ltb-false, length-append}
use Rattle.std.proofs.Math.Bool.{true, false}
use Rattle.std.proofs.lemmas.Bool.{false≢true}
use mathlib.Core.List.{List, [], ◌∷◌, ◌++◌}
use Rattle.std.proofs.Math.Path.{refl, ap}
use Rattle.std.proofs.Math.ListN.{get_or}
use Rattle.io.specs.Digits.{hex_digit_ascii}
use Rattle.flow.specs.Tests.{both_true}
use Rattle.format.specs.Limits.{Bytes}
use Rattle.line.specs.Shown.{hex_byte, is_text, shown_byte, shown, texts}

---- Text ----

-- from the space to the tilde
pub data AllText : List ℕ → Type 0 where
  none : AllText []
  more : {b : ℕ} {bs : List ℕ} → 32 ≤ b → b ≤ 126 → AllText bs → AllText (b ∷ bs)

text_append : {xs ys : List ℕ} → AllText xs → AllText ys → AllText (xs ++ ys)
text_append none g = g
text_append (more l h f) g = more l h (text_append f g)

glyph_low : (d : ℕ) → 32 ≤ hex_digit_ascii d
glyph_low d = by (ltb d 10)
  where
    by : (b : Bool) → 32 ≤ cond b (48 + d) (87 + d)
    by true = omega arith
    by false = omega arith

glyph_high : (d : ℕ) → d < 16 → hex_digit_ascii d ≤ 126
glyph_high d h = by (ltb d 10)
  where
    by : (b : Bool) → cond b (48 + d) (87 + d) ≤ 126
    by true = omega arith
    by false = omega arith

byte_text : (b : ℕ) → b < 256 → AllText (shown_byte b)
unfolding shown_byte hex_byte is_text
byte_text b h = by (is_text b) refl
  where
    digits : AllText (hex_digit_ascii (b / 16) ∷ hex_digit_ascii (b % 16) ∷ [])
    digits = more (glyph_low (b / 16)) (glyph_high (b / 16) (omega arith)) (more (glyph_low (b % 16)) (glyph_high (b % 16) (omega arith)) none)

    by : (t : Bool) → is_text b ≡ t → AllText (cond t (b ∷ []) (92 ∷ 120 ∷ hex_digit_ascii (b / 16) ∷ hex_digit_ascii (b % 16) ∷ []))
    by true e =
        let range = (both_true (leb 32 b && leb b 126) (not (eqb b 92)) e).0 in
        let bounds = both_true (leb 32 b) (leb b 126) range in
        more (leb-true 32 b bounds.0) (leb-true b 126 bounds.1) none
    by false e = more {b = 92} (omega arith) (omega arith) (more {b = 120} (omega arith) (omega arith) digits)

-- a TAB is 9, a line feed 10
pub shown_text : (name : List ℕ) → Bytes name → AllText (shown name)
unfolding texts
shown_text [] b = none
shown_text (x ∷ xs) b = text_append (byte_text x (b 0)) (shown_text xs (λ i. b (suc i)))

---- No two names look alike ----

glyph_once : (d e : ℕ) → d < 16 → e < 16 → hex_digit_ascii d ≡ hex_digit_ascii e → d ≡ e
glyph_once d e h k = by (ltb d 10) (ltb e 10) refl refl
  where
    by : (s t : Bool) → ltb d 10 ≡ s → ltb e 10 ≡ t → cond s (48 + d) (87 + d) ≡ cond t (48 + e) (87 + e) → d ≡ e
    by true true p q z = omega arith
    by true false p q z = omega (arith, ltb-true d 10 p, ltb-false e 10 q)
    by false true p q z = omega (arith, ltb-false d 10 p, ltb-true e 10 q)
    by false false p q z = omega arith

-- a byte that is shown as it is, is no backslash
no_backslash : (b : ℕ) → is_text b ≡ true → b ≡ 92 → ⊥
unfolding is_text
no_backslash b t e = false≢true (ap is_text (sym e) ∙ t)

module _ (a b : ℕ) (ha : a < 256) (hb : b < 256) (xs ys : List ℕ) where
  abbrev Alike : Bool → Bool → Type 0
  Alike s t =
      cond s (a ∷ []) (92 ∷ 120 ∷ hex_digit_ascii (a / 16) ∷ hex_digit_ascii (a % 16) ∷ []) ++ xs ≡ cond t (b ∷ []) (92 ∷ 120 ∷ hex_digit_ascii (b / 16) ∷ hex_digit_ascii (b % 16) ∷ []) ++ ys

  byte_apart : shown_byte a ++ xs ≡ shown_byte b ++ ys → (a ≡ b) × (xs ≡ ys)
  unfolding shown_byte hex_byte
  byte_apart = by (is_text a) (is_text b) refl refl
    where
      by : (s t : Bool) → is_text a ≡ s → is_text b ≡ t → Alike s t → (a ≡ b) × (xs ≡ ys)
      by true true p q e = (ap (λ (l : List ℕ). get_or l 0 0) e, ap (drop 1) e)
      by true false p q e = absurd (no_backslash a p (ap (λ (l : List ℕ). get_or l 0 0) e))
      by false true p q e = absurd (no_backslash b q (sym (ap (λ (l : List ℕ). get_or l 0 0) e)))
      by false false p q e =
          let high = glyph_once (a / 16) (b / 16) (omega arith) (omega arith) (ap (λ (l : List ℕ). get_or l 2 0) e) in
          let low = glyph_once (a % 16) (b % 16) (omega arith) (omega arith) (ap (λ (l : List ℕ). get_or l 3 0) e) in
          (omega (arith, high, low), ap (drop 4) e)

some_shown : (b : ℕ) → 1 ≤ length (shown_byte b)
unfolding shown_byte hex_byte
some_shown b = by (is_text b)
  where
    by : (t : Bool) → 1 ≤ length (cond t (b ∷ []) (92 ∷ 120 ∷ hex_digit_ascii (b / 16) ∷ hex_digit_ascii (b % 16) ∷ []))
    by true = omega arith
    by false = omega arith

pub shown_apart : (xs ys : List ℕ) → Bytes xs → Bytes ys → shown xs ≡ shown ys → xs ≡ ys
unfolding texts
shown_apart [] [] b c e = refl
shown_apart [] (y ∷ ys) b c e = absurd (omega (arith, ap length e, length-append (shown_byte y) (texts shown_byte ys), some_shown y))
shown_apart (x ∷ xs) [] b c e = absurd (omega (arith, ap length e, length-append (shown_byte x) (texts shown_byte xs), some_shown x))
shown_apart (x ∷ xs) (y ∷ ys) b c e =
    let h = byte_apart x y (b 0) (c 0) (texts shown_byte xs) (texts shown_byte ys) e in
    ap₂ ◌∷◌ h.0 (shown_apart xs ys (λ i. b (suc i)) (λ i. c (suc i)) h.1)
