-- `line::Text::hex` meets its contract: of a byte there are two digits. Assumes nothing.
use Rattle.std.proofs.Common.{◌≡◌, ℕ, zero, suc, ◌*◌, ◌-◌, ◌/◌, ◌%◌, ◌^◌, ◌<◌, ◌≤◌, [], ◌∷◌, refl, ap, ◌∙◌, zero-lt-suc, arith}
use Rattle.std.proofs.Math.Nat.{pow-succ', one-le-pow}
use Rattle.io.specs.Digits.{last_digits, IsDigitCount, hex_digit_ascii}
use Rattle.line.specs.Shown.{hex_byte}
use Rattle.line.proofs.Text.hex.Goals as goal

two_digits : (n k : ℕ) → n < 256 → IsDigitCount 16 2 n k → k ≡ 2
two_digits n zero h f = absurd (omega (arith, f.0))
two_digits n (suc zero) h f = absurd (omega (arith, f.0))
two_digits n (suc (suc zero)) h f = refl
two_digits n (suc (suc (suc k))) h f =
    let e : suc (suc (suc k)) - 1 ≡ suc (suc k) = omega arith in
    let most : 16 * (16 * 16 ^ k) ≤ n = rw (e, pow-succ', pow-succ') at (f.2 (omega arith)) in
    absurd (omega (arith, most, one-le-pow k 16 (zero-lt-suc 15)))

last_two : (n : ℕ) → n < 256 → last_digits 16 2 n ≡ hex_byte n
unfolding hex_byte
last_two n h = let e : n / 16 % 16 ≡ n / 16 = omega arith in ap (λ (d : ℕ). hex_digit_ascii d ∷ hex_digit_ascii (n % 16) ∷ []) e

pub put-requires : goal.put-requires
put-requires c =
    let d = c.hex-k in
    omega (arith, d.ensures.in_bounds.1, two_digits _ _ (omega arith) d.ensures.len)

pub returns-clause-put : goal.returns-clause-put
returns-clause-put c =
    let d = c.hex-k in
    let few = two_digits _ _ (omega arith) d.ensures.len in
    let text = d.ensures.digits ∙ ap (λ (k : ℕ). last_digits 16 k c.from.result) few ∙ ap (last_digits 16 2) c.from.ensures ∙ last_two c.args.byte (omega arith) in
    rw text at c.put.ensures.put

pub returns-clause-upper_bound : goal.returns-clause-upper_bound
returns-clause-upper_bound c =
    let d = c.hex-k in
    omega (arith, c.put.ensures.put.end, d.ensures.in_bounds.1, two_digits _ _ (omega arith) d.ensures.len)
