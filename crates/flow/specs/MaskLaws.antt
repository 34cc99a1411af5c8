-- What the mask of a set of numbers says of each: its bit, whatever stands above the mask (`mask_bit`), also where it stands in a cue
-- (`mask_read`); and that it is small (`mask_small`). Assumes nothing.
use Rattle.std.specs.Prelude.{ℕ, zero, suc, ◌+◌, ◌*◌, ◌/◌, ◌%◌, ◌<◌, ◌≤◌, ◌^◌, ◌≡◌, refl, ◌⊎◌, Bool, true, false, cond, eqb}
use Rattle.std.proofs.Common.{sym, ap, ◌∙◌, inl, inr, arith, eq-or-lt_of_le, pow-suc, add-mul, mul_assoc, pow-add}
use Rattle.std.proofs.Math.Nat.{one-le-pow, div-eq_of_lt, add-mul-div_right, div-div-eq-div-mul}
use Rattle.flow.specs.Cues.{cue, mask_of, joint_cue}

positive : (n : ℕ) → 0 < 2 ^ n
positive n = one-le-pow n 2 (omega arith)

pub mask_small : (f : ℕ → Bool) (n : ℕ) → mask_of f n < 2 ^ n
unfolding mask_of
mask_small f zero = omega arith
mask_small f (suc n) = by (f n) (mask_small f n)
  where
    by : (b : Bool) → mask_of f n < 2 ^ n → mask_of f n + cond b (2 ^ n) 0 < 2 ^ suc n
    by true h = omega (arith, pow-suc 2 n)
    by false h = omega (arith, pow-suc 2 n)

twice : (q x : ℕ) → q * (2 * x) ≡ q * (x * 2)
twice q x = ap (λ y. q * y) (omega arith)

-- bit n and what is above it, as one number above the first n bits
one_more : (b : Bool) (m q n : ℕ) → m + cond b (2 ^ n) 0 + q * 2 ^ suc n ≡ m + (cond b 1 0 + q * 2) * 2 ^ n
one_more true m q n = omega (arith, ap (λ x. q * x) (pow-suc 2 n), add-mul 1 (q * 2) (2 ^ n), mul_assoc q 2 (2 ^ n), twice q (2 ^ n))
one_more false m q n = omega (arith, ap (λ x. q * x) (pow-suc 2 n), add-mul 0 (q * 2) (2 ^ n), mul_assoc q 2 (2 ^ n), twice q (2 ^ n))

pub mask_bit : (f : ℕ → Bool) (n q k : ℕ) → k < n → (mask_of f n + q * 2 ^ n) / 2 ^ k % 2 ≡ cond (f k) 1 0
unfolding mask_of
mask_bit f zero q k l = absurd (omega arith)
mask_bit f (suc n) q k l = ap (λ x. x / 2 ^ k % 2) (one_more (f n) (mask_of f n) q n) ∙ by (f n) refl (λ h. mask_bit f n (cond (f n) 1 0 + q * 2) k h) (eq-or-lt_of_le (below l))
  where
    below : k < suc n → k ≤ n
    below h = omega arith

    last : (b : Bool) → (0 + (cond b 1 0 + q * 2)) % 2 ≡ cond b 1 0
    last true = omega arith
    last false = omega arith

    by : (b : Bool) → f n ≡ b → (k < n → (mask_of f n + (cond b 1 0 + q * 2) * 2 ^ n) / 2 ^ k % 2 ≡ cond (f k) 1 0) → (k ≡ n) ⊎ (k < n) → (mask_of f n + (cond b 1 0 + q * 2) * 2 ^ n) / 2 ^ k % 2 ≡ cond (f k) 1 0
    by b e before (inr h) = before h
    by b e before (inl h) =
        ap (λ x. (mask_of f n + (cond b 1 0 + q * 2) * 2 ^ n) / 2 ^ x % 2) h
        ∙ ap (λ x. x % 2) (add-mul-div_right (mask_of f n) (cond b 1 0 + q * 2) (positive n) ∙ ap (λ x. x + (cond b 1 0 + q * 2)) (div-eq_of_lt (mask_small f n)))
        ∙ last b ∙ ap (λ x. cond x 1 0) (sym e ∙ ap f (sym h))

pub mask_read : (f : ℕ → Bool) (a b k : ℕ) → a < 65536 → k < 16 → joint_cue k (cue a (mask_of f 16) b) ≡ f k
unfolding joint_cue
mask_read f a b k h l =
    let x : ℕ = cue a (mask_of f 16) b in
    let down : x / 2 ^ (16 + k) ≡ x / 65536 / 2 ^ k = ap (λ y. x / y) (pow-add 2 16 k) ∙ sym (div-div-eq-div-mul x 65536 (2 ^ k)) in
    let upper : x / 65536 ≡ mask_of f 16 + b * 2 ^ 16 = omega arith in
    ap (λ y. eqb (y % 2) 1) (down ∙ ap (λ y. y / 2 ^ k) upper) ∙ ap (λ y. eqb y 1) (mask_bit f 16 b k l) ∙ is (f k)
  where
    is : (b : Bool) → eqb (cond b 1 0) 1 ≡ b
    is true = refl
    is false = refl
