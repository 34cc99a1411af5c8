-- Laws of numbers that stop at the greatest 32-bit number: sums and products of capped numbers are capped sums and products, and a
-- number below is divided by a capped number as by the number itself. Assumes nothing.
use Rattle.std.specs.Prelude.{ℕ, suc, zero, ◌+◌, ◌*◌, ◌/◌, ◌%◌, ◌<◌, ◌≡◌}
use Rattle.std.proofs.Common.{sym, ◌∙◌, ap, ap₂, mul_comm, mod-lt, mod-eq_of_lt, div-add-mod', div-lt_iff_lt-mul}
use native.Mathlib.Omega.{arith, min_cases}
use Rattle.std.proofs.Math.Nat.{div-eq_of_lt}
use Rattle.tallies.specs.Capped.{most, cap}

pub cap_cap : (x : ℕ) → cap (cap x) ≡ cap x
cap_cap x = omega arith

pub cap_add : (x y : ℕ) → cap (cap x + cap y) ≡ cap (x + y)
cap_add x y = omega arith

pub cap_add_left : (x y : ℕ) → cap (cap x + y) ≡ cap (x + y)
cap_add_left x y = omega arith

pub cap_add_right : (x y : ℕ) → cap (x + cap y) ≡ cap (x + y)
cap_add_right x y = omega arith

pub cap_mul_left : (x y : ℕ) → cap (cap x * y) ≡ cap (x * y)
cap_mul_left x zero = omega arith
cap_mul_left x (suc y) = min_cases x most _ (λ h e. ap (λ z. cap (z * suc y)) e) (λ h e. omega arith)

pub cap_mul_right : (x y : ℕ) → cap (x * cap y) ≡ cap (x * y)
cap_mul_right x y = ap cap (mul_comm x (cap y)) ∙ cap_mul_left y x ∙ ap cap (mul_comm y x)

pub cap_mul : (x y : ℕ) → cap (cap x * cap y) ≡ cap (x * y)
cap_mul x y = cap_mul_left x (cap y) ∙ cap_mul_right x y

-- what numbers come to depends on their caps only
pub cap_sum : (x x' y y' : ℕ) → cap x ≡ cap x' → cap y ≡ cap y' → cap (x + y) ≡ cap (x' + y')
cap_sum x x' y y' e f = sym (cap_add x y) ∙ ap₂ (λ u v. cap (u + v)) e f ∙ cap_add x' y'

pub cap_product : (x x' y y' : ℕ) → cap x ≡ cap x' → cap y ≡ cap y' → cap (x * y) ≡ cap (x' * y')
cap_product x x' y y' e f = sym (cap_mul x y) ∙ ap₂ (λ u v. cap (u * v)) e f ∙ cap_mul x' y'

-- the same, where a number is known
pub capped_sum : (n x y : ℕ) → n ≡ x + y → cap n ≡ cap (cap x + cap y)
capped_sum n x y e = ap cap e ∙ sym (cap_add x y)

pub capped_product : (n x y : ℕ) → n ≡ x * y → cap n ≡ cap (cap x * cap y)
capped_product n x y e = ap cap e ∙ sym (cap_mul x y)

pub capped_products : (n x y z w : ℕ) → n ≡ x * y + z * w → cap n ≡ cap (cap (cap x * cap y) + cap (cap z * cap w))
capped_products n x y z w e = capped_sum n (x * y) (z * w) e ∙ ap₂ (λ u v. cap (u + v)) (sym (cap_mul x y)) (sym (cap_mul z w))

-- Division --------------------------------------------------------------------------------------------------------------

-- a number below a product, divided by the second factor
module _ (m n : ℕ) {k : ℕ} (h : k < m * n) where
  pub factor_some : 0 < n
  factor_some = elim n as (λ n. k < m * n → 0 < n) [ zero ↦ λ z. absurd (omega arith) | suc n ↦ λ z. omega arith ] h

  pub factor_first : k / n < m
  factor_first = (div-lt_iff_lt-mul factor_some).1 h

  pub factor_second : k % n < n
  factor_second = mod-lt k factor_some

-- where x is not below the greatest number, neither is what it stops at; so all of k is left over
pub cap_divided : (k n x : ℕ) → n ≡ cap x → k < most → k ≡ k / n * x + k % n
cap_divided k n x e b = min_cases x most _
    (λ h d. rw (e ∙ d) (sym (div-add-mod' k x)))
    (λ h d. rw (e ∙ d, div-eq_of_lt b, mod-eq_of_lt b) (omega arith))
