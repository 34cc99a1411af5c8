-- What holds of the number of each of the sixteen kinds, and of the numbers behind them, holds of every number; behind them are the kinds
-- with a set, and numbers that are no kind's. Assumes nothing.
use Rattle.std.specs.Prelude.{ℕ, ◌-◌, ◌<◌, ◌≤◌, ◌≡◌, Bool, true, false, cond}
use Rattle.std.proofs.Common.{sym, ◌∙◌, subst, ⊎_elim, arith, eq-or-lt_of_le}
use Rattle.std.proofs.Math.ListN.{get_or-eq_default}
use Rattle.flow.specs.declared.Operator.TheVariants.{Parallel}
use Rattle.flow.specs.declared.Node.{Node}
use Rattle.flow.specs.declared.Node.TheVariants.{Standard, Compensable, Unknown}
use Rattle.flow.specs.Kinds.{two, kinds, kind_in, joint_kind, node_of}

-- it holds of n and of all numbers above
pub from : (P : ℕ → Type 0) (n : ℕ) → P n → ((k : ℕ) → n < k → P k) → (k : ℕ) → n ≤ k → P k
from P n p next k l = ⊎_elim (λ e. subst P e p) (λ h. next k h) (eq-or-lt_of_le l)

pub beyond : (k x y : ℕ) → 17 ≤ k → node_of k x y ≡ joint_kind k x y
beyond k x y l = λ z. get_or-eq_default kinds (joint_kind k) l z x y

joint_by : (P : Node → Type 0) (k x y : ℕ) → ((s : ℕ) → P (Standard (Parallel s) (two x y))) → ((s : ℕ) → P (Compensable (Parallel s) (two x y))) → P Unknown → P (joint_kind k x y)
unfolding joint_kind
joint_by P k x y a b c = by (kind_in 256 k) (kind_in 512 k)
  where
    by : (e d : Bool) → P (cond e (Standard (Parallel (k - 256)) (two x y)) (cond d (Compensable (Parallel (k - 512)) (two x y)) Unknown))
    by true d = a (k - 256)
    by false true = b (k - 512)
    by false false = c

-- what holds of the kinds with a set and of an unknown one holds of every kind behind the sixteen
pub beyond_by : (P : Node → Type 0) (k x y : ℕ) → 17 ≤ k → ((s : ℕ) → P (Standard (Parallel s) (two x y))) → ((s : ℕ) → P (Compensable (Parallel s) (two x y))) → P Unknown → P (node_of k x y)
beyond_by P k x y l a b c = subst P (sym (beyond k x y l)) (joint_by P k x y a b c)

-- and where the number is of neither range, the kind is unknown
pub unknown : (k x y : ℕ) → 17 ≤ k → kind_in 256 k ≡ false → kind_in 512 k ≡ false → node_of k x y ≡ Unknown
unfolding joint_kind
unknown k x y l e d = beyond k x y l ∙ (λ i. cond (e i) (Standard (Parallel (k - 256)) (two x y)) (cond (d i) (Compensable (Parallel (k - 512)) (two x y)) Unknown))

pub each_kind : (P : ℕ → Type 0) → P 0 → P 1 → P 2 → P 3 → P 4 → P 5 → P 6 → P 7 → P 8 → P 9 → P 10 → P 11 → P 12 → P 13 → P 14 → P 15 → P 16 → ((k : ℕ) → 17 ≤ k → P k) → (k : ℕ) → P k
each_kind P a b c d e f g h i j k l m n o p q r x =
    from P 0 a (from P 1 b (from P 2 c (from P 3 d (from P 4 e (from P 5 f (from P 6 g (from P 7 h (from P 8 i (from P 9 j (from P 10 k (from P 11 l (from P 12 m (from P 13 n (from P 14 o (from P 15 p (from P 16 q r)))))))))))))))) x (omega arith)
