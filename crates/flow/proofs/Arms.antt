-- The arms of `node_of` that no table answers: the node of a kind with a set, and that a number between the ranges is no kind's. Assumes
-- nothing.
use Prim.Native.Nat.{ℕ, ◌+◌, ◌-◌, ◌<◌, ◌≤◌}
use mathlib.Core.Path.{◌≡◌, sym, ap, ◌∙◌}
use mathlib.Core.Bool.{true, false}
use native.Mathlib.Omega.{arith}
use borrow.Author.Tests.{le-leb, lt-leb, lt-ltb, le-ltb}
use Rattle.flow.specs.declared.Node.TheVariants.{Standard, Compensable, Unknown}
use Rattle.flow.specs.declared.Operator.TheVariants.{Parallel}
use Rattle.flow.specs.Kinds.{two, kind_in, joint_kind, node_of}
use Rattle.flow.specs.EachKind.{beyond, unknown}

below : (base k : ℕ) → k < base → kind_in base k ≡ false
below base k h = rw (lt-leb base k h)

inside : (base k : ℕ) → base ≤ k → k < base + 16 → kind_in base k ≡ true
inside base k h l = rw (le-leb base k h, lt-ltb k (base + 16) l)

above : (base k : ℕ) → base + 16 ≤ k → kind_in base k ≡ false
above base k h = rw (le-leb base k (omega arith), le-ltb k (base + 16) h)

module _ (k x y : ℕ) where
  pub standard_set : 256 ≤ k → k < 272 → Standard (Parallel (k - 256)) (two x y) ≡ node_of k x y
  unfolding joint_kind
  standard_set h l = sym (beyond k x y (omega arith) ∙ rw (inside 256 k h l))

  pub compensable_set : 512 ≤ k → k < 528 → Compensable (Parallel (k - 512)) (two x y) ≡ node_of k x y
  unfolding joint_kind
  compensable_set h l = sym (beyond k x y (omega arith) ∙ rw (above 256 k (omega arith), inside 512 k h l))

  pub none_below : k < 1 → Unknown ≡ node_of k x y
  none_below h = let e : k ≡ 0 = omega arith in sym (ap (λ (n : ℕ). node_of n x y) e)

  pub none_before_sets : 17 ≤ k → k < 256 → Unknown ≡ node_of k x y
  none_before_sets h l = sym (unknown k x y h (below 256 k l) (below 512 k (omega arith)))

  pub none_between_sets : 272 ≤ k → k < 512 → Unknown ≡ node_of k x y
  none_between_sets h l = sym (unknown k x y (omega arith) (above 256 k h) (below 512 k l))

  pub none_behind_sets : 528 ≤ k → Unknown ≡ node_of k x y
  none_behind_sets h = sym (unknown k x y (omega arith) (above 256 k (omega arith)) (above 512 k h))
