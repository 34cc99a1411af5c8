-- `matching::mask` meets its contract: the loop's invariant: the bits are those of the sets passed. Assumes nothing.
use Prim.Native.Nat.{ℕ, ◌+◌}
use mathlib.Core.Bool.{Bool}
use mathlib.Core.Path.{sym, ◌∙◌}
use native.Mathlib.Omega.{arith}
use Rattle.flow.specs.Legends.{in_set}
use Rattle.matching.specs.SetLaws.{mask_none, mask_more, mask_within, mask_lent}
use Rattle.matching.proofs.mask.Goals as goal

pub loop-set-init : goal.loop-set-init
loop-set-init c = sym (mask_none _)

pub overflow_add-bits : goal.overflow_add-bits
overflow_add-bits c =
    let l = c.loop-set in
    let f : ℕ → Bool = λ k. in_set c.args.sets.now k c.args.event in
    omega (arith, mask_more f l.set l.invariant c.set_bit-bits.ensures, mask_within f (l.set + 1) (omega (arith, c.min-lent.ensures)))

pub loop-set-preserved : goal.loop-set-preserved
loop-set-preserved c = mask_more (λ k. in_set c.args.sets.now k c.args.event) c.loop-set.set c.loop-set.invariant c.set_bit-bits.ensures

pub returns : goal.returns
returns c =
    let l = c.loop-set in
    l.invariant ∙ mask_lent c.args.sets.now c.args.event l.set (omega (arith, c.min-lent.ensures, c.div_ceil.ensures))
