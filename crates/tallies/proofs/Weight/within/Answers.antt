-- `tallies::Weight::within` meets its contract: nothing changes where only compensations are counted, else by what its callees
-- ensure. Assumes nothing.
use mathlib.Core.Path.{sym, ◌∙◌}
use native.Mathlib.Omega.{arith}
use Rattle.tallies.specs.OwnLaws.{own_within}
use Rattle.tallies.specs.Formulas.{within_g}
use Rattle.tallies.proofs.Weight.within.Goals.{then-able, else-able}
use Rattle.tallies.proofs.Weight.within.Goals as goal

pub returns-then-own_only : goal.returns-then-own_only
returns-then-own_only c =
    let a = c.args in
    sym (own_within a.self (sym c.own_only.ensures ∙ c.if-own_only.true) (omega arith) a.joint a.moves a.able)

pub returns-then-joint : goal.returns-then-joint
unfolding within_g
returns-then-joint c =
    elim c.if-able.branch [
      | then-able w ↦ simp (c.if-joint.true, w.if-able.true, w.ends-is, c.product-more.ensures)
      | else-able w ↦ simp (c.if-joint.true, w.if-able.false, w.ends-is, c.product-more.ensures)
    ]

pub returns-else-joint : goal.returns-else-joint
unfolding within_g
returns-else-joint c =
    elim c.if-able.branch [
      | then-able w ↦ simp (c.if-joint.false, w.if-able.true, w.ends-is, c.sum.ensures, c.product-more.ensures)
      | else-able w ↦ simp (c.if-joint.false, w.if-able.false, w.ends-is, c.sum.ensures, c.product-more.ensures)
    ]
