-- `tallies::Weight::beside` meets its contract: each arm rewrites with the test that led there. Assumes nothing.
use Rattle.tallies.specs.Formulas.{beside_g}
use Rattle.tallies.proofs.Weight.beside.Goals as goal

pub returns-then-joint : goal.returns-then-joint
unfolding beside_g
returns-then-joint c =
    simp (
      c.if-joint.true,
      c.product-able.ensures,
      c.product-moves.ensures,
      c.product-own.ensures,
    )

pub returns-else-joint : goal.returns-else-joint
unfolding beside_g
returns-else-joint c =
    simp (
      c.if-joint.false,
      c.product.ensures,
      c.sum.ensures,
      c.product-able.ensures,
      c.product-moves.ensures,
      c.product-own.ensures,
    )
