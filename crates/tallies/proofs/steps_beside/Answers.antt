-- `tallies::steps_beside` meets its contract: each arm rewrites with the test that led there. Assumes nothing.
use Rattle.tallies.specs.Formulas.{sides_t}
use Rattle.tallies.proofs.steps_beside.Goals as goal

pub returns-then-joint : goal.returns-then-joint
unfolding sides_t
returns-then-joint c = simp (c.if-joint.true, c.product.ensures)

pub returns-else-joint : goal.returns-else-joint
unfolding sides_t
returns-else-joint c =
    simp (
      c.if-joint.false,
      c.sum.ensures,
      c.product-else-joint-2.ensures,
      c.product-else-joint.ensures,
    )
