-- `tallies::Weight::total` meets its contract: by what its callees ensure. Assumes nothing.
use Rattle.tallies.specs.Formulas.{total}
use Rattle.tallies.proofs.Weight.total.Goals as goal

pub returns : goal.returns
unfolding total
returns c =
    simp (
      c.sum-2.ensures,
      c.product-3.ensures,
      c.sum.ensures,
      c.product-2.ensures,
      c.product.ensures,
    )
