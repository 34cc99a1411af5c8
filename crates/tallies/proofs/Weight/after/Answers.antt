-- `tallies::Weight::after` meets its contract: by what its callees ensure. Assumes nothing.
use Rattle.tallies.specs.Formulas.{after_g}
use Rattle.tallies.proofs.Weight.after.Goals as goal

pub returns : goal.returns
unfolding after_g
returns c =
    simp (
      c.product-4.ensures,
      c.product-3.ensures,
      c.sum.ensures,
      c.product-2.ensures,
      c.product.ensures,
    )
