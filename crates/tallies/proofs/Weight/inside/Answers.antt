-- `tallies::Weight::inside` meets its contract: able to end done or not, by what its callees ensure. Assumes nothing.
use Rattle.tallies.specs.Formulas.{inside_g}
use Rattle.tallies.proofs.Weight.inside.Goals.{then-able, else-able}
use Rattle.tallies.proofs.Weight.inside.Goals as goal

pub returns : goal.returns
unfolding inside_g
returns c =
    elim c.if-able.branch [
      | then-able w ↦ simp (w.if-able.true, w.sum-is, c.sum.ensures, c.product.ensures)
      | else-able w ↦ simp (w.if-able.false, w.sum-is, c.sum.ensures, c.product.ensures)
    ]
