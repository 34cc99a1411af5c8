-- `tallies::Tally::sequence` meets its contract: each return rewrites with the tests that led there. Assumes nothing.
use Rattle.tallies.specs.Formulas.{seq_t}
use borrow.Author.Tests.{eq-eqb, ne_eqb}
use Rattle.tallies.proofs.Tally.sequence.Goals as goal

pub returns-then-self-eq0 : goal.returns-then-self-eq0
unfolding seq_t
returns-then-self-eq0 c = simp (eq-eqb _ _ c.if-self-eq0.true, c.none.ensures)

pub returns-then-y-eq0 : goal.returns-then-y-eq0
unfolding seq_t
returns-then-y-eq0 c = simp (ne_eqb _ _ c.if-self-eq0.false, eq-eqb _ _ c.if-y-eq0.true, c.none-then-y-eq0.ensures)

pub returns : goal.returns
unfolding seq_t
returns c =
    simp (
      ne_eqb _ _ c.if-self-eq0.false,
      ne_eqb _ _ c.if-y-eq0.false,
      c.sum.ensures,
      c.product-4.ensures,
      c.product-3.ensures,
      c.product-2.ensures,
      c.product.ensures,
    )
