-- `tallies::Tally::plus` meets its contract: each return rewrites with the tests that led there. Assumes nothing.
use Rattle.tallies.specs.Formulas.{plus_t}
use borrow.Author.Tests.{eq-eqb, ne_eqb}
use Rattle.tallies.proofs.Tally.plus.Goals as goal

pub returns-then-self-eq0 : goal.returns-then-self-eq0
unfolding plus_t
returns-then-self-eq0 c = simp (eq-eqb _ _ c.if-self-eq0.true)

pub returns-then-y-eq0 : goal.returns-then-y-eq0
unfolding plus_t
returns-then-y-eq0 c = simp (ne_eqb _ _ c.if-self-eq0.false, eq-eqb _ _ c.if-y-eq0.true)

pub returns : goal.returns
unfolding plus_t
returns c =
    simp (
      ne_eqb _ _ c.if-self-eq0.false,
      ne_eqb _ _ c.if-y-eq0.false,
      c.sum-3.ensures,
      c.sum-2.ensures,
      c.sum.ensures,
    )
