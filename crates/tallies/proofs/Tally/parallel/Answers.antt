-- `tallies::Tally::parallel` meets its contract: each return rewrites with the tests that led there. Assumes nothing.
use mathlib.Core.Path.{refl}
use Rattle.tallies.specs.Formulas.{par_t}
use Rattle.tallies.proofs.Beside.{beside}
use borrow.Author.Tests.{eq-eqb, ne_eqb}
use Rattle.tallies.proofs.Tally.parallel.Goals as goal

pub returns-then-x-eq0 : goal.returns-then-x-eq0
unfolding par_t
returns-then-x-eq0 c = simp (eq-eqb _ _ c.if-x-eq0.true, c.none.ensures)

pub returns-then-y-eq0 : goal.returns-then-y-eq0
unfolding par_t
returns-then-y-eq0 c = simp (ne_eqb _ _ c.if-x-eq0.false, eq-eqb _ _ c.if-y-eq0.true, c.none-then-y-eq0.ensures)

pub returns : goal.returns
returns c =
    beside _ _ _ (ne_eqb _ _ c.if-x-eq0.false) (ne_eqb _ _ c.if-y-eq0.false) c.any-p.ensures c.any-q.ensures
    c.product.ensures c.product-2.ensures c.steps_beside.ensures
    c.both_withdraw.ensures c.both_fail.ensures refl
