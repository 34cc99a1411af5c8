-- `tallies::View::handler` meets its contract: each arm rewrites with the test that led there. Assumes nothing.
use Rattle.tallies.specs.Formulas.{hnd_v}
use Rattle.tallies.proofs.View.handler.Goals as goal

pub returns-then-p : goal.returns-then-p
unfolding hnd_v
returns-then-p c =
    simp (
      c.if-p.true,
      c.sum.ensures,
    )

pub returns-else-p : goal.returns-else-p
unfolding hnd_v
returns-else-p c = simp c.if-p.false
