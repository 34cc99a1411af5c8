-- `tallies::View::sequence` meets its contract: each arm rewrites with the test that led there. Assumes nothing.
use Rattle.tallies.specs.Formulas.{seq_v}
use Rattle.tallies.proofs.ViewKnown.sequence.Goals as goal

pub returns-then-p : goal.returns-then-p
unfolding seq_v
returns-then-p c =
    simp (
      c.if-p.true,
      c.sum.ensures,
    )

pub returns-else-p : goal.returns-else-p
unfolding seq_v
returns-else-p c = simp c.if-p.false
