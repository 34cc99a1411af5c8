-- `seek::moves_before` meets its contract: the arm that goes on rewrites with the test that led there. Assumes nothing.
use Rattle.seek.proofs.moves_before.Goals as goal

pub returns-then-able : goal.returns-then-able
returns-then-able c = simp c.if-able.true c.sum.ensures
