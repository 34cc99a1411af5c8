-- `tallies::sides` meets its contract: each arm rewrites with the test that led there. Assumes nothing.
use Rattle.tallies.specs.Formulas.{sides}
use borrow.Author.Rules.{rules}
use Rattle.tallies.proofs.sides.Goals as goal

pub returns-then-joint : goal.returns-then-joint
unfolding sides
returns-then-joint c = simp c.if-joint.true (search rules)

pub returns-else-joint : goal.returns-else-joint
unfolding sides
returns-else-joint c = simp c.if-joint.false (search rules)
