-- `tallies::View::block` meets its contract: by what its callees ensure. Assumes nothing.
use Rattle.tallies.specs.Formulas.{blk_v}
use Rattle.tallies.proofs.View.block.Goals as goal

pub returns : goal.returns
unfolding blk_v
returns c = simp c.sum.ensures
