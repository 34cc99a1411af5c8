-- `tallies::Word::fitting` meets its contract: by what its callees ensure. Assumes nothing.
use Rattle.tallies.specs.Formulas.{fitting_t}
use Rattle.tallies.proofs.Word.fitting.Goals as goal

pub returns : goal.returns
unfolding fitting_t
returns c = simp (c.when.ensures, c.by.ensures, c.joins.ensures)
