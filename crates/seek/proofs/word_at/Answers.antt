-- `seek::word_at` meets its contract: what the three calls ensure, put together. Assumes nothing.
use Rattle.tallies.specs.Formulas.{worded}
use Rattle.states.specs.Rows.{row}
use Rattle.seek.proofs.word_at.Goals as goal

pub returns : goal.returns
unfolding row
returns c = λ z. worded 0 (c.share.ensures z) (c.share-2.ensures z) (c.share-3.ensures z)
