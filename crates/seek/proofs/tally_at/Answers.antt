-- `seek::tally_at` meets its contract: what the two calls ensure, put together. Assumes nothing.
use Rattle.seek.proofs.tally_at.Goals as goal

pub returns : goal.returns
returns c = cc
