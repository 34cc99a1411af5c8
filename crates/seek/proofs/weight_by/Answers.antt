-- `seek::weight_by` meets its contract: what the two calls ensure, put together. Assumes nothing.
use Rattle.seek.proofs.weight_by.Goals as goal

pub returns : goal.returns
returns c = cc
