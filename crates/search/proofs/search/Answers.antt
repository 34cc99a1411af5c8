-- `search::search` meets its contract: it asks nothing. Assumes nothing.
use native.Mathlib.Omega.{arith}
use Rattle.search.proofs.search.Goals as goal

pub ask-requires : goal.ask-requires
ask-requires c = (c.requires, λ j. omega arith)

pub returns : goal.returns
returns c = c.ask.ensures.search
