-- `steps::hold` meets its contract: each compensation weighs the second part's steps. Assumes nothing.
use Rattle.steps.proofs.hold.Goals as goal

pub choose-requires : goal.choose-requires
choose-requires c =
    record {
      spot = c.requires.spot;
      weighed = c.requires.weighed;
      j_bound = rw c.count_at-own.ensures c.requires.j_bound;
    }

pub returns : goal.returns
returns c =
    record {
      chosen = rw c.count_at-own.ensures at c.choose.ensures.chosen;
      noted = c.choose.ensures.counted.kept;
      lent = c.choose.ensures.lent;
    }
