-- `counting::keep` meets its contract: nine numbers are written, three for each closing. Assumes nothing.
use Rattle.counting.specs.RowWrites.{written_by}
use Rattle.counting.proofs.keep.Goals as goal

pub returns : goal.returns
returns c = written_by c.args.x c.put_tally.ensures c.put_tally-2.ensures c.put_tally-3.ensures
