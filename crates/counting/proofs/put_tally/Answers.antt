-- `counting::put_tally` meets its contract: three numbers are written, one after the other. Assumes nothing.
use native.Mathlib.Omega.{arith}
use lib.ListN.{length-set}
use Rattle.counting.specs.RowWrites.{shared_by}
use Rattle.counting.proofs.put_tally.Goals as goal

pub bounds-d-k-2 : goal.bounds-d-k-2
bounds-d-k-2 c = omega (arith, c.requires, length-set c.args.d.now c.args.k c.args.x.many)

pub returns : goal.returns
returns c = shared_by c.args.d.now c.args.x c.requires
