-- `program::listing::put_answer` meets its contract: there is room for every line. Assumes nothing.
use native.Mathlib.Omega.{arith}
use mathlib.Core.Path.{sym}
use lib.Seq.{length-take-le}
use Rattle.program.proofs.listing.put_answer.Goals as goal

pub returns : goal.returns
returns c =
    record {
      put = rw c.line_for.ensures at c.line.ensures.put;
      prefix_len = (omega arith, sym (length-take-le _ _ (omega arith)));
    }
