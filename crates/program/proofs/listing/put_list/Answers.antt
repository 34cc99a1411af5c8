-- `program::listing::put_list` meets its contract: the lines, and the count behind them; there is room for every list. Assumes nothing.
use native.Mathlib.Omega.{arith}
use mathlib.Core.Path.{sym}
use lib.Seq.{length-take-le}
use Rattle.line.specs.LineLaws.{put_length, put_then}
use Rattle.program.specs.Listing.{list_text}
use Rattle.program.proofs.listing.put_list.Goals as goal

pub returns : goal.returns
unfolding list_text
returns c =
    let few = c.requires.few in
    let p = put_then c.put_lines.ensures.put (omega arith) c.put_count.ensures.put in
    let l = put_length p (omega arith) in record {
      put = p;
      prefix_len = (omega arith, sym (length-take-le _ _ (omega arith)));
    }
