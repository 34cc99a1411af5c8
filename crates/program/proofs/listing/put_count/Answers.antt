-- `program::listing::put_count` meets its contract: its three texts, one after the other. Assumes nothing.
use Rattle.std.proofs.Common.{rules, arith}
use Rattle.line.specs.LineLaws.{put_then}
use Rattle.program.specs.Listing.{count_line}
use Rattle.program.proofs.listing.put_count.Goals as goal

pub returns : goal.returns
unfolding count_line
returns c =
    let n0 = c.put.ensures.put in
    let n2 = c.put-2.ensures.put in record {
      put = put_then n0 (omega (arith, n0.end)) (put_then c.number.ensures.put (omega (arith, n0.end)) n2);
      upper_bound = omega (arith, n0.end, n2.end);
      same_room = search rules;
    }
