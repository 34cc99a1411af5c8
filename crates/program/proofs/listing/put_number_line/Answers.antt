-- `program::listing::put_number_line` meets its contract: its four texts, one after the other. Assumes nothing.
use Rattle.std.proofs.Common.{rules, arith}
use Rattle.line.specs.LineLaws.{put_then}
use Rattle.program.specs.Listing.{number_line}
use Rattle.program.proofs.listing.put_number_line.Goals as goal

pub put_meaning-requires : goal.put_meaning-requires
put_meaning-requires c =
    record {
      whole = c.requires.whole;
      showable = c.requires.showable;
      room = omega (arith, c.put.ensures.put.end);
    }

pub returns : goal.returns
unfolding number_line
returns c =
    let p = c.requires.room in
    let n1 = c.put.ensures.put in
    let n3 = c.put-2.ensures.put in
    let e = n1.end in
    let f = n3.end in record {
      put = put_then (rw c.from.ensures at c.decimal.ensures.put) (omega arith) (put_then n1 (omega arith) (put_then c.put_meaning.ensures.put (omega arith) n3));
      upper_bound = omega arith;
      same_room = search rules;
    }
