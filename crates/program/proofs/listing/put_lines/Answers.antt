-- `program::listing::put_lines` meets its contract: the lines so far stand there, and the rest of the room is as it was. Assumes nothing.
use Rattle.std.proofs.Common.{rules, arith}
use Rattle.line.specs.TextLaws.{put_none, put_room, put_more, put_all}
use Rattle.program.proofs.listing.put_lines.Goals as goal

pub loop-number-init : goal.loop-number-init
loop-number-init c = (put_none, search rules)

pub put_number_line-requires : goal.put_number_line-requires
put_number_line-requires c =
    record {
      whole = c.requires.list_showable.section;
      showable = c.requires.list_showable.each c.loop-number.number-index (omega arith);
      room = put_room (omega arith) c.loop-number.invariant.0 (omega arith);
    }

pub loop-number-preserved : goal.loop-number-preserved
loop-number-preserved c =
    let p = c.requires.room in
    (put_more (omega arith) c.loop-number.invariant.0 (omega arith) c.put_number_line.ensures.put c.put_number_line.ensures.upper_bound, search rules)

pub returns : goal.returns
returns c =
    let p = put_all (omega arith) c.loop-number.invariant.0 (omega arith) in record {
      put = p.0;
      same_room = search rules;
      upper_bound = omega (arith, p.1);
    }
