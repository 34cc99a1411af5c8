-- `replay::text::put_numbers` meets its contract: so many numbers stand there, and the rest of the room is as it was. Assumes nothing.
use Rattle.std.proofs.Common.{rules, arith}
use Rattle.line.specs.TextLaws.{put_none, put_room, put_more, put_all}
use Rattle.replay.proofs.text.put_numbers.Goals as goal

pub loop-number-init : goal.loop-number-init
loop-number-init c = (put_none, search rules)

pub number-requires : goal.number-requires
number-requires c = put_room c.requires c.loop-number.invariant.0 (omega arith)

pub loop-number-preserved : goal.loop-number-preserved
loop-number-preserved c =
    let one = rw c.from.ensures at c.number.ensures.put in
    (put_more c.requires c.loop-number.invariant.0 (omega arith) one c.number.ensures.upper_bound, search rules)

pub returns : goal.returns
returns c =
    let whole = put_all c.requires c.loop-number.invariant.0 (omega arith) in record {
      put = whole.0;
      same_room = search rules;
      upper_bound = whole.1;
    }
