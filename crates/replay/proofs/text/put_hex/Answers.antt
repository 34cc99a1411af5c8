-- `replay::text::put_hex` meets its contract: so many bytes stand in digits, and the rest of the room is as it was. Assumes nothing.
use Rattle.std.proofs.Common.{rules, arith}
use Rattle.line.specs.TextLaws.{put_none, put_room, put_more, put_all}
use Rattle.replay.proofs.text.put_hex.Goals as goal

pub loop-byte-init : goal.loop-byte-init
loop-byte-init c = (put_none, search rules)

pub hex-requires : goal.hex-requires
hex-requires c = put_room c.requires c.loop-byte.invariant.0 (omega arith)

pub loop-byte-preserved : goal.loop-byte-preserved
loop-byte-preserved c = (put_more c.requires c.loop-byte.invariant.0 (omega arith) c.hex.ensures.put c.hex.ensures.upper_bound, search rules)

pub returns : goal.returns
returns c =
    let whole = put_all c.requires c.loop-byte.invariant.0 (omega arith) in record {
      put = whole.0;
      same_room = search rules;
      upper_bound = whole.1;
    }
