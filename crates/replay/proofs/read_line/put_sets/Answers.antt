-- `replay::read_line::put_sets` meets its contract: its two numbers, one after the other. Assumes nothing.
use Rattle.std.proofs.Common.{rules, arith}
use Rattle.line.specs.LineLaws.{put_then}
use Rattle.replay.specs.ReadLine.{sets_text}
use Rattle.replay.proofs.read_line.put_sets.Goals as goal

pub returns : goal.returns
unfolding sets_text
returns c =
    record {
      put = put_then c.number.ensures.put (omega arith) c.number-2.ensures.put;
      same_room = search rules;
      upper_bound = omega arith;
    }
