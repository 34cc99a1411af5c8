-- `replay::read_line::put_counts` meets its contract: its five texts, one after the other. Assumes nothing.
use Rattle.std.proofs.Common.{rules, arith}
use Rattle.line.specs.LineLaws.{put_then}
use Rattle.replay.specs.ReadLine.{counts_text}
use Rattle.replay.proofs.read_line.put_counts.Goals as goal

pub returns : goal.returns
unfolding counts_text
returns c =
    record {
      put = put_then c.put.ensures.put (omega (arith, c.put.ensures.put.end)) (put_then c.number.ensures.put (omega arith) (put_then c.number-2.ensures.put (omega arith) (put_then c.number-3.ensures.put (omega arith) c.put_sets.ensures.put)));
      same_room = search rules;
      upper_bound = omega (arith, c.put.ensures.put.end);
    }
