-- `replay::text::put_refused` meets its contract: its three texts, one after the other. Assumes nothing.
use Rattle.std.proofs.Common.{rules, arith}
use Rattle.line.specs.LineLaws.{put_then}
use Rattle.line.specs.Line.{spelled}
use Rattle.replay.specs.Text.{refused_text}
use Rattle.replay.proofs.text.put_refused.Goals as goal

pub returns : goal.returns
unfolding refused_text spelled
returns c =
    record {
      put = put_then c.put.ensures.put (omega (arith, c.put.ensures.put.end)) (put_then (rw c.from.ensures at c.number.ensures.put) (omega arith) c.number-2.ensures.put);
      same_room = search rules;
      upper_bound = omega (arith, c.put.ensures.put.end);
    }
