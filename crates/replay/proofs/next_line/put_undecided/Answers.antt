-- `replay::next_line::put_undecided` meets its contract: its three texts, one after the other. Assumes nothing.
use Rattle.std.proofs.Common.{rules, arith}
use Rattle.line.specs.Line.{spelled}
use Rattle.line.specs.LineLaws.{put_then}
use Rattle.replay.specs.NextLine.{undecided_text}
use Rattle.replay.proofs.next_line.put_undecided.Goals as goal

pub returns : goal.returns
unfolding undecided_text spelled
returns c =
    let n0 = c.put.ensures.put in
    let e = n0.end in record {
      put = put_then n0 (omega arith) (put_then c.number.ensures.put (omega arith) c.number-2.ensures.put);
      same_room = search rules;
      upper_bound = omega arith;
    }
