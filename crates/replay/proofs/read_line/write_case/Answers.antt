-- `replay::read_line::write_case` meets its contract: what the answer tells, and the word for the tables behind it. Assumes nothing.
use Rattle.std.proofs.Common.{rules, arith}
use Rattle.line.specs.LineLaws.{put_then}
use Rattle.replay.specs.ReadLine.{read_line}
use Rattle.replay.specs.TextLaws.{noted_length}
use Rattle.replay.proofs.read_line.write_case.Goals as goal

pub returns : goal.returns
unfolding read_line
returns c =
    let told = put_then c.put_reading.ensures.put (omega arith) c.put_note.ensures.put in record {
      put = search rules;
      upper_bound = omega (arith, c.put_note.ensures.put.end, noted_length c.args.clean);
    }
