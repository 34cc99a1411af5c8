-- `replay::judge_line::write_case` meets its contract: what the answer tells, and the word for the work bytes behind it. Assumes nothing.
use Rattle.std.proofs.Common.{rules, arith}
use mathlib.Core.Path.{sym}
use Rattle.line.specs.LineLaws.{put_then}
use Rattle.replay.specs.Promised.{case_line}
use Rattle.replay.specs.TextLaws.{noted_length}
use Rattle.replay.proofs.judge_line.write_case.Goals as goal

pub returns : goal.returns
unfolding case_line
returns c =
    let told = put_then c.line_without_end.ensures.put (omega arith) c.put_note.ensures.put in record {
      put = rw (sym c.line_for.ensures, sym c.zeros_after-zeros.ensures, sym c.clean-clean.ensures) (search rules);
      upper_bound = omega (arith, c.put_note.ensures.put.end, noted_length c.clean-clean.result);
    }
