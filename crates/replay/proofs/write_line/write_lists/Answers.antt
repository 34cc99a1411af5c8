-- `replay::write_line::write_lists` meets its contract: the bytes are filled, written to and found clean, always. Assumes nothing.
use native.Mathlib.Omega.{arith}
use mathlib.Core.Path.{sym}
use lib.ListN.{length}
use lib.Seq.{length-take-le}
use borrow.Author.Rules.{rules}
use Rattle.line.specs.LineLaws.{put_length}
use Rattle.replay.specs.WriteLineLaws.{written_printable, file_left, write_line_clean}
use Rattle.replay.proofs.write_line.write_lists.Goals as goal

pub write_case-requires : goal.write_case-requires
write_case-requires c =
    record {
      printable = written_printable c.write-answer.ensures;
      in_bounds = search rules;
    }

pub returns : goal.returns
returns c =
    let room = length c.args.file.now in
    let f = c.fill.ensures.after (λ y e. e) in
    let h = c.write-answer.ensures in
    let p = c.requires in
    let l = put_length c.write_case.ensures.put (omega arith) in record {
      put = write_line_clean h room f c.clean.ensures c.write_case.ensures.put;
      file_after = file_left h room f;
      prefix_len = (omega arith, sym (length-take-le _ _ (omega arith)));
    }
