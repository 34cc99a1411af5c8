-- `program::write_file_line` meets its contract: the line of the answer to the file. Assumes nothing.
use mathlib.Core.Path.{ap, ◌∙◌}
use Rattle.program.specs.Program.{line_for}
use Rattle.program.specs.Answering.{printed}
use Rattle.program.proofs.write_file_line.Goals as goal

pub returns : goal.returns
unfolding printed
returns c =
    let e = c.line_for.ensures ∙ ap line_for c.judge_file.ensures in record {
      file_printed = rw e at c.write_line.ensures.line_written;
      prefix_len = c.write_line.ensures.prefix_len;
    }
