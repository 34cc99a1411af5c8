-- `line::Text::line` meets its contract: the text, and the line feed behind it. Assumes nothing.
use Rattle.std.proofs.Common.{arith}
use Rattle.line.specs.Line.{line_of}
use Rattle.line.specs.LineLaws.{put_then}
use Rattle.line.proofs.Text.line.Goals as goal

pub returns-clause-put : goal.returns-clause-put
unfolding line_of
returns-clause-put c = put_then c.line_without_end.ensures.put (omega arith) c.put.ensures.put
