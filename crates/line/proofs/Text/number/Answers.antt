-- `line::Text::number` meets its contract: a space, and then the number. Assumes nothing.
use Rattle.std.proofs.Common.{arith}
use Rattle.line.specs.Line.{spaced}
use Rattle.line.specs.LineLaws.{put_then}
use Rattle.line.proofs.Text.number.Goals as goal

pub returns-clause-put : goal.returns-clause-put
unfolding spaced
returns-clause-put c = put_then c.put.ensures.put (omega (arith, c.put.ensures.put.end)) c.decimal.ensures.put
