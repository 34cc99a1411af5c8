-- `line::Text::line_without_end` meets its contract: its four texts, one after the other. Assumes nothing.
use Rattle.std.proofs.Common.{arith}
use Rattle.line.specs.Line.{text_of}
use Rattle.line.specs.LineLaws.{put_then}
use Rattle.line.proofs.Text.line_without_end.Goals as goal

pub returns-clause-put : goal.returns-clause-put
unfolding text_of
returns-clause-put c =
    let word = rw c.text.ensures.spelled at c.put.ensures.put in
    let number = rw c.from.ensures at c.number.ensures.put in
    put_then word (omega (arith, c.put.ensures.put.end, c.text.ensures.short)) (put_then number (omega (arith, c.put.ensures.put.end, c.text.ensures.short)) (put_then c.number-2.ensures.put (omega (arith, c.put.ensures.put.end, c.text.ensures.short)) c.number-3.ensures.put))
