-- `line::Text::shown_byte` meets its contract: the byte itself, or a backslash, an x and its digits. Assumes nothing.
use Rattle.std.proofs.Common.{arith, sym, ◌∙◌}
use Rattle.line.specs.Shown.{shown_byte}
use Rattle.line.specs.LineLaws.{put_then}
use Rattle.line.proofs.Text.shown_byte.Goals as goal

pub returns-then-is_text-clause-put : goal.returns-then-is_text-clause-put
unfolding shown_byte
returns-then-is_text-clause-put c = rw (sym c.is_text.ensures ∙ c.if-is_text.true) c.put.ensures.put

pub returns-clause-put : goal.returns-clause-put
unfolding shown_byte
returns-clause-put c =
    rw (sym c.is_text.ensures ∙ c.if-is_text.false)
    (put_then c.put-2.ensures.put (omega (arith, c.put-2.ensures.put.end)) c.hex.ensures.put)
