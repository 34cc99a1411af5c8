-- `line::Text::shown` meets its contract: one more byte is shown with each turn. Assumes nothing.
use Rattle.std.proofs.Common.{rules, arith}
use Rattle.line.specs.TextLaws.{put_none, put_room, put_more, put_all}
use Rattle.line.proofs.Text.shown.Goals as goal

pub loop-byte-init : goal.loop-byte-init
loop-byte-init c = (put_none, search rules)

pub shown_byte-requires : goal.shown_byte-requires
shown_byte-requires c = put_room c.requires c.loop-byte.invariant.0 (omega arith)

pub loop-byte-preserved : goal.loop-byte-preserved
loop-byte-preserved c =
    (put_more c.requires c.loop-byte.invariant.0 (omega arith) c.shown_byte.ensures.put c.shown_byte.ensures.upper_bound, search rules)

pub returns-clause-put : goal.returns-clause-put
returns-clause-put c = (put_all c.requires c.loop-byte.invariant.0 (omega arith)).0

pub returns-clause-upper_bound : goal.returns-clause-upper_bound
returns-clause-upper_bound c = (put_all c.requires c.loop-byte.invariant.0 (omega arith)).1
