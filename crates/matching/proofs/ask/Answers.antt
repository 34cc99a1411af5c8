-- `matching::ask` meets its contract: by whether the number is asked. Assumes nothing.
use mathlib.Core.Path.{sym, ◌∙◌}
use Rattle.matching.specs.Asks.{ask_by}
use Rattle.matching.proofs.ask.Goals as goal

pub returns-then-is_asked : goal.returns-then-is_asked
unfolding ask_by
returns-then-is_asked g c = rw (sym c.is_asked.ensures ∙ c.if-is_asked.true) c.cue.ensures

pub returns-else-is_asked : goal.returns-else-is_asked
unfolding ask_by
returns-else-is_asked g c = rw (sym c.is_asked.ensures ∙ c.if-is_asked.false)
