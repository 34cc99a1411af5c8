-- `flow::check_closings` meets its contract: each arm by the extent that it matches. Assumes nothing.
use mathlib.Core.Path.{◌∙◌}
use Rattle.flow.proofs.check_closings.Goals as goal

pub returns-in-Whole : goal.returns-in-Whole
returns-in-Whole c = c.check_whole_closings.ensures ∙ (rw c.in-Whole.is)

pub returns-in-Beginning : goal.returns-in-Beginning
returns-in-Beginning c = c.check_open.ensures ∙ (rw c.in-Beginning.is)
