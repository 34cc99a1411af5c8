-- `flow::form_at` meets its contract: the form of the node that was read. Assumes nothing.
use mathlib.Core.Path.{◌∙◌, ap}
use Rattle.flow.specs.Kinds.{form}
use Rattle.flow.proofs.form_at.Goals as goal

pub returns : goal.returns
returns c = c.form_of.ensures ∙ ap form c.node_at.ensures
