-- `flow::node_at` meets its contract: the node of the three numbers that were read. Assumes nothing.
use mathlib.Core.Path.{◌∙◌}
use Rattle.flow.specs.Kinds.{node_of}
use Rattle.flow.proofs.node_at.Goals as goal

pub returns : goal.returns
returns c = c.node_of.ensures ∙ (λ z. node_of (c.kind_at.ensures z) (c.first_at.ensures z) (c.second_at.ensures z))
