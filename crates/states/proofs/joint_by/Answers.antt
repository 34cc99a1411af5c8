-- `states::joint_by` meets its contract. Assumes nothing.
use mathlib.Core.Path.{◌∙◌}
use Rattle.states.proofs.joint_by.Goals as goal

pub returns-in-Parallel : goal.returns-in-Parallel
returns-in-Parallel c = c.joint.ensures ∙ rw c.in-Parallel.is
