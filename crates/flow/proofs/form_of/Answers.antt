-- `flow::form_of` meets its contract: each arm by the node that it matches. Assumes nothing.
use mathlib.Core.Path.{◌∙◌}
use Rattle.flow.proofs.form_of.Goals as goal

pub returns-in-Event : goal.returns-in-Event
returns-in-Event c = c.leaf.ensures ∙ (rw c.in-Event.is)

pub returns-in-Basic : goal.returns-in-Basic
returns-in-Basic c = c.leaf-in-Basic.ensures ∙ (rw c.in-Basic.is)

pub returns-in-Standard : goal.returns-in-Standard
returns-in-Standard c = c.branch.ensures ∙ (rw c.in-Standard.is)

pub returns-in-Handler : goal.returns-in-Handler
returns-in-Handler c = c.branch-in-Handler.ensures ∙ (rw c.in-Handler.is)

pub returns-in-Block : goal.returns-in-Block
returns-in-Block c = c.branch-in-Block.ensures ∙ (rw c.in-Block.is)

pub returns-in-Pair : goal.returns-in-Pair
returns-in-Pair c = c.branch-in-Pair.ensures ∙ (rw c.in-Pair.is)

pub returns-in-Compensable : goal.returns-in-Compensable
returns-in-Compensable c = c.branch-in-Compensable.ensures ∙ (rw c.in-Compensable.is)

pub returns-in-Paired : goal.returns-in-Paired
returns-in-Paired c = c.leaf-in-Paired.ensures ∙ (rw c.in-Paired.is)

pub returns-in-Unknown : goal.returns-in-Unknown
returns-in-Unknown c = rw c.in-Unknown.is
