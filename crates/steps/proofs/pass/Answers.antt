-- `steps::pass` meets its contract: by the operator. Assumes nothing.
use mathlib.Core.Logic.{inl, inr}
use mathlib.Core.Path.{refl}
use Rattle.steps.proofs.pass.Goals as goal

pub returns-in-Sequence : goal.returns-in-Sequence
returns-in-Sequence c = rw c.in-Sequence.is c.redraw.ensures

pub returns-in-Choice : goal.returns-in-Choice
returns-in-Choice c = elim c.in-Choice.is [ inl e ↦ rw e refl | inr e ↦ rw e.1 refl ]
