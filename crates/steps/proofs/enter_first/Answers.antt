-- `steps::enter_first` meets its contract: only a choice has its mode set. Assumes nothing.
use mathlib.Core.Path.{refl}
use mathlib.Core.Logic.{inl, inr}
use Rattle.states.specs.ChildLaws.{set_sets, sets_none}
use Rattle.states.specs.Hands.{first_mode}
use Rattle.steps.proofs.enter_first.Goals as goal

pub returns-in-Choice : goal.returns-in-Choice
unfolding first_mode
returns-in-Choice c = rw c.in-Choice.is (set_sets c.requires c.set_mode.ensures)

pub returns-in-Sequence : goal.returns-in-Sequence
unfolding first_mode
returns-in-Sequence c = elim c.in-Sequence.is [ inl e ↦ rw e (sets_none refl) | inr e ↦ rw e.1 (sets_none refl) ]
