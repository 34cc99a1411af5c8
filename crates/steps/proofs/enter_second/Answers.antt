-- `steps::enter_second` meets its contract: a parallel keeps its mode. Assumes nothing.
use mathlib.Core.Path.{refl}
use Rattle.states.specs.ChildLaws.{set_sets, sets_none}
use Rattle.states.specs.Hands.{second_mode}
use Rattle.steps.proofs.enter_second.Goals as goal

pub returns-in-Sequence : goal.returns-in-Sequence
unfolding second_mode
returns-in-Sequence c = rw c.in-Sequence.is (set_sets c.requires c.set_mode.ensures)

pub returns-in-Choice : goal.returns-in-Choice
unfolding second_mode
returns-in-Choice c = rw c.in-Choice.is (set_sets c.requires c.set_mode-in-Choice.ensures)

pub returns-in-Parallel : goal.returns-in-Parallel
unfolding second_mode
returns-in-Parallel c = rw c.in-Parallel.is (sets_none refl)
