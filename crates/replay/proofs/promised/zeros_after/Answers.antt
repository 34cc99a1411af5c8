-- `replay::promised::zeros_after` meets its contract, case by case. Assumes nothing.
use Rattle.std.proofs.Common.{arith}
use Rattle.std.proofs.lemmas.Grind.{common_steps}
use Rattle.replay.specs.Promised.{zeros_after}
use Rattle.replay.proofs.promised.zeros_after.Goals as goal

pub returns-in-Accepted : goal.returns-in-Accepted
unfolding zeros_after
returns-in-Accepted c = grind (arith, common_steps)

pub returns-in-Refused : goal.returns-in-Refused
unfolding zeros_after
returns-in-Refused c = grind (arith, common_steps)
