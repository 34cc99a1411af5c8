-- `replay::next_line::zeros_left` meets its contract, case by case. Assumes nothing.
use Rattle.std.proofs.Common.{arith}
use Rattle.std.proofs.lemmas.Grind.{common_steps}
use Rattle.replay.specs.NextLine.{next_zeros}
use Rattle.replay.proofs.next_line.zeros_left.Goals as goal

pub returns-in-Listed : goal.returns-in-Listed
unfolding next_zeros
returns-in-Listed c = grind (arith, common_steps)

pub returns-in-Refused : goal.returns-in-Refused
unfolding next_zeros
returns-in-Refused c = grind (arith, common_steps)
