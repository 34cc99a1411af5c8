-- `replay::next_line::length_listed` meets its contract, case by case. Assumes nothing.
use Rattle.std.proofs.Common.{arith}
use Rattle.std.proofs.lemmas.Grind.{common_steps}
use Rattle.replay.specs.NextLine.{length_listed}
use Rattle.replay.proofs.next_line.length_listed.Goals as goal

pub returns-in-Listed : goal.returns-in-Listed
unfolding length_listed
returns-in-Listed c = grind (arith, common_steps)

pub returns-in-Undecided : goal.returns-in-Undecided
unfolding length_listed
returns-in-Undecided c = grind (arith, common_steps)
