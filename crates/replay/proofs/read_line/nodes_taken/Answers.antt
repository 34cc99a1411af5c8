-- `replay::read_line::nodes_taken` meets its contract, case by case. Assumes nothing.
use mathlib.Core.Path.{sym, ap}
use Rattle.replay.specs.ReadLine.{nodes_taken}
use Rattle.replay.proofs.read_line.nodes_taken.Goals as goal

pub returns-in-Ok : goal.returns-in-Ok
unfolding nodes_taken
returns-in-Ok c = sym (ap nodes_taken c.in-Ok.is)

pub returns-in-Err : goal.returns-in-Err
unfolding nodes_taken
returns-in-Err c = sym (ap nodes_taken c.in-Err.is)
