-- `replay::read_line::records_taken` meets its contract, case by case. Assumes nothing.
use mathlib.Core.Path.{sym, ap}
use Rattle.replay.specs.ReadLine.{records_taken}
use Rattle.replay.proofs.read_line.records_taken.Goals as goal

pub returns-in-Ok : goal.returns-in-Ok
unfolding records_taken
returns-in-Ok c = sym (ap records_taken c.in-Ok.is)

pub returns-in-Err : goal.returns-in-Err
unfolding records_taken
returns-in-Err c = sym (ap records_taken c.in-Err.is)
