-- `replay::write_line::length_written` meets its contract, case by case. Assumes nothing.
use mathlib.Core.Path.{sym, ap}
use Rattle.replay.specs.WriteLine.{length_written}
use Rattle.replay.proofs.write_line.length_written.Goals as goal

pub returns-in-Ok : goal.returns-in-Ok
unfolding length_written
returns-in-Ok c = sym (ap length_written c.in-Ok.is)

pub returns-in-Err : goal.returns-in-Err
unfolding length_written
returns-in-Err c = sym (ap length_written c.in-Err.is)
