-- `program::line_for` meets its contract, case by case. Assumes nothing.
use mathlib.Core.Path.{sym, ap}
use Rattle.program.specs.Program.{line_for}
use Rattle.judge.specs.Judged.{told}
use Rattle.program.proofs.line_for.Goals as goal

pub returns-in-Accepted : goal.returns-in-Accepted
unfolding line_for told
returns-in-Accepted c = sym (ap line_for c.in-Accepted.is)

pub returns-in-Rejected : goal.returns-in-Rejected
unfolding line_for told
returns-in-Rejected c = sym (ap line_for c.in-Rejected.is)

pub returns-in-Undecided : goal.returns-in-Undecided
unfolding line_for told
returns-in-Undecided c = sym (ap line_for c.in-Undecided.is)

pub returns-in-Refused : goal.returns-in-Refused
unfolding line_for told
returns-in-Refused c = sym (ap line_for c.in-Refused.is)
