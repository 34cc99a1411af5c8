-- `line::VerdictWord::text` meets its contract, word by word. Assumes nothing.
use Rattle.std.proofs.Common.{refl}
use Rattle.line.specs.Line.{spelled}
use Rattle.line.proofs.VerdictWord.text.Goals as goal

pub returns-in-Accepted-clause-spelled : goal.returns-in-Accepted-clause-spelled
unfolding spelled
returns-in-Accepted-clause-spelled c = rw c.in-Accepted.is refl

pub returns-in-Rejected-clause-spelled : goal.returns-in-Rejected-clause-spelled
unfolding spelled
returns-in-Rejected-clause-spelled c = rw c.in-Rejected.is refl

pub returns-in-Undecided-clause-spelled : goal.returns-in-Undecided-clause-spelled
unfolding spelled
returns-in-Undecided-clause-spelled c = rw c.in-Undecided.is refl

pub returns-in-Refused-clause-spelled : goal.returns-in-Refused-clause-spelled
unfolding spelled
returns-in-Refused-clause-spelled c = rw c.in-Refused.is refl
