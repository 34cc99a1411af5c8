-- `line::is_text` meets its contract: the tests are the definition's. Assumes nothing.
use Rattle.std.proofs.Common.{rules, tests}
use Rattle.line.specs.Shown.{is_text}
use Rattle.line.proofs.is_text.Goals as goal

pub returns-then-contains : goal.returns-then-contains
unfolding is_text
returns-then-contains c = search (rules, tests)

pub returns-else-contains : goal.returns-else-contains
unfolding is_text
returns-else-contains c = search (rules, tests)
