-- `search::answer` meets its contract: an ask that asks nothing more stays, another is answered if its record can follow. Assumes nothing.
use borrow.Author.Tests.{le-leb, lt-leb}
use Rattle.search.specs.Searches.{answered}
use Rattle.search.proofs.answer.Goals as goal

pub returns-then-cue-le-FOLLOWS : goal.returns-then-cue-le-FOLLOWS
unfolding answered
returns-then-cue-le-FOLLOWS c = rw (le-leb c.args.cue 1 c.if-cue-le-FOLLOWS.true)

pub returns-then-follows : goal.returns-then-follows
unfolding answered
returns-then-follows c = rw (lt-leb c.args.cue 1 c.if-cue-le-FOLLOWS.false, ← c.follows.ensures, c.if-follows.true)

pub returns-else-follows : goal.returns-else-follows
unfolding answered
returns-else-follows c = rw (lt-leb c.args.cue 1 c.if-cue-le-FOLLOWS.false, ← c.follows.ensures, c.if-follows.false)
