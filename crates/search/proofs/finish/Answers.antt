-- `search::finish` meets its contract: whether the root can end, and whether the allowance is enough for nothing left. Assumes
-- nothing.
use Rattle.search.specs.Visits.{out_of}
use Rattle.search.proofs.OneRecord.{finish_not, finish_spent, finish_over}
use Rattle.search.proofs.finish.Goals as goal

pub returns-then-not-can_end : goal.returns-then-not-can_end
unfolding out_of
returns-then-not-can_end c = finish_not _ c.args.cue c.args.left c.can_end.ensures c.if-not-can_end.true

pub returns-then-left-eq0 : goal.returns-then-left-eq0
unfolding out_of
returns-then-left-eq0 c = finish_spent _ c.args.cue c.args.left c.can_end.ensures c.if-not-can_end.false c.if-left-eq0.true

pub returns-else-left-eq0 : goal.returns-else-left-eq0
unfolding out_of
returns-else-left-eq0 c = finish_over _ c.args.cue c.args.left c.can_end.ensures c.if-not-can_end.false c.if-left-eq0.false
