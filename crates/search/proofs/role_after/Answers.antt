-- `search::role_after` meets its contract: each arm by the role. Assumes nothing.
use borrow.Author.Tests.{lt-ltb, le-ltb}
use Rattle.search.specs.Visits.{role_next}
use Rattle.search.proofs.role_after.Goals as goal

pub returns-in-Plain : goal.returns-in-Plain
unfolding role_next
returns-in-Plain c = rw c.in-Plain.is

pub returns-then-cue-lt-DONE_CUE : goal.returns-then-cue-lt-DONE_CUE
unfolding role_next
returns-then-cue-lt-DONE_CUE c = rw (c.in-Running.is, lt-ltb _ _ c.if-cue-lt-DONE_CUE.true)

pub returns-else-cue-lt-DONE_CUE : goal.returns-else-cue-lt-DONE_CUE
unfolding role_next
returns-else-cue-lt-DONE_CUE c = rw (c.in-Running.is, le-ltb _ _ c.if-cue-lt-DONE_CUE.false)
