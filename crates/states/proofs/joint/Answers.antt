-- `states::joint` meets its contract: a number from 16 up names no set. Assumes nothing.
use borrow.Author.Tests.{lt-ltb, le-ltb}
use Rattle.flow.specs.Kinds.{set_of}
use Rattle.flow.specs.Cues.{joint_cue}
use Rattle.states.proofs.joint.Goals as goal

pub returns-then-set-ge-NO_SET : goal.returns-then-set-ge-NO_SET
unfolding set_of
returns-then-set-ge-NO_SET c = rw (le-ltb _ _ c.if-set-ge-NO_SET.true)

pub returns : goal.returns
unfolding set_of joint_cue
returns c = rw (lt-ltb _ _ c.if-set-ge-NO_SET.false)
