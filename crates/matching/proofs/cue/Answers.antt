-- `matching::cue` meets its contract: an event with its sets, beside the other that takes it, a closing beside no event's number.
-- Assumes nothing.
use mathlib.Core.Path.{ap₂, ◌∙◌}
use borrow.Author.Tests.{le-leb, lt-leb}
use Rattle.flow.specs.Legends.{in_set}
use Rattle.flow.specs.Cues.{cue, cue_of}
use Rattle.matching.specs.SetLaws.{mask_low}
use Rattle.matching.proofs.cue.Goals as goal

pub packed-requires : goal.packed-requires
packed-requires g c = let a = c.args in rw c.mask.ensures (mask_low (in_set a.sets.now) a.number)

pub returns-then-number-le-MOST_EVENTS : goal.returns-then-number-le-MOST_EVENTS
unfolding cue_of
returns-then-number-le-MOST_EVENTS g c =
    let number = c.args.number in
    rw (le-leb number 256 c.if-number-le-MOST_EVENTS.true) (c.packed.ensures ∙ ap₂ (cue number) c.mask.ensures c.other_event.ensures)

pub returns-else-number-le-MOST_EVENTS : goal.returns-else-number-le-MOST_EVENTS
unfolding cue_of
returns-else-number-le-MOST_EVENTS g c = rw (lt-leb c.args.number 256 c.if-number-le-MOST_EVENTS.false) c.packed-else-number-le-MOST_EVENTS.ensures
