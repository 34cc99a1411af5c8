-- `replay::text::put_note` meets its contract: one of the two words. Assumes nothing.
use Rattle.replay.specs.Text.{noted}
use Rattle.replay.proofs.text.put_note.Goals as goal
use Rattle.replay.proofs.text.put_note.Goals.{then-clean, else-clean}

pub returns-clause-put : goal.returns-clause-put
unfolding noted
returns-clause-put c =
    elim c.if-clean.branch [
      | then-clean w ↦ rw w.if-clean.true (rw w.put-is at c.put.ensures.put)
      | else-clean w ↦ rw w.if-clean.false (rw w.put-is at c.put.ensures.put)
    ]
