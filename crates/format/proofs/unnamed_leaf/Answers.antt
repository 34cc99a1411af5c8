-- `format::unnamed_leaf` meets its contract: the two tests are the definition's.
-- Assumes nothing.
use Rattle.format.specs.Contents.{unnamed_leaf}
use Rattle.format.proofs.unnamed_leaf.Goals as goal

pub returns : goal.returns
unfolding unnamed_leaf
returns c = rw (c.form_at-form.ensures, c.first_at-event.ensures)
