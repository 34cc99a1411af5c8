-- `seek::first_ending` meets its contract: what the endings done and withdrawn weigh is put in for the numbers handed on. Assumes
-- nothing.
use Rattle.seek.proofs.first_ending.Goals as goal

pub returns : goal.returns
returns c = rw (← c.side_weight.ensures, ← c.side_weight-2.ensures) c.ending_at.ensures
