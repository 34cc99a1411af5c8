-- `seek::lone_at` meets its contract: what is read is what the row keeps of those by done. Assumes nothing.
use mathlib.Core.Bool.{not}
use lib.Dec.{eqb}
use Rattle.states.specs.Becomes.{picked}
use Rattle.states.specs.Rows.{row}
use Rattle.seek.proofs.lone_at.Goals as goal

pub returns : goal.returns
unfolding row
returns c = λ z. picked c.args.j (c.share-y.ensures z).moves (not (eqb (c.share-y.ensures z).able 0))
