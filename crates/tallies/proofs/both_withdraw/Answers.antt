-- `tallies::both_withdraw` meets its contract: the closed form. Assumes nothing.
use mathlib.Core.Path.{sym}
use Rattle.tallies.proofs.ClosedForms.{both_v_withdrawn}
use Rattle.tallies.proofs.both_withdraw.Goals as goal

pub returns : goal.returns
returns c = sym (both_v_withdrawn _ _)
