-- `tallies::both_fail` meets its contract: the closed form. Assumes nothing.
use mathlib.Core.Path.{sym}
use Rattle.tallies.proofs.ClosedForms.{both_v_failed}
use Rattle.tallies.proofs.both_fail.Goals as goal

pub returns : goal.returns
returns c = sym (both_v_failed _ _)
