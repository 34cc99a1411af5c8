-- `tallies::View::parallel` meets its contract: by the closed forms. Assumes nothing.
use Rattle.tallies.specs.Formulas.{par_v}
use Rattle.tallies.proofs.ClosedForms.{both_v_done}
use Rattle.tallies.proofs.ViewKnown.parallel.Goals as goal

pub returns : goal.returns
unfolding par_v
returns c =
    simp (
      c.both_fail.ensures,
      c.both_withdraw.ensures,
      c.sides.ensures,
      both_v_done,
    )
