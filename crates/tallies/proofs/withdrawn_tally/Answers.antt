-- `tallies::withdrawn_tally` meets its contract: the closed form. Assumes nothing.
use Rattle.tallies.proofs.ClosedForms.{both_t_withdrawn}
use Rattle.tallies.proofs.withdrawn_tally.Goals as goal

pub returns : goal.returns
returns c =
    simp (
      c.plus.ensures,
      c.parallel-2.ensures,
      c.parallel.ensures,
      c.plus-unfailed.ensures,
      both_t_withdrawn,
    )
