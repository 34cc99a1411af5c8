-- `tallies::failed_tally` meets its contract: the closed form. Assumes nothing.
use Rattle.tallies.proofs.ClosedForms.{both_t_failed}
use Rattle.tallies.proofs.failed_tally.Goals as goal

pub returns : goal.returns
returns c =
    simp (
      c.plus-2.ensures,
      c.beside_any.ensures,
      c.plus.ensures,
      c.parallel-2.ensures,
      c.parallel.ensures,
      both_t_failed,
    )
