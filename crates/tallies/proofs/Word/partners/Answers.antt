-- `tallies::Word::partners` meets its contract: by what its callees ensure. Assumes nothing.
use Rattle.tallies.specs.Formulas.{partners_t}
use Rattle.tallies.proofs.Word.partners.Goals as goal

pub returns : goal.returns
unfolding partners_t
returns c =
    simp (
      c.plus-2.ensures,
      c.fitting-3.ensures,
      c.plus.ensures,
      c.fitting-2.ensures,
      c.fitting.ensures,
    )
