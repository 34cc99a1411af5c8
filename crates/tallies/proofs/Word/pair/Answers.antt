-- `tallies::Word::pair` meets its contract: by what its callees ensure. Assumes nothing.
use Rattle.tallies.specs.Formulas.{pair_w}
use Rattle.tallies.proofs.Word.pair.Goals as goal

pub returns : goal.returns
unfolding pair_w
returns c =
    simp (
      c.when-3.ensures,
      c.when-2.ensures,
      c.when.ensures,
      c.one.ensures,
      c.skip-skips.ensures,
    )
