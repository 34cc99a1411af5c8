-- `tallies::Word::choice` meets its contract: by what its callees ensure. Assumes nothing.
use Rattle.tallies.specs.Formulas.{calt_w}
use Rattle.tallies.proofs.WordKnown.choice.Goals as goal

pub returns : goal.returns
unfolding calt_w
returns c =
    simp (
      c.plus-3.ensures,
      c.plus-2.ensures,
      c.plus.ensures,
      c.sum.ensures,
    )
