-- `tallies::Word::sequence` meets its contract: by what its callees ensure. Assumes nothing.
use Rattle.tallies.specs.Formulas.{cseq_w}
use Rattle.tallies.proofs.WordKnown.sequence.Goals as goal

pub returns : goal.returns
unfolding cseq_w
returns c =
    simp (
      c.sequence-3.ensures,
      c.sum.ensures,
      c.product.ensures,
      c.plus-f.ensures,
      c.sequence-2.ensures,
      c.plus-w.ensures,
      c.sequence.ensures,
    )
