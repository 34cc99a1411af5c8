-- `tallies::Word::held` meets its contract: by what its callees ensure. Assumes nothing.
use Rattle.tallies.specs.Formulas.{held_w}
use Rattle.tallies.proofs.Word.held.Goals as goal

pub returns : goal.returns
unfolding held_w
returns c =
    simp (
      c.sequence-3.ensures,
      c.sequence-2.ensures,
      c.sequence.ensures,
      c.one-k.ensures,
    )
