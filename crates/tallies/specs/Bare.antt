-- Tallies and words without what a weight does not look at: by what else compensations can end, and a running part's own steps.
-- Definitions only; that no weight looks at these is in BareLaws. Assumes nothing.
use Rattle.std.specs.Prelude.{false}
use Rattle.tallies.specs.declared.Tally.{Tally}
use Rattle.tallies.specs.declared.Word.{Word}
use Rattle.tallies.specs.Formulas.{tallied, worded}

abbrev pub bare_t : Tally → Tally
bare_t x = tallied x.many x.able x.moves false false

abbrev pub bare_w : Word → Word
bare_w x = worded 0 (bare_t x.done) (bare_t x.withdrawn) (bare_t x.failed)
