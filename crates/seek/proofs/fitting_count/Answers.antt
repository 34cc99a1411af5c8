-- `seek::fitting_count` meets its contract: what the two calls ensure, put together. Assumes nothing.
use mathlib.Core.Path.{ap, ◌∙◌}
use Rattle.tallies.specs.Formulas.{closing, fitting_t}
use Rattle.tallies.specs.declared.Tally.{Tally}
use Rattle.seek.proofs.fitting_count.Goals as goal

pub returns : goal.returns
returns c =
    let a = c.args in
    ap (λ (z : Tally). z.many) (c.fitting-y.ensures ∙ ap (λ z. fitting_t z (closing a.w) (closing a.x) (closing a.y)) c.word_at.ensures)
