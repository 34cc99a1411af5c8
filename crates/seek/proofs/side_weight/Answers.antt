-- `seek::side_weight` meets its contract: nothing weighs nothing, and otherwise what the calls ensure is put together. Assumes
-- nothing.
use mathlib.Core.Path.{◌∙◌, ap}
use Rattle.states.specs.Rows.{row}
use Rattle.tallies.specs.BareLaws.{nothing_weighs}
use Rattle.tallies.specs.Formulas.{closing, total, beside_g, partners_t}
use Rattle.seek.proofs.side_weight.Goals as goal

pub returns-then-k : goal.returns-then-k
returns-then-k c =
    let a = c.args in
    let k = c.tally_at-k in
    let g = beside_g a.joint (partners_t (row a.d.now a.two.second) (closing a.w) (closing a.x)) a.g in
    nothing_weighs k.result g c.if-k.true ∙ ap (λ x. total x g) k.ensures

pub returns : goal.returns
returns c = cc
