-- `seek::fitting_weight` meets its contract: a product where only compensations are counted, else what the calls ensure. Assumes
-- nothing.
use Prim.Native.Nat.{◌*◌}
use mathlib.Core.Path.{sym, ap, ◌∙◌}
use Rattle.states.specs.Rows.{row}
use Rattle.tallies.specs.OwnLaws.{own_total}
use Rattle.tallies.specs.Formulas.{closing, fitting_t}
use Rattle.tallies.specs.Capped.{cap}
use Rattle.seek.proofs.fitting_weight.Goals as goal

pub returns-then-own_only : goal.returns-then-own_only
returns-then-own_only c =
    let a = c.args in
    let t = fitting_t (row a.d.now a.i) (closing a.w) (closing a.x) (closing a.y) in
    c.product.ensures ∙ ap (λ z. cap (a.g.own * z)) c.fitting_count.ensures
    ∙ sym (own_total a.g (sym c.own_only.ensures ∙ c.if-own_only.true) t)

pub returns : goal.returns
returns c = cc
