-- `seek::beside` meets its contract: a product where only compensations are counted, else what the calls ensure. Assumes nothing.
use Prim.Native.Nat.{◌*◌}
use mathlib.Core.Path.{sym, ap, ◌∙◌}
use Rattle.states.specs.Rows.{row}
use Rattle.tallies.specs.OwnLaws.{own_beside}
use Rattle.tallies.specs.Formulas.{weighs, closing, partners_t}
use Rattle.tallies.specs.Capped.{cap}
use Rattle.seek.proofs.beside.Goals as goal

pub returns-then-own_only : goal.returns-then-own_only
returns-then-own_only c =
    let a = c.args in
    let t = partners_t (row a.d.now a.i) (closing a.w) (closing a.x) in
    ap (λ z. weighs z 0 0) (c.product-own.ensures ∙ ap (λ z. cap (a.g.own * z)) c.partner_count.ensures)
    ∙ sym (own_beside a.g (sym c.own_only.ensures ∙ c.if-own_only.true) a.joint t)

pub returns : goal.returns
returns c = cc
