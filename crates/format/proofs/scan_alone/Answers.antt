-- `format::scan_alone` meets its contract: what the scan found, and nothing behind it. Assumes nothing.
use mathlib.Core.Path.{refl}
use native.Mathlib.Omega.{arith}
use Rattle.format.specs.ItemLaws.{has_found, handed_on, item_bad, item_got}
use Rattle.format.specs.SectionLaws.{names_there}
use Rattle.format.specs.ListLaws.{alone_bad, alone_longer, alone_got}
use Rattle.format.proofs.scan_alone.Goals as goal

pub returns-in_err-got : goal.returns-in_err-got
returns-in_err-got c = handed_on _ _ _ _ (λ n p. alone_bad _) c.in_err-got.ensures c.from_residual.ensures.1

pub refusal-requires : goal.refusal-requires
refusal-requires c =
    let a = has_found _ _ c.in_ok-got.ensures in
    let t = names_there _ a.is in
    omega (arith, t.near, t.few)

pub returns-then-end-names : goal.returns-then-end-names
returns-then-end-names c =
    let a = has_found _ _ c.in_ok-got.ensures in
    item_bad _ _ c.refusal.ensures (alone_longer _ a.is c.if-end-names.true)

pub returns : goal.returns
returns c =
    let a = has_found _ _ c.in_ok-got.ensures in
    item_got _ _ a.sized refl (alone_got _ a.is c.if-end-names.false)
