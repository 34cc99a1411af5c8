-- `format::run_of_items` meets its contract: the loop's invariant: the first i items stand whole.
-- Assumes nothing.
use Prim.Native.Nat.{ℕ, ◌+◌, ◌*◌, ◌<◌}
use mathlib.Core.Path.{◌≡◌, ap, ◌∙◌}
use native.Mathlib.Omega.{arith}
use Rattle.std.specs.Prelude.{Ok}
use Rattle.format.specs.Items.{found_at}
use Rattle.format.specs.ItemLaws.{item_bad}
use Rattle.format.specs.RunLaws.{item_more, items_stop, items_item}
use Rattle.format.proofs.run_of_items.Goals as goal

pub returns-then-file-at : goal.returns-then-file-at
returns-then-file-at c =
    let l = c.loop-i in
    let h : l.i < c.args.count = omega arith in
    item_bad _ _ c.refusal.ensures (items_stop _ _ l.i _ _ h l.invariant c.if-file-at.true)

pub loop-i-preserved : goal.loop-i-preserved
loop-i-preserved c = omega (arith, item_more c.args.size c.loop-i.i)

pub returns : goal.returns
returns c =
    let a = c.args in
    let i : c.loop-i.i ≡ a.count = omega arith in
    let all = ap (λ (n : ℕ). a.size * n) i in
    ap Ok (c.found.ensures ∙ ap (λ (n : ℕ). found_at a.count (a.c.at + a.size * n)) c.from.ensures) ∙ items_item _ _ _ _ (omega arith) (omega arith)
