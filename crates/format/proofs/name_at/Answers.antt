-- `format::name_at` meets its contract: a length byte in its range, then the bytes.
-- Assumes nothing.
use Prim.Native.Nat.{ℕ, ◌+◌}
use mathlib.Core.Path.{ap, sym, ◌∙◌}
use native.Mathlib.Omega.{arith}
use Rattle.std.specs.Prelude.{Ok}
use Rattle.format.specs.ItemLaws.{handed_on, has_number, item_bad, name_length_bad, name_cut, name_item, length_there}
use Rattle.format.specs.Items.{refusal_of, found_at}
use Rattle.format.proofs.name_at.Goals as goal

pub returns-in_err-length : goal.returns-in_err-length
returns-in_err-length c = handed_on _ _ _ _ (λ n p. name_length_bad _ _ _) c.in_err-length.ensures c.from_residual.ensures.1

pub returns-then-file-end : goal.returns-then-file-end
returns-then-file-end c =
    let e = has_number _ c.in_ok-length.ensures in
    let t = length_there _ _ _ e in
    item_bad _ _ (c.refusal.ensures ∙ ap (refusal_of 15) (sym t.ends)) (name_cut _ _ _ e (omega (arith, t.ends)))

pub returns : goal.returns
returns c =
    let e = has_number _ c.in_ok-length.ensures in
    let v = c.in_ok-length.length.value in
    ap Ok (c.found.ensures ∙ ap (λ (n : ℕ). found_at v (c.args.c.at + 1 + n)) c.from.ensures) ∙ name_item _ _ _ e (omega arith)
