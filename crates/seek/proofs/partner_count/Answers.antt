-- `seek::partner_count` meets its contract: the sum of those by each ending. Assumes nothing.
use Prim.Native.Nat.{◌+◌, ◌≤◌}
use mathlib.Core.Path.{sym, ap₂, ◌∙◌}
use native.Mathlib.Omega.{arith}
use Rattle.tallies.specs.declared.Word.{Word}
use Rattle.states.specs.Rows.{row}
use Rattle.tallies.specs.OwnLaws.{partners_many}
use Rattle.tallies.specs.Formulas.{closing, fitting_t}
use Rattle.tallies.specs.Capped.{most, cap}
use Rattle.calculus.specs.Term.{Closing, done, withdrawn, failed}
use Rattle.seek.proofs.partner_count.Goals as goal

within : (q : Word) (u x : Closing) → (fitting_t q u x done).many ≤ most → (fitting_t q u x withdrawn).many ≤ most → (fitting_t q u x failed).many ≤ most
    → (v : Closing) → (fitting_t q u x v).many ≤ most
within q u x a b c done = a
within q u x a b c withdrawn = b
within q u x a b c failed = c

pub returns : goal.returns
returns c =
    let s = c.args in
    let x = c.fitting_count-a in
    let y = c.fitting_count-b in
    let z = c.fitting_count-c in
    let q = row s.d.now s.i in
    let e = partners_many q (closing s.w) (closing s.x) (λ v. within q (closing s.w) (closing s.x) (omega (arith, x.ensures)) (omega (arith, y.ensures)) (omega (arith, z.ensures)) v) in
    c.sum-2.ensures ∙ ap₂ (λ u v. cap (u + v)) (c.sum.ensures ∙ ap₂ (λ u v. cap (u + v)) x.ensures y.ensures) z.ensures ∙ sym e
