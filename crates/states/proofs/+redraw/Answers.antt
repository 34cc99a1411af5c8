-- `states::redraw` meets its contract: the node gets its mode, and its children are redrawn, which are lower. Assumes nothing.
use native.Mathlib.Omega.{arith}
use Rattle.states.specs.RedrawLaws.{redrawn_leaf, one_lower, one_spot, redrawn_one, two_lower, two_spot, redrawn_two}
use Rattle.states.proofs.+redraw.Goals as goal

pub returns-then-form-eq0 : goal.returns-then-form-eq0
returns-then-form-eq0 t c = redrawn_leaf c.requires c.form_at-form.ensures c.set_mode.ensures c.if-form-eq0.true

pub redraw-requires : goal.redraw-requires
redraw-requires t c =
    let f = c.form_at-form.ensures in
    let w = c.set_mode.ensures in
    rw c.first_at.ensures (omega (arith, c.decreases, one_lower c.requires f w c.if-form-eq0.false), one_spot c.requires f w c.if-form-eq0.false)

pub redraw-requires-then-form-eq2 : goal.redraw-requires-then-form-eq2
redraw-requires-then-form-eq2 t c =
    let f = c.form_at-form.ensures in
    let w = c.set_mode.ensures in
    let x = rw c.first_at.ensures at c.redraw.ensures in
    rw c.second_at.ensures (omega (arith, c.decreases, two_lower c.requires f w c.if-form-eq0.false x c.if-form-eq2.true), two_spot c.requires f w c.if-form-eq0.false x c.if-form-eq2.true)

pub returns-then-form-eq2 : goal.returns-then-form-eq2
returns-then-form-eq2 t c =
    let f = c.form_at-form.ensures in
    let w = c.set_mode.ensures in
    let x = rw c.first_at.ensures at c.redraw.ensures in
    let y = rw c.second_at.ensures at c.redraw-then-form-eq2.ensures in
    redrawn_two c.requires f w c.if-form-eq0.false x c.if-form-eq2.true y

pub returns-else-form-eq2 : goal.returns-else-form-eq2
returns-else-form-eq2 t c =
    let f = c.form_at-form.ensures in
    let w = c.set_mode.ensures in
    let x = rw c.first_at.ensures at c.redraw.ensures in
    redrawn_one c.requires f w c.if-form-eq0.false x c.if-form-eq2.false
