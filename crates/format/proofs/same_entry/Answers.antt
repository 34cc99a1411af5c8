-- `format::same_entry` meets its contract: both names, the machine names only where the step names are the same.
-- Assumes nothing.
use Prim.Native.Nat.{ℕ}
use mathlib.Core.Path.{ap₂, sym, ◌∙◌}
use Rattle.format.specs.Items.{name_at}
use Rattle.format.specs.Sections.{same_bytes, same_entry}
use Rattle.format.proofs.same_entry.Goals as goal

pub returns-then-same_step : goal.returns-then-same_step
unfolding same_entry
returns-then-same_step c =
    let s = c.args.file.now in
    let t = sym c.same_step.ensures ∙ c.if-same_step.true in
    rw t (c.same_name.ensures ∙ ap₂ (λ (m n : ℕ). same_bytes (name_at s m) (name_at s n)) c.end_of_name.ensures c.end_of_name-then-same_step.ensures)

pub returns-else-same_step : goal.returns-else-same_step
unfolding same_entry
returns-else-same_step c = c.if-same_step.false ∙ sym (rw (sym c.same_step.ensures ∙ c.if-same_step.false))
