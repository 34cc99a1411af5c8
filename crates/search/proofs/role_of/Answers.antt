-- `search::role_of` meets its contract: by the root's sort. Assumes nothing.
use mathlib.Core.Path.{ap}
use Rattle.flow.specs.declared.Form.{Form}
use Rattle.search.specs.Searches.{role_of}
use Rattle.search.proofs.role_of.Goals as goal

pub returns-then-form : goal.returns-then-form
unfolding role_of
returns-then-form c = rw (← (ap (λ (f : Form). f.standard) c.form_at-form.ensures), c.if-form.true)

pub returns-else-form : goal.returns-else-form
unfolding role_of
returns-else-form c = rw (← (ap (λ (f : Form). f.standard) c.form_at-form.ensures), c.if-form.false)
