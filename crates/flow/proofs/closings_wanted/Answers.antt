-- `flow::closings_wanted` meets its contract: by the root's sort. Assumes nothing.
use mathlib.Core.Path.{ap}
use Rattle.flow.specs.declared.Form.{Form}
use Rattle.flow.specs.Refusals.{closings_wanted}
use Rattle.flow.proofs.closings_wanted.Goals as goal

pub returns-then-form : goal.returns-then-form
unfolding closings_wanted
returns-then-form c = rw (← (ap (λ (f : Form). f.standard) c.form_at-form.ensures), c.if-form.true)

pub returns-else-form : goal.returns-else-form
unfolding closings_wanted
returns-else-form c = rw (← (ap (λ (f : Form). f.standard) c.form_at-form.ensures), c.if-form.false)
