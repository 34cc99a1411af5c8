-- `search::key_of` meets its contract: four times the records and one, and the role's number. Assumes nothing.
use mathlib.Core.Path.{sym, ap, ◌∙◌}
use native.Mathlib.Omega.{arith}
use Rattle.search.specs.Visits.{key_of, role_number}
use Rattle.states.specs.declared.Role.TheVariants.{Plain}
use Rattle.search.proofs.key_of.Goals as goal

pub returns-in-Drawn : goal.returns-in-Drawn
unfolding role_number
returns-in-Drawn c = omega arith ∙ sym (ap (λ z. key_of z c.args.records) (c.in-Plain.is ∙ ap Plain c.in-Drawn.is))

pub returns-in-Undoing : goal.returns-in-Undoing
unfolding role_number
returns-in-Undoing c = sym (ap (λ z. key_of z c.args.records) (c.in-Plain.is ∙ ap Plain c.in-Undoing.is))

pub returns-in-Running : goal.returns-in-Running
unfolding role_number
returns-in-Running c = sym (ap (λ z. key_of z c.args.records) c.in-Running.is)
