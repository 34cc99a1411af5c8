-- `search::ends` meets its contract: by the role. Assumes nothing.
use mathlib.Core.Path.{sym, ap}
use Rattle.search.specs.Visits.{ends}
use Rattle.search.proofs.ends.Goals as goal

pub returns-in-Plain : goal.returns-in-Plain
unfolding ends
returns-in-Plain c = sym (ap (λ z. ends z c.args.cue) c.in-Plain.is)

pub returns-in-Running : goal.returns-in-Running
unfolding ends
returns-in-Running c = sym (ap (λ z. ends z c.args.cue) c.in-Running.is)
