-- `counting::event_view` meets its contract: the view of a leaf, by whether it takes the record. Assumes nothing.
use mathlib.Core.Path.{ap, ◌∙◌}
use Rattle.tallies.specs.Formulas.{ev_v}
use Rattle.counting.proofs.event_view.Goals as goal

pub returns : goal.returns
returns c = c.event.ensures ∙ ap ev_v c.takes.ensures
