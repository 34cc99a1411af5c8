-- `flow::is_event` meets its contract: by its definition. Assumes nothing.
use mathlib.Core.Path.{refl}
use Rattle.flow.specs.Records.{is_event_number}
use Rattle.flow.proofs.is_event.Goals as goal

pub returns : goal.returns
unfolding is_event_number
returns c = refl
