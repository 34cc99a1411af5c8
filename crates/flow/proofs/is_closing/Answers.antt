-- `flow::is_closing` meets its contract: by its definition. Assumes nothing.
use mathlib.Core.Path.{refl}
use Rattle.flow.specs.Records.{is_closing_number}
use Rattle.flow.proofs.is_closing.Goals as goal

pub returns : goal.returns
unfolding is_closing_number
returns c = refl
