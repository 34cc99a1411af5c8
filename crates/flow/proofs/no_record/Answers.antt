-- `flow::no_record` meets its contract: by its definition. Assumes nothing.
use Rattle.flow.specs.Refusals.{no_record}
use Rattle.flow.proofs.no_record.Goals as goal

pub returns : goal.returns
unfolding no_record
returns c = rw (c.is_closing.ensures, c.is_event.ensures)
