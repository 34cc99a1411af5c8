-- `writer::sets_room` meets its contract, by whether there are sets. Assumes nothing.
use mathlib.Core.Path.{ap, sym}
use Rattle.std.proofs.Common.{rules}
use lib.ListN.{length}
use Rattle.format.specs.Lengths.{section_of_none, sets_length}
use Rattle.writer.proofs.sets_room.Goals as goal

pub returns-then-is_empty : goal.returns-then-is_empty
returns-then-is_empty c = sym (ap length (section_of_none _ (search rules)))

pub returns : goal.returns
returns c = sym (sets_length _ (search rules))
