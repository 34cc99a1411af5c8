use Rattle.format.specs.ListChecks.{entries_in}
use Rattle.line.specs.Room.{SameRoom}
use Rattle.line.specs.Texts.{PutTo}
use Rattle.program.specs.Listing.{number_line}
use Rattle.program.proofs.listing.put_lines.Given as goal

abbrev pub invariant-loop-number : goal.invariant-loop-number
invariant-loop-number l = PutTo (number_line (entries_in l.names)) 333 l.list l.initial.text.room.now l.initial.text.end l.number-index l.text.room.now l.text.end × SameRoom l.initial.text l.text
