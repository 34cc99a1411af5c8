use Rattle.line.specs.Room.{SameRoom}
use Rattle.line.specs.Texts.{PutTo}
use Rattle.line.specs.Line.{spaced}
use Rattle.replay.proofs.text.put_numbers.Given as goal

abbrev pub invariant-loop-number : goal.invariant-loop-number
invariant-loop-number l = PutTo spaced 11 l.numbers l.initial.text.room.now l.initial.text.end l.number-index l.text.room.now l.text.end × SameRoom l.initial.text l.text
