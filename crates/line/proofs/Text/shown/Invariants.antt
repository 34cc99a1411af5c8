-- `line::Text::shown`: the bytes so far are shown, and the rest of the room is as it was. Assumes nothing.
use Rattle.line.specs.Shown.{shown_byte}
use Rattle.line.specs.Room.{SameRoom}
use Rattle.line.specs.Texts.{PutTo}
use Rattle.line.proofs.Text.shown.Given as goal

abbrev pub invariant-loop-byte : goal.invariant-loop-byte
invariant-loop-byte l = PutTo shown_byte 4 l.name l.initial.self.room.now l.initial.self.end l.byte-index l.self.room.now l.self.end × SameRoom l.initial.self l.self
