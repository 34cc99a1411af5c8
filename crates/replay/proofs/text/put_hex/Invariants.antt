use Rattle.line.specs.Room.{SameRoom}
use Rattle.line.specs.Texts.{PutTo}
use Rattle.line.specs.Shown.{hex_byte}
use Rattle.replay.proofs.text.put_hex.Given as goal

abbrev pub invariant-loop-byte : goal.invariant-loop-byte
invariant-loop-byte l = PutTo hex_byte 2 l.bytes l.initial.text.room.now l.initial.text.end l.byte-index l.text.room.now l.text.end × SameRoom l.initial.text l.text
