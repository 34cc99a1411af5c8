use Prim.Native.Nat.{◌≤◌}
use mathlib.Core.Path.{◌≡◌}
use lib.ListN.{length, take}
use Rattle.format.specs.Format.{numbers_bytes}
use Rattle.format.specs.Told.{at_front}
use Rattle.writer.proofs.put_numbers.Given as goal

abbrev pub invariant-loop-i : goal.invariant-loop-i
invariant-loop-i l = (l.i ≤ length l.numbers) × (length l.room ≡ length l.initial.room) × (l.room ≡ at_front (numbers_bytes (take l.i l.numbers)) l.initial.room)
