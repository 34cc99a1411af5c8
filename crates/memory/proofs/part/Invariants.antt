use Prim.Native.Nat.{◌+◌, ◌≤◌, ◌-◌}
use mathlib.Core.Path.{◌≡◌}
use lib.ListN.{length}
use Rattle.memory.specs.Memory.{padded, bytes}
use Rattle.memory.proofs.part.Given as goal

abbrev pub invariant-loop-j : goal.invariant-loop-j
invariant-loop-j l = (l.at ≤ l.j) × ((l.j ≤ length l.state) × (l.word ≡ bytes (padded l.state (length l.state)) l.j (l.at + 8 - l.j)))
