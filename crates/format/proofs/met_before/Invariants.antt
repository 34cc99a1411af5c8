use Prim.Native.Nat.{◌-◌, ◌≤◌}
use mathlib.Core.Path.{◌≡◌}
use Rattle.format.specs.Items.{entry_at, entries_at, entries_end}
use Rattle.format.specs.Sections.{met}
use Rattle.format.proofs.met_before.Given as goal

abbrev pub invariant-loop-i : goal.invariant-loop-i
invariant-loop-i l =
    (entries_end l.file (l.count - l._i) l.a ≤ l.at)
    × (met (entry_at l.file l.at) (entries_at l.file l.count 2) ≡ met (entry_at l.file l.at) (entries_at l.file (l.count - l._i) l.a))
