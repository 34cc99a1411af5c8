use Prim.Native.Nat.{◌+◌, ◌-◌}
use mathlib.Core.Path.{◌≡◌}
use lib.ListN.{length}
use Rattle.format.specs.Items.{name_at, entries_at, entries_end}
use Rattle.format.specs.ListChecks.{entries_in}
use Rattle.matching.specs.Others.{first_taking}
use Rattle.matching.specs.Walk.{Walked}
use Rattle.matching.proofs.Named.first_taking.Given as goal

abbrev pub invariant-loop-entry : goal.invariant-loop-entry
invariant-loop-entry l =
    let s = l.self.section.now in
    let step = name_at s l.at in
    let n = length (entries_in s) in
    let k = length l.yielded in
    (goal.iterator-loop-entry).can_next l.entry-iterator
    × (goal.iterator-loop-entry).is_finite l.entry-iterator
    × Walked s k l.entry-iterator
    × (first_taking step l.own (entries_in s) 1 ≡ first_taking step l.own (entries_at s (n - k) (entries_end s k 2)) (k + 1))
