use lib.ListN.{length}
use Rattle.format.specs.Items.{name_at, entries_at}
use Rattle.matching.specs.Asks.{AlsoMarked, has_step}
use Rattle.matching.specs.Walk.{Walked}
use Rattle.matching.proofs.Named.mark_steps.Given as goal

abbrev pub invariant-loop-entry : goal.invariant-loop-entry
invariant-loop-entry l =
    let s = l.self.section.now in
    let k = length l.yielded in
    (goal.iterator-loop-entry).can_next l.entry-iterator
    × (goal.iterator-loop-entry).is_finite l.entry-iterator
    × Walked s k l.entry-iterator
    × AlsoMarked (has_step (name_at s l.at) (entries_at s k 2)) l.initial.marks l.marks
