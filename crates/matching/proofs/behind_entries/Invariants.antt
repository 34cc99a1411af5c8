use mathlib.Core.Path.{◌≡◌}
use Rattle.format.specs.Items.{entries_end}
use Rattle.matching.proofs.behind_entries.Given as goal

abbrev pub invariant-loop : goal.invariant-loop
invariant-loop l = l.at ≡ entries_end l.names l.counter 2
