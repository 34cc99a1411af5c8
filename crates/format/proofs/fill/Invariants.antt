use mathlib.Core.Path.{◌≡◌}
use Rattle.format.specs.Items.{numbers_at}
use Rattle.format.specs.Items.{at_front}
use Rattle.format.proofs.fill.Given as goal

abbrev pub invariant-loop-i : goal.invariant-loop-i
invariant-loop-i l = l.table ≡ at_front (numbers_at l.file l.i l.at) l.initial.table
