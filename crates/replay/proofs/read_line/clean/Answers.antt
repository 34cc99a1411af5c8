-- `replay::read_line::clean` meets its contract: one table, and then the other. Assumes nothing.
use Rattle.std.proofs.Common.{rules}
use Rattle.replay.specs.Filler.{all_are, kept}
use Rattle.replay.specs.ReadLine.{tables_clean}
use Rattle.replay.proofs.read_line.clean.Goals as goal

pub returns-then-kept : goal.returns-then-kept
unfolding tables_clean kept all_are
returns-then-kept c = search rules

pub returns-else-kept : goal.returns-else-kept
unfolding tables_clean kept all_are
returns-else-kept c = search rules
