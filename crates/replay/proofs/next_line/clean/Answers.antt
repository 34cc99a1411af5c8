-- `replay::next_line::clean` meets its contract: the list first, then the work bytes. Assumes nothing.
use Rattle.std.proofs.Common.{rules}
use Rattle.replay.specs.Filler.{all_are, kept}
use Rattle.replay.specs.NextLine.{next_clean}
use Rattle.replay.proofs.next_line.clean.Goals as goal

pub returns-then-kept : goal.returns-then-kept
unfolding next_clean kept all_are
returns-then-kept c = search rules

pub returns-else-kept : goal.returns-else-kept
unfolding next_clean kept all_are
returns-else-kept c = search rules
