-- `replay::promised::clean` meets its contract: what stays, and then what is zero. Assumes nothing.
use Rattle.std.proofs.Common.{rules}
use Rattle.replay.specs.Filler.{all_are, kept}
use Rattle.replay.specs.Promised.{is_clean}
use Rattle.replay.proofs.promised.clean.Goals as goal

pub returns-then-kept : goal.returns-then-kept
unfolding is_clean kept all_are
returns-then-kept c = search rules

pub returns-else-kept : goal.returns-else-kept
unfolding is_clean kept all_are
returns-else-kept c = search rules
