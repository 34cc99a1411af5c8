-- `replay::write_line::clean` meets its contract: what was written is passed over. Assumes nothing.
use Rattle.std.proofs.Common.{rules}
use Rattle.replay.specs.Filler.{all_are, kept}
use Rattle.replay.specs.WriteLine.{file_clean}
use Rattle.replay.proofs.write_line.clean.Goals as goal

pub returns : goal.returns
unfolding file_clean kept all_are
returns c = search rules
