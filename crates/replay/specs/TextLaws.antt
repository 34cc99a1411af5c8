-- How long the word for what was lent is. Assumes nothing.
use Rattle.std.specs.Prelude.{Bool, true, false, ◌≡◌, refl, length}
use Rattle.replay.specs.Text.{noted}

pub noted_length : (clean : Bool) → length (noted clean) ≡ 7
unfolding noted
noted_length true = refl
noted_length false = refl
