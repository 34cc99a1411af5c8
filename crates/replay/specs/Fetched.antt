-- What is known of bytes, or of numbers made of them, that were asked for from standard input: no contract says what they are, or how many
-- came. Assumes nothing.
use Rattle.std.specs.Prelude.{ℕ, Bool, true, List, ◌≡◌, length, drop}

-- n of them were asked for at the front of room, which is room' after it
pub record Fetched (n : ℕ) (room room' : List ℕ) (there : Bool) : Type 0 where
  -- what stands behind them stays
  pub stays : drop n room' ≡ drop n room
  pub as_long : length room' ≡ length room
  -- nothing is always there
  pub nothing_there : n ≡ 0 → there ≡ true
