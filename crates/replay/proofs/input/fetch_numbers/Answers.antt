-- `replay::input::fetch_numbers` meets its contract: the numbers are put at the front of the table, and of no bytes all are there.
-- Assumes nothing.
use Rattle.std.proofs.Common.{◌≡◌, ℕ, ◌*◌, ◌≤◌, Bool, true, List, length, drop, drop_at, arith, ap, ◌∙◌}
use Rattle.format.specs.Told.{at_front}
use Rattle.format.specs.Items.{numbers_at}
use Rattle.format.specs.SectionLaws.{numbers_at_length, front_length_is}
use Rattle.replay.specs.Fetched.{Fetched}
use Rattle.replay.proofs.input.fetch_numbers.Goals as goal

numbers_fetched : {n : ℕ} (bytes : List ℕ) {table table' : List ℕ} {there : Bool} → n ≤ length table → table' ≡ at_front (numbers_at bytes n 0) table
    → (2 * n ≡ 0 → there ≡ true) → Fetched n table table' there
numbers_fetched {n} bytes {table} fits e h =
    let l : length (numbers_at bytes n 0) ≡ n = numbers_at_length bytes n 0 in
    record {
      stays = ap (drop n) e ∙ drop_at (numbers_at bytes n 0) (drop (length (numbers_at bytes n 0)) table) n l ∙ ap (λ (k : ℕ). drop k table) l;
      as_long = ap length e ∙ front_length_is bytes n 0 table fits;
      nothing_there = λ (z : n ≡ 0). h (omega arith);
    }

pub returns : goal.returns
returns g c = numbers_fetched c.fetch.new.room c.requires.n_in_bounds c.fill.ensures c.in_ok-fetch.ensures.nothing_there
