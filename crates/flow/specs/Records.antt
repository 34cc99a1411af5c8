-- The numbers of a record list and the records that they are. Definitions only. Assumes nothing.
use Rattle.std.specs.Prelude.{ℕ, zero, suc, Bool, ◌&&◌, ◌||◌, cond, List, [], ◌∷◌, ◌++◌, map, eqb, leb}
use Rattle.calculus.specs.Term.{done, withdrawn, failed}
use Rattle.calculus.specs.Records.{Record, event, close}

-- 01: "61441 done (✓), 61442 withdrawn (?), 61443 failed (!)"
abbrev pub done_number : ℕ
done_number = 61441

abbrev pub withdrawn_number : ℕ
withdrawn_number = 61442

abbrev pub failed_number : ℕ
failed_number = 61443

-- 01: "an event 1 to 256"
abbrev pub most_events : ℕ
most_events = 256

unfoldable pub is_event_number : ℕ → Bool
is_event_number r = leb 1 r && leb r most_events

unfoldable pub is_closing_number : ℕ → Bool
is_closing_number r = eqb r done_number || (eqb r withdrawn_number || eqb r failed_number)

unfoldable pub record_of : ℕ → Record
record_of r =
    cond (eqb r done_number) (close done)
    (cond (eqb r withdrawn_number) (close withdrawn)
    (cond (eqb r failed_number) (close failed) (event r)))

abbrev pub records : List ℕ → List Record
records rs = map record_of rs

-- so many numbers from i up
unfoldable pub from : ℕ → ℕ → List ℕ
from i zero = []
from i (suc n) = i ∷ from (suc i) n

-- 02, Three: "every event and closing .., in rising order of its number"
unfoldable pub all_numbers : List ℕ
unfolding from
all_numbers = from 1 most_events ++ (done_number ∷ withdrawn_number ∷ failed_number ∷ [])
