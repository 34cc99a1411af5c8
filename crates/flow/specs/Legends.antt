-- What the numbers in a table stand for, as the legend of a drawing says it: which records an event's number takes, and which events are
-- joint in a numbered set. And the sets that are lent as bytes (02, Four). Definitions only. Assumes nothing.
use Rattle.std.specs.Prelude.{ℕ, ◌+◌, ◌*◌, ◌-◌, ◌/◌, ◌%◌, ◌^◌, Bool, ◌&&◌, List, eqb, length, get_or}
use Rattle.calculus.specs.Term.{Leaf, leaf, Joint}
use Rattle.flow.specs.Records.{is_event_number}

pub record Legend : Type 0 where
  pub leaves : ℕ → Leaf
  pub sets : ℕ → Joint

-- "32 bytes each"
abbrev pub set_bytes : ℕ
set_bytes = 32

abbrev pub set_count : List ℕ → ℕ
set_count sets = length sets / set_bytes

-- bit n of a byte
abbrev pub bit : ℕ → ℕ → Bool
bit byte n = eqb (byte / 2 ^ n % 2) 1

-- "event k at bit (k-1) mod 8 of byte (k-1)/8", in set number i of the lent ones
unfoldable pub in_set : List ℕ → ℕ → Joint
in_set sets i k = is_event_number k && bit (get_or sets (set_bytes * i + (k - 1) / 8) 0) ((k - 1) % 8)

-- where no names are lent
abbrev pub plain : List ℕ → Legend
plain sets = record { leaves = leaf; sets = in_set sets }
