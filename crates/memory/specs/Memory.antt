-- What a memory of searches has of a state, and what it is after one more is put in: computed, one outcome for every memory; then
-- what it means that a memory holds a state. `m` are its slots, of which 2 p and 2 p + 1 are pair p. A state is a key and the first n
-- modes of t.
-- Definitions only; their laws are in MemoryLaws. A caller needs `Held` and its laws, and not how a pair is chosen. Assumes nothing.
use Rattle.std.specs.Prelude.{ℕ, zero, suc, ◌+◌, ◌*◌, ◌/◌, ◌%◌, ◌<◌, ◌≡◌, Bool, true, ◌&&◌, cond, List, eqb, ltb, length, get_or, set, Result, Ok, Err}
use Rattle.memory.specs.declared.Sight.{Sight}
use Rattle.memory.specs.declared.Slot.{Slot}

-- Two words of a state ----------------------------------------------------------------------------------------------------

-- whether the first n modes have two bits each
unfoldable pub two_bits : List ℕ → ℕ → Bool
two_bits t zero = true
two_bits t (suc j) = two_bits t j && ltb (get_or t j 0) 4

-- the mode of node j, and 0 behind the first n
unfoldable pub padded : List ℕ → ℕ → ℕ → ℕ
padded t n j = cond (ltb j n) (get_or t j 0) 0

-- k modes from `at` on, one a byte; and the most that this is
unfoldable pub bytes : (ℕ → ℕ) → ℕ → ℕ → ℕ
bytes m at zero = 0
bytes m at (suc k) = m at + 256 * bytes m (at + 1) k

unfoldable pub most_bytes : ℕ → ℕ
most_bytes zero = 0
most_bytes (suc k) = 3 + 256 * most_bytes k

-- k bytes of four modes each, two bits a mode
unfoldable pub packed : (ℕ → ℕ) → ℕ → ℕ → ℕ
packed m at k = bytes m at k + 4 * bytes m (at + 8) k + 16 * bytes m (at + 16) k + 64 * bytes m (at + 24) k

abbrev pub low_of : List ℕ → ℕ → ℕ
low_of t n = packed (padded t n) 0 8

abbrev pub high_of : List ℕ → ℕ → ℕ
high_of t n = packed (padded t n) 32 8

-- The pair of a state -----------------------------------------------------------------------------------------------------

-- how many slots there are, and how many pairs
abbrev pub slots : List Slot → ℕ
slots m = length m

abbrev pub pairs : List Slot → ℕ
pairs m = length m / 2

-- both words and the key in one number
unfoldable pub mixed : ℕ → ℕ → ℕ → ℕ
mixed low high key = low % 3141592661 * 1054435769 + high % 3141592661 * 640364487 + key * 1000000007

unfoldable pub pair_of : ℕ → ℕ → ℕ → ℕ
pair_of low high key = let x : ℕ = mixed low high key / 65536 % 4294967296 in x * x / 16777216 % 3584

-- What is recalled --------------------------------------------------------------------------------------------------------

-- a slot with no state, as one that is not there
abbrev pub empty : Slot
empty = record { low = 0; high = 0; entered = 0; reached = 0; key = 0 }

abbrev pub slot_at : List Slot → ℕ → Slot
slot_at m s = get_or m s empty

-- whether a slot's reach and its key have 16 bits, as all of the code's have
unfoldable pub is_short : Slot → Bool
is_short a = ltb a.reached 65536 && ltb a.key 65536

-- whether a slot has the state
unfoldable pub has : Slot → ℕ → ℕ → ℕ → Bool
has a low high key = is_short a && (eqb a.key key && (eqb a.low low && eqb a.high high))

-- what it says was seen
unfoldable pub sight_of : Slot → Sight
sight_of a = record { entered = a.entered; reached = a.reached }

-- what a slot has of it, or else what is said otherwise
unfoldable pub recalled_at : Slot → ℕ → ℕ → ℕ → Result Sight ℕ → Result Sight ℕ
recalled_at a low high key r = cond (has a low high key) (Ok (sight_of a)) r

-- what a pair has of it; one that is not there has nothing
unfoldable pub recalled_in : List Slot → ℕ → ℕ → ℕ → ℕ → Result Sight ℕ
recalled_in m low high key p = cond (ltb p (pairs m))
    (recalled_at (slot_at m (2 * p)) low high key (recalled_at (slot_at m (2 * p + 1)) low high key (Err p))) (Err p)

-- what its own pair has of it, where all modes fit; with no pairs, nothing
unfoldable pub recalled : List Slot → List ℕ → ℕ → ℕ → Result Sight ℕ
recalled m t n key = cond (eqb (pairs m) 0) (Err 0)
    (cond (two_bits t n) (recalled_in m (low_of t n) (high_of t n) key (pair_of (low_of t n) (high_of t n) key)) (Err (pairs m)))

-- What is remembered ------------------------------------------------------------------------------------------------------

-- what was seen and the key, in one number
unfoldable pub mark_of : Slot → ℕ
mark_of a = a.entered * 4294967296 + (a.reached * 65536 + a.key)

-- the slot of a pair that has the smaller mark
unfoldable pub lesser : List Slot → ℕ → ℕ
lesser m p = cond (ltb (mark_of (slot_at m (2 * p + 1))) (mark_of (slot_at m (2 * p)))) (2 * p + 1) (2 * p)

-- whether a pair takes the state: it is there, and what is put fits
unfoldable pub takes : List Slot → ℕ → List ℕ → ℕ → Sight → Bool
takes m p t n x = (ltb p (pairs m) && two_bits t n) && ltb x.reached 65536

-- the state in a slot
abbrev pub slot_of : List ℕ → ℕ → ℕ → Sight → Slot
slot_of t n key x = record { low = low_of t n; high = high_of t n; entered = x.entered; reached = x.reached; key = key }

-- the memory after x is put into this pair
unfoldable pub remembered : List Slot → ℕ → List ℕ → ℕ → ℕ → Sight → List Slot
remembered m p t n key x = cond (takes m p t n x) (set m (lesser m p) (slot_of t n key x)) m

-- What a memory holds -----------------------------------------------------------------------------------------------------

-- a slot has this state, with what was seen of it: no other state has its words (`words_modes`), and no other its key
pub record Holds (a : Slot) (n key : ℕ) (t : List ℕ) (x : Sight) : Type 0 where
  pub fits : two_bits t n ≡ true
  pub low : a.low ≡ low_of t n
  pub high : a.high ≡ high_of t n
  pub keyed : a.key ≡ key
  pub seen : sight_of a ≡ x
  pub small : key < 65536
  pub near : x.reached < 65536

-- some slot has it
pub record Held (m : List Slot) (n key : ℕ) (t : List ℕ) (x : Sight) : Type 0 where
  pub slot : ℕ
  pub there : slot < slots m
  pub holds : Holds (slot_at m slot) n key t x

-- two states are the same: their keys and their first n modes
pub record Same (n key : ℕ) (t : List ℕ) (key₀ : ℕ) (t₀ : List ℕ) : Type 0 where
  pub keys : key ≡ key₀
  pub modes : (j : ℕ) → j < n → get_or t j 0 ≡ get_or t₀ j 0
