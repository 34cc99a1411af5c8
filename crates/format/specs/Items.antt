-- What the functions of src/ answer: what a plan comes to as an item, and what stands at an offset where whole entries or numbers are
-- known to stand. What an item tells is in Told. Definitions only. Assumes nothing.
use Rattle.std.specs.Prelude.{ℕ, zero, suc, ◌+◌, ◌*◌, ◌≤◌, cond, Result, Ok, Err, List, [], ◌∷◌, ltb, length, get_or, take, drop}
use Rattle.flow.specs.declared.Refusal.{Refusal}
use Rattle.format.specs.declared.Got.{Got}
use Rattle.format.specs.declared.Range.{Range}
use Rattle.format.specs.Format.{Entry}
pub use Rattle.format.specs.Told.{refusal_of, ItemTold, at_front}
unfoldable pub use Rattle.format.specs.Told.{item_told}
use Rattle.format.specs.Plan.{Ran, got, bad}

---- Answers ----

-- a value, and the offset behind it
abbrev pub found_at : ℕ → ℕ → Got
found_at value next = record { value = value; next = record { at = next } }

-- a number for what was found, and the cursor behind it; or the refusal
unfoldable pub as_item : {A : Type 0} → (A → ℕ) → Ran A → Result Got Refusal
as_item f (got a next) = Ok (found_at (f a) next)
as_item f (bad n p) = Err (refusal_of n p)

-- what was found at an offset, if its value is in its range
unfoldable pub item_in_range : Range → ℕ → Got → Result Got Refusal
item_in_range g at h = cond (ltb h.value g.least) (Err (refusal_of g.few at)) (cond (ltb g.most h.value) (Err (refusal_of g.many at)) (Ok h))

---- Where something is known to stand whole ----

module _ (s : List ℕ) where
  -- the number at an offset
  abbrev pub number_at : ℕ → ℕ
  number_at at = get_or s at 0 + 256 * get_or s (at + 1) 0

  -- so many numbers from an offset
  unfoldable pub numbers_at : ℕ → ℕ → List ℕ
  numbers_at zero at = []
  numbers_at (suc k) at = number_at at ∷ numbers_at k (at + 2)

  -- the bytes of the name at an offset, and where it ends
  abbrev pub name_at : ℕ → List ℕ
  name_at at = take (get_or s at 0) (drop (at + 1) s)

  abbrev pub name_end : ℕ → ℕ
  name_end at = at + 1 + get_or s at 0

  abbrev pub entry_at : ℕ → Entry
  entry_at at = record { step = name_at at; machine = name_at (name_end at) }

  abbrev pub entry_end : ℕ → ℕ
  entry_end at = name_end (name_end at)

  -- so many entries from an offset, and where they end
  unfoldable pub entries_at : ℕ → ℕ → List Entry
  entries_at zero at = []
  entries_at (suc k) at = entry_at at ∷ entries_at k (entry_end at)

  unfoldable pub entries_end : ℕ → ℕ → ℕ
  entries_end zero at = at
  entries_end (suc k) at = entries_end k (entry_end at)

  -- the names start behind their count; so many entries, then the whole entry at `at`
  pub record Behind (k at : ℕ) : Type 0 where
    pub start : entries_end k 2 ≤ at
    pub whole : entry_end at ≤ length s
