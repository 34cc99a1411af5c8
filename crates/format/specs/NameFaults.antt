-- What is refused of a names section, and where, in terms of the format and in the order in which it is gone through: a constructor
-- for each way, with its number and place as the last two indices. "A count, length byte, name's bytes and number are items; places
-- so far are byte offsets of the item (18: of the entry, 21: of the first byte too many)". Then what is refused where a names section is
-- lent by itself, with lists whose grounds are an order. Definitions only: promises proves that exactly these are refused, of a file
-- (ReaderRefusals) and of lent lists (ListRefusals). Assumes nothing.
use Rattle.std.specs.Prelude.{ℕ, ◌+◌, ◌<◌, ◌≡◌, length}
use mathlib.Core.List.{List, [], ◌∷◌, ◌++◌, Memᴰ}
use Rattle.flow.specs.Refusals.{Round}
use Rattle.flow.specs.Earliest.{Earliest}
use Rattle.format.specs.declared.Range.{Range}
use Rattle.format.specs.Format.{number_bytes, Entry, name_bytes, entry_bytes, entries_bytes, names_section}
use Rattle.format.specs.Limits.{step_length, machine_length, name_count, InRange, GoodEntry, GoodEntries, GoodNames, Stands}
use Rattle.format.specs.Told.{refusal_of}

module _ (s : List ℕ) where
  -- of a count or a length at an offset, in so many bytes
  pub data RangeFault (g : Range) (size : ℕ) (bytes : ℕ → List ℕ) (at : ℕ) : ℕ → ℕ → Type 0 where
    -- 15
    cut_count : length s < at + size → RangeFault g size bytes at 15 at
    -- 1, 10: "no nodes", "no records"; 17: "length out of range"; 23: "set count 0"
    below : (v : ℕ) → Stands s at (bytes v) → v < g.least → RangeFault g size bytes at g.few at
    -- 3, 11: "over 64 nodes", "over 256"; 16: "over 256 names"; 17; 23: "or above 16"
    above : (v : ℕ) → Stands s at (bytes v) → g.most < v → RangeFault g size bytes at g.many at

  -- of a name at an offset
  pub data NameFault (g : Range) (at : ℕ) : ℕ → ℕ → Type 0 where
    in_length : {k p : ℕ} → RangeFault g 1 (λ v. v ∷ []) at k p → NameFault g at k p
    cut_bytes : (l : ℕ) → Stands s at (l ∷ []) → InRange g l → length s < at + 1 + l → NameFault g at 15 (at + 1)

  -- of an entry at an offset
  pub data EntryFault (at : ℕ) : ℕ → ℕ → Type 0 where
    in_step : {k p : ℕ} → NameFault step_length at k p → EntryFault at k p
    in_machine : {k p : ℕ} (st : List ℕ) → InRange step_length (length st) → Stands s at (name_bytes st)
        → NameFault machine_length (at + length (name_bytes st)) k p → EntryFault at k p

  -- n names are counted, the entries es stand whole and good behind the count, and there are more to come, at an offset
  pub record Entering (n : ℕ) (es : List Entry) (at : ℕ) : Type 0 where
    pub counted : InRange name_count n
    pub good : GoodEntries [] es
    pub left : length es < n
    pub stands : Stands s 0 (number_bytes n ++ entries_bytes es)
    pub here : at ≡ 2 + length (entries_bytes es)

  -- of the names section
  pub data NamesFault : ℕ → ℕ → Type 0 where
    in_name_count : {k p : ℕ} → RangeFault name_count 2 number_bytes 0 k p → NamesFault k p
    in_entry : {k p : ℕ} (n : ℕ) (es : List Entry) (at : ℕ) → Entering n es at → EntryFault at k p → NamesFault k p
    -- 18: "entry equal to an earlier one"
    met_again : (n : ℕ) (es : List Entry) (at : ℕ) → Entering n es at → (e : Entry) → GoodEntry e → Stands s at (entry_bytes e) → Memᴰ e es → NamesFault 18 at

---- A names section by itself ----

-- 02, One: "refused by the reader's own numbers and in its order, with places as offsets in the names section, node or record numbers":
-- first the names section s, then by an order of rounds on what is lent with it, which may look at its entries
pub data NamedRefuses (s : List ℕ) (order : List Entry → List Round) : ℕ → ℕ → Type 0 where
  -- "15 and 21 speak of the names section only"
  in_section : {k p : ℕ} → NamesFault s k p → NamedRefuses s order k p
  -- "21 right after its last entry"
  after_section : (es : List Entry) → GoodNames es → Stands s 0 (names_section es) → length (names_section es) < length s
      → NamedRefuses s order 21 (length (names_section es))
  in_order : {k p : ℕ} (es : List Entry) → GoodNames es → s ≡ names_section es → Earliest (refusal_of k p) (order es) → NamedRefuses s order k p
