-- What the reader refuses, and where, in terms of the format and in file order: a constructor for each way, with its number and place
-- as the last two indices (`Refuses`); and what it reads (`Readable`). Places up to 21 are byte offsets, "but 0 for 14. What follows
-- has places as in the table." The names section's ways are those of `format`, NameFaults. Definitions only: promises/specs/ReaderRefusals
-- proves that exactly these are refused. Assumes nothing.
use Rattle.std.specs.Prelude.{ℕ, ◌+◌, ◌*◌, ◌≤◌, ◌<◌, List, [], ◌++◌, ◌≡◌, length}
use Rattle.flow.specs.Legends.{set_bytes}
use Rattle.flow.specs.Earliest.{Earliest, Nowhere}
use Rattle.format.specs.declared.Range.{Range}
use Rattle.format.specs.Format.{number_bytes, Entry, names_section, numbers_section, File, encode}
use Rattle.format.specs.Limits.{node_count, record_count, sets_count, InRange, GoodNames, GoodNumbers, WithinLimits, Stands}
use Rattle.format.specs.Contents.{file_order}
use Rattle.format.specs.Told.{refusal_of}
pub use Rattle.format.specs.NameFaults.{RangeFault, cut_count, below, above, NameFault, in_length, cut_bytes, EntryFault, in_step, in_machine, Entering, NamesFault, in_name_count, in_entry, met_again}

module _ (s : List ℕ) where
  -- of a section of items of a size at an offset: the first i items stand whole, and the next does not
  pub data SectionFault (g : Range) (size each at : ℕ) : ℕ → ℕ → Type 0 where
    in_count : {k p : ℕ} → RangeFault s g 2 number_bytes at k p → SectionFault g size each at k p
    cut_item : (n i : ℕ) → Stands s at (number_bytes n) → InRange g n → i < each * n → at + 2 + size * i ≤ length s → length s < at + 2 + size * i + size
        → SectionFault g size each at 15 (at + 2 + size * i)

  -- of the four sections, up to the last set
  pub data LayoutFault : ℕ → ℕ → Type 0 where
    in_names : {k p : ℕ} → NamesFault s k p → LayoutFault k p
    in_nodes : {k p : ℕ} (es : List Entry) → GoodNames es → Stands s 0 (names_section es)
        → SectionFault node_count 2 3 (length (names_section es)) k p → LayoutFault k p
    in_records : {k p : ℕ} (es : List Entry) (ns : List ℕ) → GoodNames es → GoodNumbers node_count 3 ns → Stands s 0 (names_section es ++ numbers_section 3 ns)
        → SectionFault record_count 2 1 (length (names_section es ++ numbers_section 3 ns)) k p → LayoutFault k p
    -- 02, Four: "A file may end after its records; then it has no sets." What stands behind the records of such a file f is a fourth
    -- section: 23 of its count, 15 of its count or of a set, each at its own offset
    in_sets : {k p : ℕ} (f : File) → WithinLimits f → f.sets ≡ [] → Stands s 0 (encode f) → length (encode f) < length s
        → SectionFault sets_count set_bytes 1 (length (encode f)) k p → LayoutFault k p

  -- of the reader, with room for so many node numbers and records
  pub data Refuses (nr rr : ℕ) : ℕ → ℕ → Type 0 where
    -- 14, "checks this first"
    no_node_room : nr < 192 → Refuses nr rr 14 0
    no_record_room : rr < 256 → Refuses nr rr 14 0
    in_layout : {k p : ℕ} → 192 ≤ nr → 256 ≤ rr → LayoutFault k p → Refuses nr rr k p
    -- 21: "bytes after the last record", at "the first byte too many"; 02, Four: "21 now follows the sets"
    too_long : (f : File) → 192 ≤ nr → 256 ≤ rr → WithinLimits f → 1 ≤ length f.sets → Stands s 0 (encode f) → length (encode f) < length s
        → Refuses nr rr 21 (length (encode f))
    -- "Then 4 to 9, 12, 13; then 19 .., and 20", with 22 "right after 4"
    in_contents : {k p : ℕ} (f : File) → 192 ≤ nr → 256 ≤ rr → WithinLimits f → s ≡ encode f → Earliest (refusal_of k p) (file_order f) → Refuses nr rr k p

  -- a file of the format within the limits, with nothing to refuse in its numbers, and room for it: such a file is read
  pub record Readable (nr rr : ℕ) (f : File) : Type 0 where
    pub node_room : 192 ≤ nr
    pub record_room : 256 ≤ rr
    pub encoded : s ≡ encode f
    pub within : WithinLimits f
    pub fine : Nowhere (file_order f)
