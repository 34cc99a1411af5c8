-- What the writer refuses, in which order, and what it writes. 02, One: "from a names section, nodes and records into lent bytes, refused
-- by the reader's own numbers and in its order"; Four: the writer takes the sets "as lent bytes". `s` are the bytes of the names section,
-- `ns` the numbers of the nodes, `rs` the records, `sets` the bytes of the sets.
-- Definitions only: promises/specs/Writer proves that exactly these are refused and written. Assumes nothing.
use Rattle.std.specs.Prelude.{ℕ, ◌≤◌, List, [], ◌∷◌, ◌++◌, ◌≡◌, ltb, length}
use Rattle.flow.specs.declared.Extent.TheVariants.{Whole}
use Rattle.flow.specs.Refusals.{ground_of, Round, lone}
use Rattle.flow.specs.Earliest.{Nowhere}
use Rattle.format.specs.Format.{Entry, names_section, File, encode}
use Rattle.format.specs.Limits.{WithinLimits}
use Rattle.format.specs.Contents.{file_order, lists_order}
use Rattle.format.specs.NameFaults.{NamedRefuses}

-- the file of these lists
abbrev pub file_of_lists : List Entry → List ℕ → List ℕ → List ℕ → File
file_of_lists es ns rs sets = record { names = es; nodes = ns; records = rs; sets = sets }

-- 1, 2, 3, 10, 11, 23, then as the reader; 14, "lent room too short", last
abbrev pub write_order : List ℕ → List ℕ → List ℕ → ℕ → List Entry → List Round
write_order ns rs sets room es =
    lists_order Whole (length es) sets ns rs ++ (lone (ground_of 14 0 (ltb room (length (encode (file_of_lists es ns rs sets))))) ∷ [])

module _ (s ns rs sets : List ℕ) (room : ℕ) where
  abbrev pub WriteRefuses : ℕ → ℕ → Type 0
  WriteRefuses = NamedRefuses s (write_order ns rs sets room)

  -- the lists are those of a file of the format within the limits, with nothing to refuse in its numbers, and there is room for it: such
  -- lists are written
  pub record Writable (f : File) : Type 0 where
    pub names_lent : s ≡ names_section f.names
    pub nodes_lent : ns ≡ f.nodes
    pub records_lent : rs ≡ f.records
    pub sets_lent : sets ≡ f.sets
    pub within : WithinLimits f
    pub fine : Nowhere (file_order f)
    pub room_enough : length (encode f) ≤ room
