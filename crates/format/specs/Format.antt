-- The flow file of 01, "The flow file", as bytes: what a names section, nodes and records are, and `encode`, the whole file, with the
-- sets of joint events that 02, Four, puts behind the records.
-- A reader and a writer are both stated against this file. Not here: which files are within the limits (Limits), how a file is
-- gone through (Sections) and what is refused. Definitions only. Assumes nothing.
use Rattle.std.specs.Prelude.{ℕ, ◌/◌, ◌%◌, List, [], ◌∷◌, ◌++◌, length}
use Rattle.flow.specs.Legends.{set_count}

-- "counts and numbers little-endian, 16 bits"
unfoldable pub number_bytes : ℕ → List ℕ
number_bytes n = n % 256 ∷ n / 256 ∷ []

unfoldable pub numbers_bytes : List ℕ → List ℕ
unfolding number_bytes
numbers_bytes [] = []
numbers_bytes (n ∷ ns) = number_bytes n ++ numbers_bytes ns

---- Names ----

-- "each entry a step name .. and a machine name"
pub record Entry : Type 0 where
  pub step : List ℕ
  pub machine : List ℕ

-- "a length byte .., then the bytes": names are counted, never joined
unfoldable pub name_bytes : List ℕ → List ℕ
name_bytes n = length n ∷ n

unfoldable pub entry_bytes : Entry → List ℕ
unfolding name_bytes
entry_bytes e = name_bytes e.step ++ name_bytes e.machine

unfoldable pub entries_bytes : List Entry → List ℕ
unfolding entry_bytes
entries_bytes [] = []
entries_bytes (e ∷ es) = entry_bytes e ++ entries_bytes es

---- The sections, "each after its count" ----

unfoldable pub names_section : List Entry → List ℕ
unfolding number_bytes entries_bytes
names_section es = number_bytes (length es) ++ entries_bytes es

-- "Nodes: three numbers each. Records: one each."
unfoldable pub numbers_section : ℕ → List ℕ → List ℕ
unfolding number_bytes numbers_bytes
numbers_section each ns = number_bytes (length ns / each) ++ numbers_bytes ns

-- 02, Four: "The sets are a fourth section of the file, after its count, 32 bytes each"; "A file may end after its records; then it has
-- no sets."
unfoldable pub sets_section : List ℕ → List ℕ
unfolding number_bytes
sets_section [] = []
sets_section (b ∷ bs) = number_bytes (set_count (b ∷ bs)) ++ (b ∷ bs)

-- what a flow file holds: the names, the numbers of the nodes and the records, and the bytes of all sets, one set behind the other
pub record File : Type 0 where
  pub names : List Entry
  pub nodes : List ℕ
  pub records : List ℕ
  pub sets : List ℕ

-- "Three sections in a fixed order", and the fourth
unfoldable pub encode : File → List ℕ
unfolding names_section numbers_section sets_section
encode f = names_section f.names ++ (numbers_section 3 f.nodes ++ (numbers_section 1 f.records ++ sets_section f.sets))
