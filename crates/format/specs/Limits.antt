-- Which flow files are within the limits of 01, "The flow file", and of 02, Four, and what it means that bytes stand at an offset of a
-- file. What the numbers mean (4 to 9, 12, 13, 19, 20, 22) is no limit: Contents says that. Definitions only. Assumes nothing.
use Rattle.std.specs.Prelude.{ℕ, ◌+◌, ◌*◌, ◌≤◌, ◌<◌, ◌≡◌, length, get_or, drop}
use mathlib.Core.List.{List, [], ◌∷◌, ◌++◌, Memᴰ}
use Rattle.flow.specs.Legends.{set_bytes}
use Rattle.format.specs.declared.Range.{Range}
use Rattle.format.specs.Format.{Entry, File}

---- Ranges ----

-- "a length byte 1 to 40", and "0 to 40"; 17: "length out of range"
abbrev pub step_length : Range
step_length = record { least = 1; few = 17; most = 40; many = 17 }

abbrev pub machine_length : Range
machine_length = record { least = 0; few = 17; most = 40; many = 17 }

-- 16: "over 256 names"
abbrev pub name_count : Range
name_count = record { least = 0; few = 16; most = 256; many = 16 }

-- "1 and 3 on the node count, 10 and 11 on the record count"
abbrev pub node_count : Range
node_count = record { least = 1; few = 1; most = 64; many = 3 }

abbrev pub record_count : Range
record_count = record { least = 1; few = 10; most = 256; many = 11 }

-- 23: "set count 0 or above 16"
abbrev pub sets_count : Range
sets_count = record { least = 1; few = 23; most = 16; many = 23 }

pub record InRange (g : Range) (n : ℕ) : Type 0 where
  pub low : g.least ≤ n
  pub high : n ≤ g.most

---- Files ----

-- "a step name (a length byte 1 to 40, then the bytes) and a machine name (0 to 40)"
pub record GoodEntry (e : Entry) : Type 0 where
  pub step_good : InRange step_length (length e.step)
  pub machine_good : InRange machine_length (length e.machine)

-- entries behind earlier ones: each of them good, and none equal to one before it
pub data GoodEntries : List Entry → List Entry → Type 0 where
  no_entries : {earlier : List Entry} → GoodEntries earlier []
  one_entry : {earlier : List Entry} {e : Entry} {es : List Entry} → GoodEntry e → (Memᴰ e earlier → ⊥) → GoodEntries (earlier ++ (e ∷ [])) es → GoodEntries earlier (e ∷ es)

pub record GoodNames (es : List Entry) : Type 0 where
  pub counted : InRange name_count (length es)
  pub entries : GoodEntries [] es

-- what is known of the bytes of a file
abbrev pub Bytes : List ℕ → Type 0
Bytes s = (i : ℕ) → get_or s i 0 < 256

-- whole nodes, records or sets, `each` numbers to one, as many as there may be
pub record GoodNumbers (g : Range) (each : ℕ) (ns : List ℕ) : Type 0 where
  pub n : ℕ
  pub whole : length ns ≡ each * n
  pub counted : InRange g n

-- no sets, or whole ones
pub data GoodSets : List ℕ → Type 0 where
  no_sets : GoodSets []
  some_sets : {sets : List ℕ} → GoodNumbers sets_count set_bytes sets → Bytes sets → GoodSets sets

pub record WithinLimits (f : File) : Type 0 where
  pub names : GoodNames f.names
  pub nodes : GoodNumbers node_count 3 f.nodes
  pub records : GoodNumbers record_count 1 f.records
  pub sets : GoodSets f.sets

-- the bytes xs stand in s at an offset
pub record Stands (s : List ℕ) (at : ℕ) (xs : List ℕ) : Type 0 where
  pub begins : drop at s ≡ xs ++ drop (at + length xs) s
  pub inside : at + length xs ≤ length s
