-- What is known of what was read: a number, a name, an entry, the entries, a section, the sets. Definitions only: ItemLaws, SectionLaws and
-- EntryLaws prove them. Assumes nothing.
use Rattle.std.specs.Prelude.{ℕ, ◌+◌, ◌-◌, ◌*◌, ◌≤◌, ◌<◌, false, List, ◌≡◌, length, get_or, take, drop}
use Rattle.format.specs.declared.Got.{Got}
use Rattle.format.specs.declared.Range.{Range}
use Rattle.format.specs.Format.{Entry}
use Rattle.format.specs.Limits.{step_length, machine_length}
use Rattle.format.specs.Matching.{nobody}
use Rattle.format.specs.Plan.{Plan, Ran, got, run}
use Rattle.format.specs.Sections.{name, entry, same_entry, met, entries, names}
use Rattle.format.specs.Items.{number_at, numbers_at, name_at, name_end, entry_at, entry_end, entries_at, entries_end}

-- what an answer tells of the plan's run
pub record Found {A : Type 0} (f : A → ℕ) (x : Ran A) (g : Got) : Type 0 where
  pub found : A
  pub is : x ≡ got found g.next.at
  pub sized : g.value ≡ f found

-- what a number that was read is, and where it ends
pub record NumberThere (s : List ℕ) (at v next : ℕ) : Type 0 where
  pub is : v ≡ number_at s at
  pub ends : next ≡ at + 2
  pub inside : at + 2 ≤ length s

-- a number that is in its range, and where it was read
pub record RangedThere (s : List ℕ) (at : ℕ) (g : Range) (p : Plan ℕ) (v next : ℕ) : Type 0 where
  pub read : run s at p ≡ got v next
  pub low : g.least ≤ v
  pub high : v ≤ g.most

-- a length byte that was read
pub record LengthThere (s : List ℕ) (at : ℕ) (g : Range) (v next : ℕ) : Type 0 where
  pub is : v ≡ get_or s at 0
  pub ends : next ≡ at + 1
  pub inside : at + 1 ≤ length s
  pub low : g.least ≤ v
  pub high : v ≤ g.most

-- what a name that was read is, and where it ends
pub record NameThere (s : List ℕ) (at : ℕ) (g : Range) (n : List ℕ) (next : ℕ) : Type 0 where
  pub bytes : n ≡ name_at s at
  pub ends : next ≡ name_end s at
  pub inside : name_end s at ≤ length s
  pub low : g.least ≤ get_or s at 0
  pub high : get_or s at 0 ≤ g.most

-- the two names of an entry that was read
pub record EntryRuns (s : List ℕ) (at : ℕ) (e : Entry) (next : ℕ) : Type 0 where
  pub mid : ℕ
  pub step_run : run s at (name step_length) ≡ got e.step mid
  pub machine_run : run s mid (name machine_length) ≡ got e.machine next

-- what an entry that was read is, and where it ends
pub record EntryThere (s : List ℕ) (at : ℕ) (e : Entry) (next : ℕ) : Type 0 where
  pub is : e ≡ entry_at s at
  pub ends : next ≡ entry_end s at
  pub inside : entry_end s at ≤ length s
  pub short : entry_end s at ≤ at + 82

-- an entry that is read as a new one is an entry that is read, and none of the earlier ones
pub record NewThere (s : List ℕ) (at : ℕ) (earlier : List Entry) (e : Entry) (next : ℕ) : Type 0 where
  pub read : run s at entry ≡ got e next
  pub there : EntryThere s at e next
  pub new : met e earlier ≡ false

-- the first i of n entries are read, and `at` is behind them
pub record Scanned (s : List ℕ) (n i at : ℕ) : Type 0 where
  pub some : i ≤ n
  pub few : n ≤ 256
  pub here : at ≡ entries_end s i 2
  pub near : at ≤ 2 + 82 * i
  pub inside : at ≤ length s
  pub goes_on : run s 0 names ≡ run s at (entries (n - i) (entries_at s i 2))

-- items of a size that were read, and where they end
pub record ItemsThere (s : List ℕ) (size k at : ℕ) (bs : List ℕ) (next : ℕ) : Type 0 where
  pub is : bs ≡ take (size * k) (drop at s)
  pub ends : next ≡ at + size * k
  pub inside : next ≤ length s

-- of so many items the first that is not wholly there
pub record Cut (s : List ℕ) (size k at : ℕ) : Type 0 where
  pub number : ℕ
  pub before : number < k
  pub inside : at + size * number ≤ length s
  pub cut : length s < at + size * number + size

-- a section of items that was read: its count, and their bytes behind it
pub record ItemSectionThere (s : List ℕ) (at : ℕ) (g : Range) (size each : ℕ) (bs : List ℕ) (next : ℕ) : Type 0 where
  pub n : ℕ
  pub counted : n ≡ number_at s at
  pub low : g.least ≤ n
  pub high : n ≤ g.most
  pub is : bs ≡ take (size * (each * n)) (drop (at + 2) s)
  pub sized : length bs ≡ size * (each * n)
  pub ends : next ≡ at + 2 + size * (each * n)
  pub inside : next ≤ length s

-- the numbers of a section that was read
pub record SectionThere (s : List ℕ) (at : ℕ) (g : Range) (each : ℕ) (ns : List ℕ) (next : ℕ) : Type 0 where
  pub n : ℕ
  pub counted : n ≡ number_at s at
  pub low : g.least ≤ n
  pub high : n ≤ g.most
  pub is : ns ≡ numbers_at s (each * n) (at + 2)
  pub sized : length ns ≡ each * n
  pub ends : next ≡ at + 2 + 2 * (each * n)
  pub inside : next ≤ length s

-- sets that were read: none, or those that end where the file's fourth section does
pub record SetsThere (s : List ℕ) (at : ℕ) (sets : List ℕ) (next : ℕ) : Type 0 where
  pub n : ℕ
  pub few : n ≤ 16
  pub is : sets ≡ take (32 * n) (drop (next - 32 * n) s)
  pub sized : length sets ≡ 32 * n
  pub from : at + 32 * n ≤ next
  pub near : next ≤ at + 514
  pub inside : next ≤ length s

-- names that were read, and where they end
pub record NamesThere (s : List ℕ) (es : List Entry) (next : ℕ) : Type 0 where
  pub is : es ≡ entries_at s (length es) 2
  pub ends : next ≡ entries_end s (length es) 2
  pub few : length es ≤ 256
  pub near : next ≤ 2 + 82 * length es
  pub inside : next ≤ length s

-- no two entries are the same
abbrev pub Apart : List Entry → Type 0
Apart es = (i j : ℕ) → i < j → j < length es → same_entry (get_or es i nobody) (get_or es j nobody) ≡ false

-- every entry has a step name of some bytes
abbrev pub Stepped : List Entry → Type 0
Stepped es = (i : ℕ) → i < length es → 1 ≤ length (get_or es i nobody).step

-- a names section by itself that was read: its count, where its entries stand, 18, and 17 of the step names that are empty
pub record AloneThere (s : List ℕ) (es : List Entry) : Type 0 where
  pub counted : number_at s 0 ≡ length es
  pub is : es ≡ entries_at s (length es) 2
  pub inside : entries_end s (length es) 2 ≤ length s
  pub few : length es ≤ 256
  pub apart : Apart es
  pub stepped : Stepped es
