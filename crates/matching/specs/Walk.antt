-- The walk through the entries of a names section: what its steps give (`GivesPlace`), and where it is among all entries (`Walked`).
-- Definitions only. Assumes nothing.
use Rattle.std.specs.Prelude.{ℕ, ◌≡◌, ◌+◌, List, Option, Some, None, length}
use Rattle.format.specs.ListChecks.{entries_in}
use Rattle.format.specs.Items.{entry_end, entries_end}
use Rattle.matching.specs.declared.Place.{Place}
use Rattle.matching.specs.declared.Entries.{Entries}

-- the next entry, and those behind it are left
pub record Passed (old new : Entries) (place : Place) : Type 0 where
  pub is : place ≡ old.next
  pub same : new.section.now ≡ old.section.now
  pub event : new.next.event ≡ old.next.event + 1
  pub at : new.next.at ≡ entry_end old.section.now old.next.at
  pub left : old.left ≡ new.left + 1

abbrev pub GivesPlace : Entries → Option Place → Entries → Type 0
GivesPlace old None new = old.left ≡ 0
GivesPlace old (Some place) new = Passed old new place

-- k entries of a section are passed, and the others are left
pub record Walked (s : List ℕ) (k : ℕ) (walk : Entries) : Type 0 where
  pub same : walk.section.now ≡ s
  pub event : walk.next.event ≡ k + 1
  pub at : walk.next.at ≡ entries_end s k 2
  pub all : k + walk.left ≡ length (entries_in s)
