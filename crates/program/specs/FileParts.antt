-- The two parts of a file that are handed on as bytes: the names section, which is the file's first bytes, as far as a scan of the names
-- goes, and none where that is refused; and the sets, which are its last.
-- A reader need not believe this file: promises (RoundTrip, `names_handed`, `sets_handed`) proves that a file that is read hands on its own
-- names section and its own sets. Definitions only. Assumes nothing.
use Rattle.std.specs.Prelude.{ℕ, List, [], take, drop}
use Rattle.format.specs.Format.{Entry}
use Rattle.format.specs.Plan.{Ran, got, bad, run}
use Rattle.format.specs.Sections.{names}
use Rattle.reader.specs.declared.Counts.{Counts}

unfoldable pub scanned : List ℕ → Ran (List Entry) → List ℕ
scanned file (got es at) = take at file
scanned file (bad n p) = []

unfoldable pub names_of : List ℕ → List ℕ
unfolding scanned run names
names_of file = scanned file (run file 0 names)

-- from where the reader says that they are
abbrev pub sets_of : Counts → List ℕ → List ℕ
sets_of c file = drop c.sets_at file
