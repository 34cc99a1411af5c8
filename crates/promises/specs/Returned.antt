-- What the round trip is stated with: what a reading gives back of lists that were written, and that some lists are written as a file.
-- `s` are the bytes of a names section, `ns` the numbers of the nodes, `rs` the records, `sets` the bytes of the sets. Definitions only:
-- RoundTrip has the theorems. Assumes nothing.
use Rattle.std.specs.Prelude.{ℕ, ◌≤◌, Result, List, ◌≡◌, length, take, drop}
use Rattle.flow.specs.declared.Refusal.{Refusal}
use Rattle.format.specs.Format.{Entry, names_section}
use Rattle.format.specs.Limits.{Bytes}
use Rattle.format.specs.Told.{at_front}
use Rattle.reader.specs.declared.Counts.{Counts}
use Rattle.reader.specs.Report.{reported, read_report, counts_of}
use Rattle.flow.specs.declared.Refusal.{Refusal}
use Rattle.writer.specs.declared.Size.{Size}
use Rattle.writer.specs.Told.{writing_told, writing_written}
use Rattle.writer.specs.Writing.{WrittenAs}

-- 02, One: "the reader reads back .. the same three lists", and the sets of Four: the bytes t, read into lent nodes and records with the
-- answer a
pub record ReadBack (s ns rs sets t nodes records nodes' records' : List ℕ) (a : Result Counts Refusal) : Type 0 where
  -- the names section is the file's first bytes
  pub entries : List Entry
  pub names_lent : s ≡ names_section entries
  pub names_back : take (length s) t ≡ s
  -- the numbers, first in the two tables
  pub nodes_back : nodes' ≡ at_front ns nodes
  pub records_back : records' ≡ at_front rs records
  -- the sets are the file's last bytes, at the offset that is answered
  pub sets_back : drop (reported a).sets_at t ≡ sets
  -- the counts of all four
  pub counted : reported a ≡ read_report (counts_of (record { names = entries; nodes = ns; records = rs; sets = sets }))

-- some lists are written as the file t
pub record WrittenFor (t : List ℕ) : Type 0 where
  pub s : List ℕ
  pub ns : List ℕ
  pub rs : List ℕ
  pub sets : List ℕ
  pub file : List ℕ
  pub file' : List ℕ
  pub answer : Result Size Refusal
  pub bytes : Bytes s
  pub sets_bytes : Bytes sets
  pub written : WrittenAs s ns rs sets file file' answer
  pub some : 1 ≤ length t
  pub told : writing_told answer ≡ writing_written (length t)
  pub stands : take (length t) file' ≡ t
