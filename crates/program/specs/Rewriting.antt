-- What comes of a flow file that is read and written again, computed: the reader's refusal, or what the writer makes of the file's own
-- names section, nodes, records and sets. A reader need not believe this file, but only that `FileRewritten` is what `rewrite_file` ensures:
-- promises/specs/Rewritten proves that a file that is read comes out as it was. Definitions only. Assumes nothing.
use Rattle.std.specs.Prelude.{ℕ, Result, Ok, Err, List, [], ◌≡◌, length}
use Rattle.flow.specs.declared.Refusal.{Refusal}
use Rattle.format.specs.Told.{at_front}
use Rattle.reader.specs.declared.Counts.{Counts}
use Rattle.reader.specs.Reading.{reading}
use Rattle.writer.specs.declared.Size.{Size}
use Rattle.writer.specs.Writing.{writing, bytes_first}
use Rattle.program.specs.FileParts.{names_of, sets_of}

-- the answer, and the bytes that stand first in the lent ones then
pub record Copy : Type 0 where
  pub answer : Result Size Refusal
  pub bytes : List ℕ

abbrev pub refused_copy : Refusal → Copy
refused_copy r = record { answer = Err r; bytes = [] }

module _ (file : List ℕ) (room : ℕ) where
  unfoldable pub copied : Result Counts Refusal → List ℕ → List ℕ → Copy
  unfolding names_of
  copied (Err r) ns rs = refused_copy r
  copied (Ok c) ns rs = record { answer = writing (names_of file) ns rs (sets_of c file) room; bytes = bytes_first (names_of file) ns rs (sets_of c file) room }

  unfoldable pub rewriting : Copy
  unfolding copied reading
  rewriting = copied (reading file 192 256).answer (reading file 192 256).nodes (reading file 192 256).records

-- the contract of `rewrite_file`
pub record FileRewritten (file out out' : List ℕ) (r : Result Size Refusal) : Type 0 where
  pub answer : r ≡ (rewriting file (length out)).answer
  pub out_after : out' ≡ at_front (rewriting file (length out)).bytes out
