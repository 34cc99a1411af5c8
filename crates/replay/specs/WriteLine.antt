-- The line of a call of the writer, and when the lent bytes count as clean. They are all 165 before the call, and those behind the file that
-- was written stay so; refused, all of them. Definitions only: WriteLineLaws has that the writer leaves them clean. Assumes nothing.
use Rattle.std.specs.Prelude.{ℕ, ◌≤◌, Bool, List, [], ◌∷◌, ◌++◌, length, take, Result, Ok, Err}
use Rattle.line.specs.Line.{spaced}
use Rattle.flow.specs.declared.Refusal.{Refusal}
use Rattle.writer.specs.declared.Size.{Size}
use Rattle.replay.specs.Filler.{filler, kept}
use Rattle.replay.specs.Text.{refused_text, hex_of, noted}

---- The bytes ----

-- how many bytes were written
unfoldable pub length_written : Result Size Refusal → ℕ
length_written (Ok e) = e.length
length_written (Err r) = 0

-- whether the others are filler
unfoldable pub file_clean : Result Size Refusal → List ℕ → Bool
unfolding kept length_written
file_clean a file = kept filler (length_written a) file

---- The line ----

-- "written" in ASCII, the length, and the first bytes of the file, as many
unfoldable pub written_text : Size → List ℕ → List ℕ
written_text e file = (119 ∷ 114 ∷ 105 ∷ 116 ∷ 116 ∷ 101 ∷ 110 ∷ []) ++ (spaced e.length ++ (32 ∷ hex_of (take e.length file)))

unfoldable pub write_text : Result Size Refusal → List ℕ → List ℕ
write_text (Ok e) file = written_text e file
write_text (Err r) file = refused_text r

-- what the answer tells, and whether the bytes are clean
unfoldable pub write_line : Result Size Refusal → List ℕ → Bool → List ℕ
unfolding write_text noted
write_line a file clean = write_text a file ++ noted clean

-- an answer that there is room for in the line: what was written stands in the file, and is no longer than a file can be
pub record Printable (a : Result Size Refusal) (file : List ℕ) : Type 0 where
  pub short : length_written a ≤ 22408
  pub there : length_written a ≤ length file
