-- What the writer answers, and what stands in the lent bytes then, computed: the first ground that holds, or the sections.
-- A reader need not believe this file, but only that `WrittenAs` is what `write` ensures: promises/specs/Writer tells by Told and Writes
-- alone what is answered then, and what becomes of the bytes. Definitions only. Assumes nothing.
use Rattle.std.specs.Prelude.{ℕ, List, [], ◌∷◌, ◌++◌, ◌≡◌, ltb, length, Result, Ok, Err, ⊤}
use Rattle.flow.specs.declared.Refusal.{Refusal}
use Rattle.flow.specs.declared.Extent.TheVariants.{Whole}
use Rattle.flow.specs.Refusals.{ground_of, Round, lone}
use Rattle.format.specs.Format.{Entry, numbers_section, sets_section}
use Rattle.format.specs.Contents.{lists_order}
use Rattle.format.specs.Told.{at_front}
use Rattle.format.specs.ListChecks.{named_check}
use Rattle.flow.specs.declared.Refusal.{Refusal}
use Rattle.writer.specs.declared.Size.{Size}

-- the names section as it is lent, then the nodes and the records, and the sets where there are any
unfoldable pub lists_bytes : List ℕ → List ℕ → List ℕ → List ℕ → List ℕ
unfolding numbers_section sets_section
lists_bytes s ns rs sets = s ++ (numbers_section 3 ns ++ (numbers_section 1 rs ++ sets_section sets))

module _ (s ns rs sets : List ℕ) (room : ℕ) where
  abbrev pub order_by_bytes : List Entry → List Round
  order_by_bytes es = lists_order Whole (length es) sets ns rs ++ (lone (ground_of 14 0 (ltb room (length (lists_bytes s ns rs sets)))) ∷ [])

  -- 15 to 18, 21, 1 to 3, 10, 11, 23, 4 to 9, with 22, 12, 13, 19, 20, 14
  unfoldable pub write_check : Result ⊤ Refusal
  unfolding named_check lists_bytes
  write_check = named_check s order_by_bytes

-- the answer, and the bytes that stand first then
unfoldable pub wrote : List ℕ → Result ⊤ Refusal → Result Size Refusal
wrote bytes (Ok tt) = Ok (record { length = length bytes })
wrote bytes (Err r) = Err r

unfoldable pub put_first : List ℕ → Result ⊤ Refusal → List ℕ
put_first bytes (Ok tt) = bytes
put_first bytes (Err r) = []

abbrev pub writing : List ℕ → List ℕ → List ℕ → List ℕ → ℕ → Result Size Refusal
writing s ns rs sets room = wrote (lists_bytes s ns rs sets) (write_check s ns rs sets room)

abbrev pub bytes_first : List ℕ → List ℕ → List ℕ → List ℕ → ℕ → List ℕ
bytes_first s ns rs sets room = put_first (lists_bytes s ns rs sets) (write_check s ns rs sets room)

-- the contract of `write`
pub record WrittenAs (s ns rs sets file file' : List ℕ) (r : Result Size Refusal) : Type 0 where
  pub answer : r ≡ writing s ns rs sets (length file)
  pub file_after : file' ≡ at_front (bytes_first s ns rs sets (length file)) file
