-- The line of a call of `next`, and when the list and the work bytes count as clean. The numbers of the list are all 42405 and the work bytes
-- all 165 before the call; the numbers behind those listed stay so, and of a call that is refused or undecided all of them. The work bytes
-- are as after a call of the judge. Definitions only: NextLineLaws has that the call leaves them clean. Assumes nothing.
use Rattle.std.specs.Prelude.{ℕ, ◌≤◌, ◌/◌, Bool, true, ◌&&◌, List, [], ◌∷◌, ◌++◌, ◌≡◌, length, take, replicate, Result, ⊤, Option}
use Rattle.calculus.specs.Records.{State}
use Rattle.flow.specs.declared.Refusal.{Refusal}
use Rattle.ahead.specs.declared.answer.Found.{Found}
use Rattle.ahead.specs.declared.answer.Next.{Next}
use Rattle.ahead.specs.declared.answer.Next.TheVariants.{Listed, Undecided, Refused}
use Rattle.ahead.specs.Told.{numbers_wanted}
use Rattle.ahead.specs.Outcome.{next_by, list_by}
use Rattle.judge.specs.Judged.{room_of, room_wanted, bytes_by}
use Rattle.line.specs.declared.VerdictWord.TheVariants as word
use Rattle.line.specs.Line.{spelled, spaced, Put}
use Rattle.replay.specs.Filler.{filler, number_filler, kept}
use Rattle.replay.specs.Lent.{lent_flow, lent_next_check}
use Rattle.replay.specs.Promised.{is_clean}
use Rattle.replay.specs.Text.{refused_text, numbers_text, noted}

---- The list and the work bytes ----

-- how many numbers were listed
unfoldable pub length_listed : Next → ℕ
length_listed (Listed f) = f.length
length_listed (Undecided f) = 0
length_listed (Refused r) = 0

-- how many work bytes are promised to be zero, by how many numbers the nodes have and how many records there are
unfoldable pub next_zeros : Next → ℕ → ℕ → ℕ
next_zeros (Listed f) numbers records = room_of (numbers / 3) records
next_zeros (Undecided f) numbers records = room_of (numbers / 3) records
next_zeros (Refused r) numbers records = 0

-- whether the others are filler
unfoldable pub next_clean : Next → ℕ → ℕ → List ℕ → List ℕ → Bool
unfolding kept length_listed next_zeros is_clean
next_clean a numbers records list work = kept number_filler (length_listed a) list && is_clean (next_zeros a numbers records) work

---- The line ----

-- "listed" in ASCII, the length, the count, and the first numbers of the list, as many
unfoldable pub listed_text : Found → List ℕ → List ℕ
listed_text f list = (108 ∷ 105 ∷ 115 ∷ 116 ∷ 101 ∷ 100 ∷ []) ++ (spaced f.length ++ (spaced f.count ++ numbers_text (take f.length list)))

-- "undecided", the length and the count
unfoldable pub undecided_text : Found → List ℕ
undecided_text f = spelled word.Undecided ++ (spaced f.length ++ spaced f.count)

unfoldable pub next_text : Next → List ℕ → List ℕ
next_text (Listed f) list = listed_text f list
next_text (Undecided f) list = undecided_text f
next_text (Refused r) list = refused_text r

-- what the answer tells, and whether the list and the work bytes are clean
unfoldable pub next_line : Next → List ℕ → Bool → List ℕ
unfolding next_text noted
next_line a list clean = next_text a list ++ noted clean

-- an answer that there is room for in the line: what was listed stands in the list, and is no more than there is
pub record Tellable (a : Next) (list : List ℕ) : Type 0 where
  pub short : length_listed a ≤ numbers_wanted
  pub there : length_listed a ≤ length list

---- The contracts ----

-- of a call on a list of so many numbers and so many work bytes, all filler, by what is refused and the flow: the line, which ends in
-- `clean`, and the list and the work bytes after it
pub record NextCase (c : Result ⊤ Refusal) (flow : State) (ns rs : List ℕ) (allowance room n : ℕ) (list' after out out' : List ℕ) (r : ℕ) : Type 0 where
  pub line : Put (next_line (next_by c flow rs allowance) list' true) out 0 out' r
  pub list_after : list' ≡ list_by c flow rs allowance (replicate room number_filler)
  pub work_after : after ≡ bytes_by c (room_wanted ns rs) (replicate n filler)

-- of `next_lists`, with a names section or without: the list and the work bytes before the call, and after it
abbrev pub NextCaseOf : Option (List ℕ) → List ℕ → List ℕ → List ℕ → ℕ → List ℕ → List ℕ → List ℕ → List ℕ → List ℕ → List ℕ → ℕ → Type 0
NextCaseOf names sets ns rs allowance list work list' after out out' r =
    NextCase (lent_next_check names sets ns rs (length list) (length work)) (lent_flow names sets ns) ns rs allowance (length list) (length work) list' after out out' r
