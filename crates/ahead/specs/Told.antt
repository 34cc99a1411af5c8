-- What may come next (02, Three): what is listed, what an answer of `next` or `next_named` tells, its word and its numbers for each case
-- (`told`), and what is refused, in which order. `ns` are the numbers of the nodes, `rs` those of the beginning, `sets`
-- the bytes of the lent sets.
-- Definitions only: the promises about them are in the crate above (Following). Assumes nothing.
use Rattle.std.specs.Prelude.{ℕ, Bool, ◌||◌, cond, List, [], ◌∷◌, ◌++◌, ltb, length}
use Rattle.calculus.specs.Records.{State}
use Rattle.calculus.specs.Ahead.{may_follow}
use Rattle.flow.specs.declared.Extent.TheVariants.{Beginning}
use Rattle.flow.specs.Records.{record_of, records, all_numbers}
use Rattle.flow.specs.Refusals.{ground_of, Round, lone, table_order, records_order}
use Rattle.format.specs.Format.{Entry}
use Rattle.format.specs.Contents.{lists_order}
use Rattle.judge.specs.Told.{too_short}
use Rattle.ahead.specs.declared.answer.Next.{Next}
use Rattle.ahead.specs.declared.answer.Next.TheVariants.{Listed, Undecided, Refused}

---- What is listed ----

-- those that pass a test, as they stand
unfoldable pub those : (ℕ → Bool) → List ℕ → List ℕ
those test [] = []
those test (x ∷ xs) = cond (test x) (x ∷ those test xs) (those test xs)

-- "every event and closing that can follow it, each once, in rising order of its number"
unfoldable pub following : State → List ℕ → List ℕ
unfolding those all_numbers
following flow rs = those (λ r. may_follow (records rs) flow (record_of r)) all_numbers

---- What an answer tells ----

pub data NextWord : Type 0 where
  listed undecided refused : NextWord

pub record NextTold : Type 0 where
  pub word : NextWord
  pub number : ℕ
  pub place : ℕ
  pub length : ℕ
  pub count : ℕ

-- "The answer gives the list's length and the count"
abbrev pub found : NextWord → ℕ → ℕ → NextTold
found word length count = record { word = word; number = 0; place = 0; length = length; count = count }

-- 01: "refused: number, place; count 0"
abbrev pub refusal : ℕ → ℕ → NextTold
refusal number place = record { word = NextWord.refused; number = number; place = place; length = 0; count = 0 }

unfoldable pub told : Next → NextTold
told (Listed f) = found NextWord.listed f.length f.count
told (Undecided f) = found NextWord.undecided f.length f.count
told (Refused r) = refusal r.number r.place

---- What is refused ----

-- "a lent table of at least 259 numbers"
abbrev pub numbers_wanted : ℕ
numbers_wanted = 259

-- 14: "for each lent buffer that is too short": so many numbers and so many work bytes are lent
unfoldable pub no_room : List ℕ → List ℕ → ℕ → ℕ → Bool
unfolding too_short
no_room ns rs numbers room = ltb numbers numbers_wanted || too_short ns rs room

-- behind all others
abbrev pub next_room_order : List ℕ → List ℕ → ℕ → ℕ → List Round
next_room_order ns rs numbers room = lone (ground_of 14 0 (no_room ns rs numbers room)) ∷ []

-- "10 isn't given here; a beginning with a closing too many .. is 13, at that closing": else as the judge's
abbrev pub next_order : List ℕ → List ℕ → List ℕ → ℕ → ℕ → List Round
next_order sets ns rs numbers room = table_order sets ns ++ (records_order Beginning ns rs ++ next_room_order ns rs numbers room)

-- "Names may be lent as in Two"
abbrev pub named_next_order : List ℕ → List ℕ → List ℕ → ℕ → ℕ → List Entry → List Round
named_next_order sets ns rs numbers room es = lists_order Beginning (length es) sets ns rs ++ next_room_order ns rs numbers room
