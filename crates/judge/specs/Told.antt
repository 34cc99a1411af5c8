-- What an answer of `judge` or `judge_named` tells in document 01's terms: its word, number, place and count for each case (`told`), of
-- which every promise is stated; and what is refused, in which order. `ns` are the numbers of the nodes, `rs` those of the records, `sets`
-- the bytes of the lent sets. Definitions only: the promises about them are in the crate above (Demands, NamedDemands). Assumes nothing.
use Rattle.std.specs.Prelude.{ℕ, Bool, List, [], ◌∷◌, ◌++◌, ltb, length}
use Rattle.flow.specs.declared.Extent.TheVariants.{Whole}
use Rattle.flow.specs.Refusals.{count, ground_of, Round, lone, table_order, records_order}
use Rattle.search.specs.Room.{room_of}
use Rattle.format.specs.Format.{Entry}
use Rattle.format.specs.Contents.{lists_order}
use Rattle.judge.specs.declared.Answer.{Answer}
use Rattle.judge.specs.declared.Answer.TheVariants.{Accepted, Rejected, Undecided, Refused}

---- What an answer tells ----

-- 01: "the verdict word, refusal number or 0, place, count"
pub data VerdictWord : Type 0 where
  accepted rejected undecided refused : VerdictWord

pub record Told : Type 0 where
  pub word : VerdictWord
  pub number : ℕ
  pub place : ℕ
  pub count : ℕ

-- a verdict, with its place and count
abbrev pub verdict : VerdictWord → ℕ → ℕ → Told
verdict word place count = record { word = word; number = 0; place = place; count = count }

-- 01: "refused: number, place; count 0"
abbrev pub refusal : ℕ → ℕ → Told
refusal number place = record { word = VerdictWord.refused; number = number; place = place; count = 0 }

-- 01: "An answer is one of four, each with its own numbers"
unfoldable pub told : Answer → Told
told (Accepted r) = verdict VerdictWord.accepted r.place r.count
told (Rejected r) = verdict VerdictWord.rejected r.place r.count
told (Undecided r) = verdict VerdictWord.undecided r.place r.count
told (Refused r) = refusal r.number r.place

---- What is refused ----

-- 01: "Work bytes wanted: 2 × nodes × (records + 1)."
abbrev pub room_wanted : List ℕ → List ℕ → ℕ
room_wanted ns rs = room_of (count ns) (length rs)

-- 14: "lent room too short"
unfoldable pub too_short : List ℕ → List ℕ → ℕ → Bool
too_short ns rs room = ltb room (room_wanted ns rs)

-- behind all others
abbrev pub room_order : List ℕ → List ℕ → ℕ → List Round
room_order ns rs room = lone (ground_of 14 0 (too_short ns rs room)) ∷ []

-- 01: "Judging checks 1 to 3; then nodes from 0 up, each in the order 4 to 8; then 9 to 14." 02, Four: 23 "just before the nodes"
abbrev pub judge_order : List ℕ → List ℕ → List ℕ → ℕ → List Round
judge_order sets ns rs room = table_order sets ns ++ (records_order Whole ns rs ++ room_order ns rs room)

-- 02, Two: "with a names section, those of One in One's order"; 01: "14, place 0, comes last"
abbrev pub named_judge_order : List ℕ → List ℕ → List ℕ → ℕ → List Entry → List Round
named_judge_order sets ns rs room es = lists_order Whole (length es) sets ns rs ++ room_order ns rs room
