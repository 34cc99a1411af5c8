-- What the helpers of `next` and `next_named` promise: 14, the numbers whose asks are answered, and what comes of a search by cues with the
-- asks of all numbers. Definitions only. Assumes nothing.
use Rattle.std.specs.Prelude.{ℕ, ◌≤◌, cond, ◌≡◌, List, [], ◌∷◌, map, eqb, leb, length, take, Result, ⊤}
use Rattle.calculus.specs.Ahead.{Begins, entered}
use Rattle.flow.specs.declared.Refusal.{Refusal}
use Rattle.flow.specs.Records.{all_numbers}
use Rattle.flow.specs.Refusals.{count}
use Rattle.flow.specs.Checks.{first, grounds}
use Rattle.flow.specs.Cues.{cued, cue_records}
use Rattle.flow.specs.Drawn.{flow_by}
use Rattle.format.specs.Told.{at_front}
use Rattle.search.specs.Room.{room_of, cleared}
use Rattle.search.specs.Visits.{Asking, follows_mark}
use Rattle.search.specs.Searches.{SearchReady, answered}
use Rattle.ahead.specs.declared.answer.Next.{Next}
use Rattle.ahead.specs.declared.answer.Next.TheVariants.{Listed, Undecided}
use Rattle.ahead.specs.Told.{numbers_wanted, next_room_order}

-- 14
abbrev pub next_room_check : List ℕ → List ℕ → ℕ → ℕ → Result ⊤ Refusal
next_room_check ns rs numbers room = first (grounds (next_room_order ns rs numbers room))

-- the numbers whose asks are answered
unfoldable pub picked : List ℕ → List ℕ → List ℕ
picked [] qs = []
picked (r ∷ rs) [] = []
picked (r ∷ rs) (q ∷ qs) = cond (eqb q follows_mark) (r ∷ picked rs qs) (picked rs qs)

-- in front of a table stand those among the first j numbers, so many
pub record ListedTo (qs list : List ℕ) (j n : ℕ) (list' : List ℕ) : Type 0 where
  pub few : n ≤ j
  pub within : j ≤ numbers_wanted
  pub many : n ≡ length (picked (take j all_numbers) (take j qs))
  pub size : length list' ≡ length list
  pub front : list' ≡ at_front (picked (take j all_numbers) (take j qs)) list

-- what the search by cues needs: a beginning, and an ask for each number
pub record NextReady (ns xs qs list work : List ℕ) : Type 0 where
  pub search : SearchReady ns xs work
  pub begins : Begins (flow_by cued ns) (cue_records xs)
  pub asking : Asking qs
  pub all : length qs ≡ numbers_wanted
  pub room : numbers_wanted ≤ length list

module _ (ns xs qs : List ℕ) (allowance : ℕ) where
  -- the states that are entered, by the cues
  abbrev pub cost : ℕ
  cost = entered (cue_records xs) (flow_by cued ns)

  -- the numbers that are listed, by the cues
  abbrev pub found : List ℕ
  found = picked all_numbers (map (answered (flow_by cued ns) (cue_records xs)) qs)

  -- what comes of it
  pub record NextAnswered (list work : List ℕ) (r : Next) (list' after : List ℕ) : Type 0 where
    pub answers : r ≡ cond (leb cost allowance) (Listed (record { length = length found; count = cost })) (Undecided (record { length = 0; count = allowance }))
    pub lists : list' ≡ cond (leb cost allowance) (at_front found list) list
    pub leaves : after ≡ cleared (room_of (count ns) (length xs)) work
