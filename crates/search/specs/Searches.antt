-- What a search of a whole flow asks and leaves: a table that checks 1 to 9 passed, the cues of no more records than its root can
-- take, and room. Definitions only. Assumes nothing.
use Rattle.std.specs.Prelude.{ℕ, ◌<◌, ◌≤◌, ◌≡◌, Bool, false, not, cond, List, map, leb, length, get_or, replicate, Option, Some, None}
use Rattle.calculus.specs.Records.{Record, State}
use Rattle.calculus.specs.Within.{Within}
use Rattle.calculus.specs.Ahead.{may_follow}
use Rattle.calculus.specs.Spending.{Out as Found, spent, back, visit_b}
use Rattle.flow.specs.Kinds.{node, is_standard}
use Rattle.flow.specs.Cues.{cued, failed_cue, cue_record, cue_records}
use Rattle.flow.specs.Refusals.{count, root}
use Rattle.flow.specs.Fine.{FineTable}
use Rattle.flow.specs.Drawn.{flow_by}
use Rattle.states.specs.declared.Sense.TheVariants.{Drawn}
use Rattle.states.specs.declared.Role.{Role}
use Rattle.states.specs.declared.Role.TheVariants.{Plain, Running}
use Rattle.search.specs.declared.Trip.{Trip}
use Rattle.search.specs.Room.{room_of, cleared}
use Rattle.search.specs.Visits.{out_of, follows_mark}

-- 01: "Kinds 1 to 9 are standard": what the root is before the first record
unfoldable pub role_of : List ℕ → Role
role_of ns = cond (is_standard (node ns (root ns))) (Plain Drawn) Running

-- what is left is no more than was allowed
abbrev pub LeftWithin : ℕ → Option Trip → Type 0
LeftWithin allowance None = Unit {0}
LeftWithin allowance (Some trip) = trip.left ≤ allowance

pub record SearchReady (ns xs work : List ℕ) : Type 0 where
  pub table : FineTable ns
  pub few : length xs ≤ 256
  pub low : (i : ℕ) → i < length xs → get_or xs i 0 ≤ failed_cue
  pub fits : Within (flow_by cued ns) (cue_records xs)
  pub room : room_of (count ns) (length xs) ≤ length work

-- what the search of the drawn flow brings back, and what becomes of the work bytes
pub record Searched (ns xs : List ℕ) (allowance : ℕ) (work : List ℕ) (o : Option Trip) (after : List ℕ) : Type 0 where
  pub out : out_of o ≡ visit_b (cue_records xs) (flow_by cued ns) allowance
  pub leaves : after ≡ cleared (room_of (count ns) (length xs)) work

-- what becomes of an ask where all runs from s through rs were searched: 1, if its record can follow
unfoldable pub answered : State → List Record → ℕ → ℕ
answered s rs x = cond (leb x follows_mark) x (cond (may_follow rs s (cue_record x)) follows_mark x)

-- all runs were searched: no end was found within the allowance
unfoldable pub went_through : Found → Bool
went_through spent = false
went_through (back found far left) = not found

-- then asks are answered; else nothing is told
unfoldable pub asks_after : State → List Record → Found → List ℕ → List ℕ
unfolding answered went_through
asks_after s rs o qs = cond (went_through o) (map (answered s rs) qs) (replicate (length qs) 0)

-- the search with asks
pub record Asked (ns xs : List ℕ) (allowance : ℕ) (work qs : List ℕ) (o : Option Trip) (after qs' : List ℕ) : Type 0 where
  pub search : Searched ns xs allowance work o after
  pub asks : qs' ≡ asks_after (flow_by cued ns) (cue_records xs) (out_of o) qs
