-- What the judge's own helpers promise: 14, and the answer that comes of what a search by cues brought back. Definitions only. Assumes
-- nothing.
use Rattle.std.specs.Prelude.{ℕ, ◌-◌, ◌≡◌, true, false, List, length, Result, ⊤}
use Rattle.calculus.specs.Search as search
use Rattle.calculus.specs.Spending.{Out as Found, spent, back}
use Rattle.flow.specs.declared.Refusal.{Refusal}
use Rattle.flow.specs.Refusals.{count}
use Rattle.flow.specs.Checks.{first, grounds}
use Rattle.flow.specs.Cues.{cued, cue_records}
use Rattle.flow.specs.Drawn.{flow_by}
use Rattle.judge.specs.declared.Answer.{Answer}
use Rattle.judge.specs.declared.Answer.TheVariants.{Accepted, Rejected, Undecided}
use Rattle.judge.specs.Judged.{room_of, cleared, room_order, answer_of}

-- 14
abbrev pub room_check : List ℕ → List ℕ → ℕ → Result ⊤ Refusal
room_check ns rs room = first (grounds (room_order ns rs room))

-- 01, "What comes back": how many records there are, the allowance, what the search brought back
unfoldable pub answer_to : ℕ → ℕ → Found → Answer
answer_to records allowance spent = Undecided (record { place = 0; count = allowance })
answer_to records allowance (back true far left) = Accepted (record { place = records; count = allowance - left })
answer_to records allowance (back false far left) = Rejected (record { place = far; count = allowance - left })

-- of the search by cues
pub record Answered (ns xs : List ℕ) (allowance : ℕ) (work : List ℕ) (r : Answer) (after : List ℕ) : Type 0 where
  pub answers : r ≡ answer_of (search.judge (flow_by cued ns) (cue_records xs) allowance)
  pub leaves : after ≡ cleared (room_of (count ns) (length xs)) work
