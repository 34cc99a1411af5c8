-- What `judge` and `judge_named` answer and what becomes of the bytes lent to them, computed: one outcome for every input, refused ones
-- too; and the contracts, which are these two equations each. What both share is said over what is refused and the flow (`judged_by`).
-- A reader need not believe how they are computed: promises/specs/Demands and NamedDemands tell of each answer when it is given and of
-- the work bytes what they hold (Told; `search`, Room; `flow`, Earliest and Draws; `format`, Matching; `calculus`, Records and Search).
-- Definitions only. Assumes nothing.
use Rattle.std.specs.Prelude.{ℕ, ◌≡◌, List, length, Result, Ok, Err, ⊤}
use Rattle.calculus.specs.Records.{State}
use Rattle.calculus.specs.Search.{Verdict}
use Rattle.calculus.specs.Search as search
use Rattle.flow.specs.declared.Refusal.{Refusal}
use Rattle.flow.specs.Records.{records}
use Rattle.flow.specs.Checks.{first, grounds}
use Rattle.flow.specs.Drawn.{flow_by, flow_of}
use Rattle.format.specs.Matching.{with_names}
use Rattle.format.specs.ListChecks.{entries_in, named_check}
use Rattle.judge.specs.declared.Answer.{Answer}
use Rattle.judge.specs.declared.Answer.TheVariants.{Accepted, Rejected, Undecided, Refused}
unfoldable pub use Rattle.search.specs.Room.{room_of, cleared}
pub use Rattle.judge.specs.Told.{VerdictWord, Told, verdict, refusal, room_wanted, room_order, judge_order, named_judge_order}
unfoldable pub use Rattle.judge.specs.Told.{told, too_short}

---- The checks ----

unfoldable pub judge_check : List ℕ → List ℕ → List ℕ → ℕ → Result ⊤ Refusal
judge_check sets ns rs room = first (grounds (judge_order sets ns rs room))

-- by the names section first
unfoldable pub named_judge_check : List ℕ → List ℕ → List ℕ → List ℕ → ℕ → Result ⊤ Refusal
unfolding named_check
named_judge_check s sets ns rs room = named_check s (named_judge_order sets ns rs room)

---- What is answered ----

-- 01, "What comes back": place and count of each verdict
unfoldable pub answer_of : Verdict → Answer
answer_of (Verdict.accepted place count) = Accepted (record { place = place; count = count })
answer_of (Verdict.rejected place count) = Rejected (record { place = place; count = count })
answer_of (Verdict.undecided place count) = Undecided (record { place = place; count = count })

-- what comes of a refusal, or else of no refusal
unfoldable pub unless_refused : {A : Type 0} → Result ⊤ Refusal → (Refusal → A) → A → A
unless_refused (Ok tt) refuse other = other
unless_refused (Err r) refuse other = refuse r

-- by what is refused, the flow, the records and the allowance
unfoldable pub judged_by : Result ⊤ Refusal → State → List ℕ → ℕ → Answer
unfolding unless_refused answer_of
judged_by c flow rs allowance = unless_refused c Refused (answer_of (search.judge flow (records rs) allowance))

-- of `judge`, by the sets, the nodes, the records, how many work bytes are lent, and the allowance
abbrev pub judged : List ℕ → List ℕ → List ℕ → ℕ → ℕ → Answer
judged sets ns rs room allowance = judged_by (judge_check sets ns rs room) (flow_of sets ns) rs allowance

-- the flow that the nodes draw with the names of a section
abbrev pub named_flow : List ℕ → List ℕ → List ℕ → State
named_flow s sets ns = flow_by (with_names (entries_in s) sets) ns

-- of `judge_named`
abbrev pub judged_named : List ℕ → List ℕ → List ℕ → List ℕ → ℕ → ℕ → Answer
judged_named s sets ns rs room allowance = judged_by (named_judge_check s sets ns rs room) (named_flow s sets ns) rs allowance

---- What becomes of the work bytes ----

-- 01: "After a refusal all are unchanged."; else so many are cleared
unfoldable pub bytes_by : Result ⊤ Refusal → ℕ → List ℕ → List ℕ
unfolding unless_refused cleared
bytes_by c room work = unless_refused c (λ r. work) (cleared room work)

abbrev pub work_after : List ℕ → List ℕ → List ℕ → List ℕ → List ℕ
work_after sets ns rs work = bytes_by (judge_check sets ns rs (length work)) (room_wanted ns rs) work

abbrev pub named_work_after : List ℕ → List ℕ → List ℕ → List ℕ → List ℕ → List ℕ
named_work_after s sets ns rs work = bytes_by (named_judge_check s sets ns rs (length work)) (room_wanted ns rs) work

---- The contracts ----

-- by what is refused and the flow: the answer r, and the work bytes before and after
pub record JudgedBy (c : Result ⊤ Refusal) (flow : State) (ns rs : List ℕ) (allowance : ℕ) (work : List ℕ) (r : Answer) (after : List ℕ) : Type 0 where
  pub answers : r ≡ judged_by c flow rs allowance
  pub leaves : after ≡ bytes_by c (room_wanted ns rs) work

-- of `judge`
abbrev pub Judged : List ℕ → List ℕ → List ℕ → ℕ → List ℕ → Answer → List ℕ → Type 0
Judged sets ns rs allowance work r after = JudgedBy (judge_check sets ns rs (length work)) (flow_of sets ns) ns rs allowance work r after

-- of `judge_named`
abbrev pub NamedJudged : List ℕ → List ℕ → List ℕ → List ℕ → ℕ → List ℕ → Answer → List ℕ → Type 0
NamedJudged s sets ns rs allowance work r after = JudgedBy (named_judge_check s sets ns rs (length work)) (named_flow s sets ns) ns rs allowance work r after
