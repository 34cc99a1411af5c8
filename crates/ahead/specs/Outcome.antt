-- What `next` and `next_named` answer and what becomes of the table and the bytes lent to them, computed: one outcome for every input,
-- refused ones too; and the contracts, which are these three equations each. What both share is said over what is refused and the flow.
-- A reader need not believe how they are computed: promises/specs/Following tells of each answer when it is given, of the table and of the
-- work bytes what they hold (Told; `calculus`, Ahead; `search`, Room). Definitions only. Assumes nothing.
use Rattle.std.specs.Prelude.{ℕ, Bool, cond, ◌≡◌, List, leb, length, Result, ⊤}
use Rattle.calculus.specs.Records.{State}
use Rattle.calculus.specs.Ahead.{entered}
use Rattle.flow.specs.declared.Refusal.{Refusal}
use Rattle.flow.specs.Records.{records}
use Rattle.flow.specs.Checks.{first, grounds}
use Rattle.flow.specs.Drawn.{flow_of}
use Rattle.format.specs.ListChecks.{named_check}
use Rattle.format.specs.Told.{at_front}
use Rattle.judge.specs.Judged.{unless_refused, bytes_by, room_wanted, named_flow}
use Rattle.ahead.specs.declared.answer.Next.{Next}
use Rattle.ahead.specs.declared.answer.Next.TheVariants.{Listed, Undecided, Refused}
use Rattle.ahead.specs.Told.{next_order, named_next_order}
unfoldable pub use Rattle.ahead.specs.Told.{following}

---- The checks ----

unfoldable pub next_check : List ℕ → List ℕ → List ℕ → ℕ → ℕ → Result ⊤ Refusal
next_check sets ns rs numbers room = first (grounds (next_order sets ns rs numbers room))

-- by the names section first
unfoldable pub named_next_check : List ℕ → List ℕ → List ℕ → List ℕ → ℕ → ℕ → Result ⊤ Refusal
unfolding named_check
named_next_check s sets ns rs numbers room = named_check s (named_next_order sets ns rs numbers room)

---- By what is refused, the flow, the beginning and the allowance ----

-- "undecided exactly if that is above the allowance"
unfoldable pub allowed : State → List ℕ → ℕ → Bool
unfolding entered
allowed flow rs allowance = leb (entered (records rs) flow) allowance

-- "The answer gives the list's length and the count (undecided: 0 and the allowance)."
unfoldable pub next_by : Result ⊤ Refusal → State → List ℕ → ℕ → Next
unfolding unless_refused allowed following entered
next_by c flow rs allowance =
    unless_refused c Refused
    (cond (allowed flow rs allowance)
    (Listed (record { length = length (following flow rs); count = entered (records rs) flow }))
    (Undecided (record { length = 0; count = allowance })))

-- the table: "what stands behind the numbers or bytes written stays", and a refused or undecided call changes nothing
unfoldable pub list_by : Result ⊤ Refusal → State → List ℕ → ℕ → List ℕ → List ℕ
unfolding unless_refused allowed following
list_by c flow rs allowance list = unless_refused c (λ r. list) (cond (allowed flow rs allowance) (at_front (following flow rs) list) list)

---- The contracts ----

-- the answer r, the table before and after, and the work bytes before and after
pub record NextBy (c : Result ⊤ Refusal) (flow : State) (ns rs : List ℕ) (allowance : ℕ) (list work : List ℕ) (r : Next) (list' after : List ℕ) : Type 0 where
  pub answers : r ≡ next_by c flow rs allowance
  pub lists : list' ≡ list_by c flow rs allowance list
  pub leaves : after ≡ bytes_by c (room_wanted ns rs) work

-- of `next`
abbrev pub NextOf : List ℕ → List ℕ → List ℕ → ℕ → List ℕ → List ℕ → Next → List ℕ → List ℕ → Type 0
NextOf sets ns rs allowance list work r list' after = NextBy (next_check sets ns rs (length list) (length work)) (flow_of sets ns) ns rs allowance list work r list' after

-- of `next_named`
abbrev pub NamedNextOf : List ℕ → List ℕ → List ℕ → List ℕ → ℕ → List ℕ → List ℕ → Next → List ℕ → List ℕ → Type 0
NamedNextOf s sets ns rs allowance list work r list' after =
    NextBy (named_next_check s sets ns rs (length list) (length work)) (named_flow s sets ns) ns rs allowance list work r list' after
