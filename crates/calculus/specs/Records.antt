-- Record lists, and what it means that a flow allows one: moves by the rules, complete runs, traces, and how far some run
-- follows. Definitions only; Found and RunsAreTraces prove them of the search. Assumes nothing.
use Rattle.std.specs.Prelude.{ℕ, suc, ◌≡◌, List, [], ◌∷◌, ◌++◌, map}
use Rattle.calculus.specs.Term.{Closing, done, failed, Std, Cmp}
use Rattle.calculus.specs.Rules.{End, CEnd, Step, CStep, Run, CRun}
use Rattle.calculus.specs.Traces.{tr, Tr, CTr}

-- 01: "A record is an event 1 to 256 or a closing"
pub data Record : Type 0 where
  event : ℕ → Record
  close : Closing → Record

-- what a search stands at: a flow, or what is left of it. 01: "a term, or nothing left"
pub data State : Type 0 where
  over : State
  std : Std → State
  cmp : Cmp → State

-- 01: "A standard root takes events and then one closing, last."
abbrev pub standard : List ℕ → Closing → List Record
standard s w = map event s ++ (close w ∷ [])

-- 01: "A compensable root takes forward events, a closing, compensation events, and a closing, last."
abbrev pub compensable : List ℕ → Closing → List ℕ → Closing → List Record
compensable s w t v = map event s ++ (close w ∷ standard t v)

-- the records are a complete run under the transition rules
abbrev pub Complete : State → List Record → Type 0
Complete over rs = rs ≡ []
Complete (std p) rs = (s : List ℕ) × (w : Closing) × (rs ≡ standard s w) × Run p s w
Complete (cmp pp) rs = (s : List ℕ) × (w : Closing) × (t : List ℕ) × (v : Closing) × (rs ≡ compensable s w t v) × CRun pp s w t v

-- the records are a trace under the trace semantics
abbrev pub InTraces : State → List Record → Type 0
InTraces over rs = rs ≡ []
InTraces (std p) rs = (s : List ℕ) × (w : Closing) × (rs ≡ standard s w) × Tr p (tr s w)
InTraces (cmp pp) rs = (s : List ℕ) × (w : Closing) × (t : List ℕ) × (v : Closing) × (rs ≡ compensable s w t v) × (h : (CTr pp).way (tr s w)) × (CTr pp).undo (tr s w) h (tr t v)

-- one record, by the rules
pub data Moves : State → Record → State → Type 0 where
  by_step : {p p' : Std} {a : ℕ} → Step p a p' → Moves (std p) (event a) (std p')
  by_end : {p : Std} {w : Closing} → End p w → Moves (std p) (close w) over
  by_cstep : {pp pp' : Cmp} {a : ℕ} → CStep pp a pp' → Moves (cmp pp) (event a) (cmp pp')
  by_cend : {pp : Cmp} {w : Closing} {k : Std} → CEnd pp w k → Moves (cmp pp) (close w) (std k)

-- some run follows the first n records
pub data Follows : State → List Record → ℕ → Type 0 where
  stays : {s : State} {rs : List Record} → Follows s rs 0
  moves : {s t : State} {r : Record} {rs : List Record} {n : ℕ} → Moves s r t → Follows t rs n → Follows s (r ∷ rs) (suc n)

-- the closings are as the root needs: what check 13 leaves
pub data Closed : List Record → Type 0 where
  last : {w : Closing} → Closed (close w ∷ [])
  more : {a : ℕ} {rs : List Record} → Closed rs → Closed (event a ∷ rs)

pub data ClosedTwice : List Record → Type 0 where
  turn : {w : Closing} {rs : List Record} → Closed rs → ClosedTwice (close w ∷ rs)
  more : {a : ℕ} {rs : List Record} → ClosedTwice rs → ClosedTwice (event a ∷ rs)

abbrev pub Fits : State → List Record → Type 0
Fits over rs = rs ≡ []
Fits (std p) rs = Closed rs
Fits (cmp pp) rs = ClosedTwice rs

-- the last record is done or failed
pub data ClosesFirm : List Record → Type 0 where
  by_done : ClosesFirm (close done ∷ [])
  by_failed : ClosesFirm (close failed ∷ [])
  later : {r : Record} {rs : List Record} → ClosesFirm rs → ClosesFirm (r ∷ rs)
