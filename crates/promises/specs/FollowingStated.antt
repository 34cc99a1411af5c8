-- What request Three (02, "What may come next") says of a call that is not refused: which numbers are events and closings, what a list of
-- all that can follow a beginning is, and what is told and written; and when two calls list the same. Definitions only: Following,
-- NextAndJudge and FollowingRedrawn have the theorems. Assumes nothing.
use Rattle.std.specs.Prelude.{ℕ, suc, ◌≤◌, ◌<◌, ◌↔◌, ◌≡◌, length}
use mathlib.Core.List.{List, [], ◌∷◌, ◌++◌, Memᴰ}
use Rattle.calculus.specs.Records.{Record, State, Follows, Complete, InTraces}
use Rattle.calculus.specs.Leaves.{FreeState}
use Rattle.calculus.specs.Ahead.{entered}
use Rattle.flow.specs.Records.{done_number, withdrawn_number, failed_number, most_events, record_of}
use Rattle.format.specs.Told.{at_front}
use Rattle.ahead.specs.Told.{NextWord, NextTold, found, refusal}

-- "every event and closing": 01, "an event 1 to 256", "61441 done (✓), 61442 withdrawn (?), 61443 failed (!)"
pub data EventOrClosing (r : ℕ) : Type 0 where
  is_event : 1 ≤ r → r ≤ most_events → EventOrClosing r
  is_done : r ≡ done_number → EventOrClosing r
  is_withdrawn : r ≡ withdrawn_number → EventOrClosing r
  is_failed : r ≡ failed_number → EventOrClosing r

-- "each once, in rising order of its number": each is below all that stand behind it
pub data Rising : List ℕ → Type 0 where
  none : Rising []
  below : {r : ℕ} {rs : List ℕ} → ((q : ℕ) → Memᴰ q rs → r < q) → Rising rs → Rising (r ∷ rs)

-- the list of all that can follow a beginning
pub record Listing (flow : State) (beginning : List Record) (listed : List ℕ) : Type 0 where
  pub rises : Rising listed
  -- "A number is listed exactly if some run follows the beginning and then that record."
  pub exactly : (r : ℕ) → Memᴰ r listed ↔ (EventOrClosing r × Follows flow (beginning ++ (record_of r ∷ [])) (suc (length beginning)))
  -- a run that goes on to its end takes a listed number next, under the published transition rules
  pub runs_listed : (r : ℕ) → EventOrClosing r → (rest : List Record) → Complete flow (beginning ++ (record_of r ∷ rest)) → Memᴰ r listed
  -- where no event is joint, each listed number is on the way of such a run. Where one is, a run may strand before its end
  pub exactly_runs : FreeState flow → (r : ℕ) → Memᴰ r listed ↔ (EventOrClosing r × ((rest : List Record) × Complete flow (beginning ++ (record_of r ∷ rest))))
  -- and equally of a trace under the published trace semantics
  pub exactly_traces : FreeState flow → (r : ℕ) → Memᴰ r listed ↔ (EventOrClosing r × ((rest : List Record) × InTraces flow (beginning ++ (record_of r ∷ rest))))

-- what is told, and the table before and after, where the numbers `listed` are written
pub record WritesList (flow : State) (beginning : List Record) (t : NextTold) (list list' listed : List ℕ) : Type 0 where
  pub all : Listing flow beginning listed
  -- "The answer gives the list's length and the count"; "the count is of states entered in it, root included"
  pub tells : t ≡ found NextWord.listed (length listed) (entered beginning flow)
  -- "into a lent table", at its front; what stands behind stays
  pub written : list' ≡ at_front listed list

-- all of it, of a flow, a beginning and an allowance
pub record Lists (flow : State) (beginning : List Record) (allowance : ℕ) (t : NextTold) (list list' : List ℕ) : Type 0 where
  -- "it is undecided exactly if that is above the allowance"
  pub undecided_exactly : (t.word ≡ NextWord.undecided) ↔ (allowance < entered beginning flow)
  -- "(undecided: 0 and the allowance)"
  pub undecided_is : t.word ≡ NextWord.undecided → t ≡ found NextWord.undecided 0 allowance
  pub undecided_keeps : t.word ≡ NextWord.undecided → list' ≡ list
  pub else_listed : (t.word ≡ NextWord.undecided → ⊥) → (listed : List ℕ) × WritesList flow beginning t list list' listed

-- Demand 3, of two calls: both are refused, with the same number and place; or both list the same; or either is undecided. Each has its own
-- table, before and after; the counts may differ.
pub data SameList (list list' other other' : List ℕ) : NextTold → NextTold → Type 0 where
  both_refused : {number place : ℕ} → SameList list list' other other' (refusal number place) (refusal number place)
  both_listed : {count count' : ℕ} (listed : List ℕ) → list' ≡ at_front listed list → other' ≡ at_front listed other
      → SameList list list' other other' (found NextWord.listed (length listed) count) (found NextWord.listed (length listed) count')
  first_undecided : {length count : ℕ} {t : NextTold} → SameList list list' other other' (found NextWord.undecided length count) t
  second_undecided : {length count : ℕ} {t : NextTold} → SameList list list' other other' t (found NextWord.undecided length count)
