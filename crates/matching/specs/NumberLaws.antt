-- Which number stands at each place of all numbers: the events (`nth_event`), then the closings (`nth_closing`). So what holds of both holds
-- at each place (`each_number`). Assumes nothing.
use Rattle.std.specs.Prelude.{ℕ, zero, suc, ◌+◌, ◌-◌, ◌<◌, ◌≤◌, Bool, true, false, List, [], ◌∷◌, ◌≡◌, refl, ltb, length, get_or}
use Rattle.std.proofs.Common.{ap, sym, ◌∙◌, subst, arith, ltb-true, ltb-false, length-append, get_or-append-add}
use Rattle.std.proofs.Math.ListN.{get_or-append}
use Rattle.flow.specs.Records.{done_number, withdrawn_number, failed_number, most_events, from, all_numbers}

from_length : (i n : ℕ) → length (from i n) ≡ n
unfolding from
from_length i zero = refl
from_length i (suc n) = ap suc (from_length (suc i) n)

from_at : (i n k : ℕ) → k < n → get_or (from i n) k 0 ≡ i + k
unfolding from
from_at i zero k h = absurd (omega arith)
from_at i (suc n) zero h = omega arith
from_at i (suc n) (suc k) h = from_at (suc i) n k (omega arith) ∙ omega arith

abbrev closings : List ℕ
closings = done_number ∷ withdrawn_number ∷ failed_number ∷ []

pub nth_event : (i : ℕ) → i < most_events → i + 1 ≡ get_or all_numbers i 0
unfolding all_numbers
nth_event i h =
    let l : i < length (from 1 most_events) = omega (arith, from_length 1 most_events) in
    sym (get_or-append (from 1 most_events) closings 0 i l ∙ from_at 1 most_events i h ∙ omega arith)

pub nth_closing : (i : ℕ) → most_events ≤ i → i < 259 → done_number + (i - most_events) ≡ get_or all_numbers i 0
unfolding all_numbers
nth_closing i h l =
    let d : i ≡ length (from 1 most_events) + (i - most_events) = omega (arith, from_length 1 most_events) in
    sym (ap (λ (k : ℕ). get_or all_numbers k 0) d ∙ get_or-append-add (from 1 most_events) closings (i - most_events) 0 ∙ by (i - most_events) (omega arith))
  where
    by : (k : ℕ) → k < 3 → get_or closings k 0 ≡ done_number + k
    by zero h = refl
    by (suc zero) h = refl
    by (suc (suc zero)) h = refl
    by (suc (suc (suc k))) h = absurd (omega arith)

pub numbers_length : length all_numbers ≡ 259
unfolding all_numbers
numbers_length = length-append (from 1 most_events) closings ∙ omega (arith, from_length 1 most_events)

-- what holds of the events and of the closings holds of all numbers
pub each_number : (P : ℕ → Type 0) → ((r : ℕ) → 1 ≤ r → r ≤ most_events → P r) → ((r : ℕ) → done_number ≤ r → r ≤ failed_number → P r)
    → (i : ℕ) → i < 259 → P (get_or all_numbers i 0)
each_number P events ends i h = by (ltb i most_events) refl
  where
    by : (b : Bool) → ltb i most_events ≡ b → P (get_or all_numbers i 0)
    by true q = let l = ltb-true i most_events q in subst P (nth_event i l) (events (i + 1) (omega arith) (omega arith))
    by false q =
        let l = ltb-false i most_events q in
        subst P (nth_closing i l h) (ends (done_number + (i - most_events)) (omega arith) (omega arith))
