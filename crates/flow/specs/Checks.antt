-- The first ground of an order that holds, computed: what the checks of src/ answer.
-- A reader need not believe this file: `earliest_exactly` and `nowhere_exactly` (promises, ExactlyWhen) prove of every order that the
-- check answers a refusal exactly if it is the order's `Earliest`, and nothing exactly if a ground holds `Nowhere`.
-- Definitions only: FirstRefusal has what code needs to know of them. Assumes nothing.
use Rattle.std.specs.Prelude.{ℕ, zero, suc, cond, List, [], ◌∷◌, ◌++◌, Result, Ok, Err, ⊤}
use Rattle.flow.specs.declared.Refusal.{Refusal}
use Rattle.flow.specs.declared.Extent.{Extent}
use Rattle.flow.specs.Refusals.{Ground, Round, lone, sweep, sets_order, nodes_order, table_length_order, table_order, values_order, closing_order, records_length_order, records_order}

---- The first ground that holds ----

abbrev pub refused : ℕ → ℕ → Result ⊤ Refusal
refused number place = Err (record { number = number; place = place })

-- the first refusal wins
unfoldable pub or_else_check : Result ⊤ Refusal → Result ⊤ Refusal → Result ⊤ Refusal
or_else_check (Ok tt) c = c
or_else_check (Err r) c = Err r

-- the answer of one ground
unfoldable pub answer : Ground → Result ⊤ Refusal
answer g = cond g.holds (Err g.refusal) (Ok tt)

-- the first ground that holds
unfoldable pub first : List Ground → Result ⊤ Refusal
first [] = Ok tt
first (g ∷ gs) = or_else_check (answer g) (first gs)

-- the grounds at k places, from place i up
unfoldable pub each : (ℕ → List Ground) → ℕ → ℕ → List Ground
each f i zero = []
each f i (suc k) = f i ++ each f (suc i) k

-- an order's grounds, as they stand; nothing is put behind the last round
abbrev pub grounds : List Round → List Ground
grounds [] = []
grounds (lone g ∷ order) = g ∷ grounds order
grounds (sweep n f ∷ []) = each f 0 n
grounds (sweep n f ∷ (next ∷ order)) = each f 0 n ++ grounds (next ∷ order)

---- The checks ----

-- 1 to 3
unfoldable pub table_length_check : List ℕ → Result ⊤ Refusal
table_length_check ns = first (grounds (table_length_order ns))

-- 23
unfoldable pub sets_check : List ℕ → Result ⊤ Refusal
sets_check sets = first (grounds (sets_order sets))

-- 1 to 9, with 23
unfoldable pub table_check : List ℕ → List ℕ → Result ⊤ Refusal
table_check sets ns = first (grounds (table_order sets ns))

-- 4 to 9, with 22, where so many sets are present
unfoldable pub nodes_check : ℕ → List ℕ → Result ⊤ Refusal
nodes_check many ns = first (grounds (nodes_order many ns))

-- 12
unfoldable pub values_check : List ℕ → Result ⊤ Refusal
values_check rs = first (grounds (values_order rs))

-- 13
unfoldable pub closings_check : Extent → List ℕ → List ℕ → Result ⊤ Refusal
closings_check extent ns rs = first (grounds (closing_order extent ns rs))

-- 10 and 11
unfoldable pub records_length_check : Extent → List ℕ → Result ⊤ Refusal
records_length_check extent rs = first (grounds (records_length_order extent rs))

-- 10 to 13
unfoldable pub records_check : Extent → List ℕ → List ℕ → Result ⊤ Refusal
records_check extent ns rs = first (grounds (records_order extent ns rs))
