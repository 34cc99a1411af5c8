-- What the promises of 02, Four, are stated with: exactly when 22 and 23 are given, which kinds have a set, and what was refused before there
-- were such kinds. Definitions only: Meeting and Unmet have the theorems. Assumes nothing.
use Rattle.std.specs.Prelude.{ℕ, ◌-◌, ◌*◌, ◌<◌, ◌≤◌, Bool, ◌||◌, List, [], ◌∷◌, ◌++◌, ◌⊎◌, ◌≢◌, ◌≡◌, eqb, ltb, length, Result, ⊤}
use Rattle.flow.specs.declared.Refusal.{Refusal}
use Rattle.flow.specs.declared.Extent.{Extent}
use Rattle.flow.specs.Legends.{set_count}
use Rattle.flow.specs.Refusals.{count, wrong_field, not_lower, wrong_sort, child_taken, Ground, ground_of, Round, sweep, node_grounds, child_grounds, table_length_order, values_order, closing_order, records_length_order, records_order}
use Rattle.flow.specs.Checks.{refused}
use Rattle.flow.specs.Earliest.{None, Nowhere}
use Rattle.format.specs.Contents.{names_order}
use Rattle.promises.specs.Plain.{kind_of, SetNotThere}

---- 22 and 23 ----

-- 23: nothing that stands before it is given, and the length is wrong
pub record SetsWrong (before : List Round) (sets : List ℕ) (place : ℕ) : Type 0 where
  pub passed : Nowhere before
  pub at_start : place ≡ 0
  pub wrong : ((n : ℕ) → length sets ≢ 32 * n) ⊎ (512 < length sets)

-- 22 at a node: nothing that stands before the nodes is given, nothing at a lower node, and the kind has a set number not present
pub record SetAbsent (before : List Round) (sets ns : List ℕ) (place : ℕ) : Type 0 where
  pub passed : Nowhere before
  pub within : place < count ns
  pub lower : (i : ℕ) → i < place → None (node_grounds (set_count sets) ns i)
  pub absent : SetNotThere ns place (set_count sets)

---- Before there were sets ----

-- "Kinds 256 to 271 are the standard form with set 0 to 15, kinds 512 to 527 the compensable form."
abbrev pub SetKind : ℕ → Type 0
SetKind n = ((256 ≤ n) × (n ≤ 271)) ⊎ ((512 ≤ n) × (n ≤ 527))

-- The order of 01, with its sixteen kinds: 4 is of every other number. The other grounds are as they stand: since 4 comes first, what they
-- ask of a kind they ask of the sixteen alone.
abbrev pub none_of_sixteen : ℕ → Bool
none_of_sixteen n = eqb n 0 || ltb 16 n

abbrev pub other_grounds : List ℕ → ℕ → List Ground
other_grounds ns i = ground_of 5 i (wrong_field ns i) ∷ ground_of 6 i (not_lower ns i) ∷ ground_of 7 i (wrong_sort ns i) ∷ ground_of 8 i (child_taken ns i) ∷ []

abbrev pub sixteen_grounds : List ℕ → ℕ → List Ground
sixteen_grounds ns i = ground_of 4 i (none_of_sixteen (kind_of ns i)) ∷ other_grounds ns i

abbrev pub sixteen_nodes : List ℕ → List Round
sixteen_nodes ns = sweep (count ns) (sixteen_grounds ns) ∷ sweep (count ns - 1) (child_grounds ns) ∷ []

-- all that is refused of nodes and records by themselves, with other rounds behind; and of those that are lent with so many names
abbrev pub sixteen_order : Extent → List ℕ → List ℕ → List Round → List Round
sixteen_order extent ns rs behind = table_length_order ns ++ (sixteen_nodes ns ++ (records_order extent ns rs ++ behind))

abbrev pub sixteen_lists : Extent → ℕ → List ℕ → List ℕ → List Round → List Round
sixteen_lists extent names ns rs behind =
    table_length_order ns ++ (records_length_order extent rs ++ (sixteen_nodes ns ++ (values_order rs ++ (closing_order extent ns rs ++ (names_order names ns rs ++ behind)))))

-- the same answer, or 22 for 4, at a node whose kind has a set
pub data AsBefore (ns : List ℕ) : Result ⊤ Refusal → Result ⊤ Refusal → Type 0 where
  the_same : {c : Result ⊤ Refusal} → AsBefore ns c c
  set_kind : {i : ℕ} → SetKind (kind_of ns i) → AsBefore ns (refused 4 i) (refused 22 i)
