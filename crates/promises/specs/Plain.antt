-- The conditions of the refusal table in plain words, where the test in flow's Refusals is not plain: 22, 5, 7, 8, 9 and 13. `Kid`
-- says that a node has a child. Definitions only: PlainRows proves that the tests mean these. Assumes nothing.
use Rattle.std.specs.Prelude.{ℕ, suc, ◌+◌, ◌*◌, ◌<◌, ◌≤◌, ◌≡◌, true, cond, List, [], ◌∷◌, ◌≢◌, T, length, get_or, take}
use Rattle.flow.specs.Shapes.{Kid}
use Rattle.flow.specs.Kinds.{form, is_standard, node, one_of, two_of, shape, most_sets}
use Rattle.flow.specs.Records.{most_events, is_closing_number}
use Rattle.flow.specs.Refusals.{count, has_two}

---- A node ----

-- "Node i is three numbers: kind, first, second."
abbrev pub kind_of : List ℕ → ℕ → ℕ
kind_of ns i = get_or ns (3 * i) 0

-- 02, Four: "Kinds 256 to 271 are the standard form with set 0 to 15, kinds 512 to 527 the compensable form": kind n has set number k
pub data HasSet (n k : ℕ) : Type 0 where
  standard_form : n ≡ 256 + k → k < most_sets → HasSet n k
  compensable_form : n ≡ 512 + k → k < most_sets → HasSet n k

module _ (ns : List ℕ) (i : ℕ) where
  -- 22: "kind with a set number not present", where so many sets are
  abbrev pub SetNotThere : ℕ → Type 0
  SetNotThere many = (k : ℕ) × HasSet (kind_of ns i) k × (many ≤ k)

  -- 5: "event out of 1 to 256, or an unused field not 0"
  pub data WrongField : Type 0 where
    event_out : T (form (node ns i)).event → (1 ≤ one_of ns i → one_of ns i ≤ most_events → ⊥) → WrongField
    first_unused : (T (form (node ns i)).event → ⊥) → (form (node ns i)).kids ≡ 0 → one_of ns i ≢ 0 → WrongField
    second_unused : (form (node ns i)).kids ≢ 2 → two_of ns i ≢ 0 → WrongField

  -- 7: "child of the wrong sort"
  pub data WrongSort : Type 0 where
    wrong_child : {c : ℕ} → Kid (shape ns) i c → is_standard (node ns c) ≢ (form (node ns i)).inner → WrongSort

  -- 8: "child taken already, or the same child twice"
  pub data ChildTaken : Type 0 where
    taken_already : {c j : ℕ} → Kid (shape ns) i c → j < i → Kid (shape ns) j c → ChildTaken
    same_twice : T (has_two ns i) → one_of ns i ≡ two_of ns i → ChildTaken

  -- 9: "nobody's child"
  abbrev pub NobodysChild : Type 0
  NobodysChild = (j : ℕ) → j < count ns → Kid (shape ns) j i → ⊥

---- The closings ----

-- how many of these records are closings
unfoldable pub closings_in : List ℕ → ℕ
closings_in [] = 0
closings_in (r ∷ rs) = cond (is_closing_number r) (suc (closings_in rs)) (closings_in rs)

-- the n-th closing stands at place k: a closing stands there, and up to it they are n
pub record NthClosing (rs : List ℕ) (n k : ℕ) : Type 0 where
  pub closing : is_closing_number (get_or rs k 0) ≡ true
  pub nth : closings_in (take (suc k) rs) ≡ n

-- 13, "closings not as the root needs", with its place, where the root needs n
pub data WrongClosings (rs : List ℕ) (n : ℕ) : ℕ → Type 0 where
  -- "first record after the one or two closings the root needs"
  goes_on : {k : ℕ} → NthClosing rs n k → suc k < length rs → WrongClosings rs n (suc k)
  -- "or the number of records if closings are too few"
  too_few : closings_in rs < n → WrongClosings rs n (length rs)
