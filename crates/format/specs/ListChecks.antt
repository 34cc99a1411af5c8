-- What a names section by itself comes to, and the first ground that holds of lists that are lent with one, computed: what the checks of
-- src/ answer. A reader need not believe this file: `named_exactly` (promises, ListRefusals) proves that the check answers a refusal
-- exactly if it is one of `NamedRefuses`. Definitions only. Assumes nothing.
use Rattle.std.specs.Prelude.{ℕ, cond, List, [], ◌≡◌, ltb, length, Result, ⊤}
use Rattle.flow.specs.declared.Refusal.{Refusal}
use Rattle.flow.specs.declared.Extent.{Extent}
use Rattle.flow.specs.Refusals.{Round}
use Rattle.flow.specs.Checks.{refused, first, grounds}
use Rattle.format.specs.Format.{Entry}
use Rattle.format.specs.Plan.{Ran, got, bad, run}
use Rattle.format.specs.Sections.{names}
use Rattle.format.specs.Contents.{lists_order}

-- 21: bytes behind what was found
unfoldable pub nothing_behind : {A : Type 0} → List ℕ → Ran A → Ran A
nothing_behind s (got a at) = cond (ltb at (length s)) (bad 21 at) (got a at)
nothing_behind s (bad n p) = bad n p

-- a names section, and nothing behind it
unfoldable pub section_alone : List ℕ → Ran (List Entry)
unfolding nothing_behind run names
section_alone s = nothing_behind s (run s 0 names)

-- the entries that are found; none where it is refused
unfoldable pub entries_of : Ran (List Entry) → List Entry
entries_of (got es at) = es
entries_of (bad n p) = []

unfoldable pub entries_in : List ℕ → List Entry
unfolding entries_of section_alone
entries_in s = entries_of (section_alone s)

-- a names section that is not refused
pub record Whole (s : List ℕ) : Type 0 where
  pub end : ℕ
  pub is : section_alone s ≡ got (entries_in s) end

-- then an order of rounds, by the entries
unfoldable pub by_entries : (List Entry → List Round) → Ran (List Entry) → Result ⊤ Refusal
by_entries order (got es at) = first (grounds (order es))
by_entries order (bad n p) = refused n p

unfoldable pub named_check : List ℕ → (List Entry → List Round) → Result ⊤ Refusal
unfolding by_entries section_alone
named_check s order = by_entries order (section_alone s)

-- 15 to 18, 21; 1 to 3, 10, 11, 23, 4 to 9, with 22, 12, 13, 19, 20
unfoldable pub lists_check : Extent → List ℕ → List ℕ → List ℕ → List ℕ → Result ⊤ Refusal
unfolding named_check
lists_check extent s sets ns rs = named_check s (λ es. lists_order extent (length es) sets ns rs)
