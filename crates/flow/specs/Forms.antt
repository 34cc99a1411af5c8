-- What the small functions of the checks go by: what is asked of a node without children and of one with them, a node's fields and what
-- is refused of them, what the marks of taken children and the sorts of the nodes passed say, and what is known of the closings while the
-- records are gone through. Definitions only. Assumes nothing.
use Rattle.std.specs.Prelude.{ℕ, ◌+◌, ◌<◌, ◌≤◌, ◌≡◌, Bool, true, false, not, ◌&&◌, ◌||◌, cond, List, eqb, leb, length, get_or, set, drop, Option, Some, None, IfSome}
use Rattle.std.specs.Bool.{xor, then_some}
use Rattle.flow.specs.declared.Form.{Form}
use Rattle.flow.specs.declared.Children.{Children}
use Rattle.flow.specs.Kinds.{node, is_standard, one_of, two_of}
use Rattle.flow.specs.Records.{is_event_number}
use Rattle.flow.specs.Refusals.{has_one, has_two, taken, closed, after_closings, too_many_closings, extra_closing}

-- of the kinds without children, and of those with them
abbrev pub leaf_form : Bool → Bool → Form
leaf_form standard event = record { known = true; standard = standard; event = event; kids = 0; inner = false }

abbrev pub branch_form : Bool → ℕ → Bool → Form
branch_form standard kids inner = record { known = true; standard = standard; event = false; kids = kids; inner = inner }

-- the children that the fields of a node name
abbrev pub children : List ℕ → ℕ → Children
children ns i = record { first = then_some (has_one ns i) (one_of ns i); second = then_some (has_two ns i) (two_of ns i) }

-- a test of a child, if there is one
abbrev pub of_child : Option ℕ → (ℕ → Bool) → Bool
of_child None test = false
of_child (Some c) test = test c

-- 5 of such fields, and 6 to 8 of such children, by the sorts and the marks of the nodes below
abbrev pub field_fault : Form → ℕ → ℕ → Bool
field_fault asked x y =
    (asked.event && not (is_event_number x))
    || ((not asked.event && (eqb asked.kids 0 && not (eqb x 0)))
    || (not (eqb asked.kids 2) && not (eqb y 0)))

abbrev pub low_fault : ℕ → Children → Bool
low_fault i cs = of_child cs.first (leb i) || of_child cs.second (leb i)

abbrev pub sort_fault : List Bool → Children → Bool → Bool
sort_fault sorts cs inner = of_child cs.first (λ c. xor (get_or sorts c false) inner) || of_child cs.second (λ c. xor (get_or sorts c false) inner)

abbrev pub taken_fault : List Bool → Children → Bool
taken_fault marks cs =
    of_child cs.first (λ c. get_or marks c false)
    || (of_child cs.second (λ c. get_or marks c false)
    || of_child cs.second (λ c. of_child cs.first (λ b. eqb b c)))

-- a child is marked, if there is one
abbrev pub with_child : List Bool → Option ℕ → List Bool
with_child marks None = marks
with_child marks (Some c) = set marks c true

abbrev pub with_children : List Bool → Children → List Bool
with_children marks cs = with_child (with_child marks cs.first) cs.second

-- each child is one of 64 nodes
pub record Within (cs : Children) : Type 0 where
  pub one : IfSome cs.first (λ c. c < 64)
  pub two : IfSome cs.second (λ c. c < 64)

-- the marks say which nodes are children of a node below i
pub record Marks (ns : List ℕ) (i : ℕ) (marks : List Bool) : Type 0 where
  pub size : length marks ≡ 64
  pub each : (c : ℕ) → c < 64 → get_or marks c false ≡ taken ns i c

-- the sorts say which nodes below i are standard
pub record Sorts (ns : List ℕ) (i : ℕ) (sorts : List Bool) : Type 0 where
  pub size : length sorts ≡ 64
  pub each : (c : ℕ) → c < i → get_or sorts c false ≡ is_standard (node ns c)

-- where the closing behind n others is, if there is one
abbrev pub nth_closing : List ℕ → ℕ → Option ℕ
nth_closing rs n = cond (too_many_closings rs n) (Some (extra_closing rs n)) None

-- i records are passed, and `left` closings of the wanted ones are to come
pub record Passed (rs : List ℕ) (wanted i left : ℕ) : Type 0 where
  pub within : i ≤ length rs
  pub some : 1 ≤ left
  pub closes : closed (drop i rs) left ≡ closed rs wanted
  pub place : i + after_closings (drop i rs) left ≡ after_closings rs wanted

-- i records are passed, and `left` closings may come before the one that is looked for, or that is too many in a beginning
pub record PassedOpen (rs : List ℕ) (allowed i left : ℕ) : Type 0 where
  pub within : i ≤ length rs
  pub many : too_many_closings (drop i rs) left ≡ too_many_closings rs allowed
  pub place : i + extra_closing (drop i rs) left ≡ extra_closing rs allowed
