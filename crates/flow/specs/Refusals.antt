-- What is refused: the refusal table of 01, numbers 1 to 13, and 22 and 23 of 02, Four. First each number's own condition, in the words of
-- the documents. Then the order in which they are looked at, as a list of rounds over grounds, each a number, a place and the condition
-- there. `ns` are the numbers of the nodes, `sets` the bytes of the lent sets, `rs` the numbers of the records, which are lent whole or as a
-- beginning (02, Three): the `Extent`.
-- Definitions only: Earliest says what it means that a refusal of an order is given, and Checks computes it; FineTable proves what is
-- known of a table that is not refused. 14 belongs to whoever is lent room. Assumes nothing.
use Rattle.std.specs.Prelude.{ℕ, zero, suc, ◌-◌, ◌*◌, ◌/◌, ◌%◌, Bool, true, false, not, ◌&&◌, ◌||◌, cond, List, [], ◌∷◌, ◌++◌, eqb, leb, ltb, length, get_or}
use Rattle.std.specs.Bool.{xor}
use Rattle.flow.specs.declared.Refusal.{Refusal}
use Rattle.flow.specs.declared.Extent.{Extent}
use Rattle.flow.specs.declared.Extent.TheVariants.{Whole, Beginning}
use Rattle.flow.specs.Kinds.{form, is_standard, node, one_of, two_of, most_sets, set_number}
use Rattle.flow.specs.Legends.{set_bytes, set_count}
use Rattle.flow.specs.Records.{is_event_number, is_closing_number}

---- The conditions on a node table ----

-- how many whole nodes, and the last one
abbrev pub count : List ℕ → ℕ
count ns = length ns / 3

-- 01: "the last is the root"
abbrev pub root : List ℕ → ℕ
root ns = count ns - 1

-- 1: "no nodes"
unfoldable pub no_nodes : List ℕ → Bool
no_nodes ns = eqb (length ns) 0

-- 2: "length no multiple of 3"
unfoldable pub not_whole : List ℕ → Bool
not_whole ns = not (eqb (length ns % 3) 0)

-- 3: "over 64 nodes"
abbrev pub most_nodes : ℕ
most_nodes = 64

unfoldable pub too_many_nodes : List ℕ → Bool
too_many_nodes ns = ltb most_nodes (count ns)

module _ (ns : List ℕ) (i : ℕ) where
  abbrev pub has_one : Bool
  has_one = not (eqb (form (node ns i)).kids 0)

  abbrev pub has_two : Bool
  has_two = eqb (form (node ns i)).kids 2

  -- 4: "unknown kind"
  unfoldable pub unknown_kind : Bool
  unknown_kind = not (form (node ns i)).known

  -- 22: "kind with a set number not present", where so many sets are
  unfoldable pub no_such_set : ℕ → Bool
  no_such_set many = let k : ℕ = set_number (node ns i) in ltb k most_sets && leb many k

  -- 5: "event out of 1 to 256, or an unused field not 0"
  unfoldable pub wrong_field : Bool
  wrong_field =
      ((form (node ns i)).event && not (is_event_number (one_of ns i)))
      || ((not (form (node ns i)).event && (eqb (form (node ns i)).kids 0 && not (eqb (one_of ns i) 0)))
      || (not has_two && not (eqb (two_of ns i) 0)))

  -- 6: "child not lower than its parent"
  unfoldable pub not_lower : Bool
  not_lower = (has_one && leb i (one_of ns i)) || (has_two && leb i (two_of ns i))

-- whether node c is a child of node j
unfoldable pub is_child : List ℕ → ℕ → ℕ → Bool
is_child ns j c = (has_one ns j && eqb (one_of ns j) c) || (has_two ns j && eqb (two_of ns j) c)

-- whether node c is a child of a node below i
unfoldable pub taken : List ℕ → ℕ → ℕ → Bool
taken ns zero c = false
taken ns (suc j) c = taken ns j c || is_child ns j c

module _ (ns : List ℕ) (i : ℕ) where
  -- 7: "child of the wrong sort"
  unfoldable pub wrong_sort : Bool
  wrong_sort =
      let wrong : ℕ → Bool = λ c. xor (is_standard (node ns c)) (form (node ns i)).inner in
      (has_one ns i && wrong (one_of ns i)) || (has_two ns i && wrong (two_of ns i))

  -- 8: "child taken already, or the same child twice"
  unfoldable pub child_taken : Bool
  child_taken =
      (has_one ns i && taken ns i (one_of ns i))
      || ((has_two ns i && taken ns i (two_of ns i))
      || (has_two ns i && eqb (one_of ns i) (two_of ns i)))

  -- 9: "node other than the last is nobody's child"; the last is left out where these grounds are listed
  unfoldable pub nobodys_child : Bool
  nobodys_child = not (taken ns (count ns) i)

---- The conditions on lent sets ----

-- 23: "lent sets of a length no multiple of 32 or above 512"
unfoldable pub wrong_sets : List ℕ → Bool
wrong_sets sets = not (eqb (length sets % set_bytes) 0) || ltb (set_bytes * most_sets) (length sets)

---- The conditions on a record list ----

-- 10: "no records"
unfoldable pub no_records : List ℕ → Bool
no_records rs = eqb (length rs) 0

-- 11: "over 256"
abbrev pub most_records : ℕ
most_records = 256

unfoldable pub too_many_records : List ℕ → Bool
too_many_records rs = ltb most_records (length rs)

-- 12: "neither event nor closing"
unfoldable pub no_record : ℕ → Bool
no_record r = not (is_event_number r || is_closing_number r)

-- 01: "A standard root takes events and then one closing, last. A compensable root takes forward events, a closing, compensation
-- events, and a closing, last."
unfoldable pub closings_wanted : List ℕ → ℕ
closings_wanted ns = cond (is_standard (node ns (root ns))) 1 2

-- the records end with the n-th closing
unfoldable pub closed : List ℕ → ℕ → Bool
closed [] zero = true
closed [] (suc n) = false
closed (r ∷ rs) zero = false
closed (r ∷ rs) (suc n) = closed rs (cond (is_closing_number r) n (suc n))

-- "first record after the one or two closings the root needs, or the number of records if closings are too few"
unfoldable pub after_closings : List ℕ → ℕ → ℕ
after_closings [] n = 0
after_closings (r ∷ rs) zero = 0
after_closings (r ∷ rs) (suc n) = suc (after_closings rs (cond (is_closing_number r) n (suc n)))

-- of a beginning, "any for a standard root, a second for a compensable one" is too many: the last that is wanted
unfoldable pub closings_allowed : List ℕ → ℕ
closings_allowed ns = closings_wanted ns - 1

-- there are more than n closings
unfoldable pub too_many_closings : List ℕ → ℕ → Bool
too_many_closings [] n = false
too_many_closings (r ∷ rs) zero = is_closing_number r || too_many_closings rs zero
too_many_closings (r ∷ rs) (suc n) = too_many_closings rs (cond (is_closing_number r) n (suc n))

-- the closing behind n others
unfoldable pub extra_closing : List ℕ → ℕ → ℕ
extra_closing [] n = 0
extra_closing (r ∷ rs) zero = cond (is_closing_number r) 0 (suc (extra_closing rs zero))
extra_closing (r ∷ rs) (suc n) = suc (extra_closing rs (cond (is_closing_number r) n (suc n)))

-- 13: "closings not as the root needs"; 02, Three: "a beginning with a closing too many .. is 13, at that closing"
unfoldable pub wrong_closings : Extent → List ℕ → List ℕ → Bool
wrong_closings Whole ns rs = not (closed rs (closings_wanted ns))
wrong_closings Beginning ns rs = too_many_closings rs (closings_allowed ns)

unfoldable pub closings_place : Extent → List ℕ → List ℕ → ℕ
closings_place Whole ns rs = after_closings rs (closings_wanted ns)
closings_place Beginning ns rs = extra_closing rs (closings_allowed ns)

---- The order ----

-- a refusal that may be given, and whether its condition holds
pub record Ground : Type 0 where
  pub refusal : Refusal
  pub holds : Bool

abbrev pub ground_of : ℕ → ℕ → Bool → Ground
ground_of number place holds = record { refusal = record { number = number; place = place }; holds = holds }

-- An order is a list of rounds. A round is a lone ground, or a sweep over so many places "from 0 up", with the grounds at each.
pub data Round : Type 0 where
  lone : Ground → Round
  sweep : ℕ → (ℕ → List Ground) → Round

-- "nodes .., each in the order 4 to 8"; 22 "right after 4"
unfoldable pub node_grounds : ℕ → List ℕ → ℕ → List Ground
node_grounds many ns i =
    ground_of 4 i (unknown_kind ns i)
    ∷ ground_of 22 i (no_such_set ns i many)
    ∷ ground_of 5 i (wrong_field ns i)
    ∷ ground_of 6 i (not_lower ns i)
    ∷ ground_of 7 i (wrong_sort ns i)
    ∷ ground_of 8 i (child_taken ns i)
    ∷ []

unfoldable pub child_grounds : List ℕ → ℕ → List Ground
child_grounds ns i = ground_of 9 i (nobodys_child ns i) ∷ []

-- "then nodes from 0 up ..; then 9", which is of no place but a "node other than the last"
abbrev pub nodes_order : ℕ → List ℕ → List Round
nodes_order many ns = sweep (count ns) (node_grounds many ns) ∷ sweep (count ns - 1) (child_grounds ns) ∷ []

-- "Judging checks 1 to 3"
abbrev pub table_length_order : List ℕ → List Round
table_length_order ns =
    lone (ground_of 1 0 (no_nodes ns)) ∷ lone (ground_of 2 0 (not_whole ns)) ∷ lone (ground_of 3 0 (too_many_nodes ns)) ∷ []

-- 23, "place 0"
abbrev pub sets_order : List ℕ → List Round
sets_order sets = lone (ground_of 23 0 (wrong_sets sets)) ∷ []

-- "Judging checks 1 to 3; then nodes"; 23 "just before the nodes"
abbrev pub table_order : List ℕ → List ℕ → List Round
table_order sets ns = table_length_order ns ++ (sets_order sets ++ nodes_order (set_count sets) ns)

unfoldable pub value_grounds : List ℕ → ℕ → List Ground
value_grounds rs i = ground_of 12 i (no_record (get_or rs i 0)) ∷ []

-- 12, "lowest such"
abbrev pub values_order : List ℕ → List Round
values_order rs = sweep (length rs) (value_grounds rs) ∷ []

-- 13
abbrev pub closing_order : Extent → List ℕ → List ℕ → List Round
closing_order extent ns rs = lone (ground_of 13 (closings_place extent ns rs) (wrong_closings extent ns rs)) ∷ []

-- 10 and 11; 02, Three: "10 isn't given here"
abbrev pub records_length_order : Extent → List ℕ → List Round
records_length_order Whole rs = lone (ground_of 10 0 (no_records rs)) ∷ lone (ground_of 11 0 (too_many_records rs)) ∷ []
records_length_order Beginning rs = lone (ground_of 11 0 (too_many_records rs)) ∷ []

-- "then 9 to 14"
abbrev pub records_order : Extent → List ℕ → List ℕ → List Round
records_order extent ns rs = records_length_order extent rs ++ (values_order rs ++ closing_order extent ns rs)
