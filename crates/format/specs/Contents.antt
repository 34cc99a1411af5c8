-- What is refused of the numbers of a file, once they are read: "Then 4 to 9, 12, 13; then 19 .., and 20", with 22 "right after 4", as an
-- order of rounds (`flow`, Refusals). A reader and a writer look at the same; of lists that are lent the records may be a beginning.
-- Definitions only. Assumes nothing.
use Rattle.std.specs.Prelude.{ℕ, Bool, ◌&&◌, List, [], ◌∷◌, ◌++◌, ltb, leb, length, get_or}
use Rattle.flow.specs.declared.Extent.{Extent}
use Rattle.flow.specs.declared.Extent.TheVariants.{Whole}
use Rattle.flow.specs.Kinds.{form, node, one_of}
use Rattle.flow.specs.Legends.{set_count}
use Rattle.flow.specs.Records.{most_events}
use Rattle.flow.specs.Refusals.{Ground, ground_of, Round, sweep, count, nodes_order, table_length_order, sets_order, values_order, closing_order, records_length_order}
use Rattle.format.specs.Format.{File}

-- 19: "a node's event above the number of names (lowest node)"
unfoldable pub unnamed_leaf : ℕ → List ℕ → ℕ → Bool
unnamed_leaf names ns i = (form (node ns i)).event && ltb names (one_of ns i)

abbrev pub leaf_grounds : ℕ → List ℕ → ℕ → List Ground
leaf_grounds names ns i = ground_of 19 i (unnamed_leaf names ns i) ∷ []

-- "and 20, a record's (lowest record)"
unfoldable pub unnamed_event : ℕ → ℕ → Bool
unnamed_event names r = leb r most_events && ltb names r

abbrev pub event_grounds : ℕ → List ℕ → ℕ → List Ground
event_grounds names rs i = ground_of 20 i (unnamed_event names (get_or rs i 0)) ∷ []

-- "then 19 .., and 20"
abbrev pub names_order : ℕ → List ℕ → List ℕ → List Round
names_order names ns rs = sweep (count ns) (leaf_grounds names ns) ∷ sweep (length rs) (event_grounds names rs) ∷ []

-- "Then 4 to 9, 12, 13; then 19 .., and 20", by the number of names, how many sets are present, the nodes and the records
abbrev pub content_order : Extent → ℕ → ℕ → List ℕ → List ℕ → List Round
content_order extent names many ns rs = nodes_order many ns ++ (values_order rs ++ (closing_order extent ns rs ++ names_order names ns rs))

abbrev pub file_order : File → List Round
file_order f = content_order Whole (length f.names) (set_count f.sets) f.nodes f.records

-- The same of sets, nodes and records that are lent as lists. 02, One: "2 stands between 1 and 3; 1, 2, 3, 10 and 11 have place 0"; Four:
-- 23 "just before the nodes"
abbrev pub lists_order : Extent → ℕ → List ℕ → List ℕ → List ℕ → List Round
lists_order extent names sets ns rs =
    table_length_order ns ++ (records_length_order extent rs ++ (sets_order sets ++ content_order extent names (set_count sets) ns rs))
