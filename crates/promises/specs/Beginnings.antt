-- Records that are not refused, whole and as a beginning. Where nothing of an order is refused, the table and the records pass by
-- themselves (`plain_parts`, `lists_parts`), with names every event leaf has an entry (`lists_named`), and each record is an event or a
-- closing (`values_are`). What is not refused of a whole record list is not refused of the first of its records, as a beginning
-- (`plain_first`, `lists_first`). 14 of the table that is lent (`room_passes`, `plain_room`, `lists_room`). Of a good names section the order
-- behind it decides (`named_check_nowhere`). Assumes nothing.
use Prim.Native.Nat.{ℕ, zero, suc, ◌-◌, ◌≤◌, ◌<◌}
use Rattle.std.specs.Prelude.{Bool, false, not, ◌||◌, List, [], ◌∷◌, ◌++◌, ◌⊎◌, ◌↔◌, ◌≡◌, refl, T, eqb, leb, ltb, get_or, take, Ok}
use Rattle.std.proofs.Math.Bool.{true}
use Rattle.std.proofs.Common.{inl, inr, sym, ap, ◌∙◌, subst, arith, length-take-le, get_or-take}
use Rattle.std.proofs.Math.ListN.{length}
use borrow.Author.Tests.{ltb-false, le-ltb, leb-true, eqb-true, not-false}
use Rattle.calculus.proofs.Members.{or_cases, and_left, and_right}
use Rattle.flow.specs.declared.Extent.{Extent}
use Rattle.flow.specs.declared.Extent.TheVariants.{Whole, Beginning}
use Rattle.flow.specs.Tests.{is_true, is_false}
use Rattle.flow.specs.Legends.{set_count}
use Rattle.flow.specs.Records.{done_number, withdrawn_number, failed_number, most_events, is_event_number, is_closing_number}
use Rattle.flow.specs.Refusals.{count, ground_of, Round, most_records, too_many_records, no_record, closings_wanted, closed, closings_allowed, too_many_closings, wrong_closings, value_grounds, nodes_order, table_length_order, sets_order, table_order, values_order, closing_order, records_length_order, records_order}
use Rattle.flow.specs.Checks.{first, grounds, table_check, records_check}
use Rattle.flow.specs.Earliest.{None, more, Nowhere, end, not_lone, not_sweep}
use Rattle.flow.specs.RecordsFit.{fine_records}
use Rattle.flow.specs.Closings.{event_closed, closing_closed, event_many, closing_many, wanted_some}
use Rattle.format.specs.Format.{Entry, names_section}
use Rattle.format.specs.Limits.{GoodNames}
use Rattle.format.specs.Contents.{unnamed_leaf, leaf_grounds, unnamed_event, names_order, content_order, lists_order}
use Rattle.format.specs.ListChecks.{by_entries, named_check}
use Rattle.judge.specs.Told.{room_wanted, too_short}
use Rattle.ahead.specs.Told.{numbers_wanted, no_room, next_room_order, next_order}
use Rattle.promises.specs.FollowingStated.{EventOrClosing, is_event, is_done, is_withdrawn, is_failed}
use Rattle.promises.specs.ExactlyWhen.{nowhere_exactly, table_passes_exactly}
use Rattle.promises.specs.ListRefusals.{section_found, nowhere_both, nowhere_parts}

---- Parts of an order ----

-- where nothing of records is refused
record RecordParts (extent : Extent) (ns rs : List ℕ) : Type 0 where
  counted : Nowhere (records_length_order extent rs)
  values : Nowhere (values_order rs)
  closings : Nowhere (closing_order extent ns rs)

module _ (extent : Extent) (ns rs : List ℕ) where
  record_parts : Nowhere (records_order extent ns rs) → RecordParts extent ns rs
  record_parts n =
      let a = nowhere_parts (records_length_order extent rs) (values_order rs ++ closing_order extent ns rs) n in
      let b = nowhere_parts (values_order rs) (closing_order extent ns rs) a.1 in
      record { counted = a.0; values = b.0; closings = b.1 }

  record_whole : RecordParts extent ns rs → Nowhere (records_order extent ns rs)
  record_whole p = nowhere_both p.counted (nowhere_both p.values p.closings)

  records_pass : Nowhere (records_order extent ns rs) → records_check extent ns rs ≡ Ok tt
  unfolding records_check
  records_pass n = (nowhere_exactly (records_order extent ns rs)).1 n

-- and with names
record ListParts (extent : Extent) (names : ℕ) (sets ns rs : List ℕ) : Type 0 where
  table_counted : Nowhere (table_length_order ns)
  sets_lent : Nowhere (sets_order sets)
  nodes : Nowhere (nodes_order (set_count sets) ns)
  records : RecordParts extent ns rs
  named : Nowhere (names_order names ns rs)

module _ (extent : Extent) (names : ℕ) (sets ns rs : List ℕ) where
  list_parts : Nowhere (lists_order extent names sets ns rs) → ListParts extent names sets ns rs
  list_parts n =
      let many = set_count sets in
      let a = nowhere_parts (table_length_order ns) (records_length_order extent rs ++ (sets_order sets ++ content_order extent names many ns rs)) n in
      let b = nowhere_parts (records_length_order extent rs) (sets_order sets ++ content_order extent names many ns rs) a.1 in
      let c = nowhere_parts (sets_order sets) (content_order extent names many ns rs) b.1 in
      let d = nowhere_parts (nodes_order many ns) (values_order rs ++ (closing_order extent ns rs ++ names_order names ns rs)) c.1 in
      let e = nowhere_parts (values_order rs) (closing_order extent ns rs ++ names_order names ns rs) d.1 in
      let f = nowhere_parts (closing_order extent ns rs) (names_order names ns rs) e.1 in
      record { table_counted = a.0; sets_lent = c.0; nodes = d.0; records = record { counted = b.0; values = e.0; closings = f.0 }; named = f.1 }

  list_whole : ListParts extent names sets ns rs → Nowhere (lists_order extent names sets ns rs)
  list_whole p =
      nowhere_both p.table_counted
      (nowhere_both p.records.counted
      (nowhere_both p.sets_lent (nowhere_both p.nodes (nowhere_both p.records.values (nowhere_both p.records.closings p.named)))))

---- The table and the records pass by themselves ----

module _ (extent : Extent) (sets ns rs : List ℕ) where
  -- without names, whatever stands behind them
  pub plain_parts : (order : List Round) → Nowhere (table_order sets ns ++ (records_order extent ns rs ++ order)) → (table_check sets ns ≡ Ok tt) × (records_check extent ns rs ≡ Ok tt)
  plain_parts order n =
      let a = nowhere_parts (table_order sets ns) (records_order extent ns rs ++ order) n in
      let b = nowhere_parts (records_order extent ns rs) order a.1 in
      ((table_passes_exactly sets ns).1 a.0, records_pass extent ns rs b.0)

  -- with them
  pub lists_parts : (names : ℕ) (order : List Round) → Nowhere (lists_order extent names sets ns rs ++ order) → (table_check sets ns ≡ Ok tt) × (records_check extent ns rs ≡ Ok tt)
  lists_parts names order n =
      let p = list_parts extent names sets ns rs (nowhere_parts (lists_order extent names sets ns rs) order n).0 in
      ((table_passes_exactly sets ns).1 (nowhere_both p.table_counted (nowhere_both p.sets_lent p.nodes)), records_pass extent ns rs (record_whole extent ns rs p.records))

-- then every event leaf has an entry
pub lists_named : (extent : Extent) (names : ℕ) (sets ns rs : List ℕ) (order : List Round) → Nowhere (lists_order extent names sets ns rs ++ order)
    → (i : ℕ) → i < count ns → T (not (unnamed_leaf names ns i))
lists_named extent names sets ns rs order n i h = by (list_parts extent names sets ns rs (nowhere_parts (lists_order extent names sets ns rs) order n).0).named
  where
    at_node : None (leaf_grounds names ns i) → T (not (unnamed_leaf names ns i))
    at_node (more t m) = t

    by : Nowhere (names_order names ns rs) → T (not (unnamed_leaf names ns i))
    by (not_sweep a m) = at_node (a i h)

---- Each record is an event or a closing ----

pub value_is : (r : ℕ) → no_record r ≡ false → EventOrClosing r
unfolding no_record is_event_number is_closing_number
value_is r e = by (or_cases (is_event_number r) (is_closing_number r) (subst T (sym (not-false (is_event_number r || is_closing_number r) e)) tt))
  where
    by_closing : T (eqb r withdrawn_number) ⊎ T (eqb r failed_number) → EventOrClosing r
    by_closing (inl h) = is_withdrawn (eqb-true r withdrawn_number (is_true (eqb r withdrawn_number) h))
    by_closing (inr h) = is_failed (eqb-true r failed_number (is_true (eqb r failed_number) h))

    closing : T (eqb r done_number) ⊎ T (eqb r withdrawn_number || eqb r failed_number) → EventOrClosing r
    closing (inl h) = is_done (eqb-true r done_number (is_true (eqb r done_number) h))
    closing (inr h) = by_closing (or_cases (eqb r withdrawn_number) (eqb r failed_number) h)

    by : T (is_event_number r) ⊎ T (is_closing_number r) → EventOrClosing r
    by (inl h) =
        is_event (leb-true 1 r (is_true (leb 1 r) (and_left (leb 1 r) (leb r most_events) h)))
        (leb-true r most_events (is_true (leb r most_events) (and_right (leb 1 r) (leb r most_events) h)))
    by (inr h) = closing (or_cases (eqb r done_number) (eqb r withdrawn_number || eqb r failed_number) h)

pub values_are : (extent : Extent) (ns rs : List ℕ) → records_check extent ns rs ≡ Ok tt → (i : ℕ) → i < length rs → EventOrClosing (get_or rs i 0)
values_are extent ns rs f i h = value_is (get_or rs i 0) ((fine_records extent ns rs f).each i h)

---- The first records ----

not_held : {b : Bool} → b ≡ false → T (not b)
not_held e = subst (λ (x : Bool). T (not x)) (sym e) tt

-- no closing is to come where no record is
none_behind : (rs : List ℕ) (k : ℕ) → k < length rs → closed rs 0 ≡ true → ⊥
unfolding closed
none_behind [] k h e = omega arith
none_behind (r ∷ rs) k h e = subst T (sym e) tt

-- one closing fewer may come in a beginning
closings_first : (rs : List ℕ) (n k : ℕ) → k < length rs → closed rs (suc n) ≡ true → too_many_closings (take k rs) n ≡ false
unfolding too_many_closings
closings_first [] n k h e = absurd (omega arith)
closings_first (r ∷ rs) n zero h e = refl
closings_first (r ∷ rs) n (suc k) h e = by (is_closing_number r) refl n e (λ m. closings_first rs m k (omega arith))
  where
    by : (b : Bool) → is_closing_number r ≡ b → (m : ℕ) → closed (r ∷ rs) (suc m) ≡ true → ((l : ℕ) → closed rs (suc l) ≡ true → too_many_closings (take k rs) l ≡ false)
        → too_many_closings (r ∷ take k rs) m ≡ false
    by false d m f rec = event_many r (take k rs) m d ∙ rec m (sym (event_closed r rs (suc m) (omega arith) d) ∙ f)
    by true d zero f rec = absurd (none_behind rs k (omega arith) (sym (closing_closed r rs 1 (omega arith) d) ∙ f))
    by true d (suc m) f rec =
        let q : suc (suc m) - 1 ≡ suc m = omega arith in
        let l : suc m - 1 ≡ m = omega arith in
        let g : closed rs (suc m) ≡ true = ap (closed rs) (sym q) ∙ sym (closing_closed r rs (suc (suc m)) (omega arith) d) ∙ f in
        closing_many r (take k rs) (suc m) (omega arith) d ∙ ap (too_many_closings (take k rs)) l ∙ rec m g

-- so many records before another are a beginning that is not refused
module _ (ns rs : List ℕ) (k : ℕ) (inside : k < length rs) where
  first_length : length (take k rs) ≡ k
  first_length = length-take-le k rs (omega arith)

  first_at : (i : ℕ) → i < length (take k rs) → get_or (take k rs) i 0 ≡ get_or rs i 0
  first_at i h = get_or-take k rs i 0 (omega (arith, first_length))

  -- a ground that looks at one record
  first_none : (f : ℕ → Bool) (number j : ℕ) → j < length (take k rs) → None (ground_of number j (f (get_or rs j 0)) ∷ []) → None (ground_of number j (f (get_or (take k rs) j 0)) ∷ [])
  first_none f number j h n = subst (λ (r : ℕ). None (ground_of number j (f r) ∷ [])) (sym (first_at j h)) n

  first_counted : Nowhere (records_length_order Whole rs) → Nowhere (records_length_order Beginning (take k rs))
  unfolding too_many_records
  first_counted (not_lone a (not_lone b end)) =
      let few : length rs ≤ most_records = ltb-false most_records (length rs) (is_false (ltb most_records (length rs)) b) in
      not_lone (not_held (le-ltb most_records (length (take k rs)) (omega (arith, first_length)))) end

  first_values : Nowhere (values_order rs) → Nowhere (values_order (take k rs))
  unfolding value_grounds
  first_values (not_sweep v end) = not_sweep (λ j h. first_none no_record 12 j h (v j (omega (arith, first_length)))) end

  first_closings : Nowhere (closing_order Whole ns rs) → Nowhere (closing_order Beginning ns (take k rs))
  unfolding wrong_closings closings_allowed
  first_closings (not_lone c end) =
      let whole : closed rs (closings_wanted ns) ≡ true = not-false (closed rs (closings_wanted ns)) (is_false (not (closed rs (closings_wanted ns))) c) in
      let one_less : closings_wanted ns ≡ suc (closings_wanted ns - 1) = omega (arith, wanted_some ns) in
      not_lone (not_held (closings_first rs (closings_wanted ns - 1) k inside (ap (closed rs) (sym one_less) ∙ whole))) end

  first_named : (names : ℕ) → Nowhere (names_order names ns rs) → Nowhere (names_order names ns (take k rs))
  first_named names (not_sweep a (not_sweep b end)) = not_sweep a (not_sweep (λ j h. first_none (unnamed_event names) 20 j h (b j (omega (arith, first_length)))) end)

  first_records : RecordParts Whole ns rs → RecordParts Beginning ns (take k rs)
  first_records p = record { counted = first_counted p.counted; values = first_values p.values; closings = first_closings p.closings }

module _ (sets ns rs : List ℕ) (k : ℕ) (inside : k < length rs) where
  first_lists : (names : ℕ) → ListParts Whole names sets ns rs → ListParts Beginning names sets ns (take k rs)
  first_lists names p = record {
    table_counted = p.table_counted;
    sets_lent = p.sets_lent;
    nodes = p.nodes;
    records = first_records ns rs k inside p.records;
    named = first_named ns rs k inside names p.named;
  }

  -- without names, whatever stands behind the records
  pub plain_first : (order order' : List Round) → Nowhere order' → Nowhere (table_order sets ns ++ (records_order Whole ns rs ++ order))
      → Nowhere (table_order sets ns ++ (records_order Beginning ns (take k rs) ++ order'))
  plain_first order order' m n =
      let a = nowhere_parts (table_order sets ns) (records_order Whole ns rs ++ order) n in
      let b = nowhere_parts (records_order Whole ns rs) order a.1 in
      nowhere_both a.0 (nowhere_both (record_whole Beginning ns (take k rs) (first_records ns rs k inside (record_parts Whole ns rs b.0))) m)

  -- with them
  pub lists_first : (names : ℕ) (order order' : List Round) → Nowhere order' → Nowhere (lists_order Whole names sets ns rs ++ order)
      → Nowhere (lists_order Beginning names sets ns (take k rs) ++ order')
  lists_first names order order' m n =
      let a = nowhere_parts (lists_order Whole names sets ns rs) order n in
      let p = list_parts Whole names sets ns rs a.0 in
      nowhere_both (list_whole Beginning names sets ns (take k rs) (first_lists names p)) m

---- Room ----

-- where enough numbers and bytes are lent, 14 is not given; and where it is not, enough numbers are
pub room_passes : (ns rs : List ℕ) (numbers room : ℕ) → numbers_wanted ≤ numbers → room_wanted ns rs ≤ room → Nowhere (next_room_order ns rs numbers room)
unfolding no_room too_short
room_passes ns rs numbers room h l = not_lone (not_held (both (ltb numbers numbers_wanted) (ltb room (room_wanted ns rs)) (le-ltb numbers numbers_wanted h) (le-ltb room (room_wanted ns rs) l))) end
  where
    both : (a b : Bool) → a ≡ false → b ≡ false → (a || b) ≡ false
    both true b d e = d
    both false b d e = e

room_enough : (ns rs : List ℕ) (numbers room : ℕ) → Nowhere (next_room_order ns rs numbers room) → numbers_wanted ≤ numbers
unfolding no_room
room_enough ns rs numbers room (not_lone t end) = ltb-false numbers numbers_wanted (first_off (ltb numbers numbers_wanted) (too_short ns rs room) t)
  where
    first_off : (a b : Bool) → T (not (a || b)) → a ≡ false
    first_off true b h = absurd h
    first_off false b h = refl

pub plain_room : (sets ns rs : List ℕ) (numbers room : ℕ) → Nowhere (next_order sets ns rs numbers room) → numbers_wanted ≤ numbers
plain_room sets ns rs numbers room n =
    let a = nowhere_parts (table_order sets ns) (records_order Beginning ns rs ++ next_room_order ns rs numbers room) n in
    room_enough ns rs numbers room (nowhere_parts (records_order Beginning ns rs) (next_room_order ns rs numbers room) a.1).1

pub lists_room : (names : ℕ) (sets ns rs : List ℕ) (numbers room : ℕ) → Nowhere (lists_order Beginning names sets ns rs ++ next_room_order ns rs numbers room)
    → numbers_wanted ≤ numbers
lists_room names sets ns rs numbers room n =
    room_enough ns rs numbers room (nowhere_parts (lists_order Beginning names sets ns rs) (next_room_order ns rs numbers room) n).1

---- Behind a names section ----

-- a good section is found whole, so that its entries' order decides
pub named_check_nowhere : (es : List Entry) → GoodNames es → (order : List Entry → List Round) → (named_check (names_section es) order ≡ Ok tt) ↔ Nowhere (order es)
unfolding named_check by_entries
named_check_nowhere es good order =
    let e : named_check (names_section es) order ≡ first (grounds (order es)) = ap (by_entries order) (section_found (names_section es) good refl) in
    (λ f. (nowhere_exactly (order es)).0 (sym e ∙ f), λ n. e ∙ (nowhere_exactly (order es)).1 n)
