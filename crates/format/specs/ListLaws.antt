-- A names section by itself, by what a scan of it found; the checks of lent lists one after the other, and what is known where none
-- refuses (`fine_sets`, `lists_passed`); and an order with rounds behind theirs (`lists_then`). Assumes nothing.
use Rattle.std.specs.Prelude.{ℕ, ◌*◌, ◌%◌, ◌<◌, ◌≤◌, not, List, ◌++◌, ◌⊎◌, ◌≡◌, eqb, ltb, length, Result, Ok, Err, ⊤}
use Rattle.std.proofs.Common.{inl, inr, sym, ◌∙◌, subst, arith, lt-ltb, le-ltb, ltb-false, eqb-true}
use Rattle.std.proofs.Math.Path.{refl, ap}
use Rattle.std.proofs.lemmas.Bool.{not-false}
use Rattle.flow.specs.declared.Refusal.{Refusal}
use Rattle.flow.specs.declared.Extent.{Extent}
use Rattle.flow.specs.Tests.{is_false, neither_one, neither_two}
use Rattle.flow.specs.Kinds.{most_sets}
use Rattle.flow.specs.Legends.{set_bytes, set_count}
use Rattle.flow.specs.Refusals.{Round, wrong_sets, table_length_order, sets_order, records_length_order}
use Rattle.flow.specs.Earliest.{Nowhere, not_lone}
use Rattle.flow.specs.Checks.{refused, first, grounds, or_else_check, table_length_check, sets_check, nodes_check, table_check, records_length_check, values_check, closings_check, records_check}
use Rattle.flow.specs.FirstRefusal.{IsFine, fine_nowhere, both_fine, orders_append, or_else_refused, or_else_fine, table_parts, records_parts}
use Rattle.format.specs.Format.{Entry}
use Rattle.format.specs.Plan.{Ran, got, bad, run}
use Rattle.format.specs.Sections.{names}
use Rattle.format.specs.Contents.{content_order, lists_order}
use Rattle.format.specs.ContentChecks.{grounds_of}
use Rattle.format.specs.ItemLaws.{le_or_lt, got_not_bad}
use Rattle.format.specs.ContentLaws.{ContentsPassed, contents_passed}
use Rattle.format.specs.ListChecks.{nothing_behind, section_alone, entries_of, entries_in, Whole, by_entries, named_check, lists_check}

---- A names section by itself ----

module _ (s : List ℕ) where
  pub alone_bad : {n p : ℕ} → run s 0 names ≡ bad n p → section_alone s ≡ bad n p
  unfolding section_alone nothing_behind
  alone_bad e = ap (nothing_behind s) e

  module _ {es : List Entry} {at : ℕ} (e : run s 0 names ≡ got es at) where
    pub alone_longer : at < length s → section_alone s ≡ bad 21 at
    unfolding section_alone nothing_behind
    alone_longer h = ap (nothing_behind s) e ∙ rw (lt-ltb at (length s) h)

    pub alone_got : length s ≤ at → section_alone s ≡ got es at
    unfolding section_alone nothing_behind
    alone_got h = ap (nothing_behind s) e ∙ rw (le-ltb at (length s) h)

  -- what it holds is what the scan found
  module _ {es : List Entry} {at : ℕ} (e : section_alone s ≡ got es at) where
    pub alone_run : run s 0 names ≡ got es at
    alone_run = by_run (run s 0 names) refl
      where
        by_end : {ds : List Entry} {end : ℕ} → run s 0 names ≡ got ds end → (length s ≤ end) ⊎ (end < length s) → run s 0 names ≡ got es at
        by_end r (inl h) = r ∙ sym (alone_got r h) ∙ e
        by_end r (inr h) = got_not_bad e (alone_longer r h)

        by_run : (x : Ran (List Entry)) → run s 0 names ≡ x → run s 0 names ≡ got es at
        by_run (got ds end) r = by_end r (le_or_lt (length s) end)
        by_run (bad n p) r = got_not_bad e (alone_bad r)

    pub entries_in_is : entries_in s ≡ es
    unfolding entries_in entries_of
    entries_in_is = ap entries_of e

    pub whole : Whole s
    whole = record { end = at; is = e ∙ ap (λ (ds : List Entry). got ds at) (sym entries_in_is) }

---- Lists ----

module _ (extent : Extent) (s sets ns rs : List ℕ) where
  pub alone_refused : {n p : ℕ} → section_alone s ≡ bad n p → lists_check extent s sets ns rs ≡ refused n p
  unfolding lists_check named_check by_entries
  alone_refused e = ap (by_entries (λ es. lists_order extent (length es) sets ns rs)) e

  module _ {es : List Entry} {at : ℕ} (e : section_alone s ≡ got es at) where
    -- from each check on
    abbrev pub contents : Result ⊤ Refusal
    contents = first (grounds_of extent (length es) (set_count sets) ns rs)

    abbrev pub sets_on : Result ⊤ Refusal
    sets_on = or_else_check (sets_check sets) contents

    abbrev pub records_on : Result ⊤ Refusal
    records_on = or_else_check (records_length_check extent rs) sets_on

    pub lists_is : lists_check extent s sets ns rs ≡ or_else_check (table_length_check ns) records_on
    unfolding lists_check named_check by_entries grounds_of table_length_check records_length_check sets_check
    lists_is =
        let inner = content_order extent (length es) (set_count sets) ns rs in
        ap (by_entries (λ es. lists_order extent (length es) sets ns rs)) e
        ∙ orders_append (table_length_order ns) (records_length_order extent rs ++ (sets_order sets ++ inner))
        ∙ ap (or_else_check (table_length_check ns)) (orders_append (records_length_order extent rs) (sets_order sets ++ inner)
        ∙ ap (or_else_check (records_length_check extent rs)) (orders_append (sets_order sets) inner))

    pub table_length_refused : {c : Result ⊤ Refusal} {r : Refusal} → c ≡ table_length_check ns → c ≡ Err r → c ≡ lists_check extent s sets ns rs
    table_length_refused q h = q ∙ or_else_refused records_on (sym q ∙ h) ∙ sym lists_is

    module _ (a : table_length_check ns ≡ Ok tt) where
      pub records_length_refused : {c : Result ⊤ Refusal} {r : Refusal} → c ≡ records_length_check extent rs → c ≡ Err r → c ≡ lists_check extent s sets ns rs
      records_length_refused q h = q ∙ or_else_refused sets_on (sym q ∙ h) ∙ or_else_fine records_on a ∙ sym lists_is

      module _ (b : records_length_check extent rs ≡ Ok tt) where
        pub sets_refused : {c : Result ⊤ Refusal} {r : Refusal} → c ≡ sets_check sets → c ≡ Err r → c ≡ lists_check extent s sets ns rs
        sets_refused q h = q ∙ or_else_refused contents (sym q ∙ h) ∙ or_else_fine sets_on b ∙ or_else_fine records_on a ∙ sym lists_is

        pub contents_last : {c : Result ⊤ Refusal} {n : ℕ} → sets_check sets ≡ Ok tt → n ≡ length es → c ≡ first (grounds_of extent n (set_count sets) ns rs)
            → c ≡ lists_check extent s sets ns rs
        contents_last f d q =
            q ∙ ap (λ (k : ℕ). first (grounds_of extent k (set_count sets) ns rs)) d
            ∙ or_else_fine contents f ∙ or_else_fine sets_on b ∙ or_else_fine records_on a ∙ sym lists_is

---- Nothing is refused ----

-- of lent sets 23 does not hold
pub fine_sets : (sets : List ℕ) → sets_check sets ≡ Ok tt → (length sets ≡ 32 * set_count sets) × (length sets ≤ 512)
unfolding sets_check wrong_sets
fine_sets sets e = by (fine_nowhere (sets_order sets) e)
  where
    by : Nowhere (sets_order sets) → (length sets ≡ 32 * set_count sets) × (length sets ≤ 512)
    by (not_lone t n) =
        let none = is_false (wrong_sets sets) t in
        let parts = neither_one (not (eqb (length sets % set_bytes) 0)) (ltb (set_bytes * most_sets) (length sets)) none in
        let whole = eqb-true (length sets % set_bytes) 0 (not-false (eqb (length sets % set_bytes) 0) parts) in
        (omega (arith, whole), ltb-false 512 (length sets) (neither_two (not (eqb (length sets % set_bytes) 0)) (ltb (set_bytes * most_sets) (length sets)) none))

-- the section is found whole, and the parts of the check have passed
pub record ListsPassed (extent : Extent) (s sets ns rs : List ℕ) : Type 0 where
  pub section : Whole s
  pub table : table_check sets ns ≡ Ok tt
  pub sets_lent : sets_check sets ≡ Ok tt
  pub records : records_check extent ns rs ≡ Ok tt
  pub contents : ContentsPassed extent (length (entries_in s)) (set_count sets) ns rs

module _ (extent : Extent) (s sets ns rs : List ℕ) where
  pub lists_passed : lists_check extent s sets ns rs ≡ Ok tt → ListsPassed extent s sets ns rs
  lists_passed f = by (section_alone s) refl
    where
      by : (x : Ran (List Entry)) → section_alone s ≡ x → ListsPassed extent s sets ns rs
      by (got es at) e =
          let a = both_fine (table_length_check ns) (records_on extent s sets ns rs e) (sym (lists_is extent s sets ns rs e) ∙ f) in
          let b = both_fine (records_length_check extent rs) (sets_on extent s sets ns rs e) a.1 in
          let g = both_fine (sets_check sets) (contents extent s sets ns rs e) b.1 in
          let c = contents_passed extent (length es) (set_count sets) ns rs g.1 in
          let nodes = sym (or_else_fine (nodes_check (set_count sets) ns) g.0) ∙ c.nodes in
          let closings = sym (or_else_fine (closings_check extent ns rs) c.values) ∙ c.closings in
          record {
            section = whole s e;
            table = table_parts sets ns ∙ sym (or_else_fine (or_else_check (sets_check sets) (nodes_check (set_count sets) ns)) a.0) ∙ nodes;
            sets_lent = g.0;
            records = records_parts extent ns rs ∙ sym (or_else_fine (or_else_check (values_check rs) (closings_check extent ns rs)) b.0) ∙ closings;
            contents = subst (λ (ds : List Entry). ContentsPassed extent (length ds) (set_count sets) ns rs) (sym (entries_in_is s e)) c;
          }
      by (bad n p) e = absurd (subst IsFine (sym f ∙ alone_refused extent s sets ns rs e) tt)

  -- rounds behind those of the lists
  pub lists_then : (order : List Round)
      → named_check s (λ es. lists_order extent (length es) sets ns rs ++ order) ≡ or_else_check (lists_check extent s sets ns rs) (first (grounds order))
  unfolding lists_check named_check by_entries or_else_check
  lists_then order = by (section_alone s)
    where
      by : (x : Ran (List Entry))
          → by_entries (λ es. lists_order extent (length es) sets ns rs ++ order) x ≡ or_else_check (by_entries (λ es. lists_order extent (length es) sets ns rs) x) (first (grounds order))
      by (got es at) = orders_append (lists_order extent (length es) sets ns rs) order
      by (bad n p) = refl
