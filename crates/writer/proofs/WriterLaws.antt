-- What a caller knows of an answer of the writer, and what the code learns on its way to it. Assumes nothing.
use Rattle.std.specs.Prelude.{ℕ, ◌<◌, ◌≤◌, Bool, true, false, ◌≡◌, ltb, Result, Ok, Err, ⊤}
use mathlib.Core.List.{List, [], ◌∷◌}
use Rattle.std.proofs.Math.Path.{refl, sym, ap}
use Rattle.std.proofs.Common.{◌∙◌, subst, arith, lt-ltb, le-ltb, ltb-true, ltb-false}
use Rattle.std.proofs.Math.ListN.{length}
use Rattle.flow.specs.declared.Refusal.{Refusal}
use Rattle.flow.specs.declared.Extent.TheVariants.{Whole}
use Rattle.flow.specs.Refusals.{ground_of, lone}
use Rattle.flow.specs.Checks.{refused, first, or_else_check}
use Rattle.flow.specs.FirstRefusal.{IsFine, both_fine, or_else_refused, or_else_fine, single_held, single_passed}
use Rattle.flow.specs.FineTable.{fine_table}
use Rattle.flow.specs.RecordsFit.{fine_records}
use Rattle.format.specs.Format.{Entry}
use Rattle.format.specs.Plan.{Ran, got, bad, run}
use Rattle.format.specs.Sections.{names}
use Rattle.format.specs.SectionLaws.{names_there}
use Rattle.format.specs.Told.{at_front}
use Rattle.format.specs.ItemLaws.{got_not_bad}
use Rattle.format.specs.ListChecks.{section_alone, lists_check}
use Rattle.format.specs.Lengths.{sets_length_most}
use Rattle.format.specs.ListLaws.{alone_bad, alone_longer, fine_sets, lists_passed, lists_then}
use Rattle.writer.specs.declared.Size.{Size}
use Rattle.writer.specs.Told.{writing_told}
use Rattle.writer.specs.Writing.{lists_bytes, write_check, wrote, put_first, writing, bytes_first, WrittenAs}
use Rattle.writer.proofs.Fronts.{lists_length}

-- lists that are written: what stands first then, how long it is, and that there is room for it
pub record WrittenLists (s ns rs sets : List ℕ) (room : ℕ) (e : Size) : Type 0 where
  pub first : bytes_first s ns rs sets room ≡ lists_bytes s ns rs sets
  pub sized : e.length ≡ length (lists_bytes s ns rs sets)
  pub fits : e.length ≤ room
  pub short : e.length ≤ 22408

---- Lists that are not refused are short ----

-- how long lists are at most in which nothing is refused
pub record FineLists (s ns rs sets : List ℕ) : Type 0 where
  pub names_few : length s ≤ 20994
  pub nodes_few : length ns ≤ 192
  pub records_few : length rs ≤ 256
  pub sets_few : length sets ≤ 512

-- a names section that stands alone has its entries, and ends where they do
alone_short : (s : List ℕ) {es : List Entry} {at : ℕ} → section_alone s ≡ got es at → length s ≤ 20994
alone_short s {es} {at} e = by_run (run s 0 names) refl
  where
    by_end : {ds : List Entry} {end : ℕ} → run s 0 names ≡ got ds end → (b : Bool) → ltb end (length s) ≡ b → length s ≤ 20994
    by_end {ds} {end} r true h = got_not_bad e (alone_longer s r (ltb-true end (length s) h))
    by_end {ds} {end} r false h = let there = names_there s r in omega (arith, ltb-false end (length s) h, there.near, there.few)

    by_run : (x : Ran (List Entry)) → run s 0 names ≡ x → length s ≤ 20994
    by_run (got ds end) r = by_end r (ltb end (length s)) refl
    by_run (bad n p) r = got_not_bad e (alone_bad s r)

pub fine_lists : (s ns rs sets : List ℕ) → lists_check Whole s sets ns rs ≡ Ok tt → FineLists s ns rs sets
fine_lists s ns rs sets f =
    let p = lists_passed Whole s sets ns rs f in
    let t = fine_table ns sets p.table in
    record {
      names_few = alone_short s p.section.is;
      nodes_few = omega (arith, t.few, t.whole);
      records_few = (fine_records Whole ns rs p.records).few;
      sets_few = (fine_sets sets p.sets_lent).1;
    }

---- The check in two parts ----

module _ (s ns rs sets : List ℕ) (room : ℕ) where
  abbrev short_of_room : Bool
  short_of_room = ltb room (length (lists_bytes s ns rs sets))

  -- 14
  abbrev room_check : Result ⊤ Refusal
  room_check = first (ground_of 14 0 short_of_room ∷ [])

  check_parts : write_check s ns rs sets room ≡ or_else_check (lists_check Whole s sets ns rs) room_check
  unfolding write_check
  check_parts = lists_then Whole s sets ns rs (lone (ground_of 14 0 short_of_room) ∷ [])

  pub lists_refused : {r : Refusal} → lists_check Whole s sets ns rs ≡ Err r → write_check s ns rs sets room ≡ Err r
  lists_refused e = check_parts ∙ sym (or_else_refused room_check e) ∙ e

  room_fine : room_check ≡ Ok tt → length (lists_bytes s ns rs sets) ≤ room
  room_fine e = by short_of_room refl
    where
      by : (b : Bool) → short_of_room ≡ b → length (lists_bytes s ns rs sets) ≤ room
      by true h = absurd (subst IsFine (sym e ∙ single_held 14 0 short_of_room h) tt)
      by false h = ltb-false room (length (lists_bytes s ns rs sets)) h

  module _ (f : lists_check Whole s sets ns rs ≡ Ok tt) where
    pub room_refused : room < length (lists_bytes s ns rs sets) → write_check s ns rs sets room ≡ refused 14 0
    room_refused h = check_parts ∙ sym (or_else_fine room_check f) ∙ single_held 14 0 short_of_room (lt-ltb room (length (lists_bytes s ns rs sets)) h)

    pub room_passes : length (lists_bytes s ns rs sets) ≤ room → write_check s ns rs sets room ≡ Ok tt
    room_passes h = check_parts ∙ sym (or_else_fine room_check f) ∙ single_passed 14 0 short_of_room (le-ltb room (length (lists_bytes s ns rs sets)) h)

---- What the code answers ----

module _ (s ns rs sets file : List ℕ) where
  left : {c : Result ⊤ Refusal} → write_check s ns rs sets (length file) ≡ c → at_front (bytes_first s ns rs sets (length file)) file ≡ at_front (put_first (lists_bytes s ns rs sets) c) file
  left e = ap (λ (x : Result ⊤ Refusal). at_front (put_first (lists_bytes s ns rs sets) x) file) e

  pub refused_as : {r : Refusal} → write_check s ns rs sets (length file) ≡ Err r → WrittenAs s ns rs sets file file (Err r)
  unfolding wrote put_first
  refused_as e = record { answer = sym (ap (wrote (lists_bytes s ns rs sets)) e); file_after = sym (left e) }

  pub written_as : {file' : List ℕ} {n : ℕ} → write_check s ns rs sets (length file) ≡ Ok tt → n ≡ length (lists_bytes s ns rs sets) → file' ≡ at_front (lists_bytes s ns rs sets) file
      → WrittenAs s ns rs sets file file' (Ok (record { length = n }))
  unfolding wrote put_first
  written_as e en ef = record { answer = ap (λ (k : ℕ). Ok (record { length = k })) en ∙ sym (ap (wrote (lists_bytes s ns rs sets)) e); file_after = ef ∙ sym (left e) }

---- What a caller knows ----

-- what is written is not refused
written_not_refused : {A : Type 0} {e : Size} {r : Refusal} → Ok e ≡ Err r → A
written_not_refused h = let z : ◌≡◌ {A = ℕ} 0 1 = cc in absurd (omega arith)

module _ (s ns rs sets : List ℕ) (room : ℕ) where
  pub written_lists : {e : Size} → writing s ns rs sets room ≡ Ok e → WrittenLists s ns rs sets room e
  unfolding wrote put_first writing_told
  written_lists {e} h = by (write_check s ns rs sets room) refl
    where
      by : (c : Result ⊤ Refusal) → write_check s ns rs sets room ≡ c → WrittenLists s ns rs sets room e
      by (Ok tt) q =
          let fine = both_fine _ _ (sym (check_parts s ns rs sets room) ∙ q) in
          let few = fine_lists s ns rs sets fine.0 in
          let sized : e.length ≡ length (lists_bytes s ns rs sets) = ap (λ (w : Result Size Refusal). (writing_told w).length) (sym h ∙ ap (wrote (lists_bytes s ns rs sets)) q) in
          record {
            first = ap (put_first (lists_bytes s ns rs sets)) q;
            sized = sized;
            fits = omega (arith, sized, room_fine s ns rs sets room fine.1);
            short = omega (arith, sized, lists_length s ns rs sets, few.names_few, few.nodes_few, few.records_few, few.sets_few, sets_length_most sets);
          }
      by (Err r) q = written_not_refused (sym h ∙ ap (wrote (lists_bytes s ns rs sets)) q)

  pub refused_lists : {r : Refusal} → writing s ns rs sets room ≡ Err r → bytes_first s ns rs sets room ≡ []
  unfolding wrote put_first
  refused_lists {r} h = by (write_check s ns rs sets room) refl
    where
      by : (c : Result ⊤ Refusal) → write_check s ns rs sets room ≡ c → bytes_first s ns rs sets room ≡ []
      by (Ok tt) q = written_not_refused (sym (ap (wrote (lists_bytes s ns rs sets)) q) ∙ h)
      by (Err r) q = ap (put_first (lists_bytes s ns rs sets)) q
