-- What `write` does, for every names section, nodes, records, sets and room, by its contract: what it writes and what it refuses is told by
-- the format alone (`format`, Format, Limits, Contents, NameFaults; `writer`, Told, Writes), so how it is computed (`writer`, Writing)
-- need not be believed. Theorems only. Assumes nothing.
use Rattle.std.specs.Prelude.{ℕ, ◌*◌, ◌%◌, ◌≤◌, Bool, false, not, ◌||◌, ◌⊎◌, ◌↔◌, ◌≡◌, refl, T, eqb, ltb, Result, Ok, Err, ⊤}
use mathlib.Core.List.{List, [], ◌∷◌, ◌++◌}
use Rattle.std.proofs.Common.{inl, inr, ap₂, ◌∙◌, arith}
use Rattle.std.proofs.Math.Path.{ap, sym, subst}
use borrow.Author.Tests.{eq-eqb, ne_eqb, le-ltb, ltb-false}
use Rattle.std.proofs.Math.ListN.{length}
use Rattle.flow.specs.declared.Refusal.{Refusal}
use Rattle.flow.specs.Tests.{is_false}
use Rattle.flow.specs.declared.Extent.TheVariants.{Whole}
use Rattle.flow.specs.Legends.{set_count}
use Rattle.flow.specs.Refusals.{ground_of, Round, lone, count, no_nodes, not_whole, too_many_nodes, wrong_sets, no_records, too_many_records, table_length_order, sets_order, records_length_order}
use Rattle.flow.specs.Checks.{table_length_check, sets_check, records_length_check}
use Rattle.flow.specs.Earliest.{Nowhere, end, not_lone}
use Rattle.flow.specs.FirstRefusal.{fine_length, fine_records_length}
use Rattle.format.specs.Format.{Entry, names_section, numbers_section, sets_section, File, encode}
use Rattle.format.specs.Limits.{node_count, record_count, GoodNames, GoodNumbers, GoodSets, no_sets, some_sets, Bytes}
use Rattle.format.specs.Contents.{content_order, lists_order}
use Rattle.format.specs.ListLaws.{fine_sets}
use Rattle.format.specs.Told.{refusal_of, at_front}
use Rattle.flow.specs.declared.Refusal.{Refusal}
use Rattle.writer.specs.declared.Size.{Size}
use Rattle.writer.specs.Told.{WritingTold, writing_told, writing_written, writing_refused}
use Rattle.writer.specs.Writes.{file_of_lists, write_order, WriteRefuses, Writable}
use Rattle.writer.specs.Writing.{lists_bytes, order_by_bytes, write_check, wrote, put_first, WrittenAs}
use Rattle.writer.proofs.Fronts.{lists_length}
use Rattle.promises.specs.ExactlyWhen.{nowhere_exactly}
use Rattle.promises.specs.ListRefusals.{fine_not_refused, nowhere_both, nowhere_parts, named_refused, named_passes, named_exactly, named_fine, named_once, named_order}

---- Lists of good numbers ----

fails : {b : Bool} → b ≡ false → T (not b)
fails e = subst (λ (x : Bool). T (not x)) (sym e) tt

-- 1, 2 and 3 say that there are whole nodes, as many as there may be
pub table_length_good : (ns : List ℕ) → Nowhere (table_length_order ns) ↔ GoodNumbers node_count 3 ns
unfolding table_length_check no_nodes not_whole too_many_nodes
table_length_good ns = (
  λ n. let f = fine_length ns ((nowhere_exactly (table_length_order ns)).1 n) in
      record { n = count ns; whole = f.whole; counted = record { low = omega (arith, f.some); high = omega (arith, f.few) } },
  λ g. let none : no_nodes ns ≡ false = ne_eqb (length ns) 0 (λ e. omega (arith, g.whole, g.counted.low)) in
      let whole : not_whole ns ≡ false = ap not (eq-eqb (length ns % 3) 0 (omega (arith, g.whole))) in
      let many : too_many_nodes ns ≡ false = le-ltb 64 (count ns) (omega (arith, g.whole, g.counted.high)) in
      not_lone (fails none) (not_lone (fails whole) (not_lone (fails many) end)),
)

-- 10 and 11 say the same of the records
pub records_length_good : (rs : List ℕ) → Nowhere (records_length_order Whole rs) ↔ GoodNumbers record_count 1 rs
unfolding records_length_check no_records too_many_records
records_length_good rs = (
  λ n. let f = fine_records_length rs ((nowhere_exactly (records_length_order Whole rs)).1 n) in
      record { n = length rs; whole = omega arith; counted = record { low = f.0; high = f.1 } },
  λ g. let none : no_records rs ≡ false = ne_eqb (length rs) 0 (λ e. omega (arith, g.whole, g.counted.low)) in
      let many : too_many_records rs ≡ false = le-ltb 256 (length rs) (omega (arith, g.whole, g.counted.high)) in
      not_lone (fails none) (not_lone (fails many) end),
)

-- 23 says the same of the sets, whose bytes are bytes; there may be none
pub sets_good : (sets : List ℕ) → Bytes sets → Nowhere (sets_order sets) ↔ GoodSets sets
unfolding sets_check wrong_sets
sets_good sets bytes = (λ n. by sets bytes (fine_sets sets ((nowhere_exactly (sets_order sets)).1 n)), λ g. passes g)
  where
    by : (xs : List ℕ) → Bytes xs → (length xs ≡ 32 * set_count xs) × (length xs ≤ 512) → GoodSets xs
    by [] c f = no_sets
    by (x ∷ xs) c f =
        some_sets (record { n = set_count (x ∷ xs); whole = f.0; counted = record { low = omega (arith, f.0); high = omega (arith, f.0, f.1) } }) c

    passes : {xs : List ℕ} → GoodSets xs → Nowhere (sets_order xs)
    passes no_sets = not_lone tt end
    passes (some_sets {sets = xs} g c) =
        let whole : not (eqb (length xs % 32) 0) ≡ false = ap not (eq-eqb (length xs % 32) 0 (omega (arith, g.whole))) in
        let few : ltb 512 (length xs) ≡ false = le-ltb 512 (length xs) (omega (arith, g.whole, g.counted.high)) in
        not_lone (fails (ap₂ ◌||◌ whole few)) end

-- the bytes of good sets are bytes
pub good_sets_bytes : {sets : List ℕ} → GoodSets sets → Bytes sets
good_sets_bytes no_sets = λ i. omega arith
good_sets_bytes (some_sets g bytes) = bytes

-- nothing is refused of lists exactly if they are good numbers and sets and hold nothing that is refused of a file
pub writable_lists : (names : ℕ) (ns rs sets : List ℕ) → Bytes sets
    → Nowhere (lists_order Whole names sets ns rs)
    ↔ (GoodNumbers node_count 3 ns × GoodNumbers record_count 1 rs × GoodSets sets × Nowhere (content_order Whole names (set_count sets) ns rs))
writable_lists names ns rs sets bytes =
    let inner = content_order Whole names (set_count sets) ns rs in (
      λ n. let a = nowhere_parts (table_length_order ns) (records_length_order Whole rs ++ (sets_order sets ++ inner)) n in
          let b = nowhere_parts (records_length_order Whole rs) (sets_order sets ++ inner) a.1 in
          let c = nowhere_parts (sets_order sets) inner b.1 in
          ((table_length_good ns).0 a.0, (records_length_good rs).0 b.0, (sets_good sets bytes).0 c.0, c.1),
      λ x. nowhere_both ((table_length_good ns).1 x.0)
          (nowhere_both ((records_length_good rs).1 x.1) (nowhere_both ((sets_good sets bytes).1 x.2) x.3)),
    )

---- What is written ----

-- a file that is written has bytes
lists_some : (s ns rs sets : List ℕ) → 1 ≤ length (lists_bytes s ns rs sets)
lists_some s ns rs sets = omega (arith, lists_length s ns rs sets)

module _ (s ns rs sets : List ℕ) (room : ℕ) where
  -- the bytes of the lists are those of their file
  lists_encoded : (es : List Entry) → s ≡ names_section es → lists_bytes s ns rs sets ≡ encode (file_of_lists es ns rs sets)
  unfolding lists_bytes encode
  lists_encoded es e = ap (λ (xs : List ℕ). xs ++ (numbers_section 3 ns ++ (numbers_section 1 rs ++ sets_section sets))) e

  -- 14, by the bytes
  abbrev room_order : List Round
  room_order = lone (ground_of 14 0 (ltb room (length (lists_bytes s ns rs sets)))) ∷ []

  same_order : (es : List Entry) → s ≡ names_section es → order_by_bytes s ns rs sets room es ≡ write_order ns rs sets room es
  same_order es e =
      ap (λ (xs : List ℕ). lists_order Whole (length es) sets ns rs ++ (lone (ground_of 14 0 (ltb room (length xs))) ∷ [])) (lists_encoded es e)

  -- lists that are writable are the bytes of their file, and nothing is refused of them
  pub writable_bytes : {f : File} → Writable s ns rs sets room f → lists_bytes s ns rs sets ≡ encode f
  unfolding lists_bytes encode
  writable_bytes w =
      λ i. w.names_lent i ++ (numbers_section 3 (w.nodes_lent i) ++ (numbers_section 1 (w.records_lent i) ++ sets_section (w.sets_lent i)))

  pub writable_some : {f : File} → Writable s ns rs sets room f → 1 ≤ length (encode f)
  writable_some w = subst (λ (xs : List ℕ). 1 ≤ length xs) (writable_bytes w) (lists_some s ns rs sets)

  pub writable_fine : {f : File} → Writable s ns rs sets room f → write_check s ns rs sets room ≡ Ok tt
  unfolding write_check
  writable_fine {f} w =
      let n : GoodNumbers node_count 3 ns = subst (GoodNumbers node_count 3) (sym w.nodes_lent) w.within.nodes in
      let k : GoodNumbers record_count 1 rs = subst (GoodNumbers record_count 1) (sym w.records_lent) w.within.records in
      let m : GoodSets sets = subst GoodSets (sym w.sets_lent) w.within.sets in
      let c : Nowhere (content_order Whole (length f.names) (set_count sets) ns rs) =
      subst Nowhere (λ i. content_order Whole (length f.names) (set_count (sym w.sets_lent i)) (sym w.nodes_lent i) (sym w.records_lent i)) w.fine in
      let l : length (lists_bytes s ns rs sets) ≤ room = omega (arith, w.room_enough, ap length (writable_bytes w)) in
      let r : Nowhere room_order = not_lone (fails (le-ltb room (length (lists_bytes s ns rs sets)) l)) end in
      named_passes s (order_by_bytes s ns rs sets room) f.names w.within.names w.names_lent
      (nowhere_both ((writable_lists (length f.names) ns rs sets (good_sets_bytes m)).1 (n, k, m, c)) r)

  -- and only of such
  pub fine_writable : Bytes s → Bytes sets → write_check s ns rs sets room ≡ Ok tt → (f : File) × Writable s ns rs sets room f
  unfolding write_check
  fine_writable bytes sets_bytes e = by ((named_fine s (order_by_bytes s ns rs sets room) bytes).0 e)
    where
      by_room : (es : List Entry) → GoodNames es → s ≡ names_section es → Nowhere (lists_order Whole (length es) sets ns rs)
          → Nowhere room_order → (f : File) × Writable s ns rs sets room f
      by_room es g d n (not_lone t end) =
          let x = (writable_lists (length es) ns rs sets sets_bytes).0 n in
          let l = ltb-false room (length (lists_bytes s ns rs sets)) (is_false (ltb room (length (lists_bytes s ns rs sets))) t) in (
            file_of_lists es ns rs sets,
            record {
              names_lent = d;
              nodes_lent = refl;
              records_lent = refl;
              sets_lent = refl;
              within = record { names = g; nodes = x.0; records = x.1; sets = x.2 };
              fine = x.3;
              room_enough = omega (arith, l, ap length (lists_encoded es d));
            },
          )

      by : ((es : List Entry) × GoodNames es × (s ≡ names_section es) × Nowhere (order_by_bytes s ns rs sets room es)) → (f : File) × Writable s ns rs sets room f
      by x =
          let n = nowhere_parts (lists_order Whole (length x.0) sets ns rs) room_order x.3 in
          by_room x.0 x.1 x.2 n.0 n.1

  -- each way of a refusal is answered so, and every refusal is one of these ways
  pub refuses_checked : {k p : ℕ} → WriteRefuses s ns rs sets room k p → write_check s ns rs sets room ≡ Err (refusal_of k p)
  unfolding write_check
  refuses_checked x = named_refused s (order_by_bytes s ns rs sets room) (named_order (λ es e. sym (same_order es e)) x)

  pub checked_refuses : Bytes s → (k p : ℕ) → write_check s ns rs sets room ≡ Err (refusal_of k p) → WriteRefuses s ns rs sets room k p
  unfolding write_check
  checked_refuses bytes k p e = named_order same_order ((named_exactly s (order_by_bytes s ns rs sets room) bytes k p).0 e)

  ---- Every input ----

  -- all lists are writable or refused
  pub written_or_refused : Bytes s → Bytes sets → ((f : File) × Writable s ns rs sets room f) ⊎ ((k : ℕ) × (p : ℕ) × WriteRefuses s ns rs sets room k p)
  written_or_refused bytes sets_bytes = by (write_check s ns rs sets room) refl
    where
      by : (c : Result ⊤ Refusal) → write_check s ns rs sets room ≡ c → ((f : File) × Writable s ns rs sets room f) ⊎ ((k : ℕ) × (p : ℕ) × WriteRefuses s ns rs sets room k p)
      by (Ok tt) e = inl (fine_writable bytes sets_bytes e)
      by (Err r) e = inr (r.number, r.place, checked_refuses bytes r.number r.place e)

  -- and not both
  pub writable_not_refused : {f : File} {k p : ℕ} → Writable s ns rs sets room f → WriteRefuses s ns rs sets room k p → ⊥
  writable_not_refused w x = fine_not_refused (sym (writable_fine w) ∙ refuses_checked x)

  -- nor refused in two ways: the number and the place are told by what is lent
  pub refused_one_way : {k p j q : ℕ} → WriteRefuses s ns rs sets room k p → WriteRefuses s ns rs sets room j q → (k ≡ j) × (p ≡ q)
  refused_one_way = named_once s (write_order ns rs sets room)

---- What is answered ----

-- by what is told, what the check came to
module _ (bytes : List ℕ) where
  told_refused : 1 ≤ length bytes → (c : Result ⊤ Refusal) (k p : ℕ) → writing_told (wrote bytes c) ≡ writing_refused k p → c ≡ Err (refusal_of k p)
  unfolding writing_told wrote
  told_refused h (Ok tt) k p e = absurd (omega (arith, ap (λ (t : WritingTold). t.length) e))
  told_refused h (Err r) k p e = λ i. Err (refusal_of (e i).number (e i).place)

  told_written : (c : Result ⊤ Refusal) (n : ℕ) → 1 ≤ n → writing_told (wrote bytes c) ≡ writing_written n → (c ≡ Ok tt) × (n ≡ length bytes)
  unfolding writing_told wrote
  told_written (Ok tt) n h e = (refl, sym (ap (λ (t : WritingTold). t.length) e))
  told_written (Err r) n h e = absurd (omega (arith, ap (λ (t : WritingTold). t.length) e))

module _ {s ns rs sets file file' : List ℕ} {r : Result Size Refusal} (ensured : WrittenAs s ns rs sets file file' r) where
  abbrev room : ℕ
  room = length file

  -- what is told, and the bytes, by what the check came to
  told_by : {c : Result ⊤ Refusal} → write_check s ns rs sets room ≡ c → writing_told r ≡ writing_told (wrote (lists_bytes s ns rs sets) c)
  told_by e = ap writing_told (ensured.answer ∙ ap (wrote (lists_bytes s ns rs sets)) e)

  file_by : {c : Result ⊤ Refusal} → write_check s ns rs sets room ≡ c → file' ≡ at_front (put_first (lists_bytes s ns rs sets) c) file
  file_by e = ensured.file_after ∙ ap (λ (c : Result ⊤ Refusal). at_front (put_first (lists_bytes s ns rs sets) c) file) e

  -- lists that are writable are written: the length is told, and the file stands first in the lent bytes
  pub write_tells : {f : File} → Writable s ns rs sets room f → writing_told r ≡ writing_written (length (encode f))
  unfolding writing_told wrote
  write_tells w = told_by (writable_fine s ns rs sets room w) ∙ ap (λ (xs : List ℕ). writing_written (length xs)) (writable_bytes s ns rs sets room w)

  pub write_fills : {f : File} → Writable s ns rs sets room f → file' ≡ at_front (encode f) file
  unfolding put_first
  write_fills w = file_by (writable_fine s ns rs sets room w) ∙ ap (λ (xs : List ℕ). at_front xs file) (writable_bytes s ns rs sets room w)

  -- lists that are refused are told so, and change nothing
  pub refuse_tells : {k p : ℕ} → WriteRefuses s ns rs sets room k p → writing_told r ≡ writing_refused k p
  unfolding writing_told wrote
  refuse_tells x = told_by (refuses_checked s ns rs sets room x)

  pub write_keeps : {k p : ℕ} → WriteRefuses s ns rs sets room k p → file' ≡ file
  unfolding put_first
  write_keeps x = file_by (refuses_checked s ns rs sets room x)

  module _ (bytes : Bytes s) where
    -- a refusal is told exactly when one of its ways holds
    pub write_refuses : (k p : ℕ) → (writing_told r ≡ writing_refused k p) ↔ WriteRefuses s ns rs sets room k p
    write_refuses k p = (
      λ e. checked_refuses s ns rs sets room bytes k p
          (told_refused (lists_bytes s ns rs sets) (lists_some s ns rs sets) (write_check s ns rs sets room) k p (sym (told_by refl) ∙ e)),
      refuse_tells,
    )

    -- a length is told exactly if it is that of a file that is writable
    pub write_writes : Bytes sets → (n : ℕ) → 1 ≤ n → (writing_told r ≡ writing_written n) ↔ ((f : File) × Writable s ns rs sets room f × (n ≡ length (encode f)))
    write_writes sets_bytes n h = (
      λ e. let c = told_written (lists_bytes s ns rs sets) (write_check s ns rs sets room) n h (sym (told_by refl) ∙ e) in
          let w = fine_writable s ns rs sets room bytes sets_bytes c.0 in
          (w.0, w.1, c.1 ∙ ap length (writable_bytes s ns rs sets room w.1)),
      λ x. write_tells x.1 ∙ ap writing_written (sym x.2),
    )

---- One outcome ----

-- the contract of `write` leaves one answer and one content of the lent bytes
pub write_once : {s ns rs sets file f1 f2 : List ℕ} {a b : Result Size Refusal} → WrittenAs s ns rs sets file f1 a → WrittenAs s ns rs sets file f2 b → (a ≡ b) × (f1 ≡ f2)
write_once x y = (x.answer ∙ sym y.answer, x.file_after ∙ sym y.file_after)
