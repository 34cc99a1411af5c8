-- What the plans of entries, names and sections of numbers come to, by the runs of their parts. Assumes nothing.
use Prim.Native.Nat.{ℕ, zero, suc, ◌+◌, ◌*◌, ◌-◌, ◌≤◌, ◌<◌}
use Rattle.std.specs.Prelude.{Bool, true, false, cond, ◌≡◌, take, set}
use mathlib.Core.List.{List, [], ◌∷◌, ◌++◌, append_assoc}
use Rattle.std.proofs.Math.Path.{refl, ap, ap₂}
use Rattle.std.proofs.Common.{sym, ◌∙◌, subst, add-one, length-append, length-drop, take_at}
use native.Mathlib.Omega.{arith}
use Rattle.std.proofs.Math.ListN.{length, get_or, drop}
use Rattle.std.proofs.Math.Seq.{drop-cons}
use Rattle.std.proofs.lemmas.List.{set_at}
use Rattle.format.specs.declared.Range.{Range}
use Rattle.format.specs.Format.{number_bytes, Entry, name_bytes, entry_bytes, entries_bytes, names_section, numbers_section}
use Rattle.format.specs.Plan.{Plan, done, refuse, Ran, got, bad, run}
use Rattle.format.specs.Plans.{bind_bad, bind_got}
use Rattle.format.specs.Sections.{number, ranged, name_count, entry, met, new_entry, entries, names, count_by, item_section, numbers_of, section}
use Rattle.format.specs.Lengths.{section_length}
use Rattle.format.specs.Items.{as_item, number_at, numbers_at, at_front, name_end, entry_at, entry_end, entries_at, entries_end}
use Rattle.format.specs.ItemLaws.{got_value, got_next, item_bad, item_got, number_there, ranged_there, name_length, entry_there, got_not_bad}
use Rattle.format.specs.RunLaws.{item_section_there}
pub use Rattle.format.specs.There.{NewThere, Scanned, SectionThere, NamesThere}

---- At the front of a table ----

-- one number more
pub front_set : (ns : List ℕ) (v : ℕ) (table : List ℕ) {i : ℕ} → length ns ≡ i → i < length table → set (at_front ns table) i v ≡ at_front (ns ++ (v ∷ [])) table
front_set ns v table {i} n h =
    let there : at_front ns table ≡ ns ++ (get_or table i 0 ∷ drop (suc i) table) =
    ap (λ (k : ℕ). ns ++ drop k table) n ∙ ap (λ (xs : List ℕ). ns ++ xs) (drop-cons table i 0 h) in
    let sized : length (ns ++ (v ∷ [])) ≡ suc i = omega (arith, length-append ns (v ∷ [])) in
    ap (λ (xs : List ℕ). set xs i v) there ∙ set_at ns (get_or table i 0) (drop (suc i) table) v i n
    ∙ sym (ap (λ (k : ℕ). (ns ++ (v ∷ [])) ++ drop k table) sized ∙ append_assoc ns (v ∷ []) (drop (suc i) table))

---- Numbers ----

module _ (s : List ℕ) where
  pub numbers_at_length : (k at : ℕ) → length (numbers_at s k at) ≡ k
  unfolding numbers_at
  numbers_at_length zero at = refl
  numbers_at_length (suc k) at = ap suc (numbers_at_length k (at + 2))

  -- the bytes of so many numbers
  pub numbers_of_at : (k at : ℕ) → at + 2 * k ≤ length s → numbers_of (take (2 * k) (drop at s)) ≡ numbers_at s k at
  unfolding numbers_of numbers_at
  numbers_of_at zero at h = refl
  numbers_of_at (suc k) at h =
      let two : 2 * suc k ≡ suc (suc (2 * k)) = omega arith in
      let e : suc (at + 1) ≡ at + 2 = omega arith in
      let here : drop at s ≡ get_or s at 0 ∷ (get_or s (at + 1) 0 ∷ drop (at + 2) s) =
      drop-cons s at 0 (omega arith) ∙ ap (λ (n : ℕ). get_or s at 0 ∷ drop n s) (sym (add-one at))
      ∙ ap (λ (xs : List ℕ). get_or s at 0 ∷ xs) (drop-cons s (at + 1) 0 (omega arith) ∙ ap (λ (n : ℕ). get_or s (at + 1) 0 ∷ drop n s) e) in
      ap₂ (λ (n : ℕ) (bs : List ℕ). numbers_of (take n bs)) two here ∙ ap (λ (ns : List ℕ). number_at s at ∷ ns) (numbers_of_at k (at + 2) (omega arith))

  pub numbers_at_more : (k at : ℕ) → numbers_at s (suc k) at ≡ numbers_at s k at ++ (number_at s (at + 2 * k) ∷ [])
  unfolding numbers_at
  numbers_at_more zero at = ap (λ (n : ℕ). number_at s n ∷ []) (omega arith)
  numbers_at_more (suc k) at =
      ap (λ (ns : List ℕ). number_at s at ∷ ns)
      (numbers_at_more k (at + 2) ∙ ap (λ (n : ℕ). numbers_at s k (at + 2) ++ (number_at s n ∷ [])) (omega arith))

  -- one number more at the front of a table
  pub front_more : (i at : ℕ) (table : List ℕ) → i < length table
      → set (at_front (numbers_at s i at) table) i (number_at s (at + 2 * i)) ≡ at_front (numbers_at s (i + 1) at) table
  front_more i at table h =
      let more : numbers_at s (i + 1) at ≡ numbers_at s i at ++ (number_at s (at + 2 * i) ∷ []) = ap (λ (k : ℕ). numbers_at s k at) (add-one i) ∙ numbers_at_more i at in
      front_set (numbers_at s i at) (number_at s (at + 2 * i)) table (numbers_at_length i at) h ∙ ap (λ (ns : List ℕ). at_front ns table) (sym more)

  pub front_length_is : (k at : ℕ) (table : List ℕ) → k ≤ length table → length (at_front (numbers_at s k at) table) ≡ length table
  front_length_is k at table h =
      length-append (numbers_at s k at) (drop (length (numbers_at s k at)) table)
      ∙ ap₂ (λ (a b : ℕ). a + b) (numbers_at_length k at) (length-drop (length (numbers_at s k at)) table ∙ ap (λ (n : ℕ). length table - n) (numbers_at_length k at))
      ∙ omega arith

  ---- Entries ----

  pub entries_at_more : (i at : ℕ) → entries_at s (suc i) at ≡ entries_at s i at ++ (entry_at s (entries_end s i at) ∷ [])
  unfolding entries_at entries_end
  entries_at_more zero at = refl
  entries_at_more (suc i) at = ap (λ (es : List Entry). entry_at s at ∷ es) (entries_at_more i (entry_end s at))

  pub entries_end_more : (i at : ℕ) → entries_end s (suc i) at ≡ entry_end s (entries_end s i at)
  unfolding entries_end
  entries_end_more zero at = refl
  entries_end_more (suc i) at = entries_end_more i (entry_end s at)

  -- the walk goes forward
  pub entries_end_le : (i at : ℕ) → at ≤ entries_end s i at
  unfolding entries_end
  entries_end_le zero at = omega arith
  entries_end_le (suc i) at = omega (arith, entries_end_le i (entry_end s at))

module _ (s : List ℕ) (at : ℕ) (earlier : List Entry) where
  fresh : Entry → Plan Entry
  fresh e = cond (met e earlier) (refuse 18 at) (done e)

  pub new_entry_bad : {n p : ℕ} → run s at entry ≡ bad n p → run s at (new_entry earlier) ≡ bad n p
  unfolding new_entry run fresh
  new_entry_bad e = bind_bad s at entry fresh e

  module _ {e : Entry} {next : ℕ} (h : run s at entry ≡ got e next) where
    pub new_entry_met : met e earlier ≡ true → run s at (new_entry earlier) ≡ bad 18 at
    unfolding new_entry run fresh
    new_entry_met m = bind_got s at entry fresh h ∙ rw m

    pub new_entry_got : met e earlier ≡ false → run s at (new_entry earlier) ≡ got e next
    unfolding new_entry run fresh
    new_entry_got m = bind_got s at entry fresh h ∙ rw m

  pub new_entry_there : {e : Entry} {next : ℕ} → run s at (new_entry earlier) ≡ got e next → NewThere s at earlier e next
  new_entry_there {e} {next} h = by_entry (run s at entry) refl
    where
      by_met : {g : Entry} {last : ℕ} → run s at entry ≡ got g last → (b : Bool) → met g earlier ≡ b → NewThere s at earlier e next
      by_met a true m = got_not_bad h (new_entry_met a m)
      by_met {g} {last} a false m =
          let q : got g last ≡ got e next = sym (new_entry_got a m) ∙ h in
          let d : g ≡ e = got_value q in
          record { read = a ∙ q; there = entry_there s at (a ∙ q); new = subst (λ (x : Entry). met x earlier ≡ false) d m }

      by_entry : (x : Ran Entry) → run s at entry ≡ x → NewThere s at earlier e next
      by_entry (got g last) a = by_met a (met g earlier) refl
      by_entry (bad k p) a = got_not_bad h (new_entry_bad a)

  then_more : ℕ → Entry → Plan (List Entry)
  then_more k e = entries k (earlier ++ (e ∷ []))

  pub entries_bad : (k : ℕ) {n p : ℕ} → run s at (new_entry earlier) ≡ bad n p → run s at (entries (suc k) earlier) ≡ bad n p
  unfolding entries then_more
  entries_bad k e = bind_bad s at (new_entry earlier) (then_more k) e

  pub entries_more : (k : ℕ) {e : Entry} {next : ℕ} → run s at (new_entry earlier) ≡ got e next
      → run s at (entries (suc k) earlier) ≡ run s next (entries k (earlier ++ (e ∷ [])))
  unfolding entries then_more
  entries_more k h = bind_got s at (new_entry earlier) (then_more k) h

---- The names section ----

module _ (s : List ℕ) where
  all_entries : ℕ → Plan (List Entry)
  all_entries n = entries n []

  pub names_bad : {n p : ℕ} → run s 0 (ranged name_count number) ≡ bad n p → run s 0 names ≡ bad n p
  unfolding names all_entries
  names_bad e = bind_bad s 0 (ranged name_count number) all_entries e

  pub names_from : {v next : ℕ} → run s 0 (ranged name_count number) ≡ got v next → run s 0 names ≡ run s next (entries v [])
  unfolding names all_entries
  names_from e = bind_got s 0 (ranged name_count number) all_entries e

  pub entries_at_length : (k at : ℕ) → length (entries_at s k at) ≡ k
  unfolding entries_at
  entries_at_length zero at = refl
  entries_at_length (suc k) at = ap suc (entries_at_length k (entry_end s at))

---- The names scan ----

module _ (s : List ℕ) where
  pub scan_start : {v next : ℕ} → run s 0 (ranged name_count number) ≡ got v next → Scanned s v 0 next
  unfolding entries_at entries_end
  scan_start {v} {next} e =
      let t = ranged_there s 0 name_count number e in
      let n = number_there s 0 t.read in
      let z : v - 0 ≡ v = omega arith in
      record {
        some = omega arith;
        few = t.high;
        here = n.ends;
        near = omega (arith, n.ends);
        inside = omega (arith, n.ends, n.inside);
        goes_on = names_from s e ∙ ap (λ (k : ℕ). run s next (entries k [])) (sym z);
      }

  module _ {n i at : ℕ} (h : Scanned s n i at) where
    module _ (l : i < n) where
      left_over : n - i ≡ suc (n - (i + 1))
      left_over = omega arith

      pub scan_stop : {k p : ℕ} → run s at (new_entry (entries_at s i 2)) ≡ bad k p → run s 0 names ≡ bad k p
      scan_stop e =
          h.goes_on ∙ ap (λ (k : ℕ). run s at (entries k (entries_at s i 2))) left_over
          ∙ entries_bad s at (entries_at s i 2) (n - (i + 1)) e

      pub scan_more : {e : Entry} {next : ℕ} → run s at (new_entry (entries_at s i 2)) ≡ got e next → Scanned s n (i + 1) next
      scan_more {e} {next} g =
          let t = (new_entry_there s at (entries_at s i 2) g).there in
          let d : e ≡ entry_at s (entries_end s i 2) = t.is ∙ ap (entry_at s) h.here in
          let more : entries_at s (i + 1) 2 ≡ entries_at s i 2 ++ (e ∷ []) =
          ap (λ (k : ℕ). entries_at s k 2) (add-one i) ∙ entries_at_more s i 2 ∙ ap (λ (x : Entry). entries_at s i 2 ++ (x ∷ [])) (sym d) in
          record {
            some = omega arith;
            few = h.few;
            here = t.ends ∙ ap (entry_end s) h.here ∙ sym (entries_end_more s i 2) ∙ ap (λ (k : ℕ). entries_end s k 2) (sym (add-one i));
            near = omega (arith, t.ends, t.short, h.near);
            inside = omega (arith, t.ends, t.inside);
            goes_on =
                h.goes_on ∙ ap (λ (k : ℕ). run s at (entries k (entries_at s i 2))) left_over
                ∙ entries_more s at (entries_at s i 2) (n - (i + 1)) g
                ∙ ap (λ (es : List Entry). run s next (entries (n - (i + 1)) es)) (sym more);
          }

    pub scan_end : n ≤ i → run s 0 names ≡ got (entries_at s n 2) at
    unfolding entries run
    scan_end l =
        let z : n - i ≡ 0 = omega arith in
        let e : i ≡ n = omega (arith, h.some) in
        h.goes_on ∙ ap₂ (λ (k j : ℕ). run s at (entries k (entries_at s j 2))) z e

module _ (s : List ℕ) where
  pub front_is : (k at : ℕ) (table : List ℕ) {table' : List ℕ} → table' ≡ at_front (numbers_at s k at) table → take k table' ≡ numbers_at s k at
  front_is k at table e = ap (take k) e ∙ take_at (numbers_at s k at) (drop (length (numbers_at s k at)) table) k (numbers_at_length s k at)

  pub front_length : (k at : ℕ) (table : List ℕ) {table' : List ℕ} → table' ≡ at_front (numbers_at s k at) table → length (take k table') ≡ k
  front_length k at table e = ap length (front_is k at table e) ∙ numbers_at_length s k at

---- A section of numbers ----

-- two bytes are one number
numbers_of_length : (bs : List ℕ) → length (numbers_of bs) ≡ count_by 2 bs
unfolding numbers_of
numbers_of_length [] = refl
numbers_of_length (a ∷ []) = refl
numbers_of_length (a ∷ b ∷ bs) = omega (arith, numbers_of_length bs)

module _ (s : List ℕ) (at : ℕ) (g : Range) (each : ℕ) where
  as_numbers : List ℕ → Plan (List ℕ)
  as_numbers bs = done (numbers_of bs)

  pub section_bad : {n p : ℕ} → run s at (item_section g 2 each) ≡ bad n p → run s at (section g each) ≡ bad n p
  unfolding section as_numbers
  section_bad e = bind_bad s at (item_section g 2 each) as_numbers e

  pub section_got : {bs : List ℕ} {next : ℕ} → run s at (item_section g 2 each) ≡ got bs next → run s at (section g each) ≡ got (numbers_of bs) next
  unfolding section as_numbers run
  section_got e = bind_got s at (item_section g 2 each) as_numbers e

  -- as items, there are as many
  pub section_item : as_item (count_by 2) (run s at (item_section g 2 each)) ≡ as_item length (run s at (section g each))
  unfolding as_item
  section_item = by (run s at (item_section g 2 each)) refl
    where
      by : (x : Ran (List ℕ)) → run s at (item_section g 2 each) ≡ x → as_item (count_by 2) x ≡ as_item length (run s at (section g each))
      by (got bs next) e = item_got length _ (sym (numbers_of_length bs)) refl (section_got e)
      by (bad n p) e = item_bad length _ refl (section_bad e)

  pub section_there : {ns : List ℕ} {next : ℕ} → run s at (section g each) ≡ got ns next → SectionThere s at g each ns next
  section_there {ns} {next} e = by (run s at (item_section g 2 each)) refl
    where
      by : (x : Ran (List ℕ)) → run s at (item_section g 2 each) ≡ x → SectionThere s at g each ns next
      by (got bs m) a =
          let q : got ns next ≡ got (numbers_of bs) m = sym e ∙ section_got a in
          let t = item_section_there s at g 2 each a in
          let is : ns ≡ numbers_at s (each * t.n) (at + 2) = got_value q ∙ ap numbers_of t.is ∙ numbers_of_at s (each * t.n) (at + 2) (omega (arith, t.ends, t.inside)) in
          record {
            n = t.n;
            counted = t.counted;
            low = t.low;
            high = t.high;
            is = is;
            sized = ap length is ∙ numbers_at_length s (each * t.n) (at + 2);
            ends = got_next q ∙ t.ends;
            inside = omega (arith, got_next q, t.inside);
          }
      by (bad k p) a = got_not_bad e (section_bad a)

  -- it ends where its bytes do
  pub section_end : {ns : List ℕ} {next : ℕ} → run s at (section g each) ≡ got ns next → next ≡ at + length (numbers_section each ns)
  section_end {ns} e = let t = section_there e in omega (arith, t.ends, t.sized, section_length each ns)

---- Names that were read ----

-- so many entries end where their bytes do
entries_end_is : (s : List ℕ) (k at : ℕ) → entries_end s k at ≤ length s → entries_end s k at ≡ at + length (entries_bytes (entries_at s k at))
unfolding entries_at entries_end entries_bytes entry_bytes name_bytes
entries_end_is s zero at h = omega arith
entries_end_is s (suc k) at h =
    let e = entry_at s at in
    let rest = entries_bytes (entries_at s k (entry_end s at)) in
    let inside = entries_end_le s k (entry_end s at) in
    let step = name_length s at (omega arith) in
    let machine = name_length s (name_end s at) (omega arith) in
    omega (arith, entries_end_is s k (entry_end s at) h, length-append (entry_bytes e) rest, length-append (name_bytes e.step) (name_bytes e.machine))

module _ (s : List ℕ) {es : List Entry} {next : ℕ} (e : run s 0 names ≡ got es next) where
  scan_all : (k : ℕ) {n i at : ℕ} → Scanned s n i at → n - i ≡ k → NamesThere s es next
  scan_all zero {n} {i} {at} h z =
      let g : got es next ≡ got (entries_at s n 2) at = sym e ∙ scan_end s h (omega arith) in
      let d : length es ≡ n = ap length (got_value g) ∙ entries_at_length s n 2 in
      let d' : i ≡ n = omega (arith, h.some) in
      record {
        is = got_value g ∙ ap (λ (k : ℕ). entries_at s k 2) (sym d);
        ends = got_next g ∙ h.here ∙ ap (λ (k : ℕ). entries_end s k 2) (d' ∙ sym d);
        few = omega (arith, h.few);
        near = omega (arith, h.near, got_next g);
        inside = omega (arith, h.inside, got_next g);
      }
  scan_all (suc k) {n} {i} {at} h z = by (λ j m h' z'. scan_all k h' z') (run s at (new_entry (entries_at s i 2))) refl
    where
      by : ((j m : ℕ) → Scanned s n j m → n - j ≡ k → NamesThere s es next) → (x : Ran Entry) → run s at (new_entry (entries_at s i 2)) ≡ x → NamesThere s es next
      by rec (got g m) a = rec (i + 1) m (scan_more s h (omega arith) a) (omega arith)
      by rec (bad n' p) a = got_not_bad e (scan_stop s h (omega arith) a)

  pub names_there : NamesThere s es next
  names_there = by_count (run s 0 (ranged name_count number)) refl
    where
      by_count : (x : Ran ℕ) → run s 0 (ranged name_count number) ≡ x → NamesThere s es next
      by_count (got v m) a = scan_all (v - 0) (scan_start s a) refl
      by_count (bad n p) a = got_not_bad e (names_bad s a)

  pub names_end : next ≡ length (names_section es)
  unfolding names_section number_bytes
  names_end =
      let t = names_there in
      let e : length (entries_bytes es) ≡ length (entries_bytes (entries_at s (length es) 2)) = ap (λ (gs : List Entry). length (entries_bytes gs)) t.is in
      omega (arith, t.ends, entries_end_is s (length es) 2 (omega (arith, t.ends, t.inside)))
