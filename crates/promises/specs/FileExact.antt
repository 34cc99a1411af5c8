-- The plan of the flow file reads exactly the files of the format that are within the limits, and finds what they hold: sections
-- that stand in a file are read back, and what is read stands there. Assumes nothing.
use Prim.Native.Nat.{ℕ, zero, suc, ◌+◌, ◌*◌, ◌/◌, ◌%◌, ◌≤◌, ◌<◌}
use mathlib.Core.List.{List, [], ◌∷◌, ◌++◌, append_assoc, append-nil}
use Rattle.std.specs.Prelude.{◌⊎◌, ◌≡◌, take, drop}
use Rattle.std.proofs.Common.{inl, inr, ◌∙◌}
use Rattle.std.proofs.Math.Path.{refl, ap, ap₂, sym, subst}
use native.Mathlib.Omega.{arith}
use Rattle.std.proofs.Math.ListN.{length, length-append}
use Rattle.flow.specs.Legends.{set_bytes, set_count}
use Rattle.format.specs.declared.Range.{Range}
use Rattle.format.specs.Format.{number_bytes, numbers_bytes, Entry, entry_bytes, entries_bytes, names_section, numbers_section, sets_section, File, encode}
use Rattle.format.specs.Plan.{Ran, got, bad, run}
use Rattle.format.specs.Sections.{number, ranged, name_count, node_count, record_count, sets_count, new_entry, entries, names, items, item_section, numbers_of, section, joint_sets, layout}
use Rattle.format.specs.Lengths.{number_bytes_length, numbers_bytes_length, section_of_some, sets_length}
use Rattle.format.specs.Limits.{InRange, GoodEntries, no_entries, one_entry, GoodNames, GoodNumbers, GoodSets, no_sets, some_sets, WithinLimits, Bytes, Stands}
use Rattle.format.specs.Items.{numbers_at, number_at}
use Rattle.format.specs.ItemLaws.{le_or_lt, got_value, got_next, got_not_bad, number_there, NumberThere, ranged_got, ranged_there}
use Rattle.format.specs.RunLaws.{items_got, items_from, item_section_there, sets_none, sets_some}
use Rattle.format.specs.SectionLaws.{names_bad, names_from, new_entry_got, new_entry_there, entries_bad, entries_more, section_got, section_there}
use Rattle.reader.specs.LayoutLaws.{layout_got, layout_runs}
use Rattle.promises.specs.SameNames.{not_among, not_met}
use Rattle.promises.specs.FileStands.{stands_nil, stands_move, stands_left, stands_right, stands_join, stands_take, taken_stands, stands_bytes, number_reads, number_stands, entry_reads, entry_stands}

-- the numbers that so many bytes are
numbers_are : (ns : List ℕ) → numbers_of (numbers_bytes ns) ≡ ns
unfolding numbers_of numbers_bytes number_bytes
numbers_are [] = refl
numbers_are (n ∷ ns) = let e : n % 256 + 256 * (n / 256) ≡ n = omega arith in ap₂ ◌∷◌ e (numbers_are ns)

-- what is known of good sets, where there are some
pub sets_whole : {sets : List ℕ} → GoodNumbers sets_count set_bytes sets
    → (length sets ≡ set_bytes * (1 * set_count sets)) × InRange sets_count (set_count sets) × (1 ≤ length sets)
sets_whole {sets} w =
    let d : w.n ≡ set_count sets = omega (arith, w.whole) in
    (omega (arith, w.whole), subst (InRange sets_count) d w.counted, omega (arith, w.whole, w.counted.low))

-- a file that ends after its records
abbrev pub without_sets : File → File
without_sets f = record { names = f.names; nodes = f.nodes; records = f.records; sets = [] }

pub encode_sets : (f : File) → encode f ≡ encode (without_sets f) ++ sets_section f.sets
unfolding encode sets_section
encode_sets f =
    let es = names_section f.names in
    let ns = numbers_section 3 f.nodes in
    let rs = numbers_section 1 f.records in
    let xs = sets_section f.sets in
    ap (λ (ys : List ℕ). es ++ (ns ++ (ys ++ xs))) (sym (append-nil rs)) ∙ ap (λ (ys : List ℕ). es ++ ys) (sym (append_assoc ns (rs ++ []) xs))
    ∙ sym (append_assoc es (ns ++ (rs ++ [])) xs)

module _ (s : List ℕ) where
  ---- Entries ----

  -- entries that stand in s are passed, whatever is to come behind them
  pub entries_pass : (at k : ℕ) {earlier es : List Entry} → GoodEntries earlier es → Stands s at (entries_bytes es)
      → run s at (entries (length es + k) earlier) ≡ run s (at + length (entries_bytes es)) (entries k (earlier ++ es))
  unfolding entries entries_bytes
  entries_pass at k {earlier} no_entries h =
      let e : at ≡ at + 0 = omega arith in
      let z : 0 + k ≡ k = omega arith in
      ap (λ (n : ℕ). run s at (entries n earlier)) z ∙ ap₂ (λ (n : ℕ) (gs : List Entry). run s n (entries k gs)) e (sym (append-nil earlier))
  entries_pass at k (one_entry {earlier} {e} {es} g n f) h =
      let a = entry_reads s at e g (stands_left s at (entry_bytes e) (entries_bytes es) h) in
      let b = stands_right s at (entry_bytes e) (entries_bytes es) h in
      let l : (at + length (entry_bytes e)) + length (entries_bytes es) ≡ at + length (entry_bytes e ++ entries_bytes es) =
      omega (arith, length-append (entry_bytes e) (entries_bytes es)) in
      let c : suc (length es) + k ≡ suc (length es + k) = omega arith in
      ap (λ (m : ℕ). run s at (entries m earlier)) c
      ∙ entries_more s at earlier (length es + k) (new_entry_got s at earlier a (not_among e earlier n))
      ∙ entries_pass (at + length (entry_bytes e)) k f b
      ∙ ap₂ (λ (m : ℕ) (gs : List Entry). run s m (entries k gs)) l (append_assoc earlier (e ∷ []) es)

  pub entries_read : (at : ℕ) {earlier es : List Entry} → GoodEntries earlier es → Stands s at (entries_bytes es)
      → run s at (entries (length es) earlier) ≡ got (earlier ++ es) (at + length (entries_bytes es))
  unfolding entries run
  entries_read at {earlier} {es} f h =
      let z : length es ≡ length es + 0 = omega arith in
      ap (λ (n : ℕ). run s at (entries n earlier)) z ∙ entries_pass at 0 f h

  pub record EntriesStand (k : ℕ) (earlier : List Entry) (at : ℕ) (es : List Entry) (next : ℕ) : Type 0 where
    pub later : List Entry
    pub is : es ≡ earlier ++ later
    pub sized : length later ≡ k
    pub follow : GoodEntries earlier later
    pub stands : Stands s at (entries_bytes later)
    pub ends : next ≡ at + length (entries_bytes later)

  pub entries_stand : (k at : ℕ) (earlier : List Entry) {es : List Entry} {next : ℕ} → at ≤ length s → run s at (entries k earlier) ≡ got es next
      → EntriesStand k earlier at es next
  unfolding entries run entries_bytes
  entries_stand zero at earlier l e =
      record {
        later = [];
        is = sym (got_value e) ∙ sym (append-nil earlier);
        sized = refl;
        follow = no_entries;
        stands = stands_nil s l;
        ends = omega (arith, got_next e);
      }
  entries_stand (suc k) at earlier {es} {next} l e = by (λ a g l' e'. entries_stand k a g l' e') (run s at (new_entry earlier)) refl
    where
      by : ((a : ℕ) (g : List Entry) → a ≤ length s → run s a (entries k g) ≡ got es next → EntriesStand k g a es next) → (x : Ran Entry)
          → run s at (new_entry earlier) ≡ x → EntriesStand (suc k) earlier at es next
      by rec (got g m) q =
          let t = new_entry_there s at earlier q in
          let w = entry_stands s at t.read in
          let r = rec m (earlier ++ (g ∷ [])) (omega (arith, w.ends, w.stands.inside)) (sym (entries_more s at earlier k q) ∙ e) in
          record {
            later = g ∷ r.later;
            is = r.is ∙ append_assoc earlier (g ∷ []) r.later;
            sized = ap suc r.sized;
            follow = one_entry w.good (not_met g earlier t.new) r.follow;
            stands = stands_join s at (entry_bytes g) (entries_bytes r.later) w.ends w.stands r.stands;
            ends = omega (arith, r.ends, w.ends, length-append (entry_bytes g) (entries_bytes r.later));
          }
      by rec (bad n p) q = got_not_bad e (entries_bad s at earlier k q)

  ---- Numbers ----

  -- items that stand in s are read
  pub items_read : (size k at : ℕ) (xs : List ℕ) → length xs ≡ size * k → Stands s at xs → run s at (items size k) ≡ got xs (at + length xs)
  items_read size k at xs l h =
      items_got s size k at (omega (arith, h.inside))
      ∙ ap₂ (λ (n m : ℕ). got (take n (drop at s)) m) (sym l) (omega arith) ∙ ap (λ (ys : List ℕ). got ys (at + length xs)) (stands_take s at xs h)

  values_stand : Bytes s → (k at : ℕ) → at + 2 * k ≤ length s → Stands s at (numbers_bytes (numbers_at s k at))
  unfolding numbers_at numbers_bytes number_bytes
  values_stand b zero at h = stands_nil s (omega arith)
  values_stand b (suc k) at h =
      let t : NumberThere s at (number_at s at) (at + 2) = record { is = refl; ends = refl; inside = omega arith } in
      stands_join s at (number_bytes (number_at s at)) (numbers_bytes (numbers_at s k (at + 2))) refl (number_stands s b at (number_at s at) (at + 2) t)
      (values_stand b k (at + 2) (omega arith))

  ---- The sections ----

  -- a count that stands in s, in its range, is read
  pub count_reads : (at : ℕ) (g : Range) (v : ℕ) → Stands s at (number_bytes v) → InRange g v → run s at (ranged g number) ≡ got v (at + 2)
  count_reads at g v h r = ranged_got s at g number (number_reads s at v h) r.low r.high

  -- a section of items: that so many stand behind their count
  pub item_section_reads : (at : ℕ) (g : Range) (size each n : ℕ) (xs : List ℕ) → length xs ≡ size * (each * n) → InRange g n
      → Stands s at (number_bytes n ++ xs) → run s at (item_section g size each) ≡ got xs (at + length (number_bytes n ++ xs))
  item_section_reads at g size each n xs w r h =
      let l = number_bytes_length n in
      let a = stands_left s at (number_bytes n) xs h in
      let b = stands_move s xs (ap (λ (k : ℕ). at + k) l) (stands_right s at (number_bytes n) xs h) in
      items_from s at g size each (count_reads at g n a r) ∙ items_read size (each * n) (at + 2) xs w b
      ∙ ap (got xs) (omega (arith, length-append (number_bytes n) xs))

  -- a section of numbers: how many there are, and that they stand behind their count
  pub section_reads : (at : ℕ) (g : Range) (each : ℕ) (ns : List ℕ) → length ns ≡ each * (length ns / each) → InRange g (length ns / each)
      → Stands s at (numbers_section each ns) → run s at (section g each) ≡ got ns (at + length (numbers_section each ns))
  unfolding numbers_section
  section_reads at g each ns w r h =
      let n = length ns / each in
      let l : length (numbers_bytes ns) ≡ 2 * (each * n) = numbers_bytes_length ns ∙ ap (λ (k : ℕ). 2 * k) w in
      section_got s at g each (item_section_reads at g 2 each n (numbers_bytes ns) l r h)
      ∙ ap (λ (xs : List ℕ). got xs (at + length (number_bytes n ++ numbers_bytes ns))) (numbers_are ns)

  pub record SectionStands (g : Range) (each at : ℕ) (ns : List ℕ) (next : ℕ) : Type 0 where
    pub n : ℕ
    pub whole : length ns ≡ each * n
    pub counted : InRange g n
    pub count_stands : Stands s at (number_bytes n)
    pub numbers_stand : Stands s (at + 2) (numbers_bytes ns)
    pub ends : next ≡ at + 2 + 2 * (each * n)

  pub section_stands : Bytes s → (at : ℕ) (g : Range) (each : ℕ) {ns : List ℕ} {next : ℕ} → run s at (section g each) ≡ got ns next → SectionStands g each at ns next
  section_stands b at g each {ns} {next} e =
      let t = section_there s at g each e in
      let u : NumberThere s at t.n (at + 2) = record { is = t.counted; ends = refl; inside = omega (arith, t.ends, t.inside) } in
      record {
        n = t.n;
        whole = t.sized;
        counted = record { low = t.low; high = t.high };
        count_stands = number_stands s b at t.n (at + 2) u;
        numbers_stand = subst (λ (xs : List ℕ). Stands s (at + 2) (numbers_bytes xs)) (sym t.is) (values_stand b (each * t.n) (at + 2) (omega (arith, t.ends, t.inside)));
        ends = t.ends;
      }

  -- the whole section, where so many numbers make n
  pub section_whole : {g : Range} {each at : ℕ} {ns : List ℕ} {next : ℕ} (t : SectionStands g each at ns next) → length ns / each ≡ t.n
      → Stands s at (numbers_section each ns) × (next ≡ at + length (numbers_section each ns))
  unfolding numbers_section
  section_whole {g} {each} {at} {ns} {next} t d =
      let n = length ns / each in
      let l = number_bytes_length n in
      let c : Stands s at (number_bytes n) = subst (λ (k : ℕ). Stands s at (number_bytes k)) (sym d) t.count_stands in
      let w : next ≡ at + 2 + 2 * length ns = t.ends ∙ ap (λ (k : ℕ). at + 2 + 2 * k) (sym t.whole) in (
        stands_join s at (number_bytes n) (numbers_bytes ns) (omega arith) c t.numbers_stand,
        omega (arith, length-append (number_bytes n) (numbers_bytes ns), numbers_bytes_length ns),
      )

  -- the sets, where there are some or the file ends
  pub sets_read : (at : ℕ) {sets : List ℕ} → GoodSets sets → Stands s at (sets_section sets) → (1 ≤ length sets) ⊎ (length s ≤ at + length (sets_section sets))
      → run s at joint_sets ≡ got sets (at + length (sets_section sets))
  unfolding sets_section
  sets_read at no_sets h (inl c) = absurd (omega arith)
  sets_read at no_sets h (inr c) = sets_none s at (omega arith) ∙ ap (got []) (omega arith)
  sets_read at (some_sets {sets} g b) h c =
      let w = sets_whole g in
      let e = section_of_some sets w.2 in
      sets_some s at (omega (arith, h.inside, sets_length sets w.2))
      ∙ item_section_reads at sets_count set_bytes 1 (set_count sets) sets w.0 w.1 (subst (λ (xs : List ℕ). Stands s at xs) e h)
      ∙ ap (λ (xs : List ℕ). got sets (at + length xs)) (sym e)

  pub record SetsStand (at : ℕ) (sets : List ℕ) (next : ℕ) : Type 0 where
    pub good : GoodSets sets
    pub stands : Stands s at (sets_section sets)
    pub ends : next ≡ at + length (sets_section sets)

  pub sets_stand : Bytes s → (at : ℕ) {sets : List ℕ} {next : ℕ} → at ≤ length s → run s at joint_sets ≡ got sets next → SetsStand at sets next
  unfolding sets_section
  sets_stand b at {sets} {next} l e = by (le_or_lt (length s) at)
    where
      by : (length s ≤ at) ⊎ (at < length s) → SetsStand at sets next
      by (inl h) =
          let g = sym (sets_none s at h) ∙ e in
          let none : SetsStand at [] next = record { good = no_sets; stands = stands_nil s l; ends = omega (arith, got_next g) } in
          subst (λ (xs : List ℕ). SetsStand at xs next) (got_value g) none
      by (inr h) =
          let t = item_section_there s at sets_count set_bytes 1 (sym (sets_some s at h) ∙ e) in
          let some : 1 ≤ length sets = omega (arith, t.sized, t.low) in
          let d : t.n ≡ set_count sets = omega (arith, t.sized) in
          let u : NumberThere s at t.n (at + 2) = record { is = t.counted; ends = refl; inside = omega (arith, t.ends, t.inside) } in
          let v : Stands s (at + 2) sets =
          subst (λ (xs : List ℕ). Stands s (at + 2) xs) (sym t.is) (taken_stands s (at + 2) (32 * (1 * t.n)) (omega (arith, t.ends, t.inside))) in
          let c : Stands s at (number_bytes (set_count sets)) = subst (λ (k : ℕ). Stands s at (number_bytes k)) d (number_stands s b at t.n (at + 2) u) in
          record {
            good = some_sets {sets = sets} (record { n = t.n; whole = omega (arith, t.sized); counted = record { low = t.low; high = t.high } }) (stands_bytes s b (at + 2) sets v);
            stands =
                subst (λ (xs : List ℕ). Stands s at xs) (sym (section_of_some sets some))
                (stands_join s at (number_bytes (set_count sets)) sets (omega (arith, number_bytes_length (set_count sets))) c v);
            ends = omega (arith, t.ends, t.sized, sets_length sets some);
          }

  pub names_read : {es : List Entry} → GoodNames es → Stands s 0 (names_section es) → run s 0 names ≡ got es (length (names_section es))
  unfolding names_section number_bytes
  names_read {es} f h =
      let a = stands_left s 0 (number_bytes (length es)) (entries_bytes es) h in
      let b = stands_right s 0 (number_bytes (length es)) (entries_bytes es) h in
      names_from s (count_reads 0 name_count (length es) a f.counted) ∙ entries_read 2 f.entries b
      ∙ ap (got es) (sym (length-append (number_bytes (length es)) (entries_bytes es)))

  -- good names stand at the start of s, and end at an offset
  pub record NamesStand (es : List Entry) (next : ℕ) : Type 0 where
    pub good : GoodNames es
    pub stands : Stands s 0 (names_section es)
    pub ends : next ≡ length (names_section es)

  pub names_stand : Bytes s → {es : List Entry} {next : ℕ} → run s 0 names ≡ got es next → NamesStand es next
  unfolding names_section number_bytes
  names_stand b {es} {next} e = by (run s 0 (ranged name_count number)) refl
    where
      by : (x : Ran ℕ) → run s 0 (ranged name_count number) ≡ x → NamesStand es next
      by (got v m) q =
          let t = ranged_there s 0 name_count number q in
          let w = number_there s 0 t.read in
          let r = entries_stand v m [] (omega (arith, w.ends, w.inside)) (sym (names_from s q) ∙ e) in
          let n : length es ≡ v = ap length r.is ∙ r.sized in
          let c : Stands s 0 (number_bytes (length es)) = subst (λ (k : ℕ). Stands s 0 (number_bytes k)) (sym n) (number_stands s b 0 v m w) in
          let d : Stands s m (entries_bytes es) = subst (λ (gs : List Entry). Stands s m (entries_bytes gs)) (sym r.is) r.stands in
          record {
            good =
                record {
                  counted = record { low = omega arith; high = omega (arith, t.high) };
                  entries = subst (λ (gs : List Entry). GoodEntries [] gs) (sym r.is) r.follow;
                };
            stands = stands_join s 0 (number_bytes (length es)) (entries_bytes es) w.ends c d;
            ends =
                r.ends ∙ ap₂ (λ (k : ℕ) (gs : List Entry). k + length (entries_bytes gs)) w.ends (sym r.is)
                ∙ sym (length-append (number_bytes (length es)) (entries_bytes es));
          }
      by (bad n p) q = got_not_bad e (names_bad s q)

  ---- The file ----

  -- what is known of good numbers: three to a node, one to a record
  pub nodes_whole : {g : Range} {ns : List ℕ} → GoodNumbers g 3 ns → (length ns ≡ 3 * (length ns / 3)) × InRange g (length ns / 3)
  nodes_whole {g} {ns} w =
      let d : w.n ≡ length ns / 3 = omega (arith, w.whole) in
      (omega (arith, w.whole), subst (InRange g) d w.counted)

  pub records_whole : {g : Range} {ns : List ℕ} → GoodNumbers g 1 ns → (length ns ≡ 1 * (length ns / 1)) × InRange g (length ns / 1)
  records_whole {g} {ns} w =
      let d : w.n ≡ length ns / 1 = omega (arith, w.whole) in
      (omega (arith, w.whole), subst (InRange g) d w.counted)

  -- names and nodes stand at the start of s, and end at an offset
  pub record NodesStand (es : List Entry) (ns : List ℕ) (next : ℕ) : Type 0 where
    pub names_good : GoodNames es
    pub nodes_good : GoodNumbers node_count 3 ns
    pub stands : Stands s 0 (names_section es ++ numbers_section 3 ns)
    pub ends : next ≡ length (names_section es ++ numbers_section 3 ns)

  -- the runs of names and nodes that stand in s
  pub nodes_read : {es : List Entry} {ns : List ℕ} → GoodNames es → GoodNumbers node_count 3 ns → Stands s 0 (names_section es ++ numbers_section 3 ns)
      → (run s 0 names ≡ got es (length (names_section es)))
      × (run s (length (names_section es)) (section node_count 3) ≡ got ns (length (names_section es ++ numbers_section 3 ns)))
  nodes_read {es} {ns} g w h =
      let a = stands_left s 0 (names_section es) (numbers_section 3 ns) h in
      let b = stands_right s 0 (names_section es) (numbers_section 3 ns) h in
      let e : 0 + length (names_section es) ≡ length (names_section es) = omega arith in
      let v = nodes_whole w in (
        names_read g a,
        section_reads (length (names_section es)) node_count 3 ns v.0 v.1 (stands_move s (numbers_section 3 ns) e b)
            ∙ ap (got ns) (sym (length-append (names_section es) (numbers_section 3 ns))),
      )

  pub nodes_stand : Bytes s → {es : List Entry} {ns : List ℕ} {from next : ℕ} → run s 0 names ≡ got es from → run s from (section node_count 3) ≡ got ns next → NodesStand es ns next
  nodes_stand b {es} {ns} {from} {next} p q =
      let a = names_stand b p in
      let t = section_stands b from node_count 3 q in
      let c = section_whole t (omega (arith, t.whole)) in
      let e : from ≡ 0 + length (names_section es) = omega (arith, a.ends) in
      record {
        names_good = a.good;
        nodes_good = record { n = t.n; whole = t.whole; counted = t.counted };
        stands = stands_join s 0 (names_section es) (numbers_section 3 ns) e a.stands c.0;
        ends = omega (arith, a.ends, c.1, length-append (names_section es) (numbers_section 3 ns));
      }

  -- a file of the format within the limits stands at the start of s, and ends at an offset
  pub record FileStands (f : File) (end : ℕ) : Type 0 where
    pub within : WithinLimits f
    pub stands : Stands s 0 (encode f)
    pub ends : end ≡ length (encode f)

  -- the parts of a file that stands in s, each read
  pub record Parts (f : File) : Type 0 where
    pub from : ℕ
    pub mid : ℕ
    pub last : ℕ
    pub names_stand_at : Stands s 0 (names_section f.names)
    pub names_run : run s 0 names ≡ got f.names from
    pub nodes_stand_at : Stands s from (numbers_section 3 f.nodes)
    pub nodes_run : run s from (section node_count 3) ≡ got f.nodes mid
    pub records_stand_at : Stands s mid (numbers_section 1 f.records)
    pub records_run : run s mid (section record_count 1) ≡ got f.records last
    pub sets_stand_at : Stands s last (sets_section f.sets)
    pub ends : last + length (sets_section f.sets) ≡ length (encode f)

  pub layout_parts : (f : File) → WithinLimits f → Stands s 0 (encode f) → Parts f
  unfolding encode
  layout_parts f w h =
      let es = names_section f.names in
      let ns = numbers_section 3 f.nodes in
      let rs = numbers_section 1 f.records in
      let xs = sets_section f.sets in
      let a = stands_left s 0 (es ++ ns) (rs ++ xs) (subst (λ (ys : List ℕ). Stands s 0 ys) (sym (append_assoc es ns (rs ++ xs))) h) in
      let c = stands_right s 0 (es ++ ns) (rs ++ xs) (subst (λ (ys : List ℕ). Stands s 0 ys) (sym (append_assoc es ns (rs ++ xs))) h) in
      let r = nodes_read w.names w.nodes a in
      let v = records_whole w.records in
      let e1 : 0 + length es ≡ length es = omega arith in
      let e2 : 0 + length (es ++ ns) ≡ length (es ++ ns) = omega arith in
      let behind = stands_move s (rs ++ xs) e2 c in
      let records = stands_left s (length (es ++ ns)) rs xs behind in
      record {
        from = length es;
        mid = length (es ++ ns);
        last = length (es ++ ns) + length rs;
        names_stand_at = stands_left s 0 es ns a;
        names_run = r.0;
        nodes_stand_at = stands_move s ns e1 (stands_right s 0 es ns a);
        nodes_run = r.1;
        records_stand_at = records;
        records_run = section_reads (length (es ++ ns)) record_count 1 f.records v.0 v.1 records;
        sets_stand_at = stands_right s (length (es ++ ns)) rs xs behind;
        ends = omega (arith, length-append es ns, length-append rs xs, length-append ns (rs ++ xs), length-append es (ns ++ (rs ++ xs)));
      }

  -- a file that stands in s is read, if it has sets or nothing follows: behind the records of one without, a fourth section is looked for
  pub layout_reads : (f : File) → WithinLimits f → Stands s 0 (encode f) → (1 ≤ length f.sets) ⊎ (length s ≤ length (encode f))
      → run s 0 layout ≡ got f (length (encode f))
  layout_reads f w h c =
      let p = layout_parts f w h in
      layout_got s p.names_run p.nodes_run p.records_run (sets_read p.last w.sets p.sets_stand_at (by p c)) ∙ ap (got f) p.ends
    where
      by : (p : Parts f) → (1 ≤ length f.sets) ⊎ (length s ≤ length (encode f)) → (1 ≤ length f.sets) ⊎ (length s ≤ p.last + length (sets_section f.sets))
      by p (inl a) = inl a
      by p (inr a) = inr (omega (arith, p.ends))

  -- names, nodes and records that are read are a file without sets that stands in s
  pub records_stand : Bytes s → {es : List Entry} {ns rs : List ℕ} {from mid last : ℕ} → run s 0 names ≡ got es from
      → run s from (section node_count 3) ≡ got ns mid → run s mid (section record_count 1) ≡ got rs last
      → FileStands (record { names = es; nodes = ns; records = rs; sets = [] }) last
  unfolding encode sets_section
  records_stand b {es} {ns} {rs} {from} {mid} {last} p q r =
      let xs = names_section es in
      let ys = numbers_section 3 ns in
      let zs = numbers_section 1 rs in
      let a = nodes_stand b p q in
      let t = section_stands b mid record_count 1 r in
      let c = section_whole t (omega (arith, t.whole)) in
      let d : mid ≡ 0 + length (xs ++ ys) = omega (arith, a.ends) in
      let e : (xs ++ ys) ++ zs ≡ xs ++ (ys ++ (zs ++ [])) = append_assoc xs ys zs ∙ ap (λ (us : List ℕ). xs ++ (ys ++ us)) (sym (append-nil zs)) in
      record {
        within = record { names = a.names_good; nodes = a.nodes_good; records = record { n = t.n; whole = t.whole; counted = t.counted }; sets = no_sets };
        stands = subst (λ (us : List ℕ). Stands s 0 us) e (stands_join s 0 (xs ++ ys) zs d a.stands c.0);
        ends = omega (arith, a.ends, c.1, length-append (xs ++ ys) zs, ap length e);
      }

  -- a file that is read stands in s
  pub layout_stands : Bytes s → {f : File} {end : ℕ} → run s 0 layout ≡ got f end → FileStands f end
  layout_stands b {f} {end} e =
      let l = layout_runs s e in
      let a = records_stand b l.names_run l.nodes_run l.records_run in
      let t = sets_stand b l.last (omega (arith, a.ends, a.stands.inside)) l.sets_run in
      let d = encode_sets f in
      let q : l.last ≡ 0 + length (encode (without_sets f)) = omega (arith, a.ends) in
      record {
        within = record { names = a.within.names; nodes = a.within.nodes; records = a.within.records; sets = t.good };
        stands = subst (λ (xs : List ℕ). Stands s 0 xs) (sym d) (stands_join s 0 (encode (without_sets f)) (sets_section f.sets) q a.stands t.stands);
        ends = omega (arith, a.ends, t.ends, length-append (encode (without_sets f)) (sets_section f.sets), ap length d);
      }
