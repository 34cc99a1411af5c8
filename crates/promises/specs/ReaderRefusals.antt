-- The reader refuses exactly as Faults says: each way of a refusal is answered with its number and place, and every refusal is one
-- of these ways. Assumes nothing.
use Prim.Native.Nat.{ℕ, zero, suc, ◌+◌, ◌*◌, ◌-◌, ◌≤◌, ◌<◌}
use Rattle.std.specs.Prelude.{Bool, true, false, ◌⊎◌, ◌↔◌, Result, Err, get_or, drop}
use mathlib.Core.List.Memᴰ
use mathlib.Core.List.{List, [], ◌∷◌, ◌++◌, append_assoc, append-nil, Memᴰ}
use Rattle.std.proofs.Common.{inl, inr, sym, ◌∙◌, add-one, arith, lt-ltb, length-append, drop-cons}
use Rattle.std.proofs.Math.Path.{◌≡◌, refl, ap, subst}
use Rattle.std.proofs.Math.ListN.{length}
use Rattle.flow.specs.declared.Refusal.{Refusal}
use Rattle.flow.specs.Legends.{set_bytes}
use Rattle.format.specs.declared.Range.{Range}
use Rattle.format.specs.Format.{number_bytes, Entry, name_bytes, entry_bytes, entries_bytes, names_section, numbers_section, sets_section, File, encode}
use Rattle.format.specs.Plan.{Plan, Ran, got, bad, run}
use Rattle.format.specs.Sections.{byte, number, ranged, step_length, machine_length, name_count, node_count, record_count, sets_count, name, entry, met, new_entry, entries, names, item_section, section, joint_sets, layout}
use Rattle.format.specs.Limits.{InRange, GoodEntry, GoodEntries, no_entries, one_entry, Bytes, Stands}
use Rattle.format.specs.Lengths.{number_bytes_length, section_of_none}
use Rattle.format.specs.Items.{refusal_of, number_at}
use Rattle.format.specs.ItemLaws.{le_or_lt, got_next, got_not_bad, byte_cut, byte_got, number_cut, number_there, ranged_bad, ranged_few, ranged_many, ranged_got, ranged_there, name_length_bad, name_cut, name_whole, name_there, length_there, entry_step_bad, entry_machine_bad, entry_got}
use Rattle.format.specs.RunLaws.{items_got, items_stop, items_cut, items_count_bad, items_from, item_section_there, sets_none, sets_some}
use Rattle.format.specs.SectionLaws.{names_bad, names_from, new_entry_bad, new_entry_met, new_entry_got, new_entry_there, entries_bad, entries_more, section_bad, section_got}
use Rattle.reader.specs.declared.Counts.{Counts}
use Rattle.reader.specs.Reading.{Report, reported, Outcome, refused_outcome, checked, laid, reading}
use Rattle.reader.specs.Faults.{RangeFault, cut_count, below, above, NameFault, in_length, cut_bytes, EntryFault, in_step, in_machine, Entering, NamesFault, in_name_count, in_entry, met_again, SectionFault, in_count, cut_item, LayoutFault, in_names, in_nodes, in_records, in_sets, Refuses, no_node_room, no_record_room, in_layout, too_long, in_contents}
use Rattle.reader.specs.LayoutLaws.{layout_names_bad, layout_nodes_bad, layout_records_bad, layout_sets_bad, layout_got, layout_runs}
use Rattle.reader.specs.ReaderLaws.{reading_short, reading_laid, laid_checked, Way, few_nodes, few_records, stopped, longer, faulty, whole, way, read_not_refused}
use Rattle.promises.specs.SameNames.{met_among, among_met, not_met}
use Rattle.promises.specs.FileStands.{stands_all, stands_left, stands_right, stands_join, stands_head, number_reads, number_stands, name_reads, name_stands, name_in_range, name_ends, entry_reads, entry_stands}
use Rattle.promises.specs.FileExact.{entries_pass, count_reads, names_read, names_stand, nodes_read, nodes_stand, records_stand, layout_parts, layout_reads, layout_stands}
use Rattle.promises.specs.ContentRefusals.{contents_exactly}
use Rattle.promises.specs.Reader.{stands_whole, refused_report, report_refused}

-- a fault of one number and place is one of another that are equal
moved : {A : Type 0} (F : ℕ → ℕ → Type 0) {a b k p : ℕ} → ◌≡◌ {A = Ran A} (bad a b) (bad k p) → F a b → F k p
moved F {a} {b} {k} {p} e x =
    let ea : a ≡ k = cc in
    let eb : b ≡ p = cc in
    subst (λ (n : ℕ). F n p) ea (subst (F a) eb x)

module _ (s : List ℕ) where
  ---- Counts and lengths ----

  -- an item of so many bytes whose value they encode
  module _ (q : Plan ℕ) (size : ℕ) (bytes : ℕ → List ℕ) (at : ℕ) (g : Range) (cut : length s < at + size → run s at q ≡ bad 15 at)
      (reads : (v : ℕ) → Stands s at (bytes v) → run s at q ≡ got v (at + size)) where
    range_refused : g.least ≤ g.most → {k p : ℕ} → RangeFault s g size bytes at k p → run s at (ranged g q) ≡ bad k p
    range_refused w (cut_count h) = ranged_bad s at g q (cut h)
    range_refused w (below v h l) = ranged_few s at g q (reads v h) l
    range_refused w (above v h l) = ranged_many s at g q (reads v h) (omega arith) l

    range_fault : (v : ℕ) → (at + size ≤ length s → Stands s at (bytes v)) → {k p : ℕ} → run s at (ranged g q) ≡ bad k p → RangeFault s g size bytes at k p
    range_fault v here {k} {p} e = by_size (le_or_lt (at + size) (length s))
      where
        F : ℕ → ℕ → Type 0
        F = RangeFault s g size bytes at

        by_most : at + size ≤ length s → g.least ≤ v → (v ≤ g.most) ⊎ (g.most < v) → RangeFault s g size bytes at k p
        by_most h l (inl m) = got_not_bad (ranged_got s at g q (reads v (here h)) l m) e
        by_most h l (inr m) = moved F (sym (ranged_many s at g q (reads v (here h)) l m) ∙ e) (above v (here h) m)

        by_least : at + size ≤ length s → (g.least ≤ v) ⊎ (v < g.least) → RangeFault s g size bytes at k p
        by_least h (inl l) = by_most h l (le_or_lt v g.most)
        by_least h (inr l) = moved F (sym (ranged_few s at g q (reads v (here h)) l) ∙ e) (below v (here h) l)

        by_size : (at + size ≤ length s) ⊎ (length s < at + size) → RangeFault s g size bytes at k p
        by_size (inl h) = by_least h (le_or_lt g.least v)
        by_size (inr h) = moved F (sym (ranged_bad s at g q (cut h)) ∙ e) (cut_count h)

  byte_reads : (at v : ℕ) → Stands s at (v ∷ []) → run s at byte ≡ got v (at + 1)
  byte_reads at v h = byte_got s at h.inside ∙ ap (λ (n : ℕ). got n (at + 1)) (stands_head s at v [] h)

  byte_here : (at : ℕ) → at + 1 ≤ length s → Stands s at (get_or s at 0 ∷ [])
  byte_here at h = record { begins = drop-cons s at 0 (omega arith) ∙ ap (λ (n : ℕ). get_or s at 0 ∷ drop n s) (sym (add-one at)); inside = h }

  number_here : Bytes s → (at : ℕ) → at + 2 ≤ length s → Stands s at (number_bytes (number_at s at))
  number_here b at h = number_stands s b at (number_at s at) (at + 2) (record { is = refl; ends = refl; inside = h })

  pub count_refused : (at : ℕ) (g : Range) → g.least ≤ g.most → {k p : ℕ} → RangeFault s g 2 number_bytes at k p → run s at (ranged g number) ≡ bad k p
  count_refused at g w f = range_refused number 2 number_bytes at g (number_cut s at) (number_reads s at) w f

  pub count_fault : Bytes s → (at : ℕ) (g : Range) {k p : ℕ} → run s at (ranged g number) ≡ bad k p → RangeFault s g 2 number_bytes at k p
  count_fault b at g e = range_fault number 2 number_bytes at g (number_cut s at) (number_reads s at) (number_at s at) (number_here b at) e

  ---- A section of items ----

  pub items_refused : (at : ℕ) (g : Range) (size each : ℕ) → g.least ≤ g.most → {k p : ℕ} → SectionFault s g size each at k p
      → run s at (item_section g size each) ≡ bad k p
  items_refused at g size each w (in_count f) = items_count_bad s at g size each (count_refused at g w f)
  items_refused at g size each w (cut_item n i h r l a c) =
      items_from s at g size each (count_reads s at g n h r) ∙ items_stop s size i (each * n) (at + 2) l a c

  pub items_fault : Bytes s → (at : ℕ) (g : Range) (size each : ℕ) {k p : ℕ} → run s at (item_section g size each) ≡ bad k p → SectionFault s g size each at k p
  items_fault b at g size each {k} {p} e = by_count (run s at (ranged g number)) refl
    where
      F : ℕ → ℕ → Type 0
      F = SectionFault s g size each at

      by_items : (v m : ℕ) → run s at (ranged g number) ≡ got v m → m ≡ at + 2 → m ≤ length s → InRange g v → Stands s at (number_bytes v)
          → (m + size * (each * v) ≤ length s) ⊎ (length s < m + size * (each * v)) → SectionFault s g size each at k p
      by_items v m a d l r h (inl c) = got_not_bad (items_from s at g size each a ∙ items_got s size (each * v) m c) e
      by_items v m a d l r h (inr c) =
          let t = items_cut s size (each * v) (at + 2) (omega arith) (omega arith) in
          let q : run s at (item_section g size each) ≡ bad 15 (at + 2 + size * t.number) =
          items_from s at g size each (count_reads s at g v h r) ∙ items_stop s size t.number (each * v) (at + 2) t.before t.inside t.cut in
          moved F (sym q ∙ e) (cut_item v t.number h r t.before t.inside t.cut)

      by_count : (x : Ran ℕ) → run s at (ranged g number) ≡ x → SectionFault s g size each at k p
      by_count (got v m) a =
          let t = ranged_there s at g number a in
          let u = number_there s at t.read in
          by_items v m a u.ends (omega (arith, u.ends, u.inside)) (record { low = t.low; high = t.high }) (number_stands s b at v m u) (le_or_lt (m + size * (each * v)) (length s))
      by_count (bad n q) a = moved F (sym (items_count_bad s at g size each a) ∙ e) (in_count (count_fault b at g a))

  -- of numbers, two bytes each
  pub section_refused : (at : ℕ) (g : Range) (each : ℕ) → g.least ≤ g.most → {k p : ℕ} → SectionFault s g 2 each at k p → run s at (section g each) ≡ bad k p
  section_refused at g each w f = section_bad s at g each (items_refused at g 2 each w f)

  pub section_fault : Bytes s → (at : ℕ) (g : Range) (each : ℕ) {k p : ℕ} → run s at (section g each) ≡ bad k p → SectionFault s g 2 each at k p
  section_fault b at g each {k} {p} e = by (run s at (item_section g 2 each)) refl
    where
      by : (x : Ran (List ℕ)) → run s at (item_section g 2 each) ≡ x → SectionFault s g 2 each at k p
      by (got bs m) a = got_not_bad (section_got s at g each a) e
      by (bad n q) a = moved (SectionFault s g 2 each at) (sym (section_bad s at g each a) ∙ e) (items_fault b at g 2 each a)

  -- of sets, where the file goes on
  pub sets_refused : (at : ℕ) → at < length s → {k p : ℕ} → SectionFault s sets_count set_bytes 1 at k p → run s at joint_sets ≡ bad k p
  sets_refused at h f = sets_some s at h ∙ items_refused at sets_count set_bytes 1 (omega arith) f

  pub sets_fault : Bytes s → (at : ℕ) {k p : ℕ} → run s at joint_sets ≡ bad k p → (at < length s) × SectionFault s sets_count set_bytes 1 at k p
  sets_fault b at {k} {p} e = by (le_or_lt (length s) at)
    where
      by : (length s ≤ at) ⊎ (at < length s) → (at < length s) × SectionFault s sets_count set_bytes 1 at k p
      by (inl h) = got_not_bad (sets_none s at h) e
      by (inr h) = (h, items_fault b at sets_count set_bytes 1 (sym (sets_some s at h) ∙ e))

  -- a file that is read to where more bytes follow has sets
  pub followed_sets : {f : File} {end : ℕ} → run s 0 layout ≡ got f end → end < length s → 1 ≤ length f.sets
  followed_sets {f} {end} e l = by (le_or_lt (length s) (layout_runs s e).last)
    where
      by : (length s ≤ (layout_runs s e).last) ⊎ ((layout_runs s e).last < length s) → 1 ≤ length f.sets
      by (inl h) = absurd (omega (arith, got_next (sym (sets_none s (layout_runs s e).last h) ∙ (layout_runs s e).sets_run)))
      by (inr h) =
          let t = item_section_there s (layout_runs s e).last sets_count set_bytes 1 (sym (sets_some s (layout_runs s e).last h) ∙ (layout_runs s e).sets_run) in
          omega (arith, t.sized, t.low)

  ---- Names and entries ----

  length_refused : (at : ℕ) (g : Range) → g.least ≤ g.most → {k p : ℕ} → RangeFault s g 1 (λ v. v ∷ []) at k p → run s at (ranged g byte) ≡ bad k p
  length_refused at g w f = range_refused byte 1 (λ v. v ∷ []) at g (byte_cut s at) (byte_reads at) w f

  pub name_refused : (at : ℕ) (g : Range) → g.least ≤ g.most → {k p : ℕ} → NameFault s g at k p → run s at (name g) ≡ bad k p
  name_refused at g w (in_length f) = name_length_bad s at g (length_refused at g w f)
  name_refused at g w (cut_bytes l h r c) = name_cut s at g (ranged_got s at g byte (byte_reads at l h) r.low r.high) c

  pub name_fault : (at : ℕ) (g : Range) {k p : ℕ} → run s at (name g) ≡ bad k p → NameFault s g at k p
  name_fault at g {k} {p} e = by_length (run s at (ranged g byte)) refl
    where
      F : ℕ → ℕ → Type 0
      F = NameFault s g at

      by_end : (v m : ℕ) → run s at (ranged g byte) ≡ got v m → (m + v ≤ length s) ⊎ (length s < m + v) → NameFault s g at k p
      by_end v m a (inl c) = got_not_bad (name_whole s at g a c) e
      by_end v m a (inr c) =
          let t = length_there s at g a in
          let h : Stands s at (v ∷ []) = subst (λ (x : ℕ). Stands s at (x ∷ [])) (sym t.is) (byte_here at t.inside) in
          let q = sym (name_cut s at g a c) ∙ e in
          moved F (ap (bad 15) (sym t.ends) ∙ q) (cut_bytes v h (record { low = t.low; high = t.high }) (omega (arith, t.ends)))

      by_length : (x : Ran ℕ) → run s at (ranged g byte) ≡ x → NameFault s g at k p
      by_length (got v m) a = by_end v m a (le_or_lt (m + v) (length s))
      by_length (bad n q) a =
          moved F (sym (name_length_bad s at g a) ∙ e) (in_length (range_fault byte 1 (λ v. v ∷ []) at g (byte_cut s at) (byte_reads at) (get_or s at 0) (byte_here at) a))

  pub entry_refused : (at : ℕ) {k p : ℕ} → EntryFault s at k p → run s at entry ≡ bad k p
  entry_refused at (in_step f) = entry_step_bad s at (name_refused at step_length (omega arith) f)
  entry_refused at (in_machine st r h f) =
      entry_machine_bad s at (name_reads s at step_length st r h) (name_refused (at + length (name_bytes st)) machine_length (omega arith) f)

  pub entry_fault : (at : ℕ) {k p : ℕ} → run s at entry ≡ bad k p → EntryFault s at k p
  entry_fault at {k} {p} e = by_step (run s at (name step_length)) refl
    where
      by_machine : (st : List ℕ) (mid : ℕ) → run s at (name step_length) ≡ got st mid → (x : Ran (List ℕ)) → run s mid (name machine_length) ≡ x → EntryFault s at k p
      by_machine st mid a (got m last) h = got_not_bad (entry_got s at a h) e
      by_machine st mid a (bad n q) h =
          let t = name_there s at step_length a in
          moved (EntryFault s at) (sym (entry_machine_bad s at a h) ∙ e)
          (in_machine st (name_in_range s at step_length t) (name_stands s at step_length t)
          (subst (λ (m : ℕ). NameFault s machine_length m n q) (name_ends s at step_length t) (name_fault mid machine_length h)))

      by_step : (x : Ran (List ℕ)) → run s at (name step_length) ≡ x → EntryFault s at k p
      by_step (got st mid) a = by_machine st mid a (run s mid (name machine_length)) refl
      by_step (bad n q) a = moved (EntryFault s at) (sym (entry_step_bad s at a) ∙ e) (in_step (name_fault at step_length a))

---- The names section ----

good_more : {earlier es : List Entry} {e : Entry} → GoodEntries earlier es → GoodEntry e → (Memᴰ e (earlier ++ es) → ⊥) → GoodEntries earlier (es ++ (e ∷ []))
good_more {e} (no_entries {earlier}) g n = one_entry g (λ m. n (Memᴰ.append_left [] m)) no_entries
good_more {e} (one_entry {earlier} {e = e₁} {es} g₁ n₁ f) g n =
    one_entry g₁ n₁ (good_more f g (λ m. n (subst (λ (gs : List Entry). Memᴰ e gs) (append_assoc earlier (e₁ ∷ []) es) m)))

entries_bytes_more : (es : List Entry) (e : Entry) → entries_bytes (es ++ (e ∷ [])) ≡ entries_bytes es ++ entry_bytes e
unfolding entries_bytes
entries_bytes_more [] e = append-nil (entry_bytes e)
entries_bytes_more (g ∷ gs) e = ap (λ (xs : List ℕ). entry_bytes g ++ xs) (entries_bytes_more gs e) ∙ sym (append_assoc (entry_bytes g) (entries_bytes gs) (entry_bytes e))

module _ (s : List ℕ) where
  -- the reader comes to the entry
  names_pass : (n : ℕ) (es : List Entry) (at : ℕ) → Entering s n es at → run s 0 names ≡ run s at (entries (suc (n - suc (length es))) es)
  unfolding number_bytes
  names_pass n es at t =
      let k = n - suc (length es) in
      let d : n ≡ length es + suc k = omega (arith, t.left) in
      let a = stands_left s 0 (number_bytes n) (entries_bytes es) t.stands in
      let b = stands_right s 0 (number_bytes n) (entries_bytes es) t.stands in
      names_from s (count_reads s 0 name_count n a t.counted) ∙ ap (λ (m : ℕ). run s 2 (entries m [])) d
      ∙ entries_pass s 2 (suc k) t.good b ∙ ap (λ (m : ℕ). run s m (entries (suc k) es)) (sym t.here)

  pub names_refused : {k p : ℕ} → NamesFault s k p → run s 0 names ≡ bad k p
  names_refused (in_name_count f) = names_bad s (count_refused s 0 name_count (omega arith) f)
  names_refused (in_entry n es at t f) =
      names_pass n es at t ∙ entries_bad s at es (n - suc (length es)) (new_entry_bad s at es (entry_refused s at f))
  names_refused (met_again n es at t e g h m) =
      names_pass n es at t ∙ entries_bad s at es (n - suc (length es)) (new_entry_met s at es (entry_reads s at e g h) (among_met e es m))

  entries_fault : (k : ℕ) (n at : ℕ) (es : List Entry) {q p : ℕ} → n ≡ length es + k → InRange name_count n → GoodEntries [] es → Stands s 0 (number_bytes n ++ entries_bytes es)
      → at ≡ 2 + length (entries_bytes es) → run s at (entries k es) ≡ bad q p → NamesFault s q p
  unfolding entries run
  entries_fault zero n at es c w f h d e = let z : ◌≡◌ {A = ℕ} 0 1 = cc in absurd (omega arith)
  entries_fault (suc k) n at es {q} {p} c w f h d e = by_new (λ at' es' c' f' h' d' e'. entries_fault k n at' es' c' w f' h' d' e') (run s at (new_entry es)) refl
    where
      t : Entering s n es at
      t = record { counted = w; good = f; left = omega arith; stands = h; here = d }

      by_met : (g : Entry) (last : ℕ) {a b : ℕ} → run s at entry ≡ got g last → run s at (new_entry es) ≡ bad a b → (x : Bool) → met g es ≡ x → NamesFault s q p
      by_met g last r i true m =
          let u = entry_stands s at r in
          moved (NamesFault s) (sym (entries_bad s at es k (new_entry_met s at es r m)) ∙ e) (met_again n es at t g u.good u.stands (met_among g es m))
      by_met g last r i false m = got_not_bad (new_entry_got s at es r m) i

      by_entry : {a b : ℕ} → run s at (new_entry es) ≡ bad a b → (x : Ran Entry) → run s at entry ≡ x → NamesFault s q p
      by_entry i (got g last) r = by_met g last r i (met g es) refl
      by_entry i (bad a b) r = moved (NamesFault s) (sym (entries_bad s at es k (new_entry_bad s at es r)) ∙ e) (in_entry n es at t (entry_fault s at r))

      by_new : ((at' : ℕ) (es' : List Entry) → n ≡ length es' + k → GoodEntries [] es' → Stands s 0 (number_bytes n ++ entries_bytes es') → at' ≡ 2 + length (entries_bytes es')
          → run s at' (entries k es') ≡ bad q p → NamesFault s q p) → (x : Ran Entry) → run s at (new_entry es) ≡ x → NamesFault s q p
      by_new rec (got g m) r =
          let v = new_entry_there s at es r in
          let u = entry_stands s at v.read in
          let l = number_bytes_length n in
          let l₁ = length-append (number_bytes n) (entries_bytes es) in
          let l₂ = length-append es (g ∷ []) in
          let l₃ : length (entries_bytes (es ++ (g ∷ []))) ≡ length (entries_bytes es) + length (entry_bytes g) =
          ap length (entries_bytes_more es g) ∙ length-append (entries_bytes es) (entry_bytes g) in
          let j = stands_join s 0 (number_bytes n ++ entries_bytes es) (entry_bytes g) (omega arith) h u.stands in
          rec m (es ++ (g ∷ [])) (omega arith) (good_more f u.good (not_met g es v.new))
          (subst (λ (xs : List ℕ). Stands s 0 xs) (append_assoc (number_bytes n) (entries_bytes es) (entry_bytes g) ∙ ap (λ (xs : List ℕ). number_bytes n ++ xs) (sym (entries_bytes_more es g))) j)
          (omega (arith, u.ends))
          (sym (entries_more s at es k r) ∙ e)
      by_new rec (bad a b) r = by_entry r (run s at entry) refl

  pub names_fault : Bytes s → {k p : ℕ} → run s 0 names ≡ bad k p → NamesFault s k p
  unfolding entries_bytes
  names_fault b {k} {p} e = by_count (run s 0 (ranged name_count number)) refl
    where
      by_count : (x : Ran ℕ) → run s 0 (ranged name_count number) ≡ x → NamesFault s k p
      by_count (got v m) r =
          let t = ranged_there s 0 name_count number r in
          let u = number_there s 0 t.read in
          let c = number_stands s b 0 v m u in
          entries_fault v v m [] (omega arith) (record { low = t.low; high = t.high }) no_entries
          (subst (λ (xs : List ℕ). Stands s 0 xs) (sym (append-nil (number_bytes v))) c) (omega (arith, u.ends)) (sym (names_from s r) ∙ e)
      by_count (bad a c) r = moved (NamesFault s) (sym (names_bad s r) ∙ e) (in_name_count (count_fault s b 0 name_count r))

  ---- The sections ----

  pub layout_refused : {k p : ℕ} → LayoutFault s k p → run s 0 layout ≡ bad k p
  layout_refused (in_names f) = layout_names_bad s (names_refused f)
  layout_refused (in_nodes es g h f) =
      layout_nodes_bad s (names_read s g h) (section_refused s (length (names_section es)) node_count 3 (omega arith) f)
  layout_refused (in_records es ns g w h f) =
      let r = nodes_read s g w h in
      layout_records_bad s r.0 r.1 (section_refused s (length (names_section es ++ numbers_section 3 ns)) record_count 1 (omega arith) f)
  layout_refused (in_sets {k} {p} f w z h l x) =
      let t = layout_parts s f w h in
      let none : length (sets_section f.sets) ≡ 0 = ap length (section_of_none f.sets (ap length z)) in
      let last : length (encode f) ≡ t.last = omega (arith, t.ends) in
      layout_sets_bad s t.names_run t.nodes_run t.records_run
      (sets_refused s t.last (omega arith) (subst (λ (m : ℕ). SectionFault s sets_count set_bytes 1 m k p) last x))

  pub layout_fault : Bytes s → {k p : ℕ} → run s 0 layout ≡ bad k p → LayoutFault s k p
  layout_fault b {k} {p} e = by_names (run s 0 names) refl
    where
      F : ℕ → ℕ → Type 0
      F = LayoutFault s

      by_sets : (es : List Entry) (ns rs : List ℕ) (from mid last : ℕ) → run s 0 names ≡ got es from → run s from (section node_count 3) ≡ got ns mid
          → run s mid (section record_count 1) ≡ got rs last → (x : Ran (List ℕ)) → run s last joint_sets ≡ x → LayoutFault s k p
      by_sets es ns rs from mid last a c d (got sets end) h = got_not_bad (layout_got s a c d h) e
      by_sets es ns rs from mid last a c d (bad i q) h =
          let f : File = record { names = es; nodes = ns; records = rs; sets = [] } in
          let t = records_stand s b a c d in
          let u = sets_fault s b last h in
          moved F (sym (layout_sets_bad s a c d h) ∙ e)
          (in_sets f t.within refl t.stands (omega (arith, t.ends, u.0)) (subst (λ (m : ℕ). SectionFault s sets_count set_bytes 1 m i q) t.ends u.1))

      by_records : (es : List Entry) (ns : List ℕ) (from mid : ℕ) → run s 0 names ≡ got es from → run s from (section node_count 3) ≡ got ns mid
          → (x : Ran (List ℕ)) → run s mid (section record_count 1) ≡ x → LayoutFault s k p
      by_records es ns from mid a c (got rs last) h = by_sets es ns rs from mid last a c h (run s last joint_sets) refl
      by_records es ns from mid a c (bad i q) h =
          let t = nodes_stand s b a c in
          moved F (sym (layout_records_bad s a c h) ∙ e)
          (in_records es ns t.names_good t.nodes_good t.stands (subst (λ (m : ℕ). SectionFault s record_count 2 1 m i q) t.ends (section_fault s b mid record_count 1 h)))

      by_nodes : (es : List Entry) (from : ℕ) → run s 0 names ≡ got es from → (x : Ran (List ℕ)) → run s from (section node_count 3) ≡ x → LayoutFault s k p
      by_nodes es from a (got ns mid) c = by_records es ns from mid a c (run s mid (section record_count 1)) refl
      by_nodes es from a (bad i q) c =
          let t = names_stand s b a in
          moved F (sym (layout_nodes_bad s a c) ∙ e)
          (in_nodes es t.good t.stands (subst (λ (m : ℕ). SectionFault s node_count 2 3 m i q) t.ends (section_fault s b from node_count 3 c)))

      by_names : (x : Ran (List Entry)) → run s 0 names ≡ x → LayoutFault s k p
      by_names (got es from) a = by_nodes es from a (run s from (section node_count 3)) refl
      by_names (bad i q) a = moved F (sym (layout_names_bad s a) ∙ e) (in_names (names_fault b a))

  ---- The reader ----

  -- each way of a refusal is answered so
  pub refuses_refused : (nr rr : ℕ) {k p : ℕ} → Refuses s nr rr k p → reading s nr rr ≡ refused_outcome (refusal_of k p)
  unfolding laid checked
  refuses_refused nr rr (no_node_room h) = reading_short s nr rr (inl h)
  refuses_refused nr rr (no_record_room h) = reading_short s nr rr (inr h)
  refuses_refused nr rr (in_layout h l f) = reading_laid s nr rr h l ∙ ap (laid s) (layout_refused f)
  refuses_refused nr rr (too_long f h l w m t c) =
      reading_laid s nr rr h l ∙ ap (laid s) (layout_reads s f w t (inl m)) ∙ rw (lt-ltb (length (encode f)) (length s) c)
  refuses_refused nr rr (in_contents {k} {p} f h l w e g) =
      let t : Stands s 0 (encode f) = subst (λ (x : List ℕ). Stands s 0 x) e (stands_all s) in
      let r : run s 0 layout ≡ got f (length s) = layout_reads s f w t (inr (omega (arith, ap length e))) ∙ ap (λ (x : List ℕ). got f (length x)) (sym e) in
      reading_laid s nr rr h l ∙ laid_checked s (run s 0 layout) r ∙ ap (checked f) ((contents_exactly f (refusal_of k p)).1 g)

  -- every refusal is one of these ways
  pub refused_refuses : Bytes s → (nr rr : ℕ) (r : Refusal) → (reading s nr rr).answer ≡ Err r → Refuses s nr rr r.number r.place
  refused_refuses b nr rr r e = by (way s nr rr) e
    where
      is : {q : Refusal} → ◌≡◌ {A = Result Counts Refusal} (Err q) (Err r) → Refuses s nr rr q.number q.place → Refuses s nr rr r.number r.place
      is {q} h x = let d : q ≡ r = cc in subst (λ (q' : Refusal). Refuses s nr rr q'.number q'.place) d x

      by : {o : Outcome} → Way s nr rr o → o.answer ≡ Err r → Refuses s nr rr r.number r.place
      by (few_nodes h) a = is a (no_node_room h)
      by (few_records h) a = is a (no_record_room h)
      by (stopped h l g) a = is a (in_layout h l (layout_fault b g))
      by (longer f end h l g w) a =
          let t = layout_stands s b g in
          is a (subst (Refuses s nr rr 21) (sym t.ends) (too_long f h l t.within (followed_sets s g w) t.stands (omega (arith, t.ends))))
      by (faulty f end h l g w {r = q} c) a =
          let t = layout_stands s b g in
          let d : s ≡ encode f = stands_whole s (encode f) t.stands (omega (arith, t.ends)) in
          is a (in_contents f h l t.within d ((contents_exactly f q).0 c))
      by (whole f end h l g w c) a = read_not_refused a

  -- a refusal is reported exactly when one of its ways holds
  pub refused_when : Bytes s → (nr rr k p : ℕ) → (reported (reading s nr rr).answer ≡ refused_report k p) ↔ Refuses s nr rr k p
  unfolding reported
  refused_when b nr rr k p =
      ((λ e. refused_refuses b nr rr (refusal_of k p) (report_refused s nr rr k p e)), λ x. ap (λ (o : Outcome). reported o.answer) (refuses_refused nr rr x))

-- no two refusals hold of one file: the number and the place are told by it
pub refuses_once : (s : List ℕ) (nr rr : ℕ) {k p j q : ℕ} → Refuses s nr rr k p → Refuses s nr rr j q → (k ≡ j) × (p ≡ q)
unfolding reported
refuses_once s nr rr {k} {p} {j} {q} x y =
    let e : refused_outcome (refusal_of k p) ≡ refused_outcome (refusal_of j q) = sym (refuses_refused s nr rr x) ∙ refuses_refused s nr rr y in
    let d : refused_report k p ≡ refused_report j q = ap (λ (o : Outcome). reported o.answer) e in
    (ap (λ (r : Report). r.number) d, ap (λ (r : Report). r.place) d)
