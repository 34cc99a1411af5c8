-- Every cut of a readable file is refused with 15 at the item that could not be read (`cut_file`), but for the one right behind the
-- records of a file with sets: that is the file without its sets (`cut_sets`), which is read unless a node names a set (`cut_sets_read`,
-- `cut_sets_refused`). What holds of every plan is in CutPlans; here is which items a flow file has, and where its plan asks. Assumes
-- nothing.
use Prim.Native.Nat.{ℕ, zero, suc, ◌+◌, ◌*◌, ◌/◌, ◌≤◌, ◌<◌}
use Rattle.std.specs.Prelude.{Bool, not, cond, ◌⊎◌, ◌≡◌, T, ltb, take}
use Rattle.std.proofs.Math.Bool.{true, false}
use mathlib.Core.List.{List, [], ◌∷◌, ◌++◌, append-nil}
use Rattle.std.proofs.Common.{inl, inr, ◌∙◌, subst, lt-ltb, le-ltb}
use Rattle.std.proofs.Math.Path.{refl, ap, ap₂, sym}
use Rattle.std.proofs.Math.Nat.{mul-suc}
use native.Mathlib.Omega.{arith}
use Rattle.std.proofs.Math.ListN.{length, length-append}
use Rattle.std.proofs.Math.Seq.{take-append_seam}
use Rattle.flow.specs.Legends.{set_bytes, set_count}
use Rattle.flow.specs.Refusals.{count, no_such_set, node_grounds}
use Rattle.flow.specs.Earliest.{First, here, later, None, more, Earliest, in_sweep, Nowhere, not_sweep}
use Rattle.format.specs.declared.Range.{Range}
use Rattle.format.specs.Format.{Entry, File, encode, number_bytes, numbers_bytes, entry_bytes, entries_bytes, names_section, numbers_section, sets_section}
use Rattle.format.specs.Plan.{Plan, done, refuse, ◌>>=◌, got, bad, run}
use Rattle.format.specs.Sections.{byte, number, ranged, step_length, machine_length, name_count, node_count, record_count, sets_count, name, entry, met, new_entry, entries, names, items, item_section, section, joint_sets, layout}
use Rattle.format.specs.Lengths.{number_bytes_length, numbers_bytes_length, section_of_some, sets_length}
use Rattle.format.specs.Limits.{InRange, GoodEntries, no_entries, one_entry, GoodNames, GoodSets, no_sets, some_sets, WithinLimits, Stands}
use Rattle.format.specs.Contents.{file_order}
use Rattle.format.specs.Told.{refusal_of}
use Rattle.format.specs.ItemLaws.{ranged_there, NameThere, name_there, length_got, entry_runs}
use Rattle.format.specs.RunLaws.{items_got}
use Rattle.format.specs.SectionLaws.{new_entry_got}
use Rattle.reader.specs.Report.{counts_of}
use Rattle.reader.specs.Reading.{reported, Outcome, laid, reading}
use Rattle.reader.specs.LayoutLaws.{file_of, after_records, after_nodes, after_names}
use Rattle.reader.specs.ReaderLaws.{reading_laid}
use Rattle.promises.specs.SameNames.{not_among}
use Rattle.promises.specs.FileStands.{stands_all, stands_left, stands_right, number_reads, entry_reads, name_sized}
use Rattle.promises.specs.FileExact.{sets_whole, without_sets, encode_sets, count_reads, item_section_reads, sets_read, nodes_whole, records_whole, Parts, layout_parts, layout_reads}
use Rattle.promises.specs.Reader.{Readable, read_report, refused_report, readable_read}
use Rattle.promises.specs.ContentRefusals.{contents_refused_when}
unfoldable pub use Rattle.promises.specs.CutPlans.{sizes, NotAsked, NeverAsks}
use Rattle.promises.specs.CutPlans.{cut_refused, never_cond, never_bind, never_asked, not_asked, sizes_bind}
unfoldable pub use Rattle.promises.specs.FileItems.{item_of, entry_items, entries_items, items_of, number_items, sets_items, file_items}

---- Where the plan of a flow file asks ----

never_ranged : (g : Range) (p : Plan ℕ) → NeverAsks p → NeverAsks (ranged g p)
unfolding ranged NeverAsks
never_ranged g p u = λ at. never_bind p _ u (λ n. never_cond (ltb n g.least) (refuse g.few at) _ tt (never_cond (ltb g.most n) (refuse g.many at) (done n) tt tt))

never_count : (g : Range) → NeverAsks (ranged g number)
unfolding number NeverAsks
never_count g = never_ranged g number (λ b. tt)

never_name : (g : Range) → NeverAsks (name g)
unfolding name byte NeverAsks
never_name g = never_bind (ranged g byte) _ (never_ranged g byte (λ b. tt)) (λ n b. tt)

never_entry : NeverAsks entry
unfolding entry NeverAsks
never_entry = never_bind (name step_length) _ (never_name step_length) (λ st. never_bind (name machine_length) _ (never_name machine_length) (λ m. tt))

never_entries : (k : ℕ) (earlier : List Entry) → NeverAsks (entries k earlier)
unfolding entries new_entry NeverAsks
never_entries zero earlier = tt
never_entries (suc k) earlier =
    never_bind (new_entry earlier) _ (λ at. never_bind entry _ never_entry (λ e. never_cond (met e earlier) (refuse 18 at) (done e) tt tt)) (λ e. never_entries k (earlier ++ (e ∷ [])))

never_names : NeverAsks names
unfolding names
never_names = never_bind (ranged name_count number) _ (never_count name_count) (λ n. never_entries n [])

never_items : (size k : ℕ) → NeverAsks (items size k)
unfolding items NeverAsks
never_items size zero = tt
never_items size (suc k) = λ b. never_bind (items size k) _ (never_items size k) (λ bs. tt)

never_item_section : (g : Range) (size each : ℕ) → NeverAsks (item_section g size each)
unfolding item_section
never_item_section g size each = never_bind (ranged g number) _ (never_count g) (λ n. never_items size (each * n))

never_section : (g : Range) (each : ℕ) → NeverAsks (section g each)
unfolding section NeverAsks
never_section g each = never_bind (item_section g 2 each) _ (never_item_section g 2 each) (λ bs. tt)

sets_asked : (s : List ℕ) (m at : ℕ) (es : List Entry) (ns rs : List ℕ) → (at ≡ m → ⊥) → NotAsked s m at (joint_sets >>= file_of es ns rs)
unfolding joint_sets file_of ◌>>=◌ NotAsked NeverAsks
sets_asked s m at es ns rs n =
    let sets : Plan (List ℕ) = item_section sets_count set_bytes 1 in
    let rest : NeverAsks (sets >>= file_of es ns rs) = never_bind sets (file_of es ns rs) (never_item_section sets_count set_bytes 1) (λ bs. tt) in
    (n, tt, never_asked s m at (sets >>= file_of es ns rs) rest)

---- Which items it takes ----

some_items : (sets : List ℕ) → 1 ≤ length sets → sets_items sets ≡ 2 ∷ items_of set_bytes (set_count sets)
unfolding sets_items
some_items [] h = absurd (omega arith)
some_items (b ∷ bs) h = refl

module _ (s : List ℕ) where
  -- a range takes no byte more
  ranged_sizes : (at : ℕ) (g : Range) (q : Plan ℕ) {v next : ℕ} → run s at q ≡ got v next → sizes s at (ranged g q) ≡ sizes s at q
  unfolding sizes ranged
  ranged_sizes at g q {v} {next} e = sizes_bind s at q _ e ∙ ap (λ (zs : List ℕ). sizes s at q ++ zs) (by (ltb v g.least) (ltb g.most v)) ∙ append-nil (sizes s at q)
    where
      by : (t u : Bool) → sizes s next (cond t (refuse g.few at) (cond u (refuse g.many at) (done v))) ≡ []
      by true u = refl
      by false true = refl
      by false false = refl

  count_sizes : (at : ℕ) (g : Range) {v next : ℕ} → run s at number ≡ got v next → sizes s at (ranged g number) ≡ 2 ∷ []
  unfolding sizes number
  count_sizes at g e = ranged_sizes at g number e

  length_sizes : (at : ℕ) (g : Range) {v next : ℕ} → run s at byte ≡ got v next → sizes s at (ranged g byte) ≡ 1 ∷ []
  unfolding sizes byte
  length_sizes at g e = ranged_sizes at g byte e

  name_sizes : (at : ℕ) (g : Range) {n : List ℕ} {next : ℕ} → NameThere s at g n next → sizes s at (name g) ≡ 1 ∷ length n ∷ []
  unfolding sizes name
  name_sizes at g {n} t =
      let e = length_got s at g (omega (arith, t.inside)) t.low t.high in
      sizes_bind s at (ranged g byte) _ e
      ∙ ap₂ (λ (zs : List ℕ) (k : ℕ). zs ++ (k ∷ [])) (length_sizes at g (ranged_there s at g byte e).read) (sym (name_sized s at g t))

  entry_sizes : (at : ℕ) {e : Entry} {next : ℕ} → run s at entry ≡ got e next → sizes s at entry ≡ entry_items e
  unfolding entry entry_items sizes
  entry_sizes at {e} h =
      let r = entry_runs s at h in
      let a = name_sizes at step_length (name_there s at step_length r.step_run) in
      let b = name_sizes r.mid machine_length (name_there s r.mid machine_length r.machine_run) in
      sizes_bind s at (name step_length) _ r.step_run
      ∙ ap₂ ◌++◌ a (sizes_bind s r.mid (name machine_length) _ r.machine_run ∙ ap (λ (zs : List ℕ). zs ++ []) b)

  new_entry_sizes : (at : ℕ) (earlier : List Entry) {e : Entry} {next : ℕ} → run s at entry ≡ got e next → sizes s at (new_entry earlier) ≡ entry_items e
  unfolding new_entry sizes
  new_entry_sizes at earlier {e} {next} h = sizes_bind s at entry _ h ∙ ap₂ ◌++◌ (entry_sizes at h) (by (met e earlier)) ∙ append-nil (entry_items e)
    where
      by : (t : Bool) → sizes s next (cond t (refuse 18 at) (done e)) ≡ []
      by true = refl
      by false = refl

  entries_sizes : (at : ℕ) {earlier es : List Entry} → GoodEntries earlier es → Stands s at (entries_bytes es) → sizes s at (entries (length es) earlier) ≡ entries_items es
  unfolding entries sizes entries_items entries_bytes
  entries_sizes at no_entries h = refl
  entries_sizes at (one_entry {earlier} {e} {es} g n f) h =
      let a = entry_reads s at e g (stands_left s at (entry_bytes e) (entries_bytes es) h) in
      let b = stands_right s at (entry_bytes e) (entries_bytes es) h in
      sizes_bind s at (new_entry earlier) _ (new_entry_got s at earlier a (not_among e earlier n))
      ∙ ap₂ ◌++◌ (new_entry_sizes at earlier a) (entries_sizes (at + length (entry_bytes e)) f b)

  items_sizes : (size k at : ℕ) → at + size * k ≤ length s → sizes s at (items size k) ≡ items_of size k
  unfolding items sizes items_of
  items_sizes size zero at h = refl
  items_sizes size (suc k) at h =
      let l : at + size + size * k ≤ length s = omega (arith, mul-suc size k) in
      ap (λ (zs : List ℕ). size ∷ zs) (sizes_bind s (at + size) (items size k) _ (items_got s size k (at + size) l) ∙ append-nil _ ∙ items_sizes size k (at + size) l)

  item_section_sizes : (at : ℕ) (g : Range) (size each n : ℕ) (xs : List ℕ) → length xs ≡ size * (each * n) → InRange g n → Stands s at (number_bytes n ++ xs)
      → sizes s at (item_section g size each) ≡ 2 ∷ items_of size (each * n)
  unfolding item_section
  item_section_sizes at g size each n xs w r h =
      let a = stands_left s at (number_bytes n) xs h in
      let b = stands_right s at (number_bytes n) xs h in
      sizes_bind s at (ranged g number) _ (count_reads s at g n a r)
      ∙ ap₂ ◌++◌ (count_sizes at g (number_reads s at n a)) (items_sizes size (each * n) (at + 2) (omega (arith, b.inside, number_bytes_length n)))

  section_sizes : (at : ℕ) (g : Range) (each : ℕ) (ns : List ℕ) → length ns ≡ each * (length ns / each) → InRange g (length ns / each)
      → Stands s at (numbers_section each ns) → sizes s at (section g each) ≡ 2 ∷ number_items ns
  unfolding section numbers_section sizes number_items
  section_sizes at g each ns w r h =
      let n = length ns / each in
      let l : length (numbers_bytes ns) ≡ 2 * (each * n) = numbers_bytes_length ns ∙ ap (λ (k : ℕ). 2 * k) w in
      sizes_bind s at (item_section g 2 each) _ (item_section_reads s at g 2 each n (numbers_bytes ns) l r h) ∙ append-nil _
      ∙ item_section_sizes at g 2 each n (numbers_bytes ns) l r h ∙ ap (λ (k : ℕ). 2 ∷ items_of 2 k) (sym w)

  sets_sizes : (at : ℕ) {sets : List ℕ} → GoodSets sets → Stands s at (sets_section sets) → (1 ≤ length sets) ⊎ (length s ≤ at + length (sets_section sets))
      → sizes s at joint_sets ≡ sets_items sets
  unfolding joint_sets sizes sets_section sets_items
  sets_sizes at no_sets h (inl c) = absurd (omega arith)
  sets_sizes at no_sets h (inr c) = rw (le-ltb at (length s) (omega arith))
  sets_sizes at (some_sets {sets} g b) h c =
      let w = sets_whole g in
      let one : 1 * set_count sets ≡ set_count sets = omega arith in
      rw (lt-ltb at (length s) (omega (arith, h.inside, sets_length sets w.2)))
      (item_section_sizes at sets_count set_bytes 1 (set_count sets) sets w.0 w.1 (subst (λ (xs : List ℕ). Stands s at xs) (section_of_some sets w.2) h)
      ∙ ap (λ (k : ℕ). 2 ∷ items_of set_bytes k) one ∙ sym (some_items sets w.2))

  names_sizes : {es : List Entry} → GoodNames es → Stands s 0 (names_section es) → sizes s 0 names ≡ 2 ∷ entries_items es
  unfolding names names_section number_bytes
  names_sizes {es} g h =
      let a = stands_left s 0 (number_bytes (length es)) (entries_bytes es) h in
      let b = stands_right s 0 (number_bytes (length es)) (entries_bytes es) h in
      sizes_bind s 0 (ranged name_count number) _ (count_reads s 0 name_count (length es) a g.counted)
      ∙ ap₂ ◌++◌ (count_sizes 0 name_count (number_reads s 0 (length es) a)) (entries_sizes 2 g.entries b)

  module _ (f : File) (w : WithinLimits f) (h : Stands s 0 (encode f)) (c : (1 ≤ length f.sets) ⊎ (length s ≤ length (encode f))) where
    parts : Parts s f
    parts = layout_parts s f w h

    ended : (1 ≤ length f.sets) ⊎ (length s ≤ parts.last + length (sets_section f.sets))
    ended = by c
      where
        by : (1 ≤ length f.sets) ⊎ (length s ≤ length (encode f)) → (1 ≤ length f.sets) ⊎ (length s ≤ parts.last + length (sets_section f.sets))
        by (inl a) = inl a
        by (inr a) = inr (omega (arith, parts.ends))

    -- a flow file that stands in s is taken in its own items
    pub layout_sizes : sizes s 0 layout ≡ file_items f
    unfolding layout file_of after_records after_nodes after_names file_items sizes
    layout_sizes =
        let p = parts in
        let u = nodes_whole s w.nodes in
        let v = records_whole s w.records in
        sizes_bind s 0 names after_names p.names_run
        ∙ ap₂ ◌++◌ (names_sizes w.names p.names_stand_at)
        (sizes_bind s p.from (section node_count 3) (after_nodes f.names) p.nodes_run
        ∙ ap₂ ◌++◌ (section_sizes p.from node_count 3 f.nodes u.0 u.1 p.nodes_stand_at)
        (sizes_bind s p.mid (section record_count 1) (after_records f.names f.nodes) p.records_run
        ∙ ap₂ ◌++◌ (section_sizes p.mid record_count 1 f.records v.0 v.1 p.records_stand_at)
        (sizes_bind s p.last joint_sets (file_of f.names f.nodes f.records) (sets_read s p.last w.sets p.sets_stand_at ended)
        ∙ append-nil _ ∙ sets_sizes p.last w.sets p.sets_stand_at ended)))

    -- only behind its records it is asked whether the file ends
    pub layout_asked : (m : ℕ) → (m ≡ length (encode (without_sets f)) → ⊥) → NotAsked s m 0 layout
    unfolding layout file_of after_records after_nodes after_names
    layout_asked m n =
        let p = parts in
        let l : p.last ≡ length (encode (without_sets f)) = omega (arith, p.ends, ap length (encode_sets f), length-append (encode (without_sets f)) (sets_section f.sets)) in
        not_asked s m 0 names after_names p.names_run never_names
        (not_asked s m p.from (section node_count 3) (after_nodes f.names) p.nodes_run (never_section node_count 3)
        (not_asked s m p.mid (section record_count 1) (after_records f.names f.nodes) p.records_run (never_section record_count 1)
        (sets_asked s m p.last f.names f.nodes f.records (λ e. n (sym e ∙ l)))))

---- The cuts of a flow file ----

-- "A cut file is refused at the item that could not be read (15)": each cut of each file of the format within the limits, so of each
-- readable file, at the item of the file that holds the first byte missing; but for a cut right behind the records, where there are sets
pub cut_file : (f : File) (nr rr m : ℕ) → WithinLimits f → 192 ≤ nr → 256 ≤ rr → m < length (encode f) → (m ≡ length (encode (without_sets f)) → ⊥)
    → reported (reading (take m (encode f)) nr rr).answer ≡ refused_report 15 (item_of (file_items f) 0 m)
unfolding laid reported
cut_file f nr rr m w h l c n =
    let s = encode f in
    let all : (1 ≤ length f.sets) ⊎ (length s ≤ length (encode f)) = inr (omega arith) in
    let e = layout_reads s f w (stands_all s) all in
    ap (λ (o : Outcome). reported o.answer) (reading_laid (take m s) nr rr h l
    ∙ ap (laid (take m s)) (cut_refused s m (omega arith) 0 layout e (omega arith) c (layout_asked s f w (stands_all s) all m n)
    ∙ ap (λ (zs : List ℕ). bad 15 (item_of zs 0 m)) (layout_sizes s f w (stands_all s) all)))

-- 02, Four: "A file may end after its records; then it has no sets."
pub cut_sets : (f : File) → take (length (encode (without_sets f))) (encode f) ≡ encode (without_sets f)
cut_sets f = ap (take (length (encode (without_sets f)))) (encode_sets f) ∙ take-append_seam (encode (without_sets f)) (sets_section f.sets)

-- a readable file, cut there
module _ (f : File) (nr rr : ℕ) (readable : Readable (encode f) nr rr f) where
  within_bare : WithinLimits (without_sets f)
  within_bare = let w = readable.within in record { names = w.names; nodes = w.nodes; records = w.records; sets = no_sets }

  bare_reported : reported (reading (take (length (encode (without_sets f))) (encode f)) nr rr).answer ≡ reported (reading (encode (without_sets f)) nr rr).answer
  bare_reported = ap (λ (s : List ℕ). reported (reading s nr rr).answer) (cut_sets f)

  -- of a node that is not refused only 22 can be, where no set is present
  bare_none : (many i : ℕ) → None (node_grounds many f.nodes i) → T (not (no_such_set f.nodes i 0)) → None (node_grounds 0 f.nodes i)
  unfolding node_grounds
  bare_none many i (more a (more b n)) t = more a (more t n)

  bare_first : (many i : ℕ) → None (node_grounds many f.nodes i) → T (no_such_set f.nodes i 0) → First (refusal_of 22 i) (node_grounds 0 f.nodes i)
  unfolding node_grounds
  bare_first many i (more a n) t = later a (here refl t)

  -- is read as the file without its sets, if no node names a set
  pub cut_sets_read : ((i : ℕ) → i < count f.nodes → T (not (no_such_set f.nodes i 0)))
      → reported (reading (take (length (encode (without_sets f))) (encode f)) nr rr).answer ≡ read_report (counts_of (without_sets f))
  unfolding reported
  cut_sets_read none =
      bare_reported ∙ ap (λ (o : Outcome). reported o.answer) (readable_read (encode (without_sets f)) nr rr (without_sets f) (record {
        node_room = readable.node_room;
        record_room = readable.record_room;
        encoded = refl;
        within = within_bare;
        fine = by readable.fine;
      }))
    where
      by : Nowhere (file_order f) → Nowhere (file_order (without_sets f))
      by (not_sweep t n) = not_sweep (λ j l. bare_none (set_count f.sets) j (t j l) (none j l)) n

  -- and else refused at the lowest that does, 22
  pub cut_sets_refused : (i : ℕ) → i < count f.nodes → T (no_such_set f.nodes i 0) → ((j : ℕ) → j < i → T (not (no_such_set f.nodes j 0)))
      → reported (reading (take (length (encode (without_sets f))) (encode f)) nr rr).answer ≡ refused_report 22 i
  cut_sets_refused i l names none =
      bare_reported ∙ (contents_refused_when (without_sets f) nr rr 22 i within_bare readable.node_room readable.record_room).1 (by readable.fine)
    where
      by : Nowhere (file_order f) → Earliest (refusal_of 22 i) (file_order (without_sets f))
      by (not_sweep t n) = in_sweep i l (λ j k. bare_none (set_count f.sets) j (t j (omega arith)) (none j k)) (bare_first (set_count f.sets) i (t i l) names)
