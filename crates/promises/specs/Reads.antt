-- What `read` and `scan_names` do, for every file and for whatever is lent, by their contracts: told by the format alone (`format`,
-- Format, Limits, Contents; `reader`, Report, Faults). So how a file is gone through (Plan, Sections, Reading) need not be believed.
-- Theorems only. Assumes nothing.
use Rattle.std.specs.Prelude.{ℕ, ◌≤◌, ◌⊎◌, ◌↔◌, ◌≡◌, drop, Result, Ok, Err}
use mathlib.Core.List.{List, [], ◌∷◌, ◌++◌, append_assoc}
use Rattle.std.proofs.Common.{inl, inr, ◌∙◌, subst, arith, length-append, drop_at}
use Rattle.std.proofs.Math.Path.{refl, ap, ap₂, sym}
use Rattle.std.proofs.Math.ListN.{length}
use Rattle.flow.specs.declared.Refusal.{Refusal}
use Rattle.flow.specs.Legends.{set_count}
use Rattle.format.specs.Format.{number_bytes, Entry, entries_bytes, names_section, sets_section, File, encode}
use Rattle.format.specs.Lengths.{number_bytes_length}
use Rattle.format.specs.Limits.{GoodNames, Bytes, Stands}
use Rattle.format.specs.Told.{ItemTold, item_told, item_found, item_refused, at_front}
use Rattle.format.specs.Plan.{Ran, got, bad, run}
use Rattle.format.specs.Sections.{names}
use Rattle.format.specs.Items.{as_item}
use Rattle.reader.specs.declared.Counts.{Counts}
use Rattle.reader.specs.Report.{reported, sets_offset, counts_of, read_report, refused_report}
use Rattle.reader.specs.Faults.{NamesFault, Refuses, Readable}
use Rattle.reader.specs.Reading.{Outcome, reading, ReadAs}
use Rattle.reader.specs.ReaderLaws.{read_not_refused}
use Rattle.promises.specs.FileExact.{without_sets, encode_sets, names_stand}
use Rattle.promises.specs.Reader.{readable_read, read_readable, read_exactly, scanned, names_scanned}
use Rattle.promises.specs.ReaderRefusals.{names_refused, names_fault, refuses_refused, refused_refuses, refused_when}

---- The reader ----

-- every file is readable or refused
pub read_or_refused : (s : List ℕ) → Bytes s → (nr rr : ℕ) → ((f : File) × Readable s nr rr f) ⊎ ((k : ℕ) × (p : ℕ) × Refuses s nr rr k p)
read_or_refused s b nr rr = by (reading s nr rr).answer refl
  where
    by : (a : Result Counts Refusal) → (reading s nr rr).answer ≡ a → ((f : File) × Readable s nr rr f) ⊎ ((k : ℕ) × (p : ℕ) × Refuses s nr rr k p)
    by (Ok c) e = let w = read_readable s b nr rr c e in inl (w.0, w.1)
    by (Err r) e = inr (r.number, r.place, refused_refuses s b nr rr r e)

-- and not both
pub readable_not_refused : (s : List ℕ) {nr rr k p : ℕ} {f : File} → Readable s nr rr f → Refuses s nr rr k p → ⊥
readable_not_refused s {nr} {rr} {f} x y =
    read_not_refused (ap (λ (o : Outcome). o.answer) (sym (readable_read s nr rr f x) ∙ refuses_refused s nr rr y))

-- the bytes of the sets are the last ones of their section
sets_last : (sets : List ℕ) → (before : List ℕ) × (sets_section sets ≡ before ++ sets)
unfolding sets_section
sets_last [] = ([], refl)
sets_last (b ∷ bs) = (number_bytes (set_count (b ∷ bs)), refl)

-- 02, Four: "The reader gives their offset and count": what stands there to the end are the sets
pub read_sets : (s : List ℕ) {nr rr : ℕ} (f : File) → Readable s nr rr f → drop (counts_of f).sets_at s ≡ f.sets
read_sets s f x =
    let t = sets_last f.sets in
    let before = encode (without_sets f) ++ t.0 in
    let e : encode f ≡ before ++ f.sets =
    encode_sets f ∙ ap (λ (xs : List ℕ). encode (without_sets f) ++ xs) t.1 ∙ sym (append_assoc (encode (without_sets f)) t.0 f.sets) in
    ap (drop (sets_offset f)) (x.encoded ∙ e) ∙ drop_at before f.sets (sets_offset f) (omega (arith, ap length e, length-append before f.sets))

module _ {s nodes records nodes' records' : List ℕ} {r : Result Counts Refusal} (bytes : Bytes s) (ensured : ReadAs s nodes records nodes' records' r) where
  -- a refusal is reported exactly when one of its ways holds
  pub read_refuses : (k p : ℕ) → (reported r ≡ refused_report k p) ↔ Refuses s (length nodes) (length records) k p
  read_refuses k p =
      subst (λ (a : Result Counts Refusal). (reported a ≡ refused_report k p) ↔ Refuses s (length nodes) (length records) k p) (sym ensured.answer)
      (refused_when s bytes (length nodes) (length records) k p)

  -- counts are reported exactly if they are those of a readable file
  pub read_counts : (c : Counts) → 1 ≤ c.nodes
      → (reported r ≡ read_report c) ↔ ((f : File) × Readable s (length nodes) (length records) f × (c ≡ counts_of f))
  read_counts c h =
      subst (λ (a : Result Counts Refusal). (reported a ≡ read_report c) ↔ ((f : File) × Readable s (length nodes) (length records) f × (c ≡ counts_of f))) (sym ensured.answer)
      (read_exactly s bytes (length nodes) (length records) c h)

  -- the two tables, by what the reading came to
  tables : {o : Outcome} → reading s (length nodes) (length records) ≡ o → (nodes' ≡ at_front o.nodes nodes) × (records' ≡ at_front o.records records)
  tables e = (
    ensured.nodes_after ∙ ap (λ (o : Outcome). at_front o.nodes nodes) e,
    ensured.records_after ∙ ap (λ (o : Outcome). at_front o.records records) e,
  )

  -- "the first numbers of the two tables are the file's and the rest unchanged"
  pub read_fills : (f : File) → Readable s (length nodes) (length records) f → (nodes' ≡ at_front f.nodes nodes) × (records' ≡ at_front f.records records)
  read_fills f x = tables (readable_read s (length nodes) (length records) f x)

  -- "if refused both are unchanged"
  pub read_keeps : {k p : ℕ} → Refuses s (length nodes) (length records) k p → (nodes' ≡ nodes) × (records' ≡ records)
  read_keeps x = tables (refuses_refused s (length nodes) (length records) x)

---- The names scan ----

-- names and their count take bytes
names_some : (es : List Entry) → 2 ≤ length (names_section es)
unfolding names_section
names_some es = omega (arith, length-append (number_bytes (length es)) (entries_bytes es), number_bytes_length (length es))

module _ (s : List ℕ) (bytes : Bytes s) where
  -- a refusal is told exactly when one of its ways holds
  pub scan_refuses : (k p : ℕ) → (item_told (scanned s) ≡ item_refused k p) ↔ NamesFault s k p
  unfolding item_told as_item
  scan_refuses k p = (λ e. by (run s 0 names) refl e, λ x. ap (λ (y : Ran (List Entry)). item_told (as_item length y)) (names_refused s x))
    where
      by : (x : Ran (List Entry)) → run s 0 names ≡ x → item_told (as_item length x) ≡ item_refused k p → NamesFault s k p
      by (got es next) q e =
          absurd (omega (arith, names_some es, (names_stand s bytes q).ends, ap (λ (t : ItemTold). t.next) e))
      by (bad n at) q e = names_fault s bytes (q ∙ ap₂ bad (ap (λ (t : ItemTold). t.number) e) (ap (λ (t : ItemTold). t.place) e))

  -- a number of names and where they end are told exactly if so many good names stand there
  pub scan_reads : (n next : ℕ) → 2 ≤ next
      → (item_told (scanned s) ≡ item_found n next) ↔ ((es : List Entry) × GoodNames es × Stands s 0 (names_section es) × (n ≡ length es) × (next ≡ length (names_section es)))
  unfolding item_told as_item
  scan_reads n next h = (λ e. by (run s 0 names) refl e, λ x. names_scanned s x.1 x.2 ∙ ap₂ item_found (sym x.3) (sym x.4))
    where
      by : (x : Ran (List Entry)) → run s 0 names ≡ x → item_told (as_item length x) ≡ item_found n next
          → (es : List Entry) × GoodNames es × Stands s 0 (names_section es) × (n ≡ length es) × (next ≡ length (names_section es))
      by (got es last) q e =
          let t = names_stand s bytes q in
          (es, t.good, t.stands, sym (ap (λ (i : ItemTold). i.value) e), sym (ap (λ (i : ItemTold). i.next) e) ∙ t.ends)
      by (bad k p) q e = absurd (omega (arith, ap (λ (i : ItemTold). i.next) e))
