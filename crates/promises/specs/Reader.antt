-- The reader's promises on what is read, in the words of 01, "The flow file": it reads exactly the files of the format that are
-- within the limits and whose numbers mean something, gives their counts and numbers, and leaves one outcome for every input; and the
-- same of the names scan. Stated of what an answer tells (`reported`, `item_told`).
-- Not here: what is refused, and where (ReaderRefusals); cuts (Cuts). Assumes nothing.
use Rattle.std.specs.Prelude.{ℕ, ◌+◌, ◌≤◌, Result, Ok, Err, List, ◌++◌, ◌↔◌, ◌≡◌, refl, length}
use Rattle.std.proofs.Common.{append-nil, inr, ap, sym, ◌∙◌, subst, arith, drop_of_length-le}
use Rattle.flow.specs.declared.Refusal.{Refusal}
use Rattle.format.specs.declared.Got.{Got}
use Rattle.format.specs.Format.{Entry, names_section, File, encode}
use Rattle.format.specs.Plan.{Ran, got, run}
use Rattle.format.specs.Sections.{names, layout}
use Rattle.format.specs.Contents.{file_order}
use Rattle.format.specs.ContentChecks.{grounds_of}
use Rattle.format.specs.Limits.{GoodNames, WithinLimits, Bytes, Stands}
use Rattle.format.specs.Told.{refusal_of, item_told, item_found}
use Rattle.format.specs.Items.{as_item}
use Rattle.format.specs.ItemLaws.{got_value}
use Rattle.reader.specs.declared.Counts.{Counts}
use Rattle.reader.specs.Report.{Report, reported, counts_of}
pub use Rattle.reader.specs.Report.{read_report, refused_report}
pub use Rattle.reader.specs.Faults.{Readable}
use Rattle.reader.specs.Reading.{Outcome, refused_outcome, read_outcome, checked, reading, ReadAs}
use Rattle.reader.specs.ReaderLaws.{laid_checked, reading_laid, Way, few_nodes, few_records, stopped, longer, faulty, whole, way, read_not_refused, read_file}
use Rattle.promises.specs.ExactlyWhen.{nowhere_exactly}
use Rattle.promises.specs.FileStands.{stands_all}
use Rattle.promises.specs.FileExact.{names_read, layout_reads, layout_stands}

-- bytes that stand at the start and are as many as the file are the file
pub stands_whole : (s xs : List ℕ) → Stands s 0 xs → length s ≤ length xs → s ≡ xs
stands_whole s xs h l =
    let d : length s ≤ 0 + length xs = omega arith in
    h.begins ∙ ap (λ (ys : List ℕ). xs ++ ys) (drop_of_length-le s d) ∙ append-nil xs

---- What is read ----

-- a readable file is read, and gives its counts and numbers
pub readable_read : (s : List ℕ) (nr rr : ℕ) (f : File) → Readable s nr rr f → reading s nr rr ≡ read_outcome f
unfolding checked grounds_of
readable_read s nr rr f r =
    let h : Stands s 0 (encode f) = subst (λ (x : List ℕ). Stands s 0 x) r.encoded (stands_all s) in
    let e : run s 0 layout ≡ got f (length s) = layout_reads s f r.within h (inr (omega (arith, ap length r.encoded))) ∙ ap (λ (x : List ℕ). got f (length x)) (sym r.encoded) in
    reading_laid s nr rr r.node_room r.record_room ∙ laid_checked s (run s 0 layout) e
    ∙ ap (checked f) ((nowhere_exactly (file_order f)).1 r.fine)

-- and only such a file is
pub read_readable : (s : List ℕ) → Bytes s → (nr rr : ℕ) (c : Counts) → (reading s nr rr).answer ≡ Ok c → (f : File) × Readable s nr rr f × (c ≡ counts_of f)
unfolding grounds_of
read_readable s b nr rr c e = by (way s nr rr) e
  where
    by : {o : Outcome} → Way s nr rr o → o.answer ≡ Ok c → (f : File) × Readable s nr rr f × (c ≡ counts_of f)
    by (few_nodes h) a = read_not_refused (sym a)
    by (few_records h) a = read_not_refused (sym a)
    by (stopped h l g) a = read_not_refused (sym a)
    by (longer f end h l g w) a = read_not_refused (sym a)
    by (faulty f end h l g w q) a = read_not_refused (sym a)
    by (whole f end h l g w q) a =
        let t = layout_stands s b g in
        let d : c ≡ counts_of f = cc in (
          f,
          record {
            node_room = h;
            record_room = l;
            encoded = stands_whole s (encode f) t.stands (omega (arith, t.ends));
            within = t.within;
            fine = (nowhere_exactly (file_order f)).0 q;
          },
          d,
        )

---- What is reported ----

-- a report that counts no nodes is a refusal, since a file that is read has some
pub report_refused : (s : List ℕ) (nr rr k p : ℕ) → reported (reading s nr rr).answer ≡ refused_report k p → (reading s nr rr).answer ≡ Err (refusal_of k p)
unfolding reported
report_refused s nr rr k p e = by (reading s nr rr).answer refl e
  where
    by : (a : Result Counts Refusal) → (reading s nr rr).answer ≡ a → reported a ≡ refused_report k p → a ≡ Err (refusal_of k p)
    by (Ok c) h q = absurd (omega (arith, (read_file s nr rr h).some_nodes, ap (λ (r : Report). r.nodes) q))
    by (Err r) h q = λ i. Err (refusal_of (q i).number (q i).place)

-- and one that counts some is none
report_read : (a : Result Counts Refusal) (c : Counts) → 1 ≤ c.nodes → reported a ≡ read_report c → a ≡ Ok c
unfolding reported
report_read (Ok d) c h q = λ i. Ok (record { names = (q i).names; nodes = (q i).nodes; records = (q i).records; sets_at = (q i).sets_at; sets = (q i).sets })
report_read (Err r) c h q = absurd (omega (arith, ap (λ (x : Report). x.nodes) q))

-- what is read is told by the file alone
pub read_exactly : (s : List ℕ) → Bytes s → (nr rr : ℕ) (c : Counts) → 1 ≤ c.nodes
    → (reported (reading s nr rr).answer ≡ read_report c) ↔ ((f : File) × Readable s nr rr f × (c ≡ counts_of f))
unfolding reported
read_exactly s b nr rr c h = (
  (λ e. read_readable s b nr rr c (report_read (reading s nr rr).answer c h e)),
  λ x. ap (λ (o : Outcome). reported o.answer) (readable_read s nr rr x.0 x.1) ∙ ap read_report (sym x.2),
)

-- one file is meant by its bytes
pub encode_once : (f g : File) → WithinLimits f → WithinLimits g → encode f ≡ encode g → f ≡ g
encode_once f g v w e =
    let s = encode f in
    let a = layout_reads s f v (stands_all s) (inr (omega arith)) in
    let b = layout_reads s g w (subst (λ (x : List ℕ). Stands s 0 x) e (stands_all s)) (inr (omega (arith, ap length e))) in
    got_value (sym a ∙ b)

-- "if refused both are unchanged"
pub refused_unchanged : (s : List ℕ) (nr rr : ℕ) (r : Refusal) → (reading s nr rr).answer ≡ Err r → reading s nr rr ≡ refused_outcome r
refused_unchanged s nr rr r e = by (way s nr rr) e
  where
    is : {q : Refusal} → ◌≡◌ {A = Result Counts Refusal} (Err q) (Err r) → refused_outcome q ≡ refused_outcome r
    is h = cc

    by : {o : Outcome} → Way s nr rr o → o.answer ≡ Err r → o ≡ refused_outcome r
    by (few_nodes h) a = is a
    by (few_records h) a = is a
    by (stopped h l g) a = is a
    by (longer f end h l g w) a = is a
    by (faulty f end h l g w q) a = is a
    by (whole f end h l g w q) a = read_not_refused a

---- The names scan ----

-- what `scan_names` answers
abbrev pub scanned : List ℕ → Result Got Refusal
scanned s = as_item length (run s 0 names)

-- good names at the start of a file are read: their number, and where they end
pub names_scanned : (s : List ℕ) {es : List Entry} → GoodNames es → Stands s 0 (names_section es)
    → item_told (scanned s) ≡ item_found (length es) (length (names_section es))
unfolding as_item item_told
names_scanned s g h = ap (λ (x : Ran (List Entry)). item_told (as_item length x)) (names_read s g h)

---- One outcome ----

-- the contract of `read` leaves one answer and one content of each table
pub read_once : {s nodes records n1 n2 r1 r2 : List ℕ} {a b : Result Counts Refusal} → ReadAs s nodes records n1 r1 a → ReadAs s nodes records n2 r2 b
    → (a ≡ b) × (n1 ≡ n2) × (r1 ≡ r2)
read_once x y =
    (x.answer ∙ sym y.answer, x.nodes_after ∙ sym y.nodes_after, x.records_after ∙ sym y.records_after)

-- and that of `scan_names` one item
pub scan_names_once : (s : List ℕ) {a b : Result Got Refusal} → a ≡ scanned s → b ≡ scanned s → a ≡ b
scan_names_once s x y = x ∙ sym y
