-- The tables are found clean exactly if what is promised to stay does, the reader leaves them so, and there is room in the line for the
-- offset of the sets. Assumes nothing.
use Rattle.std.specs.Prelude.{ℕ, ◌≤◌, Bool, true, Result, Ok, Err, List, [], ◌↔◌, ◌≡◌, refl, replicate}
use Rattle.std.proofs.Common.{arith, ap₂, ◌∙◌, subst, subst₂}
use Rattle.std.proofs.Math.Path.{sym, ap}
use Rattle.std.proofs.Math.ListN.{length}
use Rattle.std.proofs.lemmas.List.{length-replicate}
use Rattle.flow.specs.declared.Refusal.{Refusal}
use Rattle.flow.specs.Tests.{both_true}
use Rattle.format.specs.Told.{at_front}
use Rattle.line.specs.Line.{Put}
use Rattle.reader.specs.declared.Counts.{Counts}
use Rattle.reader.specs.Reading.{Outcome, reading, ReadAs}
use Rattle.reader.specs.LayoutLaws.{layout_runs, runs_near, runs_end}
use Rattle.reader.specs.ReaderLaws.{Way, few_nodes, few_records, stopped, longer, faulty, whole, way, read_file, read_not_refused}
use Rattle.replay.specs.Filler.{number_filler, kept}
use Rattle.replay.specs.ReadLine.{nodes_taken, records_taken, tables_clean, TablesKept, sets_place, read_line}
use Rattle.replay.specs.FillerLaws.{kept_exactly, kept_front}

---- The promise ----

-- `clean` is printed exactly if both tables are `number_filler` behind the file's numbers
pub tables_clean_exactly : (a : Result Counts Refusal) (nodes records : List ℕ) → (tables_clean a nodes records ≡ true) ↔ TablesKept a nodes records
unfolding tables_clean
tables_clean_exactly a nodes records = (λ e. to e, λ k. from k)
  where
    to : tables_clean a nodes records ≡ true → TablesKept a nodes records
    to e =
        let h = both_true (kept number_filler (nodes_taken a) nodes) (kept number_filler (records_taken a) records) e in
        record { nodes_kept = (kept_exactly number_filler (nodes_taken a) nodes).0 h.0; records_kept = (kept_exactly number_filler (records_taken a) records).0 h.1 }

    from : TablesKept a nodes records → tables_clean a nodes records ≡ true
    from k = rw ((kept_exactly number_filler (nodes_taken a) nodes).1 k.nodes_kept, (kept_exactly number_filler (records_taken a) records).1 k.records_kept)

---- The offset of the sets ----

-- it is an offset in a file that can be read
place_near : (s : List ℕ) (nr rr : ℕ) {o : Outcome} → Way s nr rr o → sets_place o.answer ≤ 22408
unfolding sets_place
place_near s nr rr (few_nodes h) = omega arith
place_near s nr rr (few_records h) = omega arith
place_near s nr rr (stopped h l g) = omega arith
place_near s nr rr (longer f end h l g w) = omega arith
place_near s nr rr (faulty f end h l g w k) = omega arith
place_near s nr rr (whole f end h l g w k) = let r = layout_runs s g in omega (arith, runs_end s r, (runs_near s r).2)

pub place_short : {s nodes records nodes' records' : List ℕ} {a : Result Counts Refusal} → ReadAs s nodes records nodes' records' a → sets_place a ≤ 22408
place_short {s} {nodes} {records} h =
    subst (λ (a : Result Counts Refusal). sets_place a ≤ 22408) (sym h.answer) (place_near s (length nodes) (length records) (way s (length nodes) (length records)))

---- The reader leaves them clean ----

-- nothing is put into the tables by a reading that is refused
none_put : (s : List ℕ) (nr rr : ℕ) {r : Refusal} {o : Outcome} → Way s nr rr o → o.answer ≡ Err r → (o.nodes ≡ []) × (o.records ≡ [])
none_put s nr rr (few_nodes h) e = (refl, refl)
none_put s nr rr (few_records h) e = (refl, refl)
none_put s nr rr (stopped h l g) e = (refl, refl)
none_put s nr rr (longer f end h l g w) e = (refl, refl)
none_put s nr rr (faulty f end h l g w k) e = (refl, refl)
none_put s nr rr (whole f end h l g w k) e = read_not_refused e

module _ (s : List ℕ) (nr rr : ℕ) where
  -- as many numbers are put into the tables as the answer says
  taken : (a : Result Counts Refusal) → (reading s nr rr).answer ≡ a → (nodes_taken a ≡ length (reading s nr rr).nodes) × (records_taken a ≡ length (reading s nr rr).records)
  unfolding nodes_taken records_taken
  taken (Ok c) e =
      let f = read_file s nr rr e in (
        sym (ap (λ (o : Outcome). length o.nodes) f.is ∙ f.whole_nodes),
        ap (λ (c' : Counts). c'.records) f.counted ∙ sym (ap (λ (o : Outcome). length o.records) f.is),
      )
  taken (Err r) e =
      let n = none_put s nr rr (way s nr rr) e in
      (sym (ap length n.0), sym (ap length n.1))

module _ (nr rr : ℕ) {s nodes records nodes' records' : List ℕ} {a : Result Counts Refusal} (fn : nodes ≡ replicate nr number_filler) (fr : records ≡ replicate rr number_filler)
    (h : ReadAs s nodes records nodes' records' a) where
  node_room : length nodes ≡ nr
  node_room = ap length fn ∙ length-replicate nr number_filler

  record_room : length records ≡ rr
  record_room = ap length fr ∙ length-replicate rr number_filler

  -- the tables after the call, by what was lent alone
  pub nodes_left : nodes' ≡ at_front (reading s nr rr).nodes (replicate nr number_filler)
  nodes_left = h.nodes_after ∙ (λ i. at_front (reading s (node_room i) (record_room i)).nodes (fn i))

  pub records_left : records' ≡ at_front (reading s nr rr).records (replicate rr number_filler)
  records_left = h.records_after ∙ (λ i. at_front (reading s (node_room i) (record_room i)).records (fr i))

  -- `dirty` is never printed
  pub tables_always_clean : tables_clean a nodes' records' ≡ true
  unfolding tables_clean
  tables_always_clean =
      let o = reading s (length nodes) (length records) in
      let t = taken s (length nodes) (length records) a (sym h.answer) in
      rw (kept_front number_filler nr o.nodes fn h.nodes_after t.0, kept_front number_filler rr o.records fr h.records_after t.1)

  -- so the line of a case ends in `clean`, whatever is read
  pub read_line_clean : {b : Bool} {out out' : List ℕ} {r : ℕ} → b ≡ tables_clean a nodes' records' → Put (read_line a b) out 0 out' r
      → Put (read_line (reading s nr rr).answer true) out 0 out' r
  read_line_clean {b} {out} {out'} {r} c w =
      subst₂ (λ (x : Result Counts Refusal) (y : Bool). Put (read_line x y) out 0 out' r)
      (h.answer ∙ ap₂ (λ (x y : ℕ). (reading s x y).answer) node_room record_room)
      (c ∙ tables_always_clean) w
