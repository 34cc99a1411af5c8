-- What `rewrite_file` does, for every file and room, by its contract: a file that is read comes out as it was, if there is room for it,
-- and is refused with 14 if not; every other file is refused as the reader refuses it, and the lent bytes stay as they were.
-- Theorems only. Assumes nothing.
use Rattle.std.specs.Prelude.{ℕ, ◌≤◌, ◌<◌, ◌⊎◌, ◌↔◌, ◌≡◌, refl, T, ltb, length, Result}
use mathlib.Core.List.{List}
use Rattle.std.proofs.Common.{inl, inr, sym, ◌∙◌, subst, arith, lt-ltb}
use Rattle.std.proofs.Math.Path.{ap, ap₂}
use Rattle.flow.specs.Earliest.{is_lone}
use Rattle.format.specs.Format.{names_section, File, encode}
use Rattle.format.specs.Limits.{Bytes}
use Rattle.format.specs.NameFaults.{in_order}
use Rattle.format.specs.Told.{refusal_of, at_front}
use Rattle.reader.specs.Faults.{Readable, Refuses}
use Rattle.reader.specs.Reading.{Outcome}
use Rattle.flow.specs.declared.Refusal.{Refusal}
use Rattle.writer.specs.declared.Size.{Size}
use Rattle.writer.specs.Told.{WritingTold, writing_told, writing_written, writing_refused}
use Rattle.writer.specs.Writes.{WriteRefuses}
use Rattle.writer.specs.Writing.{writing, bytes_first, WrittenAs}
use Rattle.program.specs.Rewriting.{Copy, refused_copy, copied, rewriting, FileRewritten}
use Rattle.promises.specs.Reader.{readable_read}
use Rattle.promises.specs.ReaderRefusals.{refuses_refused}
use Rattle.promises.specs.Reads.{read_or_refused}
use Rattle.promises.specs.ListRefusals.{earliest_after}
use Rattle.promises.specs.Writer.{good_sets_bytes, writable_lists, writable_some, refuse_tells, write_keeps}
use Rattle.promises.specs.RoundTrip.{names_handed, sets_handed, readable_writable, parts_written}

---- What is made of a file ----

module _ (file : List ℕ) (room : ℕ) where
  -- a file that is read is written from its own parts
  rewriting_readable : (f : File) → Readable file 192 256 f
      → rewriting file room ≡ record {
        answer = writing (names_section f.names) f.nodes f.records f.sets room;
        bytes = bytes_first (names_section f.names) f.nodes f.records f.sets room;
      }
  unfolding rewriting copied
  rewriting_readable f r =
      ap (λ (o : Outcome). copied file room o.answer o.nodes o.records) (readable_read file 192 256 f r)
      ∙ ap₂ (λ (s sets : List ℕ). record { answer = writing s f.nodes f.records sets room; bytes = bytes_first s f.nodes f.records sets room })
      (names_handed file r) (sets_handed file r)

  -- any other is refused
  rewriting_refuses : {k p : ℕ} → Refuses file 192 256 k p → rewriting file room ≡ refused_copy (refusal_of k p)
  unfolding rewriting copied
  rewriting_refuses x = ap (λ (o : Outcome). copied file room o.answer o.nodes o.records) (refuses_refused file 192 256 x)

---- What it promises ----

module _ {file out out' : List ℕ} {r : Result Size Refusal} (ensured : FileRewritten file out out' r) where
  -- a file that is read: what `write` ensures of its parts is ensured
  as_written : {f : File} → Readable file 192 256 f → WrittenAs (names_section f.names) f.nodes f.records f.sets out out' r
  as_written {f} x =
      let e = rewriting_readable file (length out) f x in
      record {
        answer = ensured.answer ∙ ap (λ (c : Copy). c.answer) e;
        file_after = ensured.out_after ∙ ap (λ (c : Copy). at_front c.bytes out) e;
      }

  -- a file that is read comes out as it was
  pub rewrite_same : {f : File} → Readable file 192 256 f → length file ≤ length out → (writing_told r ≡ writing_written (length file)) × (out' ≡ at_front file out)
  rewrite_same x room = parts_written x.encoded (readable_writable x room refl refl refl refl) (as_written x)

  -- with too little room for it, it is refused with 14, and the lent bytes stay
  pub rewrite_short : {f : File} → Readable file 192 256 f → length out < length file → (writing_told r ≡ writing_refused 14 0) × (out' ≡ out)
  rewrite_short {f} x short = (refuse_tells (as_written x) way, write_keeps (as_written x) way)
    where
      held : T (ltb (length out) (length (encode f)))
      held = subst T (sym (lt-ltb (length out) (length (encode f)) (omega (arith, ap length x.encoded)))) tt

      way : WriteRefuses (names_section f.names) f.nodes f.records f.sets (length out) 14 0
      way =
          let w = x.within in
          in_order f.names w.names refl
          (earliest_after ((writable_lists (length f.names) f.nodes f.records f.sets (good_sets_bytes w.sets)).1 (w.nodes, w.records, w.sets, x.fine))
          (is_lone refl held))

  -- a file that the reader refuses is refused so, and the lent bytes stay
  pub rewrite_tells : {k p : ℕ} → Refuses file 192 256 k p → writing_told r ≡ writing_refused k p
  unfolding writing_told
  rewrite_tells x = ap writing_told (ensured.answer ∙ ap (λ (c : Copy). c.answer) (rewriting_refuses file (length out) x))

  pub rewrite_keeps : {k p : ℕ} → Refuses file 192 256 k p → out' ≡ out
  rewrite_keeps x = ensured.out_after ∙ ap (λ (c : Copy). at_front c.bytes out) (rewriting_refuses file (length out) x)

  -- with room for the file, a refusal is told exactly when the reader refuses so
  pub rewrite_refuses : Bytes file → length file ≤ length out → (k p : ℕ) → (writing_told r ≡ writing_refused k p) ↔ Refuses file 192 256 k p
  rewrite_refuses bytes room k p = (λ e. by (read_or_refused file bytes 192 256) e, rewrite_tells)
    where
      by : ((f : File) × Readable file 192 256 f) ⊎ ((j : ℕ) × (q : ℕ) × Refuses file 192 256 j q) → writing_told r ≡ writing_refused k p → Refuses file 192 256 k p
      by (inl x) e =
          let f = x.0 in
          let v = readable_writable x.1 room refl refl refl refl in
          let some = writable_some (names_section f.names) f.nodes f.records f.sets (length out) v in
          let same = ap (λ (t : WritingTold). t.length) (sym (rewrite_same x.1 room).0 ∙ e) in
          absurd (omega (arith, ap length x.1.encoded))
      by (inr x) e =
          let d : writing_refused x.0 x.1 ≡ writing_refused k p = sym (rewrite_tells x.2) ∙ e in
          subst (λ (t : WritingTold). Refuses file 192 256 t.number t.place) d x.2

---- One outcome ----

-- the contract of `rewrite_file` leaves one answer and one content of the lent bytes
pub rewrite_once : {file out o1 o2 : List ℕ} {a b : Result Size Refusal} → FileRewritten file out o1 a → FileRewritten file out o2 b → (a ≡ b) × (o1 ≡ o2)
rewrite_once x y = (x.answer ∙ sym y.answer, x.out_after ∙ sym y.out_after)
