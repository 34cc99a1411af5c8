-- From what the reader answered to what comes of a file that is written again. Assumes nothing.
use Rattle.std.specs.Prelude.{ℕ, ◌-◌, ◌≡◌, take, drop, Result, Ok, Err, ◌≤◌, ◌*◌}
use Rattle.std.specs.Result.{ForOk}
use Rattle.std.proofs.Common.{arith, ◌∙◌, length-append, subst₂}
use mathlib.Core.List.{List}
use Rattle.std.proofs.Math.Path.{sym, ap}
use Rattle.std.proofs.Math.ListN.{length}
use Rattle.flow.specs.declared.Refusal.{Refusal}
use Rattle.format.specs.Told.{at_front}
use Rattle.reader.specs.declared.Counts.{Counts}
use Rattle.reader.specs.Reading.{Outcome, reading}
use Rattle.writer.specs.declared.Size.{Size}
use Rattle.writer.specs.Writing.{WrittenAs}
use Rattle.writer.proofs.WriterLaws.{written_lists}
use Rattle.program.specs.declared.tables.Tables.{Tables}
use Rattle.program.specs.FileParts.{names_of, sets_of}
use Rattle.program.specs.Rewriting.{Copy, refused_copy, copied, rewriting, FileRewritten}
use Rattle.program.specs.ProgramLaws.{sets_all}
use Rattle.program.specs.FileTables.{Held}

---- The file, by what the reader answered ----

module _ {file out : List ℕ} where
  pub refused_rewritten : {q : Refusal} → (reading file 192 256).answer ≡ Err q → FileRewritten file out out (Err q)
  unfolding rewriting copied
  refused_rewritten e =
      let o = reading file 192 256 in
      let k = ap (λ (a : Result Counts Refusal). copied file (length out) a o.nodes o.records) e in
      record { answer = sym (ap (λ (c : Copy). c.answer) k); out_after = sym (ap (λ (c : Copy). at_front c.bytes out) k) }

  pub held_rewritten : {t : Tables} {out' : List ℕ} {r : Result Size Refusal} → Held file t
      → {s ns rs : List ℕ} → s ≡ names_of file → ns ≡ take (3 * t.counts.nodes) t.nodes → rs ≡ take t.counts.records t.records
      → WrittenAs s ns rs (take (length file - t.counts.sets_at) (sets_of t.counts file)) out out' r → FileRewritten file out out' r
  unfolding rewriting copied
  held_rewritten {t} {out'} {r} h {rs = rs} e n k v =
      let sets = take (length file - t.counts.sets_at) (sets_of t.counts file) in
      let a = subst₂ (λ (s ns : List ℕ). WrittenAs s ns rs sets out out' r) e n v in
      let w = subst₂ (λ (rs sets : List ℕ). WrittenAs (names_of file) (take (3 * t.counts.nodes) t.nodes) rs sets out out' r) k (sets_all t.counts file) a in
      let o = ap (λ (p : Outcome). copied file (length out) p.answer p.nodes p.records) h.outcome in
      record { answer = w.answer ∙ sym (ap (λ (c : Copy). c.answer) o); out_after = w.file_after ∙ sym (ap (λ (c : Copy). at_front c.bytes out) o) }

---- How much is written ----

-- as much as the answer says
Sized : Copy → Type 0
Sized k = (e : Size) → k.answer ≡ Ok e → e.length ≡ length k.bytes

refused_sized : (r : Refusal) → Sized (refused_copy r)
unfolding Sized
refused_sized r e h = let z : ◌≡◌ {A = ℕ} 0 1 = cc in absurd (omega arith)

module _ (file : List ℕ) (room : ℕ) where
  rewriting_sized : Sized (rewriting file room)
  unfolding rewriting copied Sized
  rewriting_sized = by (reading file 192 256).answer (reading file 192 256).nodes (reading file 192 256).records
    where
      by : (a : Result Counts Refusal) (ns rs : List ℕ) → Sized (copied file room a ns rs)
      by (Err r) ns rs = refused_sized r
      by (Ok c) ns rs = λ e h. let w = written_lists (names_of file) ns rs (sets_of c file) room h in w.sized ∙ ap length (sym w.first)

pub rewritten_within : {file out out' : List ℕ} {r : Result Size Refusal} → FileRewritten file out out' r → ForOk r (λ e. e.length ≤ length out')
unfolding Sized
rewritten_within {file} {out} h e d =
    let bytes = (rewriting file (length out)).bytes in
    let n = rewriting_sized file (length out) e (sym h.answer ∙ d) in
    omega (arith, n, ap length h.out_after, length-append bytes (drop (length bytes) out))
