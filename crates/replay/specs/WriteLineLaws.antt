-- The lent bytes are found clean exactly if what is promised to stay does, the writer leaves them so, and there is room in the line for what
-- it writes. Assumes nothing.
use Rattle.std.specs.Prelude.{ℕ, Bool, true, List, ◌↔◌, ◌≡◌, drop, replicate, Result, Ok, Err}
use native.Mathlib.Omega.{arith}
use Rattle.std.proofs.Math.Path.{sym}
use Rattle.std.proofs.Common.{ap, ◌∙◌, subst₂, length-append}
use Rattle.std.proofs.Math.ListN.{length, length-replicate}
use Rattle.format.specs.Told.{at_front}
use Rattle.line.specs.Line.{Put}
use Rattle.flow.specs.declared.Refusal.{Refusal}
use Rattle.writer.specs.declared.Size.{Size}
use Rattle.writer.specs.Writing.{writing, bytes_first, WrittenAs}
use Rattle.writer.proofs.WriterLaws.{written_lists, refused_lists}
use Rattle.replay.specs.Filler.{filler, Kept}
use Rattle.replay.specs.WriteLine.{length_written, file_clean, write_line, Printable}
use Rattle.replay.specs.FillerLaws.{kept_exactly, kept_front}

-- `clean` is printed exactly if the bytes are filler behind what was written
pub file_clean_exactly : (a : Result Size Refusal) (file : List ℕ) → (file_clean a file ≡ true) ↔ Kept filler (length_written a) file
unfolding file_clean
file_clean_exactly a file = kept_exactly filler (length_written a) file

module _ (s ns rs sets : List ℕ) (room : ℕ) where
  -- as many bytes stand first as the answer says
  written_first : (a : Result Size Refusal) → writing s ns rs sets room ≡ a → length_written a ≡ length (bytes_first s ns rs sets room)
  unfolding length_written
  written_first (Ok e) h = let w = written_lists s ns rs sets room h in w.sized ∙ sym (ap length w.first)
  written_first (Err r) h = sym (ap length (refused_lists s ns rs sets room h))

  written_fits : (a : Result Size Refusal) → writing s ns rs sets room ≡ a → Printable a (replicate room filler)
  unfolding length_written
  written_fits (Ok e) h =
      let w = written_lists s ns rs sets room h in
      record { short = w.short; there = omega (arith, w.fits, length-replicate room filler) }
  written_fits (Err r) h = record { short = omega arith; there = omega arith }

module _ {s ns rs sets file file' : List ℕ} {a : Result Size Refusal} (h : WrittenAs s ns rs sets file file' a) where
  first_is : length_written a ≡ length (bytes_first s ns rs sets (length file))
  first_is = written_first s ns rs sets (length file) a (sym h.answer)

  -- what is written fits the line
  pub written_printable : Printable a file'
  written_printable =
      let p = written_fits s ns rs sets (length file) a (sym h.answer) in
      let b = bytes_first s ns rs sets (length file) in
      record { short = p.short; there = omega (arith, ap length h.file_after, length-append b (drop (length b) file), first_is) }

  module _ (room : ℕ) (f : file ≡ replicate room filler) where
    lent_room : length file ≡ room
    lent_room = ap length f ∙ length-replicate room filler

    -- the bytes after the call, by what was lent alone
    pub file_left : file' ≡ at_front (bytes_first s ns rs sets room) (replicate room filler)
    file_left = h.file_after ∙ (λ i. at_front (bytes_first s ns rs sets (lent_room i)) (f i))

    -- `dirty` is never printed
    pub file_always_clean : file_clean a file' ≡ true
    unfolding file_clean
    file_always_clean = kept_front filler room (bytes_first s ns rs sets (length file)) f h.file_after first_is

    -- so the line of a case ends in `clean`, whatever is written
    pub write_line_clean : {b : Bool} {out out' : List ℕ} {r : ℕ} → b ≡ file_clean a file' → Put (write_line a file' b) out 0 out' r
        → Put (write_line (writing s ns rs sets room) file' true) out 0 out' r
    write_line_clean {b} {out} {out'} {r} c w =
        subst₂ (λ (x : Result Size Refusal) (y : Bool). Put (write_line x file' y) out 0 out' r)
        (h.answer ∙ ap (λ (n : ℕ). writing s ns rs sets n) lent_room)
        (c ∙ file_always_clean) w
