-- `writer::put_numbers` meets its contract: the loop's invariant: the first i numbers stand in front, and the rest is the room's.
-- Assumes nothing.
use Prim.Native.Nat.{ℕ, ◌+◌, ◌*◌, ◌<◌, ◌≤◌}
use mathlib.Core.List.{List}
use mathlib.Core.Path.{◌≡◌, refl, ap, ◌∙◌}
use native.Mathlib.Omega.{arith}
use lib.ListN.{length, get_or, take}
use lib.Seq.{length-take-le}
use Rattle.format.specs.Format.{number_bytes, numbers_bytes}
use Rattle.format.specs.Told.{at_front}
use Rattle.format.specs.Lengths.{numbers_bytes_length}
use Rattle.writer.proofs.Fronts.{front_length, front_then, numbers_bytes_next}
use Rattle.writer.proofs.put_numbers.Goals as goal

-- so many bytes stand in front
front-size : (ns : List ℕ) (i : ℕ) → i ≤ length ns → 2 * i ≡ length (numbers_bytes (take i ns))
front-size ns i h = omega (arith, numbers_bytes_length (take i ns), length-take-le i ns h)

pub loop-i-init : goal.loop-i-init
unfolding numbers_bytes
loop-i-init c = (omega arith, refl, refl)

pub loop-i-preserved : goal.loop-i-preserved
loop-i-preserved c =
    let l = c.loop-i in
    let ns = c.args.numbers.now in
    let t = c.args.room.now in
    let below : l.i < length ns = omega arith in
    let put = front_then (numbers_bytes (take l.i ns)) (number_bytes (get_or ns l.i 0)) t l.invariant.2 (front-size ns l.i l.invariant.0) refl c.put_number.ensures in
    let next = put ∙ ap (λ (bs : List ℕ). at_front bs t) (numbers_bytes_next ns l.i below) in
    (omega arith, ap length next ∙ front_length (numbers_bytes (take (l.i + 1) ns)) t (omega (arith, front-size ns (l.i + 1) (omega arith))), next)
