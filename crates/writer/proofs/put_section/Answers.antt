-- `writer::put_section` meets its contract: a count, and the numbers behind it. Assumes nothing.
use Prim.Native.Nat.{◌/◌}
use mathlib.Core.Path.{refl}
use lib.ListN.{length}
use Rattle.format.specs.Format.{number_bytes, numbers_bytes, numbers_section}
use Rattle.writer.proofs.Fronts.{front_then}
use Rattle.writer.proofs.put_section.Goals as goal

pub returns : goal.returns
unfolding numbers_section number_bytes
returns c =
    let n = c.put_number in
    front_then (number_bytes (length c.args.numbers.now / c.args.each)) (numbers_bytes c.args.numbers.now) c.args.room.now n.ensures refl refl c.put_numbers.ensures
