-- `writer::put_number` meets its contract: the number's bytes are copied. Assumes nothing.
use Rattle.std.proofs.Common.{ℕ, List, ◌++◌, drop, ap, ◌∙◌, arith}
use Rattle.format.specs.Format.{number_bytes}
use Rattle.writer.proofs.Fronts.{number_low_first}
use Rattle.writer.proofs.put_number.Goals as goal

pub returns : goal.returns
unfolding number_bytes
returns c =
    let bytes = c.copy_from_slice.ensures.after ∙ c.to_le_bytes.ensures ∙ number_low_first c.args.number (omega arith) in
    ap (λ (bs : List ℕ). bs ++ drop 2 c.args.room.now) bytes
