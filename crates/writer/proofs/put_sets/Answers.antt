-- `writer::put_sets` meets its contract: nothing without sets; else their count, and the sets as they are behind it. Assumes nothing.
use mathlib.Core.List.{List}
use mathlib.Core.Path.{refl, sym, ap, ◌∙◌}
use Prim.Native.Nat.{ℕ, ◌<◌}
use lib.ListN.{length}
use native.Mathlib.Omega.{arith}
use borrow.Author.Rules.{rules}
use Rattle.flow.specs.Legends.{set_count}
use Rattle.format.specs.Format.{number_bytes}
use Rattle.format.specs.Told.{at_front}
use Rattle.format.specs.Lengths.{section_of_none, section_of_some, sets_length}
use Rattle.writer.proofs.Fronts.{front_copied}
use Rattle.writer.proofs.put_sets.Goals as goal

pub returns-then-is_empty : goal.returns-then-is_empty
returns-then-is_empty c = sym (ap (λ (bs : List ℕ). at_front bs c.args.room.now) (section_of_none _ (search rules)))

pub put_number-requires : goal.put_number-requires
put_number-requires c =
    let some : 0 < length c.args.sets.now = search rules in
    let size = sets_length c.args.sets.now some in
    omega arith

pub slice_bounds-copy_from_slice-end : goal.slice_bounds-copy_from_slice-end
slice_bounds-copy_from_slice-end c =
    let some : 0 < length c.args.sets.now = search rules in
    let size = sets_length c.args.sets.now some in
    search rules

pub returns : goal.returns
unfolding number_bytes
returns c =
    let a = c.args in
    let sets = a.sets.now in
    let t = a.room.now in
    let some : 0 < length sets = search rules in
    front_copied (number_bytes (set_count sets)) sets t c.put_number.ensures refl (omega arith) c.copy_from_slice.ensures.after
    ∙ sym (ap (λ (bs : List ℕ). at_front bs t) (section_of_some sets some))
