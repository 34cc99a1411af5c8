-- `writer::put_lists` meets its contract: the names as they are, and three sections behind them. Assumes nothing.
use Prim.Native.Nat.{ℕ}
use mathlib.Core.List.{List, [], ◌++◌, append_assoc}
use mathlib.Core.Path.{refl, ap, ◌∙◌}
use native.Mathlib.Omega.{arith}
use lib.ListN.{length-append}
use Rattle.format.specs.Format.{numbers_section, sets_section}
use Rattle.format.specs.Told.{at_front}
use Rattle.format.specs.Lengths.{section_length}
use Rattle.writer.specs.Writing.{lists_bytes}
use Rattle.writer.proofs.Fronts.{front_then, front_copied}
use Rattle.writer.proofs.put_lists.Goals as goal

pub returns : goal.returns
unfolding lists_bytes
returns c =
    let a = c.args in
    let s = a.names.now in
    let ns = numbers_section 3 a.nodes.now in
    let rs = numbers_section 1 a.records.now in
    let xs = sets_section a.sets.now in
    let t = a.file.now in
    let copied = front_copied [] s t refl refl refl c.copy_from_slice.ensures.after in
    let nodes_there = front_then s ns t copied refl refl c.put_section.ensures in
    let nodes-sized = section_length 3 a.nodes.now in
    let records-sized = section_length 1 a.records.now in
    let records_there = front_then (s ++ ns) rs t nodes_there (omega (arith, length-append s ns)) refl c.put_section-2.ensures in
    front_then ((s ++ ns) ++ rs) xs t records_there (omega (arith, length-append s ns, length-append (s ++ ns) rs)) refl c.put_sets.ensures
    ∙ ap (λ (bs : List ℕ). at_front bs t) (append_assoc (s ++ ns) rs xs ∙ append_assoc s ns (rs ++ xs))
