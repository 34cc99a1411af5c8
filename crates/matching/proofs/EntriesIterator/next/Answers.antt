-- `matching::EntriesIterator::next` meets its contract: where an entry is left, it lies inside, and so do those behind it. Assumes nothing.
use Prim.Native.Nat.{◌<◌}
use native.Mathlib.Omega.{arith}
use Rattle.matching.proofs.CueLaws.{left_ends, left_inside}
use Rattle.matching.proofs.EntriesIterator.next.Goals as goal

pub end_of_entry-requires : goal.end_of_entry-requires
end_of_entry-requires c = let e = c.args.self.now in left_inside e.section.now e.left e.next.at (omega arith) e.inside

pub invariant_of-self : goal.invariant_of-self
invariant_of-self c =
    let e = c.args.self.now in
    let some : 0 < e.left = omega arith in
    record { inside = rw (c.end_of_entry.ensures, ← left_ends e.section.now e.left e.next.at some) e.inside; few = omega (arith, e.few) }
