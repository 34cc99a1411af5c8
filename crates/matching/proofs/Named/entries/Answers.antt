-- `matching::Named::entries` meets its contract: all entries of the section lie inside it. Assumes nothing.
use mathlib.Core.Path.{refl}
use native.Mathlib.Omega.{arith}
use Rattle.format.specs.EntryLaws.{whole_there}
use Rattle.format.specs.Items.{entries_end}
use Rattle.matching.specs.SectionTest.{whole_by}
use Rattle.matching.proofs.Named.entries.Goals as goal

pub invariant_of-result : goal.invariant_of-result
invariant_of-result c =
    let names = c.args.self.now in
    let there = whole_there names.section.now (whole_by _ names.whole) in
    record { inside = rw c.count.ensures there.inside; few = omega (arith, there.few, c.count.ensures) }

pub returns : goal.returns
unfolding entries_end
returns c = record { same = refl; event = refl; at = refl; all = omega (arith, c.count.ensures) }
