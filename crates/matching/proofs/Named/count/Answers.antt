-- `matching::Named::count` meets its contract: the section begins with the number of its entries. Assumes nothing.
use native.Mathlib.Omega.{arith}
use Rattle.matching.specs.SectionTest.{whole_by}
use Rattle.matching.proofs.CueLaws.{whole_long, count_is}
use Rattle.matching.proofs.Named.count.Goals as goal

pub bounds-self-0 : goal.bounds-self-0
bounds-self-0 c = let names = c.args.self.now in omega (arith, whole_long names.section.now (whole_by _ names.whole))

pub bounds-self-1 : goal.bounds-self-1
bounds-self-1 c = let names = c.args.self.now in omega (arith, whole_long names.section.now (whole_by _ names.whole))

pub returns : goal.returns
returns c = let names = c.args.self.now in count_is names.section.now (whole_by _ names.whole) c.number_from.ensures
