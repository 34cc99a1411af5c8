-- `matching::NamedNames::other_event` meets its contract: an event that has an entry is looked up from that entry. Assumes nothing.
use mathlib.Core.Path.{◌∙◌}
use Rattle.matching.specs.SectionTest.{whole_by}
use Rattle.matching.proofs.CueLaws.{no_other, placed_inside, has_other}
use Rattle.matching.proofs.NamedNames.other_event.Goals as goal

pub first_taking-requires : goal.first_taking-requires
first_taking-requires c = let names = c.args.self.now in placed_inside names.section.now (whole_by _ names.whole) c.args.event c.in-Some.ensures

pub returns-in-Some : goal.returns-in-Some
returns-in-Some c = let names = c.args.self.now in c.first_taking.ensures ∙ has_other names.section.now (whole_by _ names.whole) c.args.event c.in-Some.ensures

pub returns-in-None : goal.returns-in-None
returns-in-None c = let names = c.args.self.now in no_other names.section.now (whole_by _ names.whole) c.args.event c.in-None.ensures
