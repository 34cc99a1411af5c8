-- `matching::Named::entry_of` meets its contract: an entry stands behind those before it. Assumes nothing.
use Rattle.matching.specs.Entries.{entry_place}
use Rattle.matching.specs.SectionTest.{whole_by}
use Rattle.matching.proofs.CueLaws.{entries_before}
use Rattle.matching.proofs.Named.entry_of.Goals as goal

pub returns-then-event-count : goal.returns-then-event-count
unfolding entry_place
returns-then-event-count c = rw (rw c.count.ensures at c.if-event-count.true)

pub behind_entries-requires : goal.behind_entries-requires
behind_entries-requires c = let names = c.args.self.now in entries_before names.section.now (whole_by _ names.whole) c.args.event (rw c.count.ensures at c.if-event-count.false)

pub returns : goal.returns
unfolding entry_place
returns c = rw (c.behind_entries.ensures, rw c.count.ensures at c.if-event-count.false)
