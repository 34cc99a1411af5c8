-- `matching::NamedNames::mark_taken` meets its contract: the event itself, and by its entry those that have its step name. Assumes nothing.
use mathlib.Core.Path.{sym, ◌∙◌}
use Rattle.matching.specs.SectionTest.{whole_by}
use Rattle.matching.proofs.CueLaws.{placed_inside}
use Rattle.matching.proofs.MarkLaws.{marked_unnamed, marked_machine, marked_steps}
use Rattle.matching.proofs.NamedNames.mark_taken.Goals as goal

pub without_machine-requires : goal.without_machine-requires
without_machine-requires c = let names = c.args.self.now in placed_inside names.section.now (whole_by _ names.whole) c.args.event c.in-Some.ensures

pub mark_steps-requires : goal.mark_steps-requires
mark_steps-requires c = let names = c.args.self.now in placed_inside names.section.now (whole_by _ names.whole) c.args.event c.in-Some.ensures

pub returns-then-without_machine : goal.returns-then-without_machine
returns-then-without_machine c =
    let names = c.args.self.now in
    let bare = sym c.without_machine.ensures ∙ c.if-without_machine.true in
    marked_steps names.section.now (whole_by _ names.whole) c.args.event c.mark_event.ensures c.in-Some.ensures bare c.mark_steps.ensures

pub returns-else-without_machine : goal.returns-else-without_machine
returns-else-without_machine c =
    let names = c.args.self.now in
    let machine = sym c.without_machine.ensures ∙ c.if-without_machine.false in
    marked_machine names.section.now (whole_by _ names.whole) c.args.event c.mark_event.ensures c.in-Some.ensures machine

pub returns-in_default : goal.returns-in_default
returns-in_default c =
    let names = c.args.self.now in
    marked_unnamed names.section.now (whole_by _ names.whole) c.args.event c.mark_event.ensures c.in_default.ensures
