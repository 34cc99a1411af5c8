-- `program::listing::put_entry` meets its contract: the two names, and a TAB between them. Assumes nothing.
use Rattle.std.proofs.Common.{rules, arith}
use mathlib.Core.Path.{ap, ◌∙◌}
use lib.ListN.{length}
use Rattle.format.specs.Items.{name_at, name_end}
use Rattle.line.specs.LineLaws.{put_then}
use Rattle.program.specs.Listing.{entry_text}
use Rattle.program.specs.ListingLaws.{name_slice}
use Rattle.program.proofs.listing.put_entry.Goals as goal

pub end_of_name-end-requires : goal.end_of_name-end-requires
end_of_name-end-requires c = rw c.end_of_name-machine.ensures c.requires.in_bounds

pub shown-requires : goal.shown-requires
shown-requires c =
    let e = ap length (name_slice c.args.names.now c.args.entry c.end_of_name-machine.ensures) in
    omega (arith, e, c.requires.good_entry.step_good.high, c.requires.room)

pub put-requires : goal.put-requires
put-requires c =
    let e = ap length (name_slice c.args.names.now c.args.entry c.end_of_name-machine.ensures) in
    omega (arith, e, c.requires.good_entry.step_good.high, c.requires.room, c.shown.ensures.upper_bound)

pub slice_bounds-shown-end-2 : goal.slice_bounds-shown-end-2
slice_bounds-shown-end-2 c =
    let e = c.end_of_name-end.ensures ∙ ap (name_end c.args.names.now) c.end_of_name-machine.ensures in
    omega (arith, e, c.requires.in_bounds)

pub shown-requires-2 : goal.shown-requires-2
shown-requires-2 c =
    let names = c.args.names.now in
    let e = ap length (name_slice names c.args.entry c.end_of_name-machine.ensures) in
    let f = ap length (name_slice names c.end_of_name-machine.result c.end_of_name-end.ensures ∙ ap (name_at names) c.end_of_name-machine.ensures) in
    omega (arith, e, f, c.requires.good_entry.step_good.high, c.requires.good_entry.machine_good.high, c.requires.room, c.shown.ensures.upper_bound, c.put.ensures.put.end)

pub returns : goal.returns
unfolding entry_text
returns c =
    let names = c.args.names.now in
    let step_is = name_slice names c.args.entry c.end_of_name-machine.ensures in
    let machine_is = name_slice names c.end_of_name-machine.result c.end_of_name-end.ensures ∙ ap (name_at names) c.end_of_name-machine.ensures in
    let step_short = c.requires.good_entry.step_good.high in
    let machine_short = c.requires.good_entry.machine_good.high in
    let room = c.requires.room in
    let put0 = rw step_is at c.shown.ensures.put in
    let high0 = rw step_is at c.shown.ensures.upper_bound in
    let n1 = c.put.ensures.put in
    let put2 = rw machine_is at c.shown-2.ensures.put in
    let high2 = rw machine_is at c.shown-2.ensures.upper_bound in
    let e = n1.end in record {
      put = put_then put0 (omega arith) (put_then n1 (omega arith) put2);
      upper_bound = omega arith;
      same_room = search rules;
    }
