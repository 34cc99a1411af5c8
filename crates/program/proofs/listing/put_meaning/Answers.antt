-- `program::listing::put_meaning` meets its contract: the entry of an event, which stands behind those before it, or a closing's word. Assumes nothing.
use Rattle.std.proofs.Common.{rules, arith}
use borrow.Author.Tests.{le-leb, lt-leb}
use Rattle.flow.specs.Records.{most_events}
use Rattle.program.specs.Listing.{meaning}
use Rattle.program.specs.ListingLaws.{entry_here}
use Rattle.program.proofs.listing.put_meaning.Goals as goal

pub behind_entries-requires : goal.behind_entries-requires
behind_entries-requires c =
    let h = entry_here c.args.names.now c.requires.whole c.args.number c.requires.showable.some (c.requires.showable.named c.if-number-le-MOST_EVENTS.true) in
    omega (arith, h.inside)

pub put_entry-requires : goal.put_entry-requires
put_entry-requires c =
    let h = entry_here c.args.names.now c.requires.whole c.args.number c.requires.showable.some (c.requires.showable.named c.if-number-le-MOST_EVENTS.true) in
    record {
      in_bounds = rw c.behind_entries.ensures h.inside;
      good_entry = rw c.behind_entries.ensures h.good;
      room = c.requires.room;
    }

pub returns-then-number-le-MOST_EVENTS : goal.returns-then-number-le-MOST_EVENTS
unfolding meaning
returns-then-number-le-MOST_EVENTS c =
    let h = entry_here c.args.names.now c.requires.whole c.args.number c.requires.showable.some (c.requires.showable.named c.if-number-le-MOST_EVENTS.true) in record {
      put = rw (le-leb c.args.number most_events c.if-number-le-MOST_EVENTS.true, h.is) (rw c.behind_entries.ensures at c.put_entry.ensures.put);
      same_room = search rules;
      upper_bound = c.put_entry.ensures.upper_bound;
    }

pub returns : goal.returns
unfolding meaning
returns c =
    record {
      put = rw (lt-leb c.args.number most_events c.if-number-le-MOST_EVENTS.false) (rw c.closing_word.ensures.word at c.put.ensures.put);
      same_room = search rules;
      upper_bound = omega (arith, c.put.ensures.put.end, c.closing_word.ensures.short);
    }
