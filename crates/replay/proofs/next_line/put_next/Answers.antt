-- `replay::next_line::put_next` meets its contract, case by case. Assumes nothing.
use Rattle.std.proofs.Common.{rules, arith}
use Rattle.replay.specs.NextLine.{length_listed, next_text}
use Rattle.replay.proofs.next_line.put_next.Goals as goal

pub put_listed-requires : goal.put_listed-requires
unfolding length_listed
put_listed-requires c =
    let e = c.in-Listed.is in record {
      length_bound = rw e at c.requires.tellable.short;
      length_in_bounds = rw e at c.requires.tellable.there;
      room = c.requires.room;
    }

pub returns-in-Listed : goal.returns-in-Listed
unfolding next_text
returns-in-Listed c =
    record {
      put = rw c.in-Listed.is c.put_listed.ensures.put;
      same_room = search rules;
      upper_bound = c.put_listed.ensures.upper_bound;
    }

pub returns-in-Undecided : goal.returns-in-Undecided
unfolding next_text
returns-in-Undecided c =
    record {
      put = rw c.in-Undecided.is c.put_undecided.ensures.put;
      same_room = search rules;
      upper_bound = omega arith;
    }

pub returns-in-Refused : goal.returns-in-Refused
unfolding next_text
returns-in-Refused c =
    record {
      put = rw c.in-Refused.is c.put_refused.ensures.put;
      same_room = search rules;
      upper_bound = omega arith;
    }
