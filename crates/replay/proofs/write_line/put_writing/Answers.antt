-- `replay::write_line::put_writing` meets its contract, case by case. Assumes nothing.
use Rattle.std.proofs.Common.{rules, arith}
use Rattle.replay.specs.WriteLine.{length_written, write_text}
use Rattle.replay.proofs.write_line.put_writing.Goals as goal

pub put_written-requires : goal.put_written-requires
unfolding length_written
put_written-requires c =
    let e = c.in-Ok.is in record {
      length_bound = rw e at c.requires.printable.short;
      length_in_bounds = rw e at c.requires.printable.there;
      room = c.requires.room;
    }

pub returns-in-Ok : goal.returns-in-Ok
unfolding write_text
returns-in-Ok c =
    record {
      put = rw c.in-Ok.is c.put_written.ensures.put;
      same_room = search rules;
      upper_bound = c.put_written.ensures.upper_bound;
    }

pub returns-in-Err : goal.returns-in-Err
unfolding write_text
returns-in-Err c =
    record {
      put = rw c.in-Err.is c.put_refused.ensures.put;
      same_room = search rules;
      upper_bound = omega arith;
    }
