-- `replay::read_line::put_reading` meets its contract, case by case. Assumes nothing.
use Rattle.std.proofs.Common.{rules, arith}
use Rattle.replay.specs.ReadLine.{sets_place, read_text}
use Rattle.replay.proofs.read_line.put_reading.Goals as goal

pub put_counts-requires : goal.put_counts-requires
unfolding sets_place
put_counts-requires c =
    let e = c.in-Ok.is in record {
      sets_at_bound = rw e at c.requires.answer_bound;
      room = c.requires.room;
    }

pub returns-in-Ok : goal.returns-in-Ok
unfolding read_text
returns-in-Ok c =
    record {
      put = rw c.in-Ok.is c.put_counts.ensures.put;
      same_room = search rules;
      upper_bound = c.put_counts.ensures.upper_bound;
    }

pub returns-in-Err : goal.returns-in-Err
unfolding read_text
returns-in-Err c =
    record {
      put = rw c.in-Err.is c.put_refused.ensures.put;
      same_room = search rules;
      upper_bound = omega arith;
    }
