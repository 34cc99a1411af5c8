-- `program::next_file` meets its contract: of what is read, what may follow is shown. Assumes nothing.
use mathlib.Core.Path.{sym}
use lib.Seq.{length-take-le}
use Rattle.program.specs.NextFileLaws.{refused_file, beginning_inside, held_file}
use Rattle.program.proofs.next_file.Goals as goal

pub slice_bounds-next_tables-end : goal.slice_bounds-next_tables-end
slice_bounds-next_tables-end c =
    sym (length-take-le _ _ (rw c.so_many-k.ensures (beginning_inside c.args.file.now c.args.first c.in-Ok.ensures c.records.ensures)))

pub returns-in-Ok : goal.returns-in-Ok
returns-in-Ok c =
    let e = held_file c.args.file.now c.args.first c.in-Ok.ensures c.records.ensures c.names_of.ensures c.nodes.ensures in record {
      next_printed = rw e at (rw c.so_many-k.ensures at c.next_tables.ensures.put);
      prefix_len = c.next_tables.ensures.prefix_len;
    }

pub returns-in-Err : goal.returns-in-Err
returns-in-Err c =
    let e = refused_file c.args.file.now c.args.first c.in-Err.ensures in record {
      next_printed = rw e at c.put_answer.ensures.put;
      prefix_len = c.put_answer.ensures.prefix_len;
    }
