-- `program::rewrite_file` meets its contract: what is read is written. Assumes nothing.
use Rattle.program.specs.RewritingLaws.{refused_rewritten, held_rewritten, rewritten_within}
use Rattle.program.proofs.rewrite_file.Goals as goal

pub returns-in-Ok : goal.returns-in-Ok
returns-in-Ok c =
    let h = held_rewritten c.in-Ok.ensures c.names_of.ensures c.nodes.ensures c.records.ensures c.write.ensures in record {
      file_rewritten = h;
      within_room = rewritten_within h;
    }

pub returns-in-Err : goal.returns-in-Err
returns-in-Err c =
    let h = refused_rewritten c.in-Err.ensures in record {
      file_rewritten = h;
      within_room = rewritten_within h;
    }
