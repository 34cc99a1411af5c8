-- `replay::read_line::read_tables` meets its contract: the tables are filled, read into and found clean, always. Assumes nothing.
use native.Mathlib.Omega.{arith}
use mathlib.Core.Path.{sym}
use lib.ListN.{length}
use lib.Seq.{length-take-le}
use borrow.Author.Rules.{rules}
use Rattle.line.specs.LineLaws.{put_length}
use Rattle.replay.specs.ReadLineLaws.{place_short, nodes_left, records_left, read_line_clean}
use Rattle.replay.proofs.read_line.read_tables.Goals as goal

pub write_case-requires : goal.write_case-requires
write_case-requires c =
    record {
      answer_bound = place_short c.read-answer.ensures;
      in_bounds = search rules;
    }

pub returns : goal.returns
returns c =
    let nr = length c.args.nodes.now in
    let rr = length c.args.records.now in
    let fn = c.fill.ensures.after (λ y e. e) in
    let fr = c.fill-2.ensures.after (λ y e. e) in
    let r = c.read-answer.ensures in
    let p = c.requires in
    let l = put_length c.write_case.ensures.put (omega arith) in record {
      put = read_line_clean nr rr fn fr r c.clean.ensures c.write_case.ensures.put;
      nodes_after = nodes_left nr rr fn fr r;
      records_after = records_left nr rr fn fr r;
      prefix_len = (omega arith, sym (length-take-le _ _ (omega arith)));
    }
