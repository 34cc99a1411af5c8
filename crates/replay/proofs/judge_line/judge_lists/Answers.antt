-- `replay::judge_line::judge_lists` meets its contract: the work bytes are filled, judged on and found clean, always. Assumes nothing.
use lib.ListN.{length}
use Rattle.std.specs.Prelude.{option_copied}
use Rattle.replay.specs.Lent.{lent_flow, lent_judge_check}
use Rattle.replay.specs.PromisedLaws.{case_clean}
use Rattle.replay.proofs.judge_line.judge_lists.Goals as goal

pub returns : goal.returns
returns c =
    let l = c.args.lists in
    let names = option_copied l.names in
    let filled = c.fill.ensures.after (λ y e. e) in
    let j = c.answer-answer.ensures in record {
      put = case_clean (lent_judge_check names l.sets.now l.nodes.now l.records.now) (length c.args.work.now) {flow = lent_flow names l.sets.now l.nodes.now} filled j c.write_case.ensures.put;
      work_after = rw filled at j.leaves;
      upper_bound = c.write_case.ensures.upper_bound;
    }
