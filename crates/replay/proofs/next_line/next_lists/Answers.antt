-- `replay::next_line::next_lists` meets its contract: the list and the work bytes are filled, listed and worked on, and found clean, always. Assumes nothing.
use lib.ListN.{length}
use Rattle.std.specs.Prelude.{option_copied}
use Rattle.replay.specs.Lent.{lent_flow, lent_next_check}
use Rattle.replay.specs.NextLineLaws.{next_tellable, next_case}
use Rattle.replay.proofs.next_line.next_lists.Goals as goal

pub write_case-requires : goal.write_case-requires
write_case-requires c =
    record {
      tellable = next_tellable c.answer-answer.ensures;
      in_bounds = c.requires;
    }

pub returns : goal.returns
returns c =
    let l = c.args.lists in
    let names = option_copied l.names in
    let filled = c.fill.ensures.after (λ y e. e) in
    let cleaned = c.fill-2.ensures.after (λ y e. e) in
    let h = c.answer-answer.ensures in record {
      next_case_of = next_case (lent_next_check names l.sets.now l.nodes.now l.records.now) (length c.args.list.now) (length c.args.work.now) {flow = lent_flow names l.sets.now l.nodes.now} filled cleaned h c.clean-clean.ensures c.write_case.ensures.put;
      upper_bound = c.write_case.ensures.upper_bound;
    }
