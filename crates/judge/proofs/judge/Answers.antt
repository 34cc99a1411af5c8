-- `judge::judge` meets its contract: the check's refusal, or what the search by the cues gives. Assumes nothing.
use mathlib.Core.Path.{refl, sym, ◌∙◌}
use lib.ListN.{length}
use Rattle.flow.specs.declared.Extent.TheVariants.{Whole}
use Rattle.flow.specs.Drawn.{flow_of}
use Rattle.judge.specs.JudgedLaws.{judge_refuses, judge_passed, records_few}
use Rattle.judge.specs.ByCues.{plain_ready, plain_judged}
use Rattle.judge.proofs.judge.Goals as goal

pub returns-in-Err : goal.returns-in-Err
returns-in-Err c =
    let a = c.args in
    judge_refuses (flow_of a.sets.now a.nodes.now) a.nodes.now a.records.now a.allowance a.work.now _ (sym c.check_all.ensures ∙ c.in-Err.is)

pub answer_by-requires : goal.answer_by-requires
answer_by-requires c =
    let a = c.args in record {
      records_bound = records_few Whole a.nodes.now a.records.now (judge_passed a.sets.now a.nodes.now a.records.now (length a.work.now) (sym c.check_all.ensures ∙ c.in_default.is)).records;
      ready = plain_ready a.sets.now a.nodes.now a.records.now a.work.now (sym c.check_all.ensures ∙ c.in_default.is) refl;
    }

pub returns : goal.returns
returns c =
    let a = c.args in
    plain_judged a.sets.now a.nodes.now a.records.now a.work.now (sym c.check_all.ensures ∙ c.in_default.is) refl c.answer_by.ensures
