-- `judge::judge_named` meets its contract: the check's refusal, or what the search by the cues gives. Assumes nothing.
use mathlib.Core.Path.{refl, sym, ◌∙◌}
use lib.ListN.{length}
use Rattle.flow.specs.declared.Extent.TheVariants.{Whole}
use Rattle.matching.specs.SectionTest.{by_whole}
use Rattle.judge.specs.Judged.{named_flow}
use Rattle.judge.specs.JudgedLaws.{judge_refuses, named_passed, named_lists, records_few}
use Rattle.judge.specs.ByCues.{named_ready, named_judged}
use Rattle.judge.proofs.judge_named.Goals as goal

pub returns-in-Err : goal.returns-in-Err
returns-in-Err c =
    let a = c.args in
    judge_refuses (named_flow a.names.now a.sets.now a.nodes.now) a.nodes.now a.records.now a.allowance a.work.now _ (sym c.check_named.ensures ∙ c.in-Err.is)

pub invariant_of-names : goal.invariant_of-names
invariant_of-names c =
    let a = c.args in
    record { whole = by_whole a.names.now (named_lists a.sets.now a.nodes.now a.records.now (length a.work.now) a.names.now (sym c.check_named.ensures ∙ c.in_default.is)).section }

pub answer_by-requires : goal.answer_by-requires
answer_by-requires c =
    let a = c.args in record {
      records_bound = records_few Whole a.nodes.now a.records.now (named_passed a.sets.now a.nodes.now a.records.now (length a.work.now) a.names.now (sym c.check_named.ensures ∙ c.in_default.is)).records;
      ready = named_ready a.sets.now a.nodes.now a.records.now a.work.now a.names.now (sym c.check_named.ensures ∙ c.in_default.is) refl;
    }

pub returns : goal.returns
returns c =
    let a = c.args in
    named_judged a.sets.now a.nodes.now a.records.now a.work.now a.names.now (sym c.check_named.ensures ∙ c.in_default.is) refl c.answer_by.ensures
