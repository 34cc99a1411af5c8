-- `ahead::next_named` meets its contract: the check's refusal, or what the search by the cues and the asks gives. Assumes nothing.
use mathlib.Core.Path.{refl, sym, ◌∙◌}
use lib.ListN.{length}
use Rattle.flow.specs.declared.Extent.TheVariants.{Beginning}
use Rattle.matching.specs.SectionTest.{by_whole}
use Rattle.judge.specs.Judged.{named_flow}
use Rattle.judge.specs.JudgedLaws.{records_few}
use Rattle.ahead.specs.CheckLaws.{named_next_lists, named_next_passed}
use Rattle.ahead.proofs.ByAsks.{next_refuses, named_next_ready, named_next}
use Rattle.ahead.proofs.next_named.Goals as goal

pub returns-in-Err : goal.returns-in-Err
returns-in-Err c =
    let a = c.args in
    next_refuses (named_flow a.names.now a.sets.now a.nodes.now) a.nodes.now a.beginning.now a.allowance a.list.now a.work.now _ (sym c.check_next_named.ensures ∙ c.in-Err.is)

pub invariant_of-names : goal.invariant_of-names
invariant_of-names c =
    let a = c.args in
    record { whole = by_whole a.names.now (named_next_lists a.names.now a.sets.now a.nodes.now a.beginning.now (length a.list.now) (length a.work.now) (sym c.check_next_named.ensures ∙ c.in_default.is)).section }

pub answer_by-requires : goal.answer_by-requires
answer_by-requires c =
    let a = c.args in record {
      beginning_bound = records_few Beginning a.nodes.now a.beginning.now (named_next_passed a.names.now a.sets.now a.nodes.now a.beginning.now (length a.list.now) (length a.work.now) (sym c.check_next_named.ensures ∙ c.in_default.is)).0.records;
      ready = named_next_ready a.sets.now a.nodes.now a.beginning.now a.list.now a.work.now a.names.now (sym c.check_next_named.ensures ∙ c.in_default.is) refl refl;
    }

pub returns : goal.returns
returns c =
    let a = c.args in
    named_next a.sets.now a.nodes.now a.beginning.now a.list.now a.work.now a.names.now (sym c.check_next_named.ensures ∙ c.in_default.is) refl refl c.answer_by.ensures
