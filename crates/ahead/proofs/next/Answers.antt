-- `ahead::next` meets its contract: the check's refusal, or what the search by the cues and the asks gives. Assumes nothing.
use mathlib.Core.Path.{refl, sym, ◌∙◌}
use lib.ListN.{length}
use Rattle.flow.specs.declared.Extent.TheVariants.{Beginning}
use Rattle.flow.specs.Drawn.{flow_of}
use Rattle.judge.specs.JudgedLaws.{records_few}
use Rattle.ahead.specs.CheckLaws.{next_passed}
use Rattle.ahead.proofs.ByAsks.{next_refuses, plain_next_ready, plain_next}
use Rattle.ahead.proofs.next.Goals as goal

pub returns-in-Err : goal.returns-in-Err
returns-in-Err c =
    let a = c.args in
    next_refuses (flow_of a.sets.now a.nodes.now) a.nodes.now a.beginning.now a.allowance a.list.now a.work.now _ (sym c.check_next.ensures ∙ c.in-Err.is)

pub answer_by-requires : goal.answer_by-requires
answer_by-requires c =
    let a = c.args in record {
      beginning_bound = records_few Beginning a.nodes.now a.beginning.now (next_passed a.sets.now a.nodes.now a.beginning.now (length a.list.now) (length a.work.now) (sym c.check_next.ensures ∙ c.in_default.is)).0.records;
      ready = plain_next_ready a.sets.now a.nodes.now a.beginning.now a.list.now a.work.now (sym c.check_next.ensures ∙ c.in_default.is) refl refl;
    }

pub returns : goal.returns
returns c =
    let a = c.args in
    plain_next a.sets.now a.nodes.now a.beginning.now a.list.now a.work.now (sym c.check_next.ensures ∙ c.in_default.is) refl refl c.answer_by.ensures
