-- `judge::check_named` meets its contract: the lists by the reader's own checks, then 14. Assumes nothing.
use mathlib.Core.Path.{sym, ◌∙◌}
use Rattle.flow.specs.FirstRefusal.{refusal_handed}
use Rattle.flow.specs.declared.Extent.TheVariants.{Whole}
use Rattle.flow.specs.FineTable.{fine_table}
use Rattle.format.specs.ListLaws.{lists_passed}
use Rattle.judge.specs.JudgedLaws.{lists_refuse, named_room_last, table_few, records_few}
use Rattle.judge.proofs.check_named.Goals as goal

pub returns-in_err-check_lists : goal.returns-in_err-check_lists
returns-in_err-check_lists c =
    let a = c.args in
    refusal_handed _ c.from_residual.ensures.1 ∙ sym c.in_err-check_lists.was ∙ lists_refuse a.sets.now a.nodes.now a.records.now a.room a.names.now c.check_lists.ensures c.in_err-check_lists.was

pub check_room-requires : goal.check_room-requires
check_room-requires c =
    let a = c.args in
    let lists = lists_passed Whole a.names.now a.sets.now a.nodes.now a.records.now (sym c.check_lists.ensures ∙ c.in_ok-check_lists.was) in
    (table_few a.nodes.now (fine_table a.nodes.now a.sets.now lists.table), records_few Whole a.nodes.now a.records.now lists.records)

pub returns : goal.returns
returns c =
    let a = c.args in
    named_room_last a.sets.now a.nodes.now a.records.now a.room a.names.now (sym c.check_lists.ensures ∙ c.in_ok-check_lists.was) c.check_room.ensures
