-- `ahead::check_next_named` meets its contract: the lists by the reader's own checks, then 14. Assumes nothing.
use mathlib.Core.Path.{sym, ◌∙◌}
use Rattle.flow.specs.FirstRefusal.{refusal_handed}
use Rattle.flow.specs.declared.Extent.TheVariants.{Beginning}
use Rattle.format.specs.ListLaws.{lists_passed}
use Rattle.flow.specs.FineTable.{fine_table}
use Rattle.judge.specs.JudgedLaws.{table_few, records_few}
use Rattle.ahead.specs.CheckLaws.{next_lists_refuse, named_next_room_last}
use Rattle.ahead.proofs.check_next_named.Goals as goal

pub returns-in_err-check_lists : goal.returns-in_err-check_lists
returns-in_err-check_lists c =
    let a = c.args in
    refusal_handed _ c.from_residual.ensures.1 ∙ sym c.in_err-check_lists.was ∙ next_lists_refuse a.sets.now a.nodes.now a.beginning.now a.numbers a.room a.names.now c.check_lists.ensures c.in_err-check_lists.was

pub check_next_room-requires : goal.check_next_room-requires
check_next_room-requires c =
    let a = c.args in
    let lists = lists_passed Beginning a.names.now a.sets.now a.nodes.now a.beginning.now (sym c.check_lists.ensures ∙ c.in_ok-check_lists.was) in
    (table_few a.nodes.now (fine_table a.nodes.now a.sets.now lists.table), records_few Beginning a.nodes.now a.beginning.now lists.records)

pub returns : goal.returns
returns c =
    let a = c.args in
    let lists = sym c.check_lists.ensures ∙ c.in_ok-check_lists.was in
    named_next_room_last a.sets.now a.nodes.now a.beginning.now a.numbers a.room a.names.now lists c.check_next_room.ensures
