-- `judge::check_all` meets its contract: 1 to 9, 10 to 13 and 14 in their order. Assumes nothing.
use mathlib.Core.Path.{sym, ◌∙◌}
use Rattle.flow.specs.FirstRefusal.{refusal_handed}
use Rattle.flow.specs.declared.Extent.TheVariants.{Whole}
use Rattle.flow.specs.FineTable.{fine_table}
use Rattle.judge.specs.JudgedLaws.{table_refuses, records_refuse, room_last, table_some, table_few, records_few}
use Rattle.judge.proofs.check_all.Goals as goal

pub returns-in_err-check_table : goal.returns-in_err-check_table
returns-in_err-check_table c =
    let a = c.args in
    refusal_handed _ c.from_residual.ensures.1 ∙ sym c.in_err-check_table.was ∙ table_refuses a.sets.now a.nodes.now a.records.now a.room c.check_table.ensures c.in_err-check_table.was

pub check_records-requires : goal.check_records-requires
check_records-requires c = let a = c.args in table_some a.nodes.now (fine_table a.nodes.now a.sets.now (sym c.check_table.ensures ∙ c.in_ok-check_table.was))

pub returns-in_err-check_records : goal.returns-in_err-check_records
returns-in_err-check_records c =
    let a = c.args in
    let table = sym c.check_table.ensures ∙ c.in_ok-check_table.was in
    refusal_handed _ c.from_residual-in_err-check_records.ensures.1 ∙ sym c.in_err-check_records.was ∙ records_refuse a.sets.now a.nodes.now a.records.now a.room table c.check_records.ensures c.in_err-check_records.was

pub check_room-requires : goal.check_room-requires
check_room-requires c =
    let a = c.args in
    let table = sym c.check_table.ensures ∙ c.in_ok-check_table.was in
    (table_few a.nodes.now (fine_table a.nodes.now a.sets.now table), records_few Whole a.nodes.now a.records.now (sym c.check_records.ensures ∙ c.in_ok-check_records.was))

pub returns : goal.returns
returns c =
    let a = c.args in
    let table = sym c.check_table.ensures ∙ c.in_ok-check_table.was in
    room_last a.sets.now a.nodes.now a.records.now a.room table (sym c.check_records.ensures ∙ c.in_ok-check_records.was) c.check_room.ensures
