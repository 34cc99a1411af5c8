-- `flow::check_table` meets its contract: 1 to 3, the sets, then the nodes. Assumes nothing.
use mathlib.Core.Path.{sym, ◌∙◌}
use Rattle.flow.specs.FirstRefusal.{refusal_handed, or_else_refused, or_else_fine, table_parts, fine_length}
use Rattle.flow.proofs.check_table.Goals as goal

pub returns-in_err-check_table_length : goal.returns-in_err-check_table_length
returns-in_err-check_table_length c =
    let e = c.check_table_length.ensures in
    let w = c.in_err-check_table_length.was in
    refusal_handed _ c.from_residual.ensures.1 ∙ sym w ∙ e ∙ or_else_refused _ (sym e ∙ w) ∙ sym (table_parts _ _)

pub returns-in_err-check_sets : goal.returns-in_err-check_sets
returns-in_err-check_sets c =
    let l = sym c.check_table_length.ensures ∙ c.in_ok-check_table_length.was in
    let e = c.check_sets.ensures in
    let w = c.in_err-check_sets.was in
    refusal_handed _ c.from_residual-in_err-check_sets.ensures.1 ∙ sym w
    ∙ e ∙ or_else_refused _ (sym e ∙ w) ∙ or_else_fine _ l ∙ sym (table_parts _ _)

pub check_nodes-requires : goal.check_nodes-requires
check_nodes-requires c = (fine_length _ (sym c.check_table_length.ensures ∙ c.in_ok-check_table_length.was)).few

pub returns : goal.returns
returns c =
    let l = sym c.check_table_length.ensures ∙ c.in_ok-check_table_length.was in
    let e = sym c.check_sets.ensures ∙ c.in_ok-check_sets.was in
    c.check_nodes.ensures ∙ or_else_fine _ e ∙ or_else_fine _ l ∙ sym (table_parts _ _)
