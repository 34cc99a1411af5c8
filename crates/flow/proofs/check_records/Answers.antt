-- `flow::check_records` meets its contract: 10 and 11, then the records one by one, then their closings. Assumes nothing.
use mathlib.Core.Path.{sym, ◌∙◌}
use Rattle.flow.specs.FirstRefusal.{refusal_handed, or_else_refused, or_else_fine, records_parts, few_records}
use Rattle.flow.proofs.check_records.Goals as goal

pub returns-in_err-check_records_length : goal.returns-in_err-check_records_length
returns-in_err-check_records_length c =
    let e = c.check_records_length.ensures in
    let w = c.in_err-check_records_length.was in
    refusal_handed _ c.from_residual.ensures.1 ∙ sym w ∙ e ∙ or_else_refused _ (sym e ∙ w) ∙ sym (records_parts _ _ _)

pub check_values-requires : goal.check_values-requires
check_values-requires c = few_records _ _ (sym c.check_records_length.ensures ∙ c.in_ok-check_records_length.was)

pub returns-in_err-check_values : goal.returns-in_err-check_values
returns-in_err-check_values c =
    let f = sym c.check_records_length.ensures ∙ c.in_ok-check_records_length.was in
    let e = c.check_values.ensures in
    let w = c.in_err-check_values.was in
    refusal_handed _ c.from_residual-in_err-check_values.ensures.1 ∙ sym w
    ∙ e ∙ or_else_refused _ (sym e ∙ w) ∙ or_else_fine _ f ∙ sym (records_parts _ _ _)

pub check_closings-requires : goal.check_closings-requires
check_closings-requires c =
    let f = sym c.check_records_length.ensures ∙ c.in_ok-check_records_length.was in record {
      in_bounds = c.requires;
      records_len_bound = few_records _ _ f;
    }

pub returns : goal.returns
returns c =
    let f = sym c.check_records_length.ensures ∙ c.in_ok-check_records_length.was in
    let g = sym c.check_values.ensures ∙ c.in_ok-check_values.was in
    c.check_closings.ensures ∙ or_else_fine _ g ∙ or_else_fine _ f ∙ sym (records_parts _ _ _)
