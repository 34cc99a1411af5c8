-- `format::check_lists` meets its contract: the names section, the lengths of the lists and sets, then what they hold. Assumes nothing.
use mathlib.Core.Path.{sym, ◌∙◌}
use Rattle.flow.specs.FirstRefusal.{refusal_handed, fine_length, few_records}
use Rattle.format.specs.ItemLaws.{has_found, bad_found}
use Rattle.format.specs.ListLaws.{alone_refused, table_length_refused, records_length_refused, sets_refused, contents_last}
use Rattle.format.proofs.check_lists.Goals as goal

pub returns-in_err-got : goal.returns-in_err-got
returns-in_err-got c = refusal_handed _ c.from_residual.ensures.1 ∙ sym (alone_refused _ _ _ _ _ (bad_found _ _ c.in_err-got.ensures))

pub returns-in_err-check_table_length : goal.returns-in_err-check_table_length
returns-in_err-check_table_length c =
    let a = has_found _ _ c.in_ok-got.ensures in
    refusal_handed _ c.from_residual-in_err-check_table_length.ensures.1 ∙ sym c.in_err-check_table_length.was ∙ table_length_refused _ _ _ _ _ a.is c.check_table_length.ensures c.in_err-check_table_length.was

pub returns-in_err-check_records_length : goal.returns-in_err-check_records_length
returns-in_err-check_records_length c =
    let a = has_found _ _ c.in_ok-got.ensures in
    let f = sym c.check_table_length.ensures ∙ c.in_ok-check_table_length.was in
    refusal_handed _ c.from_residual-in_err-check_records_length.ensures.1 ∙ sym c.in_err-check_records_length.was ∙ records_length_refused _ _ _ _ _ a.is f c.check_records_length.ensures c.in_err-check_records_length.was

pub returns-in_err-check_sets : goal.returns-in_err-check_sets
returns-in_err-check_sets c =
    let a = has_found _ _ c.in_ok-got.ensures in
    let f = sym c.check_table_length.ensures ∙ c.in_ok-check_table_length.was in
    let g = sym c.check_records_length.ensures ∙ c.in_ok-check_records_length.was in
    refusal_handed _ c.from_residual-in_err-check_sets.ensures.1 ∙ sym c.in_err-check_sets.was ∙ sets_refused _ _ _ _ _ a.is f g c.check_sets.ensures c.in_err-check_sets.was

pub check_contents-requires : goal.check_contents-requires
check_contents-requires c =
    let f = fine_length _ (sym c.check_table_length.ensures ∙ c.in_ok-check_table_length.was) in
    (f.some, f.few, few_records _ _ (sym c.check_records_length.ensures ∙ c.in_ok-check_records_length.was))

pub returns : goal.returns
returns c =
    let a = has_found _ _ c.in_ok-got.ensures in
    let f = sym c.check_table_length.ensures ∙ c.in_ok-check_table_length.was in
    let g = sym c.check_records_length.ensures ∙ c.in_ok-check_records_length.was in
    let h = sym c.check_sets.ensures ∙ c.in_ok-check_sets.was in
    contents_last _ _ _ _ _ a.is f g h a.sized c.check_contents.ensures
