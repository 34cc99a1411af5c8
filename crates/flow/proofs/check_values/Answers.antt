-- `flow::check_values` meets its contract: the record that is found is the first of which 12 holds. Assumes nothing.
use mathlib.Core.Path.{◌≡◌, sym, ◌∙◌}
use mathlib.Core.Bool.{true, false}
use native.Mathlib.Omega.{arith}
use lib.ListN.{length}
use Rattle.std.proofs.Common.{rules, tests}
use Rattle.std.proofs.lemmas.Iterator.{IsFirst-from_position, YieldsList-from_slice}
use Rattle.std.proofs.option.Match.{if_some, if_none}
use Rattle.flow.specs.FirstRefusal.{earliest_held, all_passed, single_held, single_passed}
use Rattle.flow.specs.Refusals.{no_record, value_grounds}
use Rattle.flow.specs.Checks.{values_check}
use Rattle.flow.proofs.check_values.Goals as goal

pub returns-in-Some : goal.returns-in-Some
unfolding values_check value_grounds
returns-in-Some c =
    let rs = c.args.records.now in
    let first = if_some _ _ _ c.in-Some.is (IsFirst-from_position _ _ _ (λ x. no_record x ≡ true) (λ x. no_record x ≡ false) c.position.ensures.ran (YieldsList-from_slice _ c.iter.ensures.rest) (λ x q k. search (rules, tests)) (λ x q k. search (rules, tests))) in
    c.refuse.ensures ∙ sym (earliest_held (value_grounds rs) (length rs) c.in-Some.i first.0 (λ j l. single_passed 12 j _ (first.2 j 0 (omega arith) l)) _ (single_held 12 c.in-Some.i _ (first.1 0)))

pub returns-in-None : goal.returns-in-None
unfolding values_check value_grounds
returns-in-None c =
    let rs = c.args.records.now in
    let none = if_none _ _ c.in-None.is (IsFirst-from_position _ _ _ (λ x. no_record x ≡ true) (λ x. no_record x ≡ false) c.position.ensures.ran (YieldsList-from_slice _ c.iter.ensures.rest) (λ x q k. search (rules, tests)) (λ x q k. search (rules, tests))) in
    sym (all_passed (value_grounds rs) (length rs) (λ j l. single_passed 12 j _ (none j 0 (omega arith) l)))
