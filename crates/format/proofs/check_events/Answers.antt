-- `format::check_events` meets its contract: the record that is found is the first of which 20 holds. Assumes nothing.
use mathlib.Core.Path.{◌≡◌, ap, sym, ◌∙◌}
use mathlib.Core.Bool.{true, false}
use native.Mathlib.Omega.{arith}
use lib.ListN.{length}
use Rattle.std.specs.Prelude.{Err}
use Rattle.std.proofs.Common.{rules, tests}
use Rattle.std.proofs.lemmas.Iterator.{IsFirst-from_position, YieldsList-from_slice}
use Rattle.std.proofs.option.Match.{if_some, if_none}
use Rattle.flow.specs.FirstRefusal.{earliest_held, all_passed, single_held, single_passed}
use Rattle.format.specs.Contents.{event_grounds, unnamed_event}
use Rattle.format.specs.ContentChecks.{events_grounds}
use Rattle.format.proofs.check_events.Goals as goal

pub returns-in-Some : goal.returns-in-Some
unfolding events_grounds
returns-in-Some c =
    let rs = c.args.records.now in
    let k = c.args.names in
    let first = if_some _ _ _ c.in-Some.is (IsFirst-from_position _ _ _ (λ x. unnamed_event k x ≡ true) (λ x. unnamed_event k x ≡ false) c.position.ensures.ran (YieldsList-from_slice _ c.iter.ensures.rest) (λ x q k. search (rules, tests)) (λ x q k. search (rules, tests))) in
    ap Err c.refusal.ensures ∙ sym (earliest_held (event_grounds k rs) (length rs) c.in-Some.i first.0 (λ j l. single_passed 20 j _ (first.2 j 0 (omega arith) l)) _ (single_held 20 c.in-Some.i _ (first.1 0)))

pub returns-in-None : goal.returns-in-None
unfolding events_grounds
returns-in-None c =
    let rs = c.args.records.now in
    let k = c.args.names in
    let none = if_none _ _ c.in-None.is (IsFirst-from_position _ _ _ (λ x. unnamed_event k x ≡ true) (λ x. unnamed_event k x ≡ false) c.position.ensures.ran (YieldsList-from_slice _ c.iter.ensures.rest) (λ x q k. search (rules, tests)) (λ x q k. search (rules, tests))) in
    sym (all_passed (event_grounds k rs) (length rs) (λ j l. single_passed 20 j _ (none j 0 (omega arith) l)))
