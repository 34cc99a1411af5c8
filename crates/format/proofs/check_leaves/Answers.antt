-- `format::check_leaves` meets its contract: the node that is found is the first of which 19 holds. Assumes nothing.
use mathlib.Core.Path.{◌≡◌, ap, sym, ◌∙◌}
use mathlib.Core.Bool.{true, false}
use native.Mathlib.Omega.{arith}
use Rattle.std.specs.Prelude.{Err}
use Rattle.std.proofs.Common.{rules, tests}
use Rattle.std.proofs.lemmas.Iterator.{first_from_Range}
use Rattle.std.proofs.option.Match.{if_some, if_none}
use Rattle.flow.specs.FirstRefusal.{earliest_held, all_passed, single_held, single_passed}
use Rattle.flow.specs.Refusals.{count}
use Rattle.format.specs.Contents.{leaf_grounds, unnamed_leaf}
use Rattle.format.specs.ContentChecks.{leaves_grounds}
use Rattle.format.proofs.check_leaves.Goals as goal

pub refusal-requires : goal.refusal-requires
refusal-requires c =
    let ns = c.args.nodes.now in
    let k = c.args.names in
    let first = if_some _ _ _ c.in-Some.is (first_from_Range _ _ _ _ (λ i. unnamed_leaf k ns i ≡ true) (λ i. unnamed_leaf k ns i ≡ false) c.find.ensures.ran (λ x q k. search (rules, tests)) (λ x q k. search (rules, tests))) in
    omega (arith, first.1, c.requires)

pub returns-in-Some : goal.returns-in-Some
unfolding leaves_grounds
returns-in-Some c =
    let ns = c.args.nodes.now in
    let k = c.args.names in
    let first = if_some _ _ _ c.in-Some.is (first_from_Range _ _ _ _ (λ i. unnamed_leaf k ns i ≡ true) (λ i. unnamed_leaf k ns i ≡ false) c.find.ensures.ran (λ x q k. search (rules, tests)) (λ x q k. search (rules, tests))) in
    ap Err c.refusal.ensures ∙ sym (earliest_held (leaf_grounds k ns) (count ns) c.in-Some.i first.1 (λ j l. single_passed 19 j _ (first.3 j (omega arith) l)) _ (single_held 19 c.in-Some.i _ first.2))

pub returns-in-None : goal.returns-in-None
unfolding leaves_grounds
returns-in-None c =
    let ns = c.args.nodes.now in
    let k = c.args.names in
    let none = if_none _ _ c.in-None.is (first_from_Range _ _ _ _ (λ i. unnamed_leaf k ns i ≡ true) (λ i. unnamed_leaf k ns i ≡ false) c.find.ensures.ran (λ x q k. search (rules, tests)) (λ x q k. search (rules, tests))) in
    sym (all_passed (leaf_grounds k ns) (count ns) (λ j l. single_passed 19 j _ (none j (omega arith) l)))
