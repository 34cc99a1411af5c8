-- `flow::check_children` meets its contract: the node that is found is the first that is not marked. Assumes nothing.
use Prim.Native.Nat.{ℕ, ◌<◌, ◌≤◌, ◌-◌}
use mathlib.Core.Path.{◌≡◌, sym, ◌∙◌}
use mathlib.Core.Bool.{true, false}
use native.Mathlib.Omega.{arith}
use lib.ListN.{length}
use Rattle.std.proofs.Common.{rules, tests, get_or-take, length-take-le}
use Rattle.std.proofs.lemmas.Iterator.{IsFirst-from_position, YieldsList-from_slice}
use Rattle.std.proofs.option.Match.{if_some, if_none}
use Rattle.flow.specs.FirstRefusal.{earliest_held, all_passed}
use Rattle.flow.specs.Children.{nobody_held, nobody_passed}
use Rattle.flow.specs.Refusals.{count, child_grounds}
use Rattle.flow.specs.Checks as checks
use Rattle.std.specs.Prelude.{Ok}
use Rattle.flow.proofs.check_children.Goals as goal

pub returns-in-Some : goal.returns-in-Some
returns-in-Some c =
    let ns = c.args.nodes.now in
    let m = c.args.marks.now in
    let i = c.in-Some.i in
    let others = c.saturating_sub-others.result in
    let sized : others ≡ count ns - 1 = c.saturating_sub-others.ensures in
    let first = if_some _ _ _ c.in-Some.is (IsFirst-from_position _ _ _ (λ x. x ≡ false) (λ x. x ≡ true) c.position.ensures.ran (YieldsList-from_slice _ c.iter.ensures.rest) (λ x q k. search (rules, tests)) (λ x q k. search (rules, tests))) in
    let h : i < others = omega (arith, first.0) in
    let held = nobody_held ns m c.requires.marks i (omega (arith, c.requires.nodes_len_bound)) (sym (get_or-take others m i false h) ∙ first.1 false) in
    let passed : (j : ℕ) → j < i → checks.first (child_grounds ns j) ≡ Ok tt = λ j l. nobody_passed ns m c.requires.marks j (omega (arith, c.requires.nodes_len_bound)) (sym (get_or-take others m j false (omega (arith, h, l))) ∙ first.2 j false (omega arith) l) in
    c.refuse.ensures ∙ sym (earliest_held (child_grounds ns) (count ns - 1) i (omega (arith, h, sized)) passed _ held)

pub returns-in-None : goal.returns-in-None
returns-in-None c =
    let ns = c.args.nodes.now in
    let m = c.args.marks.now in
    let others = c.saturating_sub-others.result in
    let sized : others ≡ count ns - 1 = c.saturating_sub-others.ensures in
    let few : others ≤ length m = omega (arith, c.requires.nodes_len_bound, c.requires.marks.size, sized) in
    let none = if_none _ _ c.in-None.is (IsFirst-from_position _ _ _ (λ x. x ≡ false) (λ x. x ≡ true) c.position.ensures.ran (YieldsList-from_slice _ c.iter.ensures.rest) (λ x q k. search (rules, tests)) (λ x q k. search (rules, tests))) in
    let passed : (j : ℕ) → j < count ns - 1 → checks.first (child_grounds ns j) ≡ Ok tt = λ j l. nobody_passed ns m c.requires.marks j (omega (arith, c.requires.nodes_len_bound)) (sym (get_or-take others m j false (omega (arith, l, sized))) ∙ none j false (omega arith) (omega (arith, l, sized, length-take-le others m few))) in
    sym (all_passed (child_grounds ns) (count ns - 1) passed)
