-- `flow::check_whole_closings` meets its contract: the closing behind those that are allowed must be the last record. Assumes nothing.
use mathlib.Core.Path.{sym, ap, ◌∙◌}
use native.Mathlib.Omega.{arith}
use Prim.Native.Nat.{ℕ, ◌-◌}
use Rattle.flow.specs.Forms.{nth_closing}
use Rattle.flow.specs.Closings.{wanted_some}
use Rattle.flow.proofs.NthClosing.{found_last, found_early, none_last}
use Rattle.flow.specs.Refusals.{closings_allowed}
use Rattle.flow.proofs.check_whole_closings.Goals as goal

pub overflow_sub-closings_wanted : goal.overflow_sub-closings_wanted
overflow_sub-closings_wanted c = omega (arith, c.closings_wanted.ensures, wanted_some c.args.nodes.now)

pub overflow_add-i : goal.overflow_add-i
overflow_add-i c = omega (arith, c.in-Some.ensures.within, c.requires.records_len_bound)

pub overflow_add-i-in-Some : goal.overflow_add-i-in-Some
overflow_add-i-in-Some c = omega (arith, c.in-Some.ensures.within, c.requires.records_len_bound)

pub refuse-requires : goal.refuse-requires
refuse-requires c = omega (arith, c.in-Some.ensures.within, c.requires.records_len_bound)

pub returns-then-i-records : goal.returns-then-i-records
unfolding closings_allowed
returns-then-i-records c =
    let rs = c.args.records.now in
    let found = ap (λ (k : ℕ). nth_closing rs (k - 1)) (sym c.closings_wanted.ensures) ∙ sym c.nth_closing.ensures.value ∙ c.in-Some.is in
    sym (found_last c.args.nodes.now rs c.in-Some.i found c.if-i-records.true)

pub returns-else-i-records : goal.returns-else-i-records
unfolding closings_allowed
returns-else-i-records c =
    let rs = c.args.records.now in
    let found = ap (λ (k : ℕ). nth_closing rs (k - 1)) (sym c.closings_wanted.ensures) ∙ sym c.nth_closing.ensures.value ∙ c.in-Some.is in
    c.refuse.ensures ∙ sym (found_early c.args.nodes.now rs c.in-Some.i found c.if-i-records.false)

pub returns-in-None : goal.returns-in-None
unfolding closings_allowed
returns-in-None c =
    let rs = c.args.records.now in
    let none = ap (λ (k : ℕ). nth_closing rs (k - 1)) (sym c.closings_wanted.ensures) ∙ sym c.nth_closing.ensures.value ∙ c.in-None.is in
    c.refuse-in-None.ensures ∙ sym (none_last c.args.nodes.now rs none)
