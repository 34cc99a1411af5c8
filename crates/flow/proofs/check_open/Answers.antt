-- `flow::check_open` meets its contract: the closing behind those that are allowed is one too many. Assumes nothing.
use mathlib.Core.Path.{sym, ap, ◌∙◌}
use native.Mathlib.Omega.{arith}
use Prim.Native.Nat.{ℕ, ◌-◌}
use Rattle.flow.specs.Forms.{nth_closing}
use Rattle.flow.specs.Closings.{wanted_some}
use Rattle.flow.proofs.NthClosing.{found_extra, none_extra}
use Rattle.flow.specs.Refusals.{closings_allowed}
use Rattle.flow.proofs.check_open.Goals as goal

pub overflow_sub-allowed : goal.overflow_sub-allowed
overflow_sub-allowed c = omega (arith, c.closings_wanted-allowed.ensures, wanted_some c.args.nodes.now)

pub refuse-requires : goal.refuse-requires
refuse-requires c = omega (arith, c.in-Some.ensures.within)

pub returns-in-Some : goal.returns-in-Some
unfolding closings_allowed
returns-in-Some c =
    let rs = c.args.records.now in
    let found = ap (λ (k : ℕ). nth_closing rs (k - 1)) (sym c.closings_wanted-allowed.ensures) ∙ sym c.nth_closing.ensures.value ∙ c.in-Some.is in
    c.refuse.ensures ∙ sym (found_extra c.args.nodes.now rs c.in-Some.i found)

pub returns-in-None : goal.returns-in-None
unfolding closings_allowed
returns-in-None c =
    let rs = c.args.records.now in
    let none = ap (λ (k : ℕ). nth_closing rs (k - 1)) (sym c.closings_wanted-allowed.ensures) ∙ sym c.nth_closing.ensures.value ∙ c.in-None.is in
    sym (none_extra c.args.nodes.now rs none)
