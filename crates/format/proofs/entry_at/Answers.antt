-- `format::entry_at` meets its contract: a step name, then a machine name; a refusal of either is handed on.
-- Assumes nothing.
use mathlib.Core.Path.{refl}
use native.Mathlib.Omega.{arith}
use Rattle.format.specs.ItemLaws.{handed_on, has_found, name_there, item_got, entry_step_bad, entry_machine_bad, entry_got}
use Rattle.format.proofs.entry_at.Goals as goal

pub returns-in_err-step : goal.returns-in_err-step
returns-in_err-step c = handed_on _ _ _ _ (λ n p. entry_step_bad _ _) c.in_err-step.ensures c.from_residual.ensures.1

pub name_at-requires-2 : goal.name_at-requires-2
name_at-requires-2 c =
    let f = has_found _ _ c.in_ok-step.ensures in
    let t = name_there _ _ _ f.is in
    omega arith

pub returns-in_err-machine : goal.returns-in_err-machine
returns-in_err-machine c =
    let f = has_found _ _ c.in_ok-step.ensures in
    handed_on _ _ _ _ (λ n p. entry_machine_bad _ _ f.is) c.in_err-machine.ensures c.from_residual-in_err-machine.ensures.1

pub returns : goal.returns
returns c =
    let f = has_found _ _ c.in_ok-step.ensures in
    let g = has_found _ _ c.in_ok-machine.ensures in
    item_got _ _ f.sized refl (entry_got _ _ f.is g.is)
