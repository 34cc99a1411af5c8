-- `matching::takes_step` meets its contract: the step names are compared only where there is no machine. Assumes nothing.
use Prim.Native.Nat.{ℕ}
use mathlib.Core.Bool.{Bool, true, false, ◌&&◌}
use mathlib.Core.List.{List}
use mathlib.Core.Path.{◌≡◌, sym, ap, ◌∙◌}
use Rattle.format.specs.Format.{Entry}
use Rattle.format.specs.Matching.{same_step, no_machine}
use Rattle.matching.specs.Others.{takes_step}
use Rattle.matching.proofs.takes_step.Goals as goal

-- by whether the entry has a machine
without : (step : List ℕ) (e : Entry) {r : Bool} → no_machine e ≡ true → r ≡ same_step e.step step → r ≡ takes_step step e
unfolding takes_step
without step e m q = q ∙ sym (ap (λ (b : Bool). b && same_step e.step step) m)

with-one : (step : List ℕ) (e : Entry) → no_machine e ≡ false → false ≡ takes_step step e
unfolding takes_step
with-one step e m = sym (ap (λ (b : Bool). b && same_step e.step step) m)

pub returns-then-without_machine : goal.returns-then-without_machine
returns-then-without_machine c = without _ _ (sym c.without_machine.ensures ∙ c.if-without_machine.true) c.same_step.ensures

pub returns-else-without_machine : goal.returns-else-without_machine
returns-else-without_machine c = c.if-without_machine.false ∙ with-one _ _ (sym c.without_machine.ensures ∙ c.if-without_machine.false)
