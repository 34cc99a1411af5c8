-- `flow::standard_of` meets its contract: what is left of 1 to 9 is 9. Assumes nothing.
use mathlib.Core.Path.{◌≡◌}
use native.Mathlib.Omega.{arith}
use Rattle.flow.proofs.standard_of.Goals as goal

pub returns-in-2 : goal.returns-in-2
returns-in-2 c = rw c.in-2.is

pub returns-in_default : goal.returns-in_default
returns-in_default c =
    let last : c.args.kind ≡ 9 = omega arith in
    rw last
