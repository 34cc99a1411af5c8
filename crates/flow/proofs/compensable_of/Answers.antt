-- `flow::compensable_of` meets its contract: what is left of 10 to 16 is 16. Assumes nothing.
use mathlib.Core.Path.{◌≡◌}
use native.Mathlib.Omega.{arith}
use Rattle.flow.proofs.compensable_of.Goals as goal

pub returns-in_default : goal.returns-in_default
returns-in_default c =
    let last : c.args.kind ≡ 16 = omega arith in
    rw last
