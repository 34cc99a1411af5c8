-- `flow::sort_differs` meets its contract: two truth values differ as their `xor` says. Assumes nothing.
use Rattle.std.proofs.Common.{rules}
use mathlib.Core.Bool.{xor}
use Rattle.flow.proofs.sort_differs.Goals as goal

pub returns : goal.returns
unfolding xor
returns c = search rules
