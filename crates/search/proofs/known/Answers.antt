-- `search::known` meets its contract: by whether so much is left. Assumes nothing.
use mathlib.Core.Path.{ap, ◌∙◌}
use native.Mathlib.Omega.{arith}
use Rattle.search.specs.Visits.{out_of}
use Rattle.search.proofs.Memories.{known_spent, known_back}
use Rattle.search.proofs.known.Goals as goal

pub returns-in_err-rest : goal.returns-in_err-rest
returns-in_err-rest c =
    let a = c.args in
    ap out_of c.from_residual.ensures ∙ known_spent a.seen a.left (omega (arith, c.in_err-rest.ensures))

pub returns : goal.returns
returns c =
    let a = c.args in
    let e = c.in_ok-rest.ensures in
    rw e.1 (known_back a.seen a.left e.0)
