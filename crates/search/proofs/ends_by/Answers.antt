-- `search::ends_by` meets its contract: each arm by its number. Assumes nothing.
use native.Mathlib.Omega.{arith}
use borrow.Author.Tests.{ne_eqb}
use Rattle.search.specs.Visits.{ends_by}
use Rattle.search.proofs.ends_by.Goals as goal

pub returns-in-281470681804801 : goal.returns-in-281470681804801
unfolding ends_by
returns-in-281470681804801 c = rw c.in-281470681804801.is

pub returns-in-281470681804802 : goal.returns-in-281470681804802
unfolding ends_by
returns-in-281470681804802 c = rw c.in-281470681804802.is

pub returns-in_default : goal.returns-in_default
unfolding ends_by
returns-in_default c = simp (ne_eqb c.args.cue 281470681804801 (λ e. omega (arith, e)), ne_eqb c.args.cue 281470681804802 (λ e. omega (arith, e)))
