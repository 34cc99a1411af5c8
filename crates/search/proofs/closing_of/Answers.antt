-- `search::closing_of` meets its contract: each arm by its number. Assumes nothing.
use native.Mathlib.Omega.{arith}
use borrow.Author.Tests.{ne_eqb}
use Rattle.search.proofs.closing_of.Goals as goal

pub returns-in-281470681804801 : goal.returns-in-281470681804801
returns-in-281470681804801 c = rw c.in-281470681804801.is

pub returns-in-281470681804802 : goal.returns-in-281470681804802
returns-in-281470681804802 c = rw c.in-281470681804802.is

pub returns-in_default : goal.returns-in_default
returns-in_default c = simp (ne_eqb c.args.cue 281470681804801 (λ e. omega (arith, e)), ne_eqb c.args.cue 281470681804802 (λ e. omega (arith, e)))
