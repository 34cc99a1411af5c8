-- `judge::answer_of` meets its contract: each arm by what came back. Assumes nothing.
use mathlib.Core.Path.{subst}
use Rattle.search.specs.Visits.{out_of}
use Rattle.search.specs.Searches.{LeftWithin}
use Rattle.judge.specs.Settled.{answer_to}
use Rattle.judge.proofs.answer_of.Goals as goal

pub overflow_sub-count : goal.overflow_sub-count
overflow_sub-count c = subst (LeftWithin c.args.allowance) c.in-Some.is c.requires.left_within

pub returns-in-None : goal.returns-in-None
unfolding answer_to out_of
returns-in-None c = rw c.in-None.is

pub returns-then-trip : goal.returns-then-trip
unfolding answer_to out_of
returns-then-trip c = rw (c.in-Some.is, c.if-trip.true)

pub returns-else-trip : goal.returns-else-trip
unfolding answer_to out_of
returns-else-trip c = rw (c.in-Some.is, c.if-trip.false)
