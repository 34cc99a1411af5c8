-- `search::keep` meets its contract: what was seen is put in, or an end was found or the allowance used up, and nothing is. Assumes nothing.
use mathlib.Core.Path.{refl, sym, subst}
use borrow.Author.Tests.{not-true}
use lib.ListN.{length}
use Rattle.search.specs.Searches.{LeftWithin}
use Rattle.search.specs.Visits.{out_of, KeptOut}
use Rattle.search.proofs.Memories.{added}
use Rattle.search.proofs.keep.Goals as goal

pub overflow_sub-seen : goal.overflow_sub-seen
overflow_sub-seen c = subst (LeftWithin c.args.left) c.in-Some.is c.requires.left_within

pub returns-then-not-trip : goal.returns-then-not-trip
returns-then-not-trip c =
    let a = c.args in
    subst (λ o. KeptOut (length a.state.now) a.key a.state.now a.left (out_of o) a.slots.now c.remember.new.slots) (sym c.in-Some.is)
    (added a.pair c.requires.few (subst (LeftWithin a.left) c.in-Some.is c.requires.left_within) (not-true _ c.if-not-trip.true) refl refl c.remember.ensures)
