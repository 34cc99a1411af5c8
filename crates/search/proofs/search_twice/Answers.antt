-- `search::search_twice` meets its contract: a search that was enough gives the answer, and one that was not has changed nothing but asks
-- that it answered. Assumes nothing.
use mathlib.Core.Path.{sym, subst}
use native.Mathlib.Omega.{arith}
use Rattle.std.specs.Prelude.{Some}
use Rattle.search.specs.Searches.{LeftWithin}
use Rattle.search.specs.SearchLaws.{visit_within}
use Rattle.search.specs.Visits.{state, Began}
use Rattle.flow.specs.Cues.{cue_records}
use Rattle.search.proofs.Asks.{asking_still}
use Rattle.search.proofs.Memories.{truthful_none}
use Rattle.search.proofs.Deeper.{visited_began, ready_still, began_again, began_more}
use Rattle.search.proofs.search_twice.Goals as goal

pub visit-requires : goal.visit-requires
visit-requires c = record { visit_ready = c.requires.0; truthful = truthful_none c.args.ns.now c.args.cues.now c.args.asks.now c.requires.1 }

pub returns-then-allowance-le-FEW_STATES : goal.returns-then-allowance-le-FEW_STATES
returns-then-allowance-le-FEW_STATES c = visited_began c.visit.ensures

pub visit-requires-2 : goal.visit-requires-2
visit-requires-2 c = record { visit_ready = c.requires.0; truthful = truthful_none c.args.ns.now c.args.cues.now c.args.asks.now c.requires.1 }

pub long_search-requires : goal.long_search-requires
long_search-requires c = (ready_still c.requires.0 c.visit-2.new.work c.visit-2.ensures.used c.visit-2.auto.work, asking_still c.visit-2.ensures.asked.strikes c.requires.1)

pub with_more-requires : goal.with_more-requires
with_more-requires c =
    let a = c.args in
    let w = visit_within (cue_records a.cues.now) (state a.ns.now a.role a.work.now) 32 c.visit-2.result c.visit-2.ensures.out in
    (subst (LeftWithin 32) c.in-Some.is w, omega (arith, c.if-allowance-le-FEW_STATES.false))

pub returns-in-None : goal.returns-in-None
returns-in-None c = began_again c.requires.0 c.visit-2.new.work c.visit-2.ensures.used 32 c.args.allowance c.visit-2.ensures.asked.strikes c.long_search.ensures

pub returns-in-Some : goal.returns-in-Some
returns-in-Some c =
    let a = c.args in
    let w = visit_within (cue_records a.cues.now) (state a.ns.now a.role a.work.now) 32 c.visit-2.result c.visit-2.ensures.out in
    subst (λ trip. Began a.ns.now a.cues.now a.work.now a.role a.asks.now a.allowance c.visit-2.new.work c.visit-2.new.asks (Some trip)) (sym c.with_more.ensures)
    (began_more a.ns.now a.cues.now a.work.now a.role a.asks.now 32 a.allowance (visited_began c.visit-2.ensures) c.in-Some.is (subst (LeftWithin 32) c.in-Some.is w)
    (omega (arith, c.if-allowance-le-FEW_STATES.false)))
