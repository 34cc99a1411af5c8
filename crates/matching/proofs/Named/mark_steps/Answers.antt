-- `matching::Named::mark_steps` meets its contract: the loop's invariant: the events of the entries passed that have the step name are
-- marked too. Assumes nothing.
use Prim.Native.Nat.{ℕ, ◌+◌, ◌<◌}
use mathlib.Core.Bool.{Bool, false, ◌||◌}
use mathlib.Core.Path.{◌≡◌, refl, sym, ◌∙◌}
use native.Mathlib.Omega.{arith}
use lib.ListN.{length, get_or, set}
use Rattle.std.proofs.Common.{subst}
use Rattle.std.proofs.lemmas.List.{length_push}
use Rattle.format.specs.EntryLaws.{whole_there}
use Rattle.format.specs.Items.{name_at, entries_at}
use Rattle.matching.specs.declared.Entries.{Entries}
use Rattle.matching.specs.Asks.{AlsoMarked, has_step}
use Rattle.matching.specs.SectionTest.{whole_by}
use Rattle.matching.specs.Walk.{Walked}
use Rattle.matching.proofs.CueLaws.{each_inside}
use Rattle.matching.proofs.MarkLaws.{steps_none, steps_more, steps_all}
use Rattle.matching.proofs.WalkLaws.{walked_on, walk_event, walk_here, walk_among, walk_end}
use Rattle.matching.proofs.Named.mark_steps.Goals as goal

pub loop-entry-init : goal.loop-entry-init
loop-entry-init c =
    let s = c.args.self.now.section.now in
    (tt, tt, subst (λ (walk : Entries). Walked s 0 walk) (sym c.into_iter-entry-iterator.ensures.into_iter_gives) c.entries-entry-items.ensures, steps_none _ _ _)

pub same_step-requires : goal.same_step-requires
same_step-requires c =
    let names = c.args.self.now in
    let passed = c.in-Some.ensures.steps in
    let w = c.loop-entry.invariant.2 in
    let inside = each_inside names.section.now (whole_by _ names.whole) (length c.loop-entry.yielded) (walk_among passed w) (walk_here passed w) in
    (omega (arith, c.requires), omega (arith, inside))

pub loop-entry-preserved : goal.loop-entry-preserved
loop-entry-preserved c =
    let a = c.args in
    let names = a.self.now in
    let s = names.section.now in
    let step = name_at s a.at in
    let l = c.loop-entry in
    let k = length l.yielded in
    let passed = c.in-Some.ensures.steps in
    let w = l.invariant.2 in
    let v : ℕ → Bool = λ i. get_or l.marks i false || c.same_step.result in
    let index : k + 1 ≡ c.from.result = sym (c.from.ensures ∙ walk_event passed w) in
    let fits : k + 1 < length l.marks = omega (arith, l.invariant.3.size, walk_among passed w, (whole_there s (whole_by s names.whole)).few) in
    let on = steps_more s step k fits (walk_here passed w) c.same_step.ensures refl l.invariant.3 in
    let here = subst (λ (i : ℕ). AlsoMarked (has_step step (entries_at s (k + 1) 2)) a.marks.now (set l.marks i (v i))) index on in
    let both = subst (λ (j : ℕ). Walked s j c.next.new.self × AlsoMarked (has_step step (entries_at s j 2)) a.marks.now (set l.marks c.from.result (v c.from.result))) (sym (length_push l.yielded c.in-Some.entry)) (walked_on passed w, here) in
    (tt, tt, both.0, both.1)

pub returns : goal.returns
returns c =
    let names = c.args.self.now in
    let l = c.loop-entry in
    steps_all names.section.now (name_at names.section.now c.args.at) (whole_by _ names.whole) (length l.yielded) (walk_end l.invariant.2 c.in-None.ensures.steps) l.invariant.3
