-- `matching::Named::first_taking` meets its contract: the loop's invariant: the first of all the entries that takes the step name is the
-- first of those that are left. Assumes nothing.
use Prim.Native.Nat.{ℕ, ◌+◌, ◌-◌}
use mathlib.Core.List.{List}
use mathlib.Core.Path.{◌≡◌, refl, ap, sym, ◌∙◌}
use native.Mathlib.Omega.{arith}
use lib.ListN.{length}
use Rattle.std.proofs.Common.{subst}
use Rattle.std.proofs.lemmas.List.{length_push}
use Rattle.format.specs.Format.{Entry}
use Rattle.format.specs.EntryLaws.{whole_there}
use Rattle.format.specs.Items.{name_at, entry_at, entries_at, entries_end}
use Rattle.format.specs.ListChecks.{entries_in}
use Rattle.matching.specs.declared.Entries.{Entries}
use Rattle.matching.specs.Others.{takes_step, first_taking}
use Rattle.matching.specs.SectionTest.{whole_by}
use Rattle.matching.specs.Walk.{Walked}
use Rattle.matching.proofs.CueLaws.{each_inside, passed_more, taking_hit, taking_miss, taking_none}
use Rattle.matching.proofs.WalkLaws.{walked_on, walk_event, walk_here, walk_among, walk_end}
use Rattle.matching.proofs.Named.first_taking.Goals as goal

pub loop-entry-init : goal.loop-entry-init
unfolding entries_end
loop-entry-init c =
    let names = c.args.self.now in
    let s = names.section.now in
    let n = length (entries_in s) in
    let none : n ≡ n - 0 = omega arith in (
      tt,
      tt,
      subst (λ (walk : Entries). Walked s 0 walk) (sym c.into_iter-entry-iterator.ensures.into_iter_gives) c.entries-entry-items.ensures,
      ap (λ (es : List Entry). first_taking (name_at s c.args.at) c.args.own es 1) ((whole_there s (whole_by s names.whole)).is ∙ ap (λ (k : ℕ). entries_at s k 2) none),
    )

pub takes_step-requires : goal.takes_step-requires
takes_step-requires c =
    let names = c.args.self.now in
    let passed = c.in-Some.ensures.steps in
    let w = c.loop-entry.invariant.2 in
    (each_inside names.section.now (whole_by _ names.whole) (length c.loop-entry.yielded) (walk_among passed w) (walk_here passed w), c.requires)

pub returns-then-takes_step : goal.returns-then-takes_step
returns-then-takes_step c =
    let a = c.args in
    let s = a.self.now.section.now in
    let step = name_at s a.at in
    let l = c.loop-entry in
    let k = length l.yielded in
    let passed = c.in-Some.ensures.steps in
    let w = l.invariant.2 in
    let hit = ap (λ (at : ℕ). takes_step step (entry_at s at)) (sym (walk_here passed w)) ∙ sym c.takes_step.ensures ∙ c.if-takes_step.true in
    walk_event passed w ∙ sym (l.invariant.3 ∙ taking_hit s step a.own (length (entries_in s)) k (entries_end s k 2) (walk_among passed w) hit)

pub loop-entry-preserved : goal.loop-entry-preserved
loop-entry-preserved c =
    let a = c.args in
    let s = a.self.now.section.now in
    let step = name_at s a.at in
    let n = length (entries_in s) in
    let l = c.loop-entry in
    let k = length l.yielded in
    let passed = c.in-Some.ensures.steps in
    let w = l.invariant.2 in
    let missed = ap (λ (at : ℕ). takes_step step (entry_at s at)) (sym (walk_here passed w)) ∙ sym c.takes_step.ensures ∙ c.if-takes_step.false in
    let first : ℕ → ℕ → ℕ = λ j at. first_taking step a.own (entries_at s (n - j) at) (j + 1) in
    let on : first_taking step a.own (entries_in s) 1 ≡ first (k + 1) (entries_end s (k + 1) 2) =
    l.invariant.3 ∙ taking_miss s step a.own n k (entries_end s k 2) (walk_among passed w) missed ∙ ap (first (k + 1)) (passed_more s k refl refl) in
    let both = subst (λ (j : ℕ). Walked s j c.next.new.self × (first_taking step a.own (entries_in s) 1 ≡ first j (entries_end s j 2))) (sym (length_push l.yielded c.in-Some.entry)) (walked_on passed w, on) in
    (tt, tt, both.0, both.1)

pub returns : goal.returns
returns c =
    let a = c.args in
    let s = a.self.now.section.now in
    let l = c.loop-entry in
    let k = length l.yielded in
    sym (l.invariant.3 ∙ taking_none s (name_at s a.at) a.own (length (entries_in s)) k (entries_end s k 2) (omega (arith, walk_end l.invariant.2 c.in-None.ensures.steps)))
