-- `format::met_before` meets its contract: the loop's invariant: the entry is among all the earlier ones exactly if it is among those from offset a on.
-- Assumes nothing.
use Prim.Native.Nat.{ℕ, ◌+◌, ◌-◌, ◌≤◌}
use mathlib.Core.Path.{ap, sym, ◌∙◌}
use native.Mathlib.Omega.{arith}
use lib.ListN.{length}
use Rattle.format.specs.Items.{entry_end, name_end, entry_at, entries_at}
use Rattle.format.specs.NameLaws.{met_hit, met_miss, met_none, end_step, end_inside}
use Rattle.format.specs.Sections.{met}
use Rattle.format.proofs.met_before.Goals as goal

pub same_entry-requires : goal.same_entry-requires
same_entry-requires c =
    let s = c.args.file.now in
    let at = c.args.at in
    let count = c.args.count in
    let i = c.loop-i._i in
    let a = c.loop-i.a in
    (omega (arith, end_inside s (entry_at s at) count i a (omega arith), c.requires.whole), c.requires.whole)

pub returns-then-same_entry : goal.returns-then-same_entry
returns-then-same_entry c =
    let s = c.args.file.now in
    let at = c.args.at in
    let count = c.args.count in
    let i = c.loop-i._i in
    let a = c.loop-i.a in
    sym (c.loop-i.invariant.1 ∙ met_hit s (entry_at s at) count i a (omega arith) (sym c.same_entry.ensures ∙ c.if-same_entry.true))

pub end_of_name-requires : goal.end_of_name-requires
end_of_name-requires c =
    let s = c.args.file.now in
    let at = c.args.at in
    let count = c.args.count in
    let i = c.loop-i._i in
    let a = c.loop-i.a in
    omega (arith, end_inside s (entry_at s at) count i a (omega arith), c.requires.whole)

pub end_of_name-a-requires : goal.end_of_name-a-requires
end_of_name-a-requires c =
    let s = c.args.file.now in
    let at = c.args.at in
    let count = c.args.count in
    let i = c.loop-i._i in
    let a = c.loop-i.a in
    let h : entry_end s a ≤ length s = omega (arith, end_inside s (entry_at s at) count i a (omega arith), c.requires.whole) in
    rw c.end_of_name.ensures h

pub loop-i-preserved : goal.loop-i-preserved
loop-i-preserved c =
    let s = c.args.file.now in
    let at = c.args.at in
    let count = c.args.count in
    let i = c.loop-i._i in
    let a = c.loop-i.a in
    let e = c.end_of_name-a.ensures ∙ ap (name_end s) c.end_of_name.ensures in (
      rw e (rw (end_step s (entry_at s at) count i a (omega arith)) at c.loop-i.invariant.0),
      c.loop-i.invariant.1 ∙ met_miss s (entry_at s at) count i a (omega arith) (sym c.same_entry.ensures ∙ c.if-same_entry.false)
          ∙ ap (λ (n : ℕ). met (entry_at s at) (entries_at s (count - (i + 1)) n)) (sym e),
    )

pub returns : goal.returns
returns c =
    let s = c.args.file.now in
    let at = c.args.at in
    let count = c.args.count in
    let i = c.loop-i._i in
    let a = c.loop-i.a in
    sym (c.loop-i.invariant.1 ∙ met_none s (entry_at s at) count i a (omega arith))
