-- `matching::behind_entries` meets its contract: the loop's invariant: the offset is behind the entries that were passed. Assumes nothing.
use Prim.Native.Nat.{ℕ}
use mathlib.Core.Path.{◌≡◌, refl, ap, ◌∙◌}
use native.Mathlib.Omega.{arith}
use Rattle.format.specs.Items.{entries_end}
use Rattle.matching.proofs.CueLaws.{passed_inside, passed_more}
use Rattle.matching.proofs.behind_entries.Goals as goal

pub loop-init : goal.loop-init
unfolding entries_end
loop-init c = refl

pub end_of_entry-at-requires : goal.end_of_entry-at-requires
end_of_entry-at-requires c = passed_inside c.args.names.now c.loop.counter c.args.k (omega arith) c.loop.invariant c.requires

pub loop-preserved : goal.loop-preserved
loop-preserved c = passed_more c.args.names.now c.loop.counter c.loop.invariant c.end_of_entry-at.ensures

pub returns : goal.returns
returns c =
    let all : c.loop.counter ≡ c.args.k = omega arith in
    c.loop.invariant ∙ ap (λ (n : ℕ). entries_end c.args.names.now n 2) all
