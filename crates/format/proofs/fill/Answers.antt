-- `format::fill` meets its contract: the loop's invariant: the first i numbers stand in front, and the rest is the table's.
-- Assumes nothing.
use Prim.Native.Nat.{ℕ}
use mathlib.Core.List.{List}
use mathlib.Core.Path.{refl, ap₂, ◌∙◌}
use native.Mathlib.Omega.{arith}
use lib.ListN.{set}
use Rattle.format.specs.Items.{numbers_at}
use Rattle.format.specs.SectionLaws.{front_more}
use Rattle.format.proofs.fill.Goals as goal

pub loop-i-init : goal.loop-i-init
unfolding numbers_at
loop-i-init c = refl

pub loop-i-preserved : goal.loop-i-preserved
loop-i-preserved c =
    let s = c.args.file.now in
    let l = c.loop-i in
    ap₂ (λ (xs : List ℕ) (v : ℕ). set xs l.i v) l.invariant c.number_from.ensures
    ∙ front_more s l.i c.args.at c.args.table.now (omega arith)
