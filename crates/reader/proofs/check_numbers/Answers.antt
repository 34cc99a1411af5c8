-- `reader::check_numbers` meets its contract: the fronts of the two filled tables are the file's numbers.
-- Assumes nothing.
use Prim.Native.Nat.{ℕ, ◌*◌}
use mathlib.Core.List.{List}
use mathlib.Core.Path.{ap₂, ◌∙◌}
use Rattle.flow.specs.declared.Extent.TheVariants.{Whole}
use Rattle.flow.specs.Checks.{first}
use Rattle.format.specs.ContentChecks.{grounds_of}
use Rattle.format.specs.Items.{numbers_at}
use Rattle.format.specs.SectionLaws.{front_is}
use Rattle.reader.proofs.check_numbers.Goals as goal

pub returns : goal.returns
returns c =
    let a = c.args in
    let nodes = front_is a.file.now (3 * c.from-n.result) a.o.nodes _ c.fill.ensures in
    let records = front_is a.file.now c.from-k.result a.o.records _ c.fill-2.ensures in
    c.check_contents.ensures
    ∙ ap₂ (λ (ns rs : List ℕ). first (grounds_of Whole a.o.counts.names c.from.result ns rs)) nodes records
    ∙ (λ i. first (grounds_of Whole a.o.counts.names (c.from.ensures i) (numbers_at a.file.now (3 * c.from-n.ensures i) a.o.nodes) (numbers_at a.file.now (c.from-k.ensures i) a.o.records)))
