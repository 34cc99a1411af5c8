-- The first ground of a file's contents that holds, computed: what the checks of src/ answer.
-- A reader need not believe this file: `contents_exactly` (promises, ContentRefusals) proves that the check answers a refusal exactly
-- if it is the `Earliest` of `file_order`. Definitions only. Assumes nothing.
use Rattle.std.specs.Prelude.{ℕ, List, length, Result, ⊤}
use Rattle.flow.specs.declared.Refusal.{Refusal}
use Rattle.flow.specs.declared.Extent.{Extent}
use Rattle.flow.specs.declared.Extent.TheVariants.{Whole}
use Rattle.flow.specs.Legends.{set_count}
use Rattle.flow.specs.Refusals.{Ground, count}
use Rattle.flow.specs.Checks.{first, each, grounds}
use Rattle.format.specs.Format.{File}
use Rattle.format.specs.Contents.{leaf_grounds, event_grounds, content_order}

-- 19
unfoldable pub leaves_grounds : ℕ → List ℕ → List Ground
leaves_grounds names ns = each (leaf_grounds names ns) 0 (count ns)

-- 20
unfoldable pub events_grounds : ℕ → List ℕ → List Ground
events_grounds names rs = each (event_grounds names rs) 0 (length rs)

-- 4 to 9, with 22, 12, 13, 19 and 20
unfoldable pub grounds_of : Extent → ℕ → ℕ → List ℕ → List ℕ → List Ground
grounds_of extent names many ns rs = grounds (content_order extent names many ns rs)

abbrev pub content_check : File → Result ⊤ Refusal
content_check f = first (grounds_of Whole (length f.names) (set_count f.sets) f.nodes f.records)
