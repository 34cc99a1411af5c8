-- What is known of a node, a table and a record list that are not refused, and of what a node draws then. Definitions only: Children,
-- FineTable, RecordsFit and OneFlow prove them. Assumes nothing.
use Rattle.std.specs.Prelude.{ℕ, ◌+◌, ◌*◌, ◌<◌, ◌≤◌, ◌≡◌, Bool, true, false, List, length, get_or}
use Rattle.calculus.specs.Term.{Std, Cmp}
use Rattle.calculus.specs.Records.{std, cmp}
use Rattle.flow.specs.declared.Extent.{Extent}
use Rattle.flow.specs.Legends.{Legend}
use Rattle.flow.specs.Refusals.{count, unknown_kind, wrong_field, not_lower, wrong_sort, child_taken, nobodys_child, most_records, no_record, wrong_closings}
use Rattle.flow.specs.Draws.{Draws}

-- none of 4 to 8; of 22 nothing has to be known
pub record FineNode (ns : List ℕ) (i : ℕ) : Type 0 where
  pub known : unknown_kind ns i ≡ false
  pub fields : wrong_field ns i ≡ false
  pub lower : not_lower ns i ≡ false
  pub sorts : wrong_sort ns i ≡ false
  pub free : child_taken ns i ≡ false

-- none of 1 to 3
pub record FineLength (ns : List ℕ) : Type 0 where
  pub some : 3 ≤ length ns
  pub few : length ns ≤ 192
  pub whole : length ns ≡ 3 * count ns

-- none of 1 to 9
pub record FineTable (ns : List ℕ) : Type 0 where
  pub some : 1 ≤ count ns
  pub few : count ns ≤ 64
  pub whole : length ns ≡ 3 * count ns
  pub node : (i : ℕ) → i < count ns → FineNode ns i
  pub child : (i : ℕ) → i + 1 < count ns → nobodys_child ns i ≡ false

-- none of 11 to 13
pub record FineRecords (extent : Extent) (ns rs : List ℕ) : Type 0 where
  pub few : length rs ≤ most_records
  pub each : (i : ℕ) → i < length rs → no_record (get_or rs i 0) ≡ false
  pub closings : wrong_closings extent ns rs ≡ false

-- the part that node i draws is standard (true) or compensable (false)
pub data Drawing (legend : Legend) (ns : List ℕ) (i : ℕ) : Bool → Type 0 where
  standard_part : (p : Std) → Draws legend ns i (std p) → Drawing legend ns i true
  compensable_part : (pp : Cmp) → Draws legend ns i (cmp pp) → Drawing legend ns i false
