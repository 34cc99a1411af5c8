-- Where the entry of an event stands in a names section that is not refused, if it has one (`entry_place`). Definitions only. Assumes nothing.
use Rattle.std.specs.Prelude.{ℕ, ◌-◌, ◌||◌, cond, Option, Some, None, List, ltb, length}
use Rattle.format.specs.ListChecks.{entries_in}
use Rattle.format.specs.Items.{entries_end}

unfoldable pub entry_place : List ℕ → ℕ → Option ℕ
entry_place s r = cond (ltb r 1 || ltb (length (entries_in s)) r) None (Some (entries_end s (r - 1) 2))
