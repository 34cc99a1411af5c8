-- How many work bytes a search wants, and what becomes of them (01, "What comes back"). Definitions only. Assumes nothing.
use Rattle.std.specs.Prelude.{ℕ, ◌+◌, ◌*◌, List, ◌++◌, drop, replicate}

-- 01: "Work bytes wanted: 2 × nodes × (records + 1)."
unfoldable pub room_of : ℕ → ℕ → ℕ
room_of nodes records = 2 * nodes * (records + 1)

-- 01: "the first 2 × nodes × (records + 1) are zero and the others unchanged"
unfoldable pub cleared : ℕ → List ℕ → List ℕ
cleared n work = replicate n 0 ++ drop n work
