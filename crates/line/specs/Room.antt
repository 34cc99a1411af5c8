-- Text in lent bytes, as methods put it there: what stands behind it then, and that it is still the same loan. Definitions only.
-- Assumes nothing.
use Rattle.std.specs.Prelude.{ℕ, ◌+◌, ◌≤◌, List, ◌≡◌, length}
use Rattle.line.specs.declared.Text.{Text}
use Rattle.line.specs.Line.{Put}

-- there is room for n bytes more
abbrev pub HasRoom : ℕ → Text → Type 0
HasRoom n t = t.end + n ≤ length t.room.now

-- the text stands behind what stood there, and everything else is as it was
abbrev pub Puts : List ℕ → Text → Text → Type 0
Puts text old new = Put text old.room.now old.end new.room.now new.end

-- it is the same loan, and as long
abbrev pub SameRoom : Text → Text → Type 0
SameRoom old new = (new.room.ghost_name ≡ old.room.ghost_name) × (length new.room.now ≡ length old.room.now)
