-- The items of a flow file, by their sizes, and the one that holds a byte: where a cut file is refused. Definitions only: Cuts proves
-- it. Assumes nothing.
use Rattle.std.specs.Prelude.{ℕ, zero, suc, ◌+◌, cond, List, [], ◌∷◌, ◌++◌, ltb, length}
use Rattle.flow.specs.Legends.{set_bytes, set_count}
use Rattle.format.specs.Format.{Entry, File}

-- "A count, length byte, name's bytes and number are items"; of 02, Four, a set's bytes are one more
unfoldable pub entry_items : Entry → List ℕ
entry_items e = 1 ∷ length e.step ∷ 1 ∷ length e.machine ∷ []

unfoldable pub entries_items : List Entry → List ℕ
unfolding entry_items
entries_items [] = []
entries_items (e ∷ es) = entry_items e ++ entries_items es

-- so many items of a size
unfoldable pub items_of : ℕ → ℕ → List ℕ
items_of size zero = []
items_of size (suc k) = size ∷ items_of size k

unfoldable pub number_items : List ℕ → List ℕ
unfolding items_of
number_items ns = items_of 2 (length ns)

-- a file without sets has no count of them
unfoldable pub sets_items : List ℕ → List ℕ
unfolding items_of
sets_items [] = []
sets_items (b ∷ bs) = 2 ∷ items_of set_bytes (set_count (b ∷ bs))

unfoldable pub file_items : File → List ℕ
unfolding entries_items number_items sets_items
file_items f =
    (2 ∷ entries_items f.names) ++ ((2 ∷ number_items f.nodes) ++ ((2 ∷ number_items f.records) ++ sets_items f.sets))

-- where the item that holds byte m starts, of items that stand one after the other from an offset
unfoldable pub item_of : List ℕ → ℕ → ℕ → ℕ
item_of [] at m = at
item_of (z ∷ zs) at m = cond (ltb m (at + z)) at (item_of zs (at + z) m)
