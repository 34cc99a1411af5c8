-- How a flow file is gone through, item by item, in the order of 01, "The flow file": 15 to 18 on the names, 1 and 3 on the node
-- count, 10 and 11 on the record count, then 23 on the set count (02, Four), and 15 wherever an item is cut. All places are byte offsets.
-- Not here: what the numbers of a file mean (Contents), and what a refusal means in terms of the format (`reader`, Faults). A reader
-- need not believe this file nor Plan: promises/specs/Reads tells by Format, Limits, Contents and Faults alone what is read and what is
-- refused. Definitions only. Assumes nothing.
use Rattle.std.specs.Prelude.{ℕ, zero, suc, ◌+◌, ◌*◌, ◌/◌, Bool, false, ◌&&◌, ◌||◌, cond, List, [], ◌∷◌, ◌++◌, ltb, length, get_or}
use Rattle.flow.specs.Legends.{set_bytes}
use Rattle.format.specs.declared.Range.{Range}
use Rattle.format.specs.Format.{Entry, File}
pub use Rattle.format.specs.Limits.{step_length, machine_length, name_count, node_count, record_count, sets_count}
unfoldable pub use Rattle.format.specs.Matching.{same_bytes, same_step}
use Rattle.format.specs.Plan.{Plan, done, refuse, place, item, ends, ◌>>=◌}

---- Items ----

unfoldable pub byte : Plan ℕ
byte = item 1 (λ b. done (get_or b 0 0))

-- "little-endian, 16 bits"
unfoldable pub number : Plan ℕ
number = item 2 (λ b. done (get_or b 0 0 + 256 * get_or b 1 0))

-- a count or a length that is out of its range is refused at its own offset
unfoldable pub ranged : Range → Plan ℕ → Plan ℕ
unfolding ◌>>=◌
ranged g p = place (λ at. p >>= (λ n. cond (ltb n g.least) (refuse g.few at) (cond (ltb g.most n) (refuse g.many at) (done n))))

---- Names ----

-- "a length byte .., then the bytes"
unfoldable pub name : Range → Plan (List ℕ)
unfolding ◌>>=◌ ranged byte
name g = ranged g byte >>= (λ n. item n (λ b. done b))

-- "each entry a step name .. and a machine name"
unfoldable pub entry : Plan Entry
unfolding ◌>>=◌ name
entry = do
  s ← name step_length
  m ← name machine_length
  done (record { step = s; machine = m })

-- "Two entries are the same only if both names are equal byte by byte."
unfoldable pub same_entry : Entry → Entry → Bool
unfolding same_step same_bytes
same_entry e g = same_step e.step g.step && same_bytes e.machine g.machine

-- whether the entry is one of the earlier ones
unfoldable pub met : Entry → List Entry → Bool
unfolding same_entry
met e [] = false
met e (g ∷ gs) = same_entry g e || met e gs

-- 18: "entry equal to an earlier one", at the entry
unfoldable pub new_entry : List Entry → Plan Entry
unfolding ◌>>=◌ entry met
new_entry earlier = place (λ at. entry >>= (λ e. cond (met e earlier) (refuse 18 at) (done e)))

-- so many entries more, behind the earlier ones
unfoldable pub entries : ℕ → List Entry → Plan (List Entry)
unfolding ◌>>=◌ new_entry
entries zero earlier = done earlier
entries (suc k) earlier = new_entry earlier >>= (λ e. entries k (earlier ++ (e ∷ [])))

unfoldable pub names : Plan (List Entry)
unfolding ◌>>=◌ ranged number entries
names = ranged name_count number >>= (λ n. entries n [])

---- Nodes, records and sets ----

-- so many items of a size: their bytes, one item behind the other
unfoldable pub items : ℕ → ℕ → Plan (List ℕ)
unfolding ◌>>=◌
items size zero = done []
items size (suc k) = item size (λ b. items size k >>= (λ bs. done (b ++ bs)))

-- how many items so many bytes are
abbrev pub count_by : ℕ → List ℕ → ℕ
count_by size bs = length bs / size

-- a count, and so many times `each` items
unfoldable pub item_section : Range → ℕ → ℕ → Plan (List ℕ)
unfolding ◌>>=◌ ranged number items
item_section g size each = ranged g number >>= (λ n. items size (each * n))

-- two bytes to a number
unfoldable pub numbers_of : List ℕ → List ℕ
numbers_of [] = []
numbers_of (a ∷ []) = []
numbers_of (a ∷ b ∷ bs) = (a + 256 * b) ∷ numbers_of bs

unfoldable pub section : Range → ℕ → Plan (List ℕ)
unfolding ◌>>=◌ item_section numbers_of
section g each = item_section g 2 each >>= (λ bs. done (numbers_of bs))

-- 02, Four: "A file may end after its records; then it has no sets."
unfoldable pub joint_sets : Plan (List ℕ)
unfolding item_section
joint_sets = ends (done []) (item_section sets_count set_bytes 1)

-- "Three sections in a fixed order", and the fourth
unfoldable pub layout : Plan File
unfolding ◌>>=◌ names section joint_sets
layout = do
  es ← names
  ns ← section node_count 3
  rs ← section record_count 1
  sets ← joint_sets
  done (record { names = es; nodes = ns; records = rs; sets = sets })
