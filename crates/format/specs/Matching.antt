-- Which records a node takes where names are lent. 02, Two, "A step without a machine": "When a drawing says "press" with no machine,
-- the plant means any press." Without names a node takes its own event alone (`leaf` of the calculus). Definitions only. Assumes nothing.
use Rattle.std.specs.Prelude.{ℕ, Bool, true, false, ◌&&◌, ◌||◌, List, [], ◌∷◌, T, eqb, length, get_or}
use Rattle.std.proofs.Math.Dec.{eqb_refl}
use Rattle.calculus.specs.Term.{Leaf}
use Rattle.calculus.proofs.Members.{or_in_left}
use Rattle.flow.specs.Legends.{Legend, in_set}
use Rattle.format.specs.Format.{Entry}

unfoldable pub same_bytes : List ℕ → List ℕ → Bool
same_bytes [] [] = true
same_bytes [] (b ∷ bs) = false
same_bytes (a ∷ as') [] = false
same_bytes (a ∷ as') (b ∷ bs) = eqb a b && same_bytes as' bs

-- step names are the same, for 18 as for the matching, if they are equal byte by byte
unfoldable pub same_step : List ℕ → List ℕ → Bool
unfolding same_bytes
same_step a b = same_bytes a b

-- 01: "Event k is entry k, from 1." An event without an entry has no empty machine name either.
abbrev pub nobody : Entry
nobody = record { step = []; machine = 0 ∷ [] }

abbrev pub entry_of : List Entry → ℕ → Entry
entry_of es k = get_or (nobody ∷ es) k nobody

-- "an empty machine name"
unfoldable pub no_machine : Entry → Bool
no_machine e = eqb (length e.machine) 0

-- "A node whose entry has an empty machine name matches a record of any entry with the same step name, its own included. A record
-- without a machine still matches only a node without one."
unfoldable pub matches : List Entry → ℕ → ℕ → Bool
unfolding no_machine same_step
matches es n r = eqb r n || (no_machine (entry_of es n) && same_step (entry_of es n).step (entry_of es r).step)

-- the leaf of a node's event, by the entries
pub own_matches : (es : List Entry) (n : ℕ) → T (matches es n n)
unfolding matches
own_matches es n = or_in_left (eqb n n) _ (eqb_refl n)

abbrev pub named : List Entry → ℕ → Leaf
named es n = record { names = n; takes = λ r. matches es n r; own = own_matches es n }

-- what the numbers of a table stand for where names and sets are lent
abbrev pub with_names : List Entry → List ℕ → Legend
with_names es sets = record { leaves = named es; sets = in_set sets }
