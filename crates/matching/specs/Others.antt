-- The other event that takes a record, computed: the first entry that has no machine and the step name of the record's entry.
-- A reader need not believe this file: `other_takes` (OtherLaws) proves that the nodes that take a record, by `matches` (format,
-- Matching), are those of its own event and of this other one. Definitions only. Assumes nothing.
use Rattle.std.specs.Prelude.{ℕ, ◌+◌, Bool, ◌&&◌, ◌||◌, cond, List, [], ◌∷◌, ltb, length}
use Rattle.format.specs.Format.{Entry}
use Rattle.format.specs.Matching.{same_step, no_machine, entry_of}

-- whether the node of an entry takes every record with a step name
unfoldable pub takes_step : List ℕ → Entry → Bool
unfolding no_machine same_step
takes_step step e = no_machine e && same_step e.step step

-- of the entries from number k on, the number of the first that does; or else `own`
unfoldable pub first_taking : List ℕ → ℕ → List Entry → ℕ → ℕ
unfolding takes_step
first_taking step own [] k = own
first_taking step own (e ∷ es) k = cond (takes_step step e) k (first_taking step own es (k + 1))

-- the other event that takes event r: itself, where there is none, or where r has no entry
unfoldable pub other : List Entry → ℕ → ℕ
unfolding first_taking
other es r = cond (ltb r 1 || ltb (length es) r) r (first_taking (entry_of es r).step r es 1)
