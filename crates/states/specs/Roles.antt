-- What a part is live as, a standard part or a compensable one that runs: what is said of both is said once, over the role: its
-- term, its steps, what the counting pass sees of it. Definitions only. Assumes nothing.
use Rattle.std.specs.Prelude.{ℕ, ◌≡◌, Bool, List, length}
use Rattle.calculus.specs.Term.{Std, Cmp}
use Rattle.calculus.specs.Successors.{steps, csteps}
use Rattle.tallies.specs.Capped.{cap}
use Rattle.tallies.specs.Counts.{view, word}
use Rattle.tallies.specs.Bare.{bare_w}
use Rattle.tallies.specs.declared.View.{View}
use Rattle.tallies.specs.declared.Word.{Word}
use Rattle.states.specs.declared.Role.{Role}
use Rattle.states.specs.declared.Role.TheVariants.{Plain, Running}
use Rattle.states.specs.State.{Part}
use Rattle.states.specs.Rows.{Entry}
use Rattle.states.specs.Stored.{Right}

abbrev pub Term : Role → Type 0
Term (Plain s) = Std
Term Running = Cmp

abbrev pub get : (r : Role) → Part → Term r
get (Plain s) x = x.std s
get Running x = x.run

-- its steps by the event a
abbrev pub nexts : (r : Role) → Term r → ℕ → List (Term r)
nexts (Plain s) p a = steps p a
nexts Running pp a = csteps pp a

-- how many they are, capped
abbrev pub many : Role → ℕ → Part → ℕ
many r a x = cap (length (nexts r (get r x) a))

-- what the counting pass sees of it, and the number of steps in that
abbrev pub Sight : Role → Type 0
Sight (Plain s) = View
Sight Running = Word

abbrev pub look : (r : Role) → ℕ → Term r → Sight r
look (Plain s) a p = view a p
look Running a pp = word a pp

abbrev pub moves_of : (r : Role) → Sight r → ℕ
moves_of (Plain s) v = v.moves
moves_of Running w = w.moves

-- what is kept of it is what is seen
abbrev pub Keeps : (r : Role) → Entry → Sight r → Type 0
Keeps (Plain s) e v = e.steps ≡ v.moves
Keeps Running e w = (e.steps ≡ w.moves) × (e.row ≡ bare_w w)

-- whether what is looked at is right for it
abbrev pub ok : Role → Right → Bool
ok (Plain s) x = x.std s
ok Running x = x.run
