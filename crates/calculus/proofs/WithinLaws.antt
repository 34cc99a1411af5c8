-- Which record lists a search can go through: those whose closings are as the root needs (`fits_within`), and beginnings (`begins_within`).
-- And what is left of such a list, or of a beginning, after a move is such a list, or a beginning, of the state moved to (`within_moves`,
-- `begins_moves`). Assumes nothing.
use Rattle.std.specs.Prelude.{ℕ, ◌≡◌, refl, List, [], ◌∷◌}
use Rattle.calculus.specs.Term.{Closing}
use Rattle.calculus.specs.Records.{Record, event, close, State, over, std, cmp, Moves, by_step, by_end, by_cstep, by_cend, Closed, ClosedTwice, Fits}
use Rattle.calculus.specs.Ahead.{Open, OpenTwice, Begins}
use Rattle.calculus.specs.Within.{WithinOne, WithinTwo, Within}

-- Lists whose closings are as the root needs, and beginnings -----------------------------------------------------------------

closed_within : {rs : List Record} → Closed rs → WithinOne rs
closed_within Closed.last = WithinOne.last
closed_within (Closed.more c) = WithinOne.more (closed_within c)

twice_within : {rs : List Record} → ClosedTwice rs → WithinTwo rs
twice_within (ClosedTwice.turn c) = WithinTwo.turn (closed_within c)
twice_within (ClosedTwice.more c) = WithinTwo.more (twice_within c)

pub fits_within : (s : State) (rs : List Record) → Fits s rs → Within s rs
fits_within over rs e = e
fits_within (std p) rs c = closed_within c
fits_within (cmp pp) rs c = twice_within c

open_within : {rs : List Record} → Open rs → WithinOne rs
open_within Open.none = WithinOne.none
open_within (Open.more o) = WithinOne.more (open_within o)

open_twice_within : {rs : List Record} → OpenTwice rs → WithinTwo rs
open_twice_within OpenTwice.none = WithinTwo.none
open_twice_within (OpenTwice.more o) = WithinTwo.more (open_twice_within o)
open_twice_within (OpenTwice.turn o) = WithinTwo.turn (open_within o)

pub begins_within : (s : State) (rs : List Record) → Begins s rs → Within s rs
begins_within over rs b = absurd b
begins_within (std p) rs o = open_within o
begins_within (cmp pp) rs o = open_twice_within o

-- After a move ----------------------------------------------------------------------------------------------------------------

one_event : {a : ℕ} {rs : List Record} → WithinOne (event a ∷ rs) → WithinOne rs
one_event (WithinOne.more i) = i

one_close : {w : Closing} {rs : List Record} → WithinOne (close w ∷ rs) → rs ≡ []
one_close WithinOne.last = refl

two_event : {a : ℕ} {rs : List Record} → WithinTwo (event a ∷ rs) → WithinTwo rs
two_event (WithinTwo.more i) = i

two_close : {w : Closing} {rs : List Record} → WithinTwo (close w ∷ rs) → WithinOne rs
two_close (WithinTwo.turn i) = i

pub within_moves : {s t : State} {r : Record} (rs : List Record) → Moves s r t → Within s (r ∷ rs) → Within t rs
within_moves rs (by_step h) i = one_event i
within_moves rs (by_end h) i = one_close i
within_moves rs (by_cstep h) i = two_event i
within_moves rs (by_cend h) i = two_close i

open_event : {a : ℕ} {rs : List Record} → Open (event a ∷ rs) → Open rs
open_event (Open.more o) = o

not_open_close : {w : Closing} {rs : List Record} → Open (close w ∷ rs) → ⊥
not_open_close o = elim o [ ]

open_twice_event : {a : ℕ} {rs : List Record} → OpenTwice (event a ∷ rs) → OpenTwice rs
open_twice_event (OpenTwice.more o) = o

open_twice_close : {w : Closing} {rs : List Record} → OpenTwice (close w ∷ rs) → Open rs
open_twice_close (OpenTwice.turn o) = o

pub begins_moves : {s t : State} {r : Record} (rs : List Record) → Moves s r t → Begins s (r ∷ rs) → Begins t rs
begins_moves rs (by_step h) o = open_event o
begins_moves rs (by_end h) o = not_open_close o
begins_moves rs (by_cstep h) o = open_twice_event o
begins_moves rs (by_cend h) o = open_twice_close o
