-- The search that is counted (01): successors of a state by a record, the search through them in order, and the verdict that
-- comes of it and the allowance. Definitions only; a search that stops as soon as its allowance is used up is in Budget, and
-- answers alike. Assumes nothing.
use Rattle.std.specs.Prelude.{ℕ, suc, ◌+◌, max, Bool, true, false, List, [], ◌∷◌, map, leb, length}
use Rattle.calculus.specs.Records.{Record, event, close, State, over, std, cmp}
use Rattle.calculus.specs.Successors.{only, ends, steps, comps, csteps}

-- 01: "A standard term's closing has one successor, nothing left, if it can end so. A compensable term's closing has one
-- successor per compensation."
unfoldable pub next : State → Record → List State
unfolding only ends steps comps csteps
next over r = []
next (std p) (event a) = map std (steps p a)
next (std p) (close w) = only (ends p w) (over ∷ [])
next (cmp pp) (event a) = map cmp (csteps pp a)
next (cmp pp) (close w) = map std (comps pp w)

-- what a search saw: whether an end, how many records at most it followed, how many states it entered, its own among them
pub record Seen : Type 0 where
  pub found : Bool
  pub reached : ℕ
  pub entered : ℕ

-- 01: "a state with nothing left and no records"
abbrev pub is_over : State → Bool
is_over over = true
is_over (std p) = false
is_over (cmp pp) = false

-- the first one's sight, and that of the others if it found no end (they are not looked at before)
unfoldable pub or_else : Bool → Seen → (Unit {0} → Seen) → Seen
or_else true x others = record { found = true; reached = suc x.reached; entered = x.entered }
or_else false x others = let y : Seen = others tt in record { found = y.found; reached = max (suc x.reached) y.reached; entered = x.entered + y.entered }

-- the successors, the first first, until one finds the end
unfoldable pub tries : (State → Seen) → List State → Seen
unfolding or_else
tries f [] = record { found = false; reached = 0; entered = 0 }
tries f (s ∷ ss) = let x : Seen = f s in or_else x.found x (λ u. tries f ss)

unfoldable pub visit : List Record → State → Seen
unfolding tries next
visit [] s = record { found = is_over s; reached = 0; entered = 1 }
visit (r ∷ rs) s = let x : Seen = tries (λ t. visit rs t) (next s r) in record { found = x.found; reached = x.reached; entered = suc x.entered }

-- place and count
pub data Verdict : Type 0 where
  accepted rejected undecided : ℕ → ℕ → Verdict

-- is the allowance enough, was an end found, how many records, the allowance, what was seen
unfoldable pub settle : Bool → Bool → ℕ → ℕ → Seen → Verdict
settle false b records allowance x = undecided 0 allowance
settle true true records allowance x = accepted records x.entered
settle true false records allowance x = rejected x.reached x.entered

-- 01: "undecided exactly if that number is above the allowance"
unfoldable pub judge : State → List Record → ℕ → Verdict
unfolding visit settle
judge s rs allowance =
    let x : Seen = visit rs s in
    settle (leb x.entered allowance) x.found (length rs) allowance x
