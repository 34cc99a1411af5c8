-- What may come next (02, Three): which records can follow a beginning of a record list, and how many states are entered in the search of
-- all runs of the beginning. Definitions only; AheadLaws proves them of the rules, the traces and the judge's search. Assumes nothing.
use Rattle.std.specs.Prelude.{ℕ, suc, ◌+◌, Bool, true, List, [], ◌∷◌, ◌++◌}
use Rattle.calculus.specs.Term.{Closing}
use Rattle.calculus.specs.Records.{Record, event, close, State, over, std, cmp}
use Rattle.calculus.specs.Successors.{some_of}
use Rattle.calculus.specs.Search.{next}

-- some run follows all of these records
unfoldable pub passes : List Record → State → Bool
unfolding some_of next
passes [] s = true
passes (r ∷ rs) s = some_of (λ t. passes rs t) (next s r)

-- "A number is listed exactly if some run follows the beginning and then that record."
abbrev pub may_follow : List Record → State → Record → Bool
may_follow rs s r = passes (rs ++ (r ∷ [])) s

-- what each state comes to, in all
unfoldable pub total : (State → ℕ) → List State → ℕ
total f [] = 0
total f (s ∷ ss) = f s + total f ss

-- "All runs of the beginning are searched, the count is of states entered in it, root included"
unfoldable pub entered : List Record → State → ℕ
unfolding total next
entered [] s = 1
entered (r ∷ rs) s = suc (total (λ t. entered rs t) (next s r))

-- a beginning has no closing too many, "any for a standard root, a second for a compensable one"
pub data Open : List Record → Type 0 where
  none : Open []
  more : {a : ℕ} {rs : List Record} → Open rs → Open (event a ∷ rs)

pub data OpenTwice : List Record → Type 0 where
  none : OpenTwice []
  more : {a : ℕ} {rs : List Record} → OpenTwice rs → OpenTwice (event a ∷ rs)
  turn : {w : Closing} {rs : List Record} → Open rs → OpenTwice (close w ∷ rs)

abbrev pub Begins : State → List Record → Type 0
Begins over rs = ⊥
Begins (std p) rs = Open rs
Begins (cmp pp) rs = OpenTwice rs
