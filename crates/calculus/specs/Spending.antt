-- The search as a program makes it: it is given what is left of the allowance, and brings back what is left after it. Definitions only;
-- Budget proves that it gives the verdict of the search that is counted. Assumes nothing.
use Rattle.std.specs.Prelude.{ℕ, zero, suc, ◌-◌, max, Bool, true, false, cond, List, [], ◌∷◌, leb}
use Rattle.calculus.specs.Records.{Record, State}
use Rattle.calculus.specs.Search.{next, is_over, Seen}

-- the allowance is used up; or whether an end was found, how many records at most were followed, and what is left
pub data Out : Type 0 where
  spent : Out
  back : Bool → ℕ → ℕ → Out

-- so many records were followed before
unfoldable pub bump : ℕ → Out → Out
bump d spent = spent
bump d (back b e m) = back b (max d e) m

-- the first successor, and the others with what it left, if it found no end
unfoldable pub chain : Out → (ℕ → Out) → Out
unfolding bump
chain spent others = spent
chain (back true d m) others = back true (suc d) m
chain (back false d m) others = bump (suc d) (others m)

-- the successors, the first first
unfoldable pub tries_b : (State → ℕ → Out) → List State → ℕ → Out
unfolding chain
tries_b f [] n = back false 0 n
tries_b f (s ∷ ss) n = chain (f s n) (λ m. tries_b f ss m)

-- into a state, which costs one of the allowance, and on from it
unfoldable pub visit_b : List Record → State → ℕ → Out
unfolding tries_b next
visit_b [] s zero = spent
visit_b [] s (suc n) = back (is_over s) 0 n
visit_b (r ∷ rs) s zero = spent
visit_b (r ∷ rs) s (suc n) = tries_b (λ t m. visit_b rs t m) (next s r) n

-- what is brought back of an allowance n by a search that saw x
unfoldable pub left_of : Seen → ℕ → Out
left_of x n = cond (leb x.entered n) (back x.found x.reached (n - x.entered)) spent
