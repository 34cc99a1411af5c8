use Prim.Native.Nat.{ℕ}
use mathlib.Core.Path.{◌≡◌}
use mathlib.Core.List.{List, [], ◌++◌, map}
use lib.ListN.{take, drop}
use Rattle.search.specs.Visits.{state}
use Rattle.search.specs.Searches.{answered}
use Rattle.search.proofs.gather.Given as goal

-- the first i of d are changed by f
abbrev pub changed : (ℕ → ℕ) → ℕ → List ℕ → List ℕ
changed f i d = map f (take i d) ++ drop i d

abbrev pub invariant-loop-ask : goal.invariant-loop-ask
invariant-loop-ask l = l.asks ≡ changed (answered (state l.here.ns.now l.here.role l.here.t.now) []) l.ask-index l.initial.asks
