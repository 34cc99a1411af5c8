-- When two verdicts are alike, whatever states were entered on the way. Definitions only; Redrawn proves it of flows that are equal by the
-- laws. Assumes nothing.
use Rattle.std.specs.Prelude.{ℕ, ◌≡◌}
use Rattle.calculus.specs.Search.{Verdict, accepted, rejected, undecided}

-- both accepted, or both rejected at the same place, or either undecided
pub data Alike : Verdict → Verdict → Type 0 where
  both_accepted : {n a b : ℕ} → Alike (accepted n a) (accepted n b)
  both_rejected : {place place' a b : ℕ} → place ≡ place' → Alike (rejected place a) (rejected place' b)
  first_undecided : {n a : ℕ} {v : Verdict} → Alike (undecided n a) v
  second_undecided : {n b : ℕ} {v : Verdict} → Alike v (undecided n b)
