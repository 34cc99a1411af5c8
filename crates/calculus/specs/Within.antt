-- Record lists that a search can go through: those whose closings are as the root needs, and their beginnings. So a standard part's closing
-- is the last record, if there is one. Definitions only; WithinLaws has that `Fits` and `Begins` are so. Assumes nothing.
use Rattle.std.specs.Prelude.{ℕ, ◌≡◌, List, [], ◌∷◌}
use Rattle.calculus.specs.Term.{Closing}
use Rattle.calculus.specs.Records.{Record, event, close, State, over, std, cmp}

pub data WithinOne : List Record → Type 0 where
  none : WithinOne []
  last : {w : Closing} → WithinOne (close w ∷ [])
  more : {a : ℕ} {rs : List Record} → WithinOne rs → WithinOne (event a ∷ rs)

pub data WithinTwo : List Record → Type 0 where
  none : WithinTwo []
  more : {a : ℕ} {rs : List Record} → WithinTwo rs → WithinTwo (event a ∷ rs)
  turn : {w : Closing} {rs : List Record} → WithinOne rs → WithinTwo (close w ∷ rs)

abbrev pub Within : State → List Record → Type 0
Within over rs = rs ≡ []
Within (std p) rs = WithinOne rs
Within (cmp pp) rs = WithinTwo rs
