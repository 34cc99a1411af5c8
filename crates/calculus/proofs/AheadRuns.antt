-- Where a flow is free of joint events, so that nothing of it gets stuck, the records that some run follows begin a complete run
-- (`passes_complete`) and a trace (`passes_traces`). With joint events one direction stays: what begins a complete run is followed
-- (`complete_passes`). Assumes nothing.
use Rattle.std.specs.Prelude.{◌↔◌, List, [], ◌∷◌, ◌++◌, T}
use Rattle.calculus.specs.Records.{Record, State, Complete, InTraces}
use Rattle.calculus.specs.Search.{next}
use Rattle.calculus.specs.Ahead.{passes}
use Rattle.calculus.specs.Leaves.{AnyLeaf, Empty, FreeState}
use Rattle.calculus.proofs.Members.{in_some, of_some}
use Rattle.calculus.proofs.Found.{next_moves, moves_next, Ends, ends_complete, complete_ends}
use Rattle.calculus.proofs.Completes.{complete_traces, closes_somehow}
use Rattle.calculus.proofs.DeafLaws.{each_moves}

passes_ends : (rs : List Record) (s : State) → FreeState s → T (passes rs s) → (rest : List Record) × Ends s (rs ++ rest)
unfolding passes
passes_ends [] s free h = let c = closes_somehow s free in (c.0, complete_ends s c.0 c.1)
passes_ends (r ∷ rs) s free h =
    let f = of_some (λ t. passes rs t) (next s r) h in
    let m = next_moves s r f.0 f.1 in
    let e = passes_ends rs f.0 (each_moves AnyLeaf Empty free m) f.2 in
    (e.0, Ends.moves m e.1)

ends_passes : (rs rest : List Record) {s : State} → Ends s (rs ++ rest) → T (passes rs s)
unfolding passes
ends_passes [] rest e = tt
ends_passes (r ∷ rs) rest (Ends.moves m e) = in_some (λ t. passes rs t) (moves_next m) (ends_passes rs rest e)

pub passes_complete : (rs : List Record) (s : State) → FreeState s → T (passes rs s) ↔ ((rest : List Record) × Complete s (rs ++ rest))
passes_complete rs s free = (
  λ h. let e = passes_ends rs s free h in (e.0, ends_complete s (rs ++ e.0) e.1),
  λ c. ends_passes rs c.0 (complete_ends s (rs ++ c.0) c.1),
)

pub passes_traces : (rs : List Record) (s : State) → FreeState s → T (passes rs s) ↔ ((rest : List Record) × InTraces s (rs ++ rest))
passes_traces rs s free = (
  λ h. let c = (passes_complete rs s free).0 h in (c.0, (complete_traces s (rs ++ c.0)).0 c.1),
  λ t. (passes_complete rs s free).1 (t.0, (complete_traces s (rs ++ t.0)).1 t.1),
)

pub complete_passes : (rs rest : List Record) (s : State) → Complete s (rs ++ rest) → T (passes rs s)
complete_passes rs rest s c = ends_passes rs rest (complete_ends s (rs ++ rest) c)
