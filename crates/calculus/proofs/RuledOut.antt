-- 01, "Errors that look right", each refuted from the rules and the definitions: what THROW does beside a part that can withdraw,
-- a choice that is not resolved before its step, compensations in their order and of finished pairs only, a block that does
-- not take the withdrawn ending of its inside; and a search that does not count its root, or counts equal successors once.
-- (Sharing a node between two parents is refused by number 8.) Assumes nothing.
use Rattle.std.specs.Prelude.{ℕ, ◌≤◌, ◌≡◌, refl, ◌≢◌, ◌⊎◌, ◌↔◌, List, [], ◌∷◌}
use Rattle.std.proofs.Common.{inl, inr, arith}
use Rattle.calculus.specs.Term.{Closing, done, withdrawn, failed, leaf, Joint, Std, Cmp, skip, throw, yield, ev, seq, alt, par, blk, pair, cseq, throww, join}
use Rattle.calculus.specs.Rules.{End, CEnd, Run, closes, yield_ends, yield_yields, seq_stops, par_joins, throw_ends, blk_undoes, pair_ends, pair_stops}
use Rattle.calculus.specs.Traces.{tr, Tr}
use Rattle.calculus.specs.Records.{Record, event, close, State, std, Complete}
use Rattle.calculus.specs.Search.{visit}
use Rattle.calculus.specs.Laws.{Same}
use Rattle.calculus.proofs.Members.{other}
use Rattle.calculus.proofs.RunsAreTraces.{runs_are_traces}
use Rattle.calculus.proofs.LawsHold.{same_traces}
use Rattle.calculus.proofs.Found.{found_complete}

-- "THROW parallel P equals P;THROW." False where P can yield: the one cannot end ?, the other can
pub throw_beside : {j : Joint} {p : Std} → End (par j throw p) withdrawn → ⊥
throw_beside (par_joins throw_ends f e) = other withdrawn failed tt e

pub throw_after : {p : Std} → End p withdrawn → End (seq p throw) withdrawn
throw_after e = seq_stops e (other withdrawn done tt)

pub not_throw_after : (j : Joint) (p : Std) → End p withdrawn → Same (par j throw p) (seq p throw) → ⊥
not_throw_after j p e h =
    let after : Tr (seq p throw) (tr [] withdrawn) = (runs_are_traces (seq p throw) [] withdrawn).0 (closes (throw_after e)) in
    no_run ((runs_are_traces (par j throw p) [] withdrawn).1 ((same_traces h (tr [] withdrawn)).1 after))
  where
    no_run : Run (par j throw p) [] withdrawn → ⊥
    no_run (closes f) = throw_beside f

-- "Resolving a choice before a step is seen, and keeping one side only": a choice has the runs of both sides
pub choice_open : (p q : Std) (s : List ℕ) (w : Closing) → Run (alt p q) s w ↔ (Run p s w ⊎ Run q s w)
choice_open p q s w = (λ r. side ((runs_are_traces (alt p q) s w).0 r), λ r. (runs_are_traces (alt p q) s w).1 (back r))
  where
    side : Tr p (tr s w) ⊎ Tr q (tr s w) → Run p s w ⊎ Run q s w
    side (inl t) = inl ((runs_are_traces p s w).1 t)
    side (inr t) = inr ((runs_are_traces q s w).1 t)

    back : Run p s w ⊎ Run q s w → Tr p (tr s w) ⊎ Tr q (tr s w)
    back (inl r) = inl ((runs_are_traces p s w).0 r)
    back (inr r) = inr ((runs_are_traces q s w).0 r)

-- "Undoing in forward order": what was done last is undone first, and in no other order
abbrev undone_flow : State
undone_flow = let a : ℕ → Std = λ k. ev (leaf k) in std (blk (cseq (cseq (pair (a 1) (a 2)) (pair (a 3) (a 4))) throww))

pub last_first : Complete undone_flow (event 1 ∷ event 3 ∷ event 4 ∷ event 2 ∷ close done ∷ [])
unfolding visit
last_first = (found_complete undone_flow (event 1 ∷ event 3 ∷ event 4 ∷ event 2 ∷ close done ∷ [])).0 tt

pub not_forward : Complete undone_flow (event 1 ∷ event 3 ∷ event 2 ∷ event 4 ∷ close done ∷ []) → ⊥
unfolding visit
not_forward c = (found_complete undone_flow (event 1 ∷ event 3 ∷ event 2 ∷ event 4 ∷ close done ∷ [])).1 c

-- "or running the compensation of a pair that itself failed": a pair that does not end ✓ leaves nothing to undo
pub failed_pair : {p q k : Std} {w : Closing} → CEnd (pair p q) w k → w ≢ done → k ≡ skip
failed_pair (pair_ends e) n = absurd (n refl)
failed_pair (pair_stops e m) n = refl

-- "Giving a block the withdrawn ending of its inside. (A compensation that ends ? does close its block so.)"
pub block_withdraws : (pp : Cmp) → End (blk pp) withdrawn ↔ ((k : Std) × CEnd pp failed k × End k withdrawn)
block_withdraws pp = (by, λ h. blk_undoes h.1 h.2)
  where
    by : End (blk pp) withdrawn → (k : Std) × CEnd pp failed k × End k withdrawn
    by (blk_undoes {k} e f) = (k, e, f)

-- YIELD ends ✓ or ?, and not !
pub yield_exactly : (w : Closing) → End yield w ↔ (w ≢ failed)
yield_exactly w = (by, back w)
  where
    by : {w : Closing} → End yield w → w ≢ failed
    by yield_ends = other done failed tt
    by yield_yields = other withdrawn failed tt

    back : (w : Closing) → w ≢ failed → End yield w
    back done n = yield_ends
    back withdrawn n = yield_yields
    back failed n = absurd (n refl)

-- "! if either is !": a side that withdraws does not hide one that failed
pub failed_either : (w : Closing) → (join w failed ≡ failed) × (join failed w ≡ failed)
failed_either done = (refl, refl)
failed_either withdrawn = (refl, refl)
failed_either failed = (refl, refl)

-- The count: "root and last one included", and "Equal successors by different rules count separately"
pub root_counted : (rs : List Record) (s : State) → 1 ≤ (visit rs s).entered
unfolding visit
root_counted [] s = omega arith
root_counted (r ∷ rs) s = omega arith

pub equal_counted : (visit (event 1 ∷ close failed ∷ []) (std (alt (ev (leaf 1)) (ev (leaf 1))))).entered ≡ 3
unfolding visit
equal_counted = refl
