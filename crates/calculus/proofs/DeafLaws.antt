-- What holds of each leaf and of each set of a flow holds of those of what is left of it: it is kept by every move (`each_moves`), since
-- a move adds none. So is that no leaf takes an event (`deaf_moves`); by that event such a flow does not move (`deaf_still`), now or later, so
-- that it can follow no beginning (`deaf_passes`). Assumes nothing.
use Rattle.std.specs.Prelude.{ℕ, ◌≡◌, false, T}
use mathlib.Core.List.{List, [], ◌∷◌, ◌++◌}
use Rattle.calculus.specs.Term.{Closing, Leaf, Joint, Std, Cmp}
use Rattle.calculus.specs.Rules.{CEnd, Step, CStep, pair_ends, pair_stops, cseq_stops, cseq_on, held_ends, calt_left, calt_right, cpar_joins, ev_step, seq_first, seq_second, hnd_first, hnd_second, alt_first, alt_second, par_first, par_second, par_both, blk_first, blk_second, pair_step, cseq_first, cseq_second, held_step, calt_first, calt_second, cpar_first, cpar_second, cpar_both}
use Rattle.calculus.specs.Records.{Record, event, State, Moves, by_step, by_end, by_cstep, by_cend}
use Rattle.calculus.specs.Search.{next}
use Rattle.calculus.specs.Ahead.{passes, may_follow}
use Rattle.calculus.specs.Leaves.{Each, CEach, EachState, AnySet}
use Rattle.calculus.specs.Deaf.{DeafLeaf, Deaf}
use Rattle.calculus.proofs.Members.{is_false, not_so, of_some}
use Rattle.calculus.proofs.Found.{next_moves}

-- A move adds no leaves and no sets -----------------------------------------------------------------------------------------------------------

module _ (Q : Leaf → Type 0) (J : Joint → Type 0) where
  -- a compensation that is left
  cend_each : {pp : Cmp} {w : Closing} {k : Std} → CEnd pp w k → CEach Q J pp → Each Q J k
  cend_each (pair_ends e) h = h.1
  cend_each (pair_stops e n) h = tt
  cend_each (cseq_stops e n) h = cend_each e h.0
  cend_each (cseq_on e f) h = (cend_each f h.1, cend_each e h.0)
  cend_each (held_ends e) h = (cend_each e h.0, h.1)
  cend_each (calt_left e) h = cend_each e h.0
  cend_each (calt_right e) h = cend_each e h.1
  cend_each (cpar_joins e f j) h = (h.0, cend_each e h.1, cend_each f h.2)

  mutual
    step_each : {p p' : Std} {a : ℕ} → Step p a p' → Each Q J p → Each Q J p'
    step_each (ev_step k) h = tt
    step_each (seq_first k) h = (step_each k h.0, h.1)
    step_each (seq_second e k) h = step_each k h.1
    step_each (hnd_first k) h = (step_each k h.0, h.1)
    step_each (hnd_second e k) h = step_each k h.1
    step_each (alt_first k) h = step_each k h.0
    step_each (alt_second k) h = step_each k h.1
    step_each (par_first e k) h = (h.0, step_each k h.1, h.2)
    step_each (par_second e k) h = (h.0, h.1, step_each k h.2)
    step_each (par_both e k l) h = (h.0, step_each k h.1, step_each l h.2)
    step_each (blk_first k) h = cstep_each k h
    step_each (blk_second e k) h = step_each k (cend_each e h)

    cstep_each : {pp pp' : Cmp} {a : ℕ} → CStep pp a pp' → CEach Q J pp → CEach Q J pp'
    cstep_each (pair_step k) h = (step_each k h.0, h.1)
    cstep_each (cseq_first k) h = (cstep_each k h.0, h.1)
    cstep_each (cseq_second e k) h = (cstep_each k h.1, cend_each e h.0)
    cstep_each (held_step k) h = (cstep_each k h.0, h.1)
    cstep_each (calt_first k) h = cstep_each k h.0
    cstep_each (calt_second k) h = cstep_each k h.1
    cstep_each (cpar_first e k) h = (h.0, cstep_each k h.1, h.2)
    cstep_each (cpar_second e k) h = (h.0, h.1, cstep_each k h.2)
    cstep_each (cpar_both e k l) h = (h.0, cstep_each k h.1, cstep_each l h.2)

  pub each_moves : {s t : State} {r : Record} → EachState Q J s → Moves s r t → EachState Q J t
  each_moves h (by_step k) = step_each k h
  each_moves h (by_end e) = tt
  each_moves h (by_cstep k) = cstep_each k h
  each_moves h (by_cend e) = cend_each e h

-- An event that no leaf takes -------------------------------------------------------------------------------------------------------

mutual
  no_step : {p p' : Std} {a : ℕ} → Step p a p' → Each (DeafLeaf a) AnySet p → ⊥
  no_step (ev_step k) d = not_so d k
  no_step (seq_first k) d = no_step k d.0
  no_step (seq_second e k) d = no_step k d.1
  no_step (hnd_first k) d = no_step k d.0
  no_step (hnd_second e k) d = no_step k d.1
  no_step (alt_first k) d = no_step k d.0
  no_step (alt_second k) d = no_step k d.1
  no_step (par_first e k) d = no_step k d.1
  no_step (par_second e k) d = no_step k d.2
  no_step (par_both e k l) d = no_step k d.1
  no_step (blk_first k) d = no_cstep k d
  no_step (blk_second {a} e k) d = no_step k (cend_each (DeafLeaf a) AnySet e d)

  no_cstep : {pp pp' : Cmp} {a : ℕ} → CStep pp a pp' → CEach (DeafLeaf a) AnySet pp → ⊥
  no_cstep (pair_step k) d = no_step k d.0
  no_cstep (cseq_first k) d = no_cstep k d.0
  no_cstep (cseq_second e k) d = no_cstep k d.1
  no_cstep (held_step k) d = no_cstep k d.0
  no_cstep (calt_first k) d = no_cstep k d.0
  no_cstep (calt_second k) d = no_cstep k d.1
  no_cstep (cpar_first e k) d = no_cstep k d.1
  no_cstep (cpar_second e k) d = no_cstep k d.2
  no_cstep (cpar_both e k l) d = no_cstep k d.1

module _ (a : ℕ) where
  pub deaf_moves : {s t : State} {r : Record} → Deaf a s → Moves s r t → Deaf a t
  deaf_moves d m = each_moves (DeafLeaf a) AnySet d m

  pub deaf_still : {s t : State} → Deaf a s → Moves s (event a) t → ⊥
  deaf_still d (by_step k) = no_step k d
  deaf_still d (by_cstep k) = no_cstep k d

  no_run : (rs : List Record) (s : State) → Deaf a s → T (may_follow rs s (event a)) → ⊥
  unfolding passes
  no_run [] s d h = let f = of_some (λ t. passes [] t) (next s (event a)) h in deaf_still d (next_moves s (event a) f.0 f.1)
  no_run (r ∷ rs) s d h =
      let f = of_some (λ t. may_follow rs t (event a)) (next s r) h in
      no_run rs f.0 (deaf_moves d (next_moves s r f.0 f.1)) f.2

  pub deaf_passes : (rs : List Record) (s : State) → Deaf a s → may_follow rs s (event a) ≡ false
  deaf_passes rs s d = is_false (may_follow rs s (event a)) (no_run rs s d)
