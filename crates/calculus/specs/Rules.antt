-- The transition rules of 002, one constructor to a rule, and the complete runs that they allow. YIELD ends ✓ or ?, as 000
-- has it (002 prints its ? line twice). Definitions only; that the ordered lists of Successors hold exactly these is in Exact.
-- Assumes nothing.
use Rattle.std.specs.Prelude.{ℕ, ◌≡◌, true, false, ◌≢◌, List, [], ◌∷◌, T}
use Rattle.calculus.specs.Term.{Closing, done, withdrawn, failed, Leaf, Joint, Std, Cmp, skip, throw, yield, ev, seq, alt, par, hnd, blk, pair, cseq, calt, cpar, held, join}

-- Endings and compensations ---------------------------------------------------------------------------------------------

mutual
  -- P can end by w
  pub data End : Std → Closing → Type 0 where
    skip_ends : End skip done
    throw_ends : End throw failed
    yield_ends : End yield done
    yield_yields : End yield withdrawn
    seq_on : {p q : Std} {w : Closing} → End p done → End q w → End (seq p q) w
    seq_stops : {p q : Std} {w : Closing} → End p w → w ≢ done → End (seq p q) w
    hnd_on : {p q : Std} {w : Closing} → End p failed → End q w → End (hnd p q) w
    hnd_stops : {p q : Std} {w : Closing} → End p w → w ≢ failed → End (hnd p q) w
    alt_left : {p q : Std} {w : Closing} → End p w → End (alt p q) w
    alt_right : {p q : Std} {w : Closing} → End q w → End (alt p q) w
    par_joins : {j : Joint} {p q : Std} {w v x : Closing} → End p w → End q v → x ≡ join w v → End (par j p q) x
    -- 01: "A block whose inside ends ? has no ending by it."
    blk_ends : {pp : Cmp} {k : Std} → CEnd pp done k → End (blk pp) done
    blk_undoes : {pp : Cmp} {k : Std} {w : Closing} → CEnd pp failed k → End k w → End (blk pp) w

  -- PP can end by w and leave the compensation k
  pub data CEnd : Cmp → Closing → Std → Type 0 where
    pair_ends : {p q : Std} → End p done → CEnd (pair p q) done q
    pair_stops : {p q : Std} {w : Closing} → End p w → w ≢ done → CEnd (pair p q) w skip
    cseq_stops : {pp qq : Cmp} {w : Closing} {k : Std} → CEnd pp w k → w ≢ done → CEnd (cseq pp qq) w k
    cseq_on : {pp qq : Cmp} {w : Closing} {k l : Std} → CEnd pp done k → CEnd qq w l → CEnd (cseq pp qq) w (seq l k)
    held_ends : {qq : Cmp} {w : Closing} {k l : Std} → CEnd qq w l → CEnd (held qq k) w (seq l k)
    calt_left : {pp qq : Cmp} {w : Closing} {k : Std} → CEnd pp w k → CEnd (calt pp qq) w k
    calt_right : {pp qq : Cmp} {w : Closing} {k : Std} → CEnd qq w k → CEnd (calt pp qq) w k
    -- 02, Four: joint compensations are parallel with the same set
    cpar_joins : {j : Joint} {pp qq : Cmp} {w v x : Closing} {k l : Std} → CEnd pp w k → CEnd qq v l → x ≡ join w v → CEnd (cpar j pp qq) x (par j k l)

-- Steps -----------------------------------------------------------------------------------------------------------------

mutual
  -- P steps by the event a to P'
  pub data Step : Std → ℕ → Std → Type 0 where
    ev_step : {l : Leaf} {a : ℕ} → T (l.takes a) → Step (ev l) a skip
    seq_first : {p q p' : Std} {a : ℕ} → Step p a p' → Step (seq p q) a (seq p' q)
    seq_second : {p q q' : Std} {a : ℕ} → End p done → Step q a q' → Step (seq p q) a q'
    hnd_first : {p q p' : Std} {a : ℕ} → Step p a p' → Step (hnd p q) a (hnd p' q)
    hnd_second : {p q q' : Std} {a : ℕ} → End p failed → Step q a q' → Step (hnd p q) a q'
    alt_first : {p q r : Std} {a : ℕ} → Step p a r → Step (alt p q) a r
    alt_second : {p q r : Std} {a : ℕ} → Step q a r → Step (alt p q) a r
    par_first : {j : Joint} {p q p' : Std} {a : ℕ} → j a ≡ false → Step p a p' → Step (par j p q) a (par j p' q)
    par_second : {j : Joint} {p q q' : Std} {a : ℕ} → j a ≡ false → Step q a q' → Step (par j p q) a (par j p q')
    -- 02, Four: "an event in the set is one step of both sides"
    par_both : {j : Joint} {p q p' q' : Std} {a : ℕ} → j a ≡ true → Step p a p' → Step q a q' → Step (par j p q) a (par j p' q')
    blk_first : {pp pp' : Cmp} {a : ℕ} → CStep pp a pp' → Step (blk pp) a (blk pp')
    blk_second : {pp : Cmp} {k k' : Std} {a : ℕ} → CEnd pp failed k → Step k a k' → Step (blk pp) a k'

  -- PP steps by the event a to PP'
  pub data CStep : Cmp → ℕ → Cmp → Type 0 where
    pair_step : {p q p' : Std} {a : ℕ} → Step p a p' → CStep (pair p q) a (pair p' q)
    cseq_first : {pp qq pp' : Cmp} {a : ℕ} → CStep pp a pp' → CStep (cseq pp qq) a (cseq pp' qq)
    cseq_second : {pp qq qq' : Cmp} {k : Std} {a : ℕ} → CEnd pp done k → CStep qq a qq' → CStep (cseq pp qq) a (held qq' k)
    held_step : {qq qq' : Cmp} {k : Std} {a : ℕ} → CStep qq a qq' → CStep (held qq k) a (held qq' k)
    calt_first : {pp qq rr : Cmp} {a : ℕ} → CStep pp a rr → CStep (calt pp qq) a rr
    calt_second : {pp qq rr : Cmp} {a : ℕ} → CStep qq a rr → CStep (calt pp qq) a rr
    cpar_first : {j : Joint} {pp qq pp' : Cmp} {a : ℕ} → j a ≡ false → CStep pp a pp' → CStep (cpar j pp qq) a (cpar j pp' qq)
    cpar_second : {j : Joint} {pp qq qq' : Cmp} {a : ℕ} → j a ≡ false → CStep qq a qq' → CStep (cpar j pp qq) a (cpar j pp qq')
    cpar_both : {j : Joint} {pp qq pp' qq' : Cmp} {a : ℕ} → j a ≡ true → CStep pp a pp' → CStep qq a qq' → CStep (cpar j pp qq) a (cpar j pp' qq')

-- Complete runs ---------------------------------------------------------------------------------------------------------

-- of a standard root: events, then a closing
pub data Run : Std → List ℕ → Closing → Type 0 where
  closes : {p : Std} {w : Closing} → End p w → Run p [] w
  goes : {p p' : Std} {a : ℕ} {s : List ℕ} {w : Closing} → Step p a p' → Run p' s w → Run p (a ∷ s) w

-- the forward half: events, a closing, and the compensation that is left
pub data Fwd : Cmp → List ℕ → Closing → Std → Type 0 where
  ccloses : {pp : Cmp} {w : Closing} {k : Std} → CEnd pp w k → Fwd pp [] w k
  cgoes : {pp pp' : Cmp} {a : ℕ} {s : List ℕ} {w : Closing} {k : Std} → CStep pp a pp' → Fwd pp' s w k → Fwd pp (a ∷ s) w k

-- of a compensable root: forward events s, the closing w, compensation events t, the closing v
pub record CRun (pp : Cmp) (s : List ℕ) (w : Closing) (t : List ℕ) (v : Closing) : Type 0 where
  pub left : Std
  pub forward : Fwd pp s w left
  pub back : Run left t v
