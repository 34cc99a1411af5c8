-- A flow with each of its leaves spelled out: another part in the leaf's place, and everything else as it is. Definitions only;
-- SpelledTraces proves when a flow spelled out has the traces and the complete runs of the flow. Assumes nothing.
use Rattle.calculus.specs.Term.{Leaf, Std, Cmp, skip, throw, yield, ev, seq, alt, par, hnd, blk, pair, cseq, calt, cpar, held}
use Rattle.calculus.specs.Records.{State, over, std, cmp}

-- f l stands in the place of each leaf l
abbrev mutual
  pub spelled : (Leaf → Std) → Std → Std
  spelled f skip = skip
  spelled f throw = throw
  spelled f yield = yield
  spelled f (ev l) = f l
  spelled f (seq p q) = seq (spelled f p) (spelled f q)
  spelled f (alt p q) = alt (spelled f p) (spelled f q)
  spelled f (par j p q) = par j (spelled f p) (spelled f q)
  spelled f (hnd p q) = hnd (spelled f p) (spelled f q)
  spelled f (blk pp) = blk (cspelled f pp)

  pub cspelled : (Leaf → Std) → Cmp → Cmp
  cspelled f (pair p q) = pair (spelled f p) (spelled f q)
  cspelled f (cseq pp qq) = cseq (cspelled f pp) (cspelled f qq)
  cspelled f (calt pp qq) = calt (cspelled f pp) (cspelled f qq)
  cspelled f (cpar j pp qq) = cpar j (cspelled f pp) (cspelled f qq)
  cspelled f (held qq r) = held (cspelled f qq) (spelled f r)

abbrev pub spelled_state : (Leaf → Std) → State → State
spelled_state f over = over
spelled_state f (std p) = std (spelled f p)
spelled_state f (cmp pp) = cmp (cspelled f pp)
