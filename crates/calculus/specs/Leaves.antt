-- What it means that something holds of each leaf and of each set of joint events of a flow; that a flow is free of joint events; and
-- that a part has the traces of the leaf in whose place it is to stand.
-- A reader need not believe this file but for `Free`: the rest is what theorems ask for. Definitions only. Assumes nothing.
use Rattle.std.specs.Prelude.{ℕ, ◌≡◌, false, ◌↔◌}
use Rattle.calculus.specs.Term.{Leaf, Joint, Std, Cmp, skip, throw, yield, ev, seq, alt, par, hnd, blk, pair, cseq, calt, cpar, held}
use Rattle.calculus.specs.Traces.{Trace, Tr}
use Rattle.calculus.specs.Records.{State, over, std, cmp}

-- Q holds of each leaf, and J of each set
abbrev mutual
  pub Each : (Leaf → Type 0) → (Joint → Type 0) → Std → Type 0
  Each Q J skip = Unit {0}
  Each Q J throw = Unit {0}
  Each Q J yield = Unit {0}
  Each Q J (ev l) = Q l
  Each Q J (seq p q) = Each Q J p × Each Q J q
  Each Q J (alt p q) = Each Q J p × Each Q J q
  Each Q J (par j p q) = J j × Each Q J p × Each Q J q
  Each Q J (hnd p q) = Each Q J p × Each Q J q
  Each Q J (blk pp) = CEach Q J pp

  pub CEach : (Leaf → Type 0) → (Joint → Type 0) → Cmp → Type 0
  CEach Q J (pair p q) = Each Q J p × Each Q J q
  CEach Q J (cseq pp qq) = CEach Q J pp × CEach Q J qq
  CEach Q J (calt pp qq) = CEach Q J pp × CEach Q J qq
  CEach Q J (cpar j pp qq) = J j × CEach Q J pp × CEach Q J qq
  CEach Q J (held qq r) = CEach Q J qq × Each Q J r

abbrev pub EachState : (Leaf → Type 0) → (Joint → Type 0) → State → Type 0
EachState Q J over = Unit {0}
EachState Q J (std p) = Each Q J p
EachState Q J (cmp pp) = CEach Q J pp

-- anything at all
abbrev pub AnyLeaf : Leaf → Type 0
AnyLeaf l = Unit {0}

abbrev pub AnySet : Joint → Type 0
AnySet j = Unit {0}

-- no event is in the set
abbrev pub Empty : Joint → Type 0
Empty j = (a : ℕ) → j a ≡ false

-- of the flow's parallel parts none has a joint event
abbrev pub Free : Std → Type 0
Free p = Each AnyLeaf Empty p

abbrev pub CFree : Cmp → Type 0
CFree pp = CEach AnyLeaf Empty pp

abbrev pub FreeState : State → Type 0
FreeState s = EachState AnyLeaf Empty s

-- f l has the traces of the leaf l
abbrev pub SameLeaf : (Leaf → Std) → Leaf → Type 0
SameLeaf f l = (z : Trace) → Tr (ev l) z ↔ Tr (f l) z
