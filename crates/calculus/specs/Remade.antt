-- A flow with other leaves and other sets of joint events in the places of its own, and two such: with leaves that may also be passed over
-- (`loose`), and with nothing but that (`idle`). A reader need not believe this file: Redrawn uses it to show where flows that are equal by
-- the laws get stuck. Definitions only. Assumes nothing.
use Rattle.std.specs.Prelude.{ℕ, zero, suc, ◌≡◌, Bool, true, false, T}
use Rattle.calculus.specs.Term.{Leaf, leaf, Joint, none, Std, Cmp, skip, throw, yield, ev, seq, alt, par, hnd, blk, pair, cseq, calt, cpar, held}
use Rattle.calculus.specs.Records.{State, over, std, cmp}

-- f l stands in the place of each leaf l, and g j in that of each set j
module _ (f : Leaf → Leaf) (g : Joint → Joint) where
  abbrev mutual
    pub remade : Std → Std
    remade skip = skip
    remade throw = throw
    remade yield = yield
    remade (ev l) = ev (f l)
    remade (seq p q) = seq (remade p) (remade q)
    remade (alt p q) = alt (remade p) (remade q)
    remade (par j p q) = par (g j) (remade p) (remade q)
    remade (hnd p q) = hnd (remade p) (remade q)
    remade (blk pp) = blk (cremade pp)

    pub cremade : Cmp → Cmp
    cremade (pair p q) = pair (remade p) (remade q)
    cremade (cseq pp qq) = cseq (cremade pp) (cremade qq)
    cremade (calt pp qq) = calt (cremade pp) (cremade qq)
    cremade (cpar j pp qq) = cpar (g j) (cremade pp) (cremade qq)
    cremade (held qq r) = held (cremade qq) (remade r)

  abbrev pub remade_state : State → State
  remade_state over = over
  remade_state (std p) = std (remade p)
  remade_state (cmp pp) = cmp (cremade pp)

-- every number is one higher, and the number 0 is free for something else
abbrev pub above : Bool → (ℕ → Bool) → ℕ → Bool
above b f zero = b
above b f (suc a) = f a

-- a leaf that may be passed over by the event 0
abbrev pub loose_leaf : Leaf → Leaf
loose_leaf l = record { names = suc l.names; takes = above true l.takes; own = l.own }

abbrev pub loose_set : Joint → Joint
loose_set j = above false j

abbrev pub loose : State → State
loose s = remade_state loose_leaf loose_set s

-- nothing but passing over
abbrev pub idle : State → State
idle s = remade_state (λ l. leaf 0) (λ j. none) s

-- the leaf can be passed over, and no set asks two sides for it
abbrev pub Passable : Leaf → Type 0
Passable l = T (l.takes 0)

abbrev pub Apart : Joint → Type 0
Apart j = j 0 ≡ false
