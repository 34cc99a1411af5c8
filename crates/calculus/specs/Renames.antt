-- When one flow does by the new numbers of the events what another does by the old. `Renames f Heard p q`: p and q are drawn alike, and for
-- each event a that is heard a leaf of p takes f a exactly if the leaf of q in its place takes a, and a set of p has f a exactly if that of
-- q in its place has a. Of events that are not heard nothing is said. So leaves and sets may be asked by other numbers than those of the
-- records, and for fewer of them.
-- A reader need not believe this file: Renamed proves that the searches are the same. Definitions only. Assumes nothing.
use Rattle.std.specs.Prelude.{ℕ, ◌≡◌, List, [], ◌∷◌}
use Rattle.calculus.specs.Term.{Closing, Leaf, Joint, Std, Cmp, skip, throw, yield, ev, seq, alt, par, hnd, blk, pair, cseq, calt, cpar, held}
use Rattle.calculus.specs.Records.{Record, event, close, State, over, std, cmp}

-- a record by the new numbers
abbrev pub renamed : (ℕ → ℕ) → Record → Record
renamed f (event a) = event (f a)
renamed f (close w) = close w

-- every event of the records is heard
module _ (Heard : ℕ → Type 0) where
  pub data HeardIn : List Record → Type 0 where
    none : HeardIn []
    and_event : {a : ℕ} {rs : List Record} → Heard a → HeardIn rs → HeardIn (event a ∷ rs)
    and_close : {w : Closing} {rs : List Record} → HeardIn rs → HeardIn (close w ∷ rs)

module _ (f : ℕ → ℕ) (Heard : ℕ → Type 0) where
  mutual
    pub data Renames : Std → Std → Type 0 where
      of_skip : Renames skip skip
      of_throw : Renames throw throw
      of_yield : Renames yield yield
      of_leaf : {l m : Leaf} → ((a : ℕ) → Heard a → m.takes a ≡ l.takes (f a)) → Renames (ev l) (ev m)
      of_seq : {p q p' q' : Std} → Renames p p' → Renames q q' → Renames (seq p q) (seq p' q')
      of_alt : {p q p' q' : Std} → Renames p p' → Renames q q' → Renames (alt p q) (alt p' q')
      of_par : {j k : Joint} {p q p' q' : Std} → ((a : ℕ) → Heard a → k a ≡ j (f a)) → Renames p p' → Renames q q' → Renames (par j p q) (par k p' q')
      of_hnd : {p q p' q' : Std} → Renames p p' → Renames q q' → Renames (hnd p q) (hnd p' q')
      of_blk : {pp pp' : Cmp} → CRenames pp pp' → Renames (blk pp) (blk pp')

    pub data CRenames : Cmp → Cmp → Type 0 where
      of_pair : {p q p' q' : Std} → Renames p p' → Renames q q' → CRenames (pair p q) (pair p' q')
      of_cseq : {pp qq pp' qq' : Cmp} → CRenames pp pp' → CRenames qq qq' → CRenames (cseq pp qq) (cseq pp' qq')
      of_calt : {pp qq pp' qq' : Cmp} → CRenames pp pp' → CRenames qq qq' → CRenames (calt pp qq) (calt pp' qq')
      of_cpar : {j k : Joint} {pp qq pp' qq' : Cmp} → ((a : ℕ) → Heard a → k a ≡ j (f a)) → CRenames pp pp' → CRenames qq qq' → CRenames (cpar j pp qq) (cpar k pp' qq')
      of_held : {pp pp' : Cmp} {k k' : Std} → CRenames pp pp' → Renames k k' → CRenames (held pp k) (held pp' k')

  pub data RenamesState : State → State → Type 0 where
    of_over : RenamesState over over
    of_std : {p q : Std} → Renames p q → RenamesState (std p) (std q)
    of_cmp : {pp qq : Cmp} → CRenames pp qq → RenamesState (cmp pp) (cmp qq)
