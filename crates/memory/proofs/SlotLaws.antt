-- Laws of slots and their marks: that a mark tells key and sight, what stands in a slot after one is put and that the others and the length
-- stay as they were, and the test of the modes by one mode more. Assumes nothing.
use Prim.Native.Nat.{ℕ, ◌+◌, ◌*◌, ◌<◌, ◌≤◌}
use Rattle.std.specs.Prelude.{◌≡◌, Bool, ◌&&◌, ◌⊎◌, List, set}
use Rattle.std.proofs.Math.Path.{refl, ap, subst}
use Rattle.std.proofs.Common.{sym, ◌∙◌, add-one, length-set, get_or-set_same, get_or-set_other}
use Rattle.std.proofs.Math.Bool.{true, false, cond}
use Rattle.std.proofs.lemmas.Bool.{false≢true}
use native.Mathlib.Omega.{arith}
use Rattle.std.proofs.Math.Dec.{ltb}
use Rattle.std.proofs.Math.ListN.{length, get_or}
use borrow.Author.Tests.{ltb-true}
use Rattle.memory.specs.declared.Sight.{Sight}
use Rattle.memory.specs.declared.Slot.{Slot}
use Rattle.memory.specs.Memory.{two_bits, low_of, high_of, slots, pairs, empty, slot_at, sight_of, mark_of, lesser, takes, slot_of, remembered, Holds, Held, Same}
use Rattle.memory.specs.MemoryLaws.{remembered_held}

both_true : (a b : Bool) → (a && b) ≡ true → (a ≡ true) × (b ≡ true)
both_true true b e = (refl, e)
both_true false b e = absurd (false≢true e)

-- The modes of a state ----------------------------------------------------------------------------------------------------

pub two_bits_more : (t : List ℕ) (j : ℕ) → two_bits t (j + 1) ≡ (two_bits t j && ltb (get_or t j 0) 4)
unfolding two_bits
two_bits_more t j = rw (add-one j)

-- A mark tells key and sight ----------------------------------------------------------------------------------------------

pub mark_parts : (a b : Slot) → a.key < 65536 → b.key < 65536 → a.reached < 65536 → b.reached < 65536 → mark_of a ≡ mark_of b
    → (a.key ≡ b.key) × (sight_of a ≡ sight_of b)
unfolding mark_of sight_of
mark_parts a b k k' r r' e =
    let p : a.entered ≡ b.entered = omega arith in
    let q : a.reached ≡ b.reached = omega arith in
    (omega arith, λ i. record { entered = p i; reached = q i })

pub sight_mark : (a : Slot) (t : List ℕ) (n key : ℕ) → a.key ≡ key → mark_of a ≡ mark_of (slot_of t n key (sight_of a))
unfolding mark_of sight_of
sight_mark a t n key e = ap (λ (k : ℕ). a.entered * 4294967296 + (a.reached * 65536 + k)) e

-- a slot that holds a state has its mark
pub holds_mark : {a : Slot} {n key : ℕ} {t : List ℕ} {x : Sight} → Holds a n key t x → mark_of a ≡ mark_of (slot_of t n key x)
holds_mark {a} {n} {key} {t} {x} h = sight_mark a t n key h.keyed ∙ ap (λ (y : Sight). mark_of (slot_of t n key y)) h.seen

-- What is put -------------------------------------------------------------------------------------------------------------

pub near_taken : (b : Bool) (r : ℕ) → (b && ltb r 65536) ≡ true → (b ≡ true) × (r < 65536)
near_taken b r e = let p = both_true b (ltb r 65536) e in (p.0, ltb-true _ _ p.1)

module _ (m : List Slot) (slot : ℕ) (t₀ : List ℕ) (n key₀ : ℕ) (x₀ : Sight) where
  abbrev put : List Slot
  put = set m slot (slot_of t₀ n key₀ x₀)

  pub put_lengths : length put ≡ length m
  put_lengths = length-set m slot (slot_of t₀ n key₀ x₀)

  module _ (h : slot < slots m) where
    slot_here : slot_at put slot ≡ slot_of t₀ n key₀ x₀
    slot_here = get_or-set_same m slot (slot_of t₀ n key₀ x₀) empty h

    pub low_here : (slot_at put slot).low ≡ low_of t₀ n
    low_here = ap (λ (a : Slot). a.low) slot_here

    pub high_here : (slot_at put slot).high ≡ high_of t₀ n
    high_here = ap (λ (a : Slot). a.high) slot_here

    pub mark_here : mark_of (slot_at put slot) ≡ mark_of (slot_of t₀ n key₀ x₀)
    mark_here = ap mark_of slot_here

  -- the other slots are as they were
  module _ (s : ℕ) (d : s ≡ slot → ⊥) where
    pub modes_there : slot_at put s ≡ slot_at m s
    modes_there = get_or-set_other m slot s (slot_of t₀ n key₀ x₀) empty d

    pub put_there : {key : ℕ} {t : List ℕ} {x : Sight} → Holds (slot_at put s) n key t x → Holds (slot_at m s) n key t x
    put_there {key} {t} {x} g = subst (λ (a : Slot). Holds a n key t x) modes_there g

-- What is remembered ------------------------------------------------------------------------------------------------------

module _ (m : List Slot) (p : ℕ) (t₀ : List ℕ) (n key₀ : ℕ) (x₀ : Sight) where
  -- what does not fit is not taken
  pub remembered_unfit : {b : Bool} → b ≡ two_bits t₀ n → (b && ltb x₀.reached 65536) ≡ false → m ≡ remembered m p t₀ n key₀ x₀
  unfolding remembered takes
  remembered_unfit {b} f e = sym (ap (λ (c : Bool). cond c (set m (lesser m p) (slot_of t₀ n key₀ x₀)) m) (unfit (ltb p (pairs m)) b (ltb x₀.reached 65536) f e))
    where
      unfit : (c b d : Bool) → b ≡ two_bits t₀ n → (b && d) ≡ false → ((c && two_bits t₀ n) && d) ≡ false
      unfit true b d f e = rw (← f) e
      unfit false b d f e = refl

  -- and what is taken fits
  pub taken_near : takes m p t₀ n x₀ ≡ true → x₀.reached < 65536
  unfolding takes
  taken_near e = (near_taken (ltb p (pairs m) && two_bits t₀ n) x₀.reached e).1

  pub held_after : n ≤ 64 → (key : ℕ) (t : List ℕ) (x : Sight) → Held (remembered m p t₀ n key₀ x₀) n key t x → Held m n key t x ⊎ (Same n key t key₀ t₀ × (x ≡ x₀))
  held_after few key t x = remembered_held m p t₀ n key₀ x₀ few refl

  pub lengths_after : length (remembered m p t₀ n key₀ x₀) ≡ length m
  unfolding remembered
  lengths_after = by (takes m p t₀ n x₀) where
    by : (b : Bool) → length (cond b (set m (lesser m p) (slot_of t₀ n key₀ x₀)) m) ≡ length m
    by true = put_lengths m (lesser m p) t₀ n key₀ x₀
    by false = refl

  -- there are as many slots as before
  pub remembered_lengths : {m' : List Slot} → m' ≡ remembered m p t₀ n key₀ x₀ → length m' ≡ length m
  remembered_lengths r = ap length r ∙ lengths_after
