-- Laws of a memory of searches. In order: the words of a state, their size, and that they tell its modes; the choice of a pair stays within
-- 64 bits; what is recalled is held; what is held after one more is put in was held before, or is that one; what an empty memory holds;
-- and that the contracts leave one outcome. Assumes nothing.
use Prim.Native.Nat.{ℕ, zero, suc, ◌+◌, ◌-◌, ◌*◌, ◌<◌, ◌≤◌}
use Rattle.std.specs.Prelude.{◌≡◌, Bool, ◌&&◌, ◌⊎◌, List, [], ◌∷◌, set, Result, Ok, Err}
use Rattle.std.specs.List.{fold}
use Rattle.std.proofs.Math.Seq.{take-suc, take-length}
use Rattle.std.proofs.lemmas.List.Sums.{fold-append}
use Rattle.std.proofs.Math.Path.{refl, ap, subst}
use Rattle.std.proofs.Common.{sym, ◌∙◌, inr, ⊎_elim, mul-le-mul, eq-or-lt_of_le, add-one, length-set, get_or-set_same, get_or-set_other}
use Rattle.std.proofs.Math.Bool.{true, false, cond}
use Rattle.std.proofs.lemmas.Bool.{false≢true}
use Rattle.std.proofs.Math.Logic.{inl}
use native.Mathlib.Omega.{arith}
use Rattle.std.proofs.Math.Dec.{eqb, ltb}
use Rattle.std.proofs.Math.ListN.{length, get_or, take}
use borrow.Author.Tests.{eqb-true, eqb-false, ltb-true, ltb-false, eq-eqb, ne_eqb, lt-ltb, le-ltb}
use Rattle.memory.specs.declared.Sight.{Sight}
use Rattle.memory.specs.declared.Slot.{Slot}
use Rattle.memory.specs.Memory.{two_bits, padded, bytes, most_bytes, packed, low_of, high_of, slots, pairs, pair_of, slot_at, is_short, has, sight_of, recalled_at, recalled_in, recalled, mark_of, lesser, takes, slot_of, remembered, Holds, Held, Same}

both_true : (a b : Bool) → (a && b) ≡ true → (a ≡ true) × (b ≡ true)
both_true true b e = (refl, e)
both_true false b e = absurd (false≢true e)

-- The modes of a state ----------------------------------------------------------------------------------------------------

-- the test of one mode after the other
two_bits_fold : (t : List ℕ) (n : ℕ) → n ≤ length t → fold (λ (b : Bool) (m : ℕ). b && ltb m 4) true (take n t) ≡ two_bits t n
unfolding two_bits
two_bits_fold t zero h = refl
two_bits_fold t (suc n) h =
    let f : Bool → ℕ → Bool = λ b m. b && ltb m 4 in
    ap (fold f true) (take-suc t n 0 h) ∙ fold-append f true (take n t) (get_or t n 0 ∷ []) ∙ ap (λ b. f b (get_or t n 0)) (two_bits_fold t n (omega arith))

pub two_bits_all : (t : List ℕ) → fold (λ (b : Bool) (m : ℕ). b && ltb m 4) true t ≡ two_bits t (length t)
two_bits_all t = ap (fold (λ (b : Bool) (m : ℕ). b && ltb m 4) true) (sym (take-length t)) ∙ two_bits_fold t (length t) (omega arith)

two_bits_each : (t : List ℕ) (n : ℕ) → two_bits t n ≡ true → (j : ℕ) → j < n → get_or t j 0 < 4
unfolding two_bits
two_bits_each t zero e j h = absurd (omega arith)
two_bits_each t (suc n) e j h =
    let b = both_true (two_bits t n) (ltb (get_or t n 0) 4) e in
    ⊎_elim (λ i. subst (λ k. get_or t k 0 < 4) (sym i) (ltb-true _ _ b.1)) (λ l. two_bits_each t n b.0 j l) (eq-or-lt_of_le (omega arith))

module _ (t : List ℕ) (n : ℕ) where
  pub padded_inside : (j : ℕ) → j < n → padded t n j ≡ get_or t j 0
  unfolding padded
  padded_inside j h = rw (lt-ltb j n h)

  pub padded_behind : (j : ℕ) → n ≤ j → padded t n j ≡ 0
  unfolding padded
  padded_behind j h = rw (le-ltb j n h)

  pub padded_small : two_bits t n ≡ true → (j : ℕ) → padded t n j < 4
  padded_small e j = by (ltb j n) refl where
    by : (b : Bool) → ltb j n ≡ b → padded t n j < 4
    by true l = let h = ltb-true j n l in rw (padded_inside j h) (two_bits_each t n e j h)
    by false l = rw (padded_behind j (ltb-false j n l)) (omega arith)

-- Their bytes -------------------------------------------------------------------------------------------------------------

most_more : (j k : ℕ) → j ≤ k → most_bytes j ≤ most_bytes k
unfolding most_bytes
most_more zero k h = omega arith
most_more (suc j) zero h = absurd (omega arith)
most_more (suc j) (suc k) h = let r = most_more j k (omega arith) in omega arith

pub most_eight : most_bytes 8 ≡ 217020518514230019
unfolding most_bytes
most_eight = refl

module _ (m : ℕ → ℕ) where
  bytes_zero : (at : ℕ) → bytes m at 0 ≡ 0
  unfolding bytes
  bytes_zero at = refl

  bytes_one : (at k : ℕ) → bytes m at (k + 1) ≡ m at + 256 * bytes m (at + 1) k
  unfolding bytes
  bytes_one at k = rw (add-one k)

  bytes_next : (at i k : ℕ) → bytes m (at + i) (k + 1) ≡ m (at + i) + 256 * bytes m (at + (i + 1)) k
  bytes_next at i k = bytes_one (at + i) k ∙ ap (λ z. m (at + i) + 256 * bytes m z k) (omega arith)

  bytes_four : (at : ℕ) → bytes m at 4 ≡ m at + 256 * m (at + 1) + 65536 * m (at + 2) + 16777216 * m (at + 3)
  bytes_four at =
      let a : bytes m at 4 ≡ m at + 256 * bytes m (at + 1) 3 = bytes_one at 3 in
      let b : bytes m (at + 1) 3 ≡ m (at + 1) + 256 * bytes m (at + 2) 2 = bytes_next at 1 2 in
      let c : bytes m (at + 2) 2 ≡ m (at + 2) + 256 * bytes m (at + 3) 1 = bytes_next at 2 1 in
      let d : bytes m (at + 3) 1 ≡ m (at + 3) + 256 * bytes m (at + 4) 0 = bytes_next at 3 0 in
      let e = bytes_zero (at + 4) in omega arith

  bytes_eight : (at : ℕ) → bytes m at 8 ≡ bytes m at 4 + 4294967296 * bytes m (at + 4) 4
  bytes_eight at =
      let a : bytes m at 8 ≡ m at + 256 * bytes m (at + 1) 7 = bytes_one at 7 in
      let b : bytes m (at + 1) 7 ≡ m (at + 1) + 256 * bytes m (at + 2) 6 = bytes_next at 1 6 in
      let c : bytes m (at + 2) 6 ≡ m (at + 2) + 256 * bytes m (at + 3) 5 = bytes_next at 2 5 in
      let d : bytes m (at + 3) 5 ≡ m (at + 3) + 256 * bytes m (at + 4) 4 = bytes_next at 3 4 in
      let e = bytes_four at in omega arith

  -- nothing but zeros
  bytes_none : (at k : ℕ) → ((j : ℕ) → at ≤ j → m j ≡ 0) → bytes m at k ≡ 0
  unfolding bytes
  bytes_none at zero z = refl
  bytes_none at (suc k) z = let r = bytes_none (at + 1) k (λ j h. z j (omega arith)) in let q = z at (omega arith) in omega arith

  module _ (small : (j : ℕ) → m j < 4) where
    bytes_less : (at k : ℕ) → bytes m at k ≤ most_bytes k
    unfolding bytes most_bytes
    bytes_less at zero = omega arith
    bytes_less at (suc k) = let r = bytes_less (at + 1) k in let q = small at in omega arith

    bytes_most : (at k : ℕ) → k ≤ 8 → bytes m at k ≤ most_bytes 8
    bytes_most at k h = let a = bytes_less at k in let b = most_more k 8 h in omega arith

-- of the code's numbers
module _ (t : List ℕ) (n at : ℕ) where
  pub four_is : {a b c d : ℕ} → at + 4 ≤ n → a ≡ get_or t at 0 → b ≡ get_or t (at + 1) 0 → c ≡ get_or t (at + 2) 0 → d ≡ get_or t (at + 3) 0
      → a + 256 * b + 65536 * c + 16777216 * d ≡ bytes (padded t n) at 4
  four_is h ea eb ec ed =
      let e = bytes_four (padded t n) at in
      let p = padded_inside t n at (omega arith) in
      let q = padded_inside t n (at + 1) (omega arith) in
      let r = padded_inside t n (at + 2) (omega arith) in
      let s = padded_inside t n (at + 3) (omega arith) in omega arith

  pub part_none : (k : ℕ) → n ≤ at → 0 ≡ bytes (padded t n) at k
  part_none k h = sym (bytes_none (padded t n) at k (λ j l. padded_behind t n j (omega arith)))

  module _ (fit : two_bits t n ≡ true) where
    abbrev Eight : ℕ → Type 0
    Eight r = (r ≡ bytes (padded t n) at 8) × (r ≤ most_bytes 8)

    pub eight_is : {r : ℕ} → r ≡ bytes (padded t n) at 8 → Eight r
    eight_is e = let l = bytes_most (padded t n) (padded_small t n fit) at 8 (omega arith) in (e, omega arith)

    pub eight_fours : {a b : ℕ} → a ≡ bytes (padded t n) at 4 → b ≡ bytes (padded t n) (at + 4) 4 → Eight (a + 4294967296 * b)
    eight_fours ea eb = eight_is (let e = bytes_eight (padded t n) at in omega arith)

    -- a turn of the loop in `part`, from node j to the one before it
    pub part_more : (j : ℕ) {word : ℕ} → at < j → j ≤ n → n ≤ at + 8 → word ≡ bytes (padded t n) j (at + 8 - j)
        → (word * 256 + get_or t (j - 1) 0 ≡ bytes (padded t n) (j - 1) (at + 8 - (j - 1))) × (word * 256 + get_or t (j - 1) 0 ≤ most_bytes 8)
    part_more j {word} l h k e =
        let m : ℕ → ℕ = padded t n in
        let i : ℕ = j - 1 in
        let r : ℕ = at + 8 - j in
        let p : i + 1 ≡ j = omega arith in
        let q : at + 8 - i ≡ r + 1 = omega arith in
        let w : word ≡ bytes m (i + 1) r = e ∙ ap (λ z. bytes m z r) (sym p) in
        let u = bytes_one m i r in
        let v = padded_inside t n i (omega arith) in
        let s : word * 256 + get_or t i 0 ≡ bytes m i (r + 1) = omega arith in
        let b = bytes_most m (padded_small t n fit) i (r + 1) (omega arith) in
        (s ∙ ap (bytes m i) (sym q), omega arith)

pub pack_is : (m : ℕ → ℕ) (at : ℕ) {a b c d : ℕ} → a ≡ bytes m at 8 → b ≡ bytes m (at + 8) 8 → c ≡ bytes m (at + 16) 8 → d ≡ bytes m (at + 24) 8
    → a + 4 * b + 16 * c + 64 * d ≡ packed m at 8
unfolding packed
pack_is m at ea eb ec ed = omega arith

-- Words tell the modes ----------------------------------------------------------------------------------------------------

digit : (x y a b : ℕ) → x < 4 → y < 4 → x + 4 * a ≡ y + 4 * b → (x ≡ y) × (a ≡ b)
digit x y a b h k e = (omega arith, omega arith)

module _ (m m' : ℕ → ℕ) (small : (j : ℕ) → m j < 4) (small' : (j : ℕ) → m' j < 4) where
  abbrev Alike : ℕ → ℕ → Type 0
  Alike at k = (j : ℕ) → at ≤ j → j < at + k → m j ≡ m' j

  alike_more : (at k : ℕ) → m at ≡ m' at → Alike (at + 1) k → Alike at (suc k)
  alike_more at k e f j l h = ⊎_elim (λ q. subst (λ i. m i ≡ m' i) q e) (λ g. f j (omega arith) (omega arith)) (eq-or-lt_of_le l)

  -- of four rows of bytes at once, by their first bytes
  rows_alike : (k a b c d : ℕ) → bytes m a k + 4 * bytes m b k + 16 * bytes m c k + 64 * bytes m d k ≡ bytes m' a k + 4 * bytes m' b k + 16 * bytes m' c k + 64 * bytes m' d k
      → Alike a k × (Alike b k × (Alike c k × Alike d k))
  unfolding bytes
  rows_alike zero a b c d e = (λ j l h. absurd (omega arith), (λ j l h. absurd (omega arith), (λ j l h. absurd (omega arith), λ j l h. absurd (omega arith))))
  rows_alike (suc k) a b c d e =
      let rest : ℕ = bytes m (a + 1) k + 4 * bytes m (b + 1) k + 16 * bytes m (c + 1) k + 64 * bytes m (d + 1) k in
      let rest' : ℕ = bytes m' (a + 1) k + 4 * bytes m' (b + 1) k + 16 * bytes m' (c + 1) k + 64 * bytes m' (d + 1) k in
      let p = digit (m a) (m' a) (m b + 4 * (m c + 4 * (m d + 4 * rest))) (m' b + 4 * (m' c + 4 * (m' d + 4 * rest'))) (small a) (small' a) (omega (arith, e)) in
      let q = digit (m b) (m' b) (m c + 4 * (m d + 4 * rest)) (m' c + 4 * (m' d + 4 * rest')) (small b) (small' b) p.1 in
      let r = digit (m c) (m' c) (m d + 4 * rest) (m' d + 4 * rest') (small c) (small' c) q.1 in
      let s = digit (m d) (m' d) rest rest' (small d) (small' d) r.1 in
      let f = rows_alike k (a + 1) (b + 1) (c + 1) (d + 1) s.1 in
      (alike_more a k p.0 f.0, (alike_more b k q.0 f.1.0, (alike_more c k r.0 f.1.1.0, alike_more d k s.0 f.1.1.1)))

  packed_alike : (at : ℕ) → packed m at 8 ≡ packed m' at 8 → Alike at 32
  unfolding packed
  packed_alike at e j l h = first (ltb j (at + 8)) refl where
    f : Alike at 8 × (Alike (at + 8) 8 × (Alike (at + 16) 8 × Alike (at + 24) 8))
    f = rows_alike 8 at (at + 8) (at + 16) (at + 24) e

    third : (b : Bool) → ltb j (at + 24) ≡ b → at + 16 ≤ j → m j ≡ m' j
    third true q g = f.1.1.0 j g (omega (arith, ltb-true j (at + 24) q))
    third false q g = f.1.1.1 j (ltb-false j (at + 24) q) (omega arith)

    second : (b : Bool) → ltb j (at + 16) ≡ b → at + 8 ≤ j → m j ≡ m' j
    second true q g = f.1.0 j g (omega (arith, ltb-true j (at + 16) q))
    second false q g = third (ltb j (at + 24)) refl (ltb-false j (at + 16) q)

    first : (b : Bool) → ltb j (at + 8) ≡ b → m j ≡ m' j
    first true q = f.0 j l (ltb-true j (at + 8) q)
    first false q = second (ltb j (at + 16)) refl (ltb-false j (at + 8) q)

-- states of the same words have the same modes
module _ (t t' : List ℕ) (n : ℕ) (few : n ≤ 64) (fits : two_bits t n ≡ true) (fits' : two_bits t' n ≡ true) (low : low_of t n ≡ low_of t' n) (high : high_of t n ≡ high_of t' n) where
  pub words_modes : (j : ℕ) → j < n → get_or t j 0 ≡ get_or t' j 0
  words_modes j h = sym (padded_inside t n j h) ∙ by (ltb j 32) refl ∙ padded_inside t' n j h where
    by : (b : Bool) → ltb j 32 ≡ b → padded t n j ≡ padded t' n j
    by true e = packed_alike (padded t n) (padded t' n) (padded_small t n fits) (padded_small t' n fits') 0 low j (omega arith) (ltb-true j 32 e)
    by false e = packed_alike (padded t n) (padded t' n) (padded_small t n fits) (padded_small t' n fits') 32 high j (ltb-false j 32 e) (omega arith)

-- The choice of a pair ----------------------------------------------------------------------------------------------------

pub square_small : (x : ℕ) → x < 4294967296 → x * x < 18446744073709551616
square_small x h = let p = mul-le-mul {n₁ = x} {m₁ = x} {n₂ = 4294967295} {m₂ = 4294967295} (omega arith) (omega arith) in omega arith

-- What is recalled --------------------------------------------------------------------------------------------------------

module _ (m : List Slot) (t : List ℕ) (n key : ℕ) where
  pub recalled_none : pairs m ≡ 0 → Err 0 ≡ recalled m t n key
  unfolding recalled
  recalled_none h = rw (eq-eqb (pairs m) 0 h)

  module _ (some : pairs m ≡ 0 → ⊥) where
    pub recalled_unfit : two_bits t n ≡ false → Err (pairs m) ≡ recalled m t n key
    unfolding recalled
    recalled_unfit h = rw (ne_eqb (pairs m) 0 some, h)

    pub recalled_fit : two_bits t n ≡ true → {low high : ℕ} → low ≡ low_of t n → high ≡ high_of t n → {r : Result Sight ℕ} → r ≡ recalled_in m low high key (pair_of low high key)
        → r ≡ recalled m t n key
    unfolding recalled
    recalled_fit h l g e = e ∙ (λ i. recalled_in m (l i) (g i) key (pair_of (l i) (g i) key)) ∙ rw (ne_eqb (pairs m) 0 some, h)

module _ (m : List Slot) (low high key p : ℕ) where
  pub recalled_away : pairs m ≤ p → Err p ≡ recalled_in m low high key p
  unfolding recalled_in
  recalled_away h = rw (le-ltb p (pairs m) h)

  module _ (h : p < pairs m) where
    pub recalled_first : has (slot_at m (2 * p)) low high key ≡ true → Ok (sight_of (slot_at m (2 * p))) ≡ recalled_in m low high key p
    unfolding recalled_in recalled_at
    recalled_first e = rw (lt-ltb p (pairs m) h, e)

    module _ (not : has (slot_at m (2 * p)) low high key ≡ false) where
      pub recalled_second : has (slot_at m (2 * p + 1)) low high key ≡ true → Ok (sight_of (slot_at m (2 * p + 1))) ≡ recalled_in m low high key p
      unfolding recalled_in recalled_at
      recalled_second e = rw (lt-ltb p (pairs m) h, not, e)

      pub recalled_neither : has (slot_at m (2 * p + 1)) low high key ≡ false → Err p ≡ recalled_in m low high key p
      unfolding recalled_in recalled_at
      recalled_neither e = rw (lt-ltb p (pairs m) h, not, e)

module _ (m : List Slot) (t : List ℕ) (n key : ℕ) (x : Sight) where
  unknown_not : {p : ℕ} → Err p ≡ Ok x → ⊥
  unknown_not k = let z : ◌≡◌ {A = ℕ} 0 1 = cc in absurd (omega arith)

  known_same : {y : Sight} → ◌≡◌ {A = Result Sight ℕ} (Ok y) (Ok x) → y ≡ x
  known_same k = cc

  module _ (fit : two_bits t n ≡ true) where
    -- by whether a slot has the state
    at_held : (s : ℕ) → s < slots m → (r : Result Sight ℕ) → (r ≡ Ok x → Held m n key t x) → recalled_at (slot_at m s) (low_of t n) (high_of t n) key r ≡ Ok x → Held m n key t x
    unfolding recalled_at has is_short sight_of
    at_held s h r f = by (has (slot_at m s) (low_of t n) (high_of t n) key) refl where
      by : (b : Bool) → has (slot_at m s) (low_of t n) (high_of t n) key ≡ b → cond b (Ok (sight_of (slot_at m s))) r ≡ Ok x → Held m n key t x
      by true e k =
          let a : Slot = slot_at m s in
          let o = both_true (is_short a) (eqb a.key key && (eqb a.low (low_of t n) && eqb a.high (high_of t n))) e in
          let b = both_true (ltb a.reached 65536) (ltb a.key 65536) o.0 in
          let p = both_true (eqb a.key key) (eqb a.low (low_of t n) && eqb a.high (high_of t n)) o.1 in
          let w = both_true (eqb a.low (low_of t n)) (eqb a.high (high_of t n)) p.1 in
          record {
            slot = s;
            there = h;
            holds = record {
              fits = fit;
              low = eqb-true _ _ w.0;
              high = eqb-true _ _ w.1;
              keyed = eqb-true _ _ p.0;
              seen = known_same k;
              small = subst (λ (i : ℕ). i < 65536) (eqb-true _ _ p.0) (ltb-true _ _ b.1);
              near = subst (λ (y : Sight). y.reached < 65536) (known_same k) (ltb-true _ _ b.0);
            };
          }
      by false e k = f k

    in_held : (p : ℕ) → recalled_in m (low_of t n) (high_of t n) key p ≡ Ok x → Held m n key t x
    unfolding recalled_in
    in_held p = by (ltb p (pairs m)) refl where
      by : (b : Bool) → ltb p (pairs m) ≡ b
          → cond b (recalled_at (slot_at m (2 * p)) (low_of t n) (high_of t n) key (recalled_at (slot_at m (2 * p + 1)) (low_of t n) (high_of t n) key (Err p))) (Err p) ≡ Ok x
          → Held m n key t x
      by true e k = let l = ltb-true p (pairs m) e in at_held (2 * p) (omega arith) _ (at_held (2 * p + 1) (omega arith) _ (λ z. absurd (unknown_not z))) k
      by false e k = absurd (unknown_not k)

  pub recalled_held : recalled m t n key ≡ Ok x → Held m n key t x
  unfolding recalled
  recalled_held = some (eqb (pairs m) 0) where
    fit : (b : Bool) → two_bits t n ≡ b
        → cond b (recalled_in m (low_of t n) (high_of t n) key (pair_of (low_of t n) (high_of t n) key)) (Err (pairs m)) ≡ Ok x → Held m n key t x
    fit true e k = in_held e (pair_of (low_of t n) (high_of t n) key) k
    fit false e k = absurd (unknown_not k)

    some : (b : Bool) → cond b (Err 0) (cond (two_bits t n) (recalled_in m (low_of t n) (high_of t n) key (pair_of (low_of t n) (high_of t n) key)) (Err (pairs m))) ≡ Ok x
        → Held m n key t x
    some true k = absurd (unknown_not k)
    some false k = fit (two_bits t n) refl k

-- What is remembered ------------------------------------------------------------------------------------------------------

pub lesser_there : (m : List Slot) (p : ℕ) → p < pairs m → lesser m p < slots m
unfolding lesser
lesser_there m p h = by (ltb (mark_of (slot_at m (2 * p + 1))) (mark_of (slot_at m (2 * p)))) where
  by : (b : Bool) → cond b (2 * p + 1) (2 * p) < length m
  by true = omega arith
  by false = omega arith

module _ (m : List Slot) (p : ℕ) (t : List ℕ) (n key : ℕ) (x : Sight) {b : Bool} (f : b ≡ two_bits t n) where
  pub remembered_put : (ltb p (pairs m) && b) ≡ true → x.reached < 65536 → {s : ℕ} {a : Slot} → s ≡ lesser m p → a ≡ slot_of t n key x → set m s a ≡ remembered m p t n key x
  unfolding remembered takes
  remembered_put g r es ea = rw (← f, g, lt-ltb x.reached 65536 r, ← es, ← ea)

  pub remembered_far : (ltb p (pairs m) && b) ≡ true → (x.reached < 65536 → ⊥) → m ≡ remembered m p t n key x
  unfolding remembered takes
  remembered_far g r = rw (← f, g, le-ltb x.reached 65536 (omega (arith, r)))

  pub remembered_not : (ltb p (pairs m) && b) ≡ false → m ≡ remembered m p t n key x
  unfolding remembered takes
  remembered_not g = rw (← f, g)

-- a state put into a slot
module _ (m : List Slot) (slot : ℕ) (t₀ : List ℕ) (n key₀ : ℕ) (x₀ : Sight) (few : n ≤ 64) (h : slot < slots m) (fit : two_bits t₀ n ≡ true) where
  abbrev put : List Slot
  put = set m slot (slot_of t₀ n key₀ x₀)

  module _ (key : ℕ) (t : List ℕ) (x : Sight) where
    -- its own slot holds it, and nothing else
    put_here : Holds (slot_of t₀ n key₀ x₀) n key t x → Same n key t key₀ t₀ × (x ≡ x₀)
    unfolding sight_of
    put_here g = (record { keys = sym g.keyed; modes = words_modes t t₀ n few g.fits fit (sym g.low) (sym g.high) }, sym g.seen)

    -- the other slots are as they were
    put_held : Held put n key t x → Held m n key t x ⊎ (Same n key t key₀ t₀ × (x ≡ x₀))
    put_held g = by (eqb g.slot slot) refl where
      by : (b : Bool) → eqb g.slot slot ≡ b → Held m n key t x ⊎ (Same n key t key₀ t₀ × (x ≡ x₀))
      by true e = inr (put_here (subst (λ (a : Slot). Holds a n key t x)
          (ap (slot_at put) (eqb-true _ _ e) ∙ get_or-set_same m slot (slot_of t₀ n key₀ x₀) _ h) g.holds))
      by false e = inl (record {
        slot = g.slot;
        there = subst (λ k. g.slot < k) (length-set m slot (slot_of t₀ n key₀ x₀)) g.there;
        holds = subst (λ (a : Slot). Holds a n key t x) (get_or-set_other m slot g.slot (slot_of t₀ n key₀ x₀) _ (eqb-false _ _ e)) g.holds;
      })

-- by whether the pair takes it
module _ (m : List Slot) (p : ℕ) (t₀ : List ℕ) (n key₀ : ℕ) (x₀ : Sight) where
  taken : takes m p t₀ n x₀ ≡ true → (lesser m p < slots m) × (two_bits t₀ n ≡ true)
  unfolding takes
  taken e =
      let a = both_true (ltb p (pairs m) && two_bits t₀ n) (ltb x₀.reached 65536) e in
      let b = both_true (ltb p (pairs m)) (two_bits t₀ n) a.0 in
      (lesser_there m p (ltb-true _ _ b.0), b.1)

  -- what the memory holds then, it held before, or is what was put
  pub remembered_held : n ≤ 64 → {m' : List Slot} → m' ≡ remembered m p t₀ n key₀ x₀ → {key : ℕ} {t : List ℕ} {x : Sight}
      → Held m' n key t x → Held m n key t x ⊎ (Same n key t key₀ t₀ × (x ≡ x₀))
  unfolding remembered
  remembered_held few {m'} r {key} {t} {x} h = by (takes m p t₀ n x₀) refl (subst (λ l. Held l n key t x) r h) where
    by : (b : Bool) → takes m p t₀ n x₀ ≡ b → Held (cond b (set m (lesser m p) (slot_of t₀ n key₀ x₀)) m) n key t x
        → Held m n key t x ⊎ (Same n key t key₀ t₀ × (x ≡ x₀))
    by true e g = let h = taken e in put_held m (lesser m p) t₀ n key₀ x₀ few h.0 h.1 key t x g
    by false e g = inl g

-- An empty memory ---------------------------------------------------------------------------------------------------------

pub zeros_held : {m : List Slot} {n key : ℕ} {t : List ℕ} {x : Sight} → ((j : ℕ) → (slot_at m j).key ≡ 0) → Held m n key t x → key ≡ 0
zeros_held z h = let e = h.holds.keyed in let o = z h.slot in omega arith

pub empty_held : {n key : ℕ} {t : List ℕ} {x : Sight} → Held [] n key t x → ⊥
empty_held h = let l = h.there in omega arith

-- One outcome -------------------------------------------------------------------------------------------------------------

pub recall_once : (m : List Slot) (t : List ℕ) (n key : ℕ) {r r' : Result Sight ℕ} → r ≡ recalled m t n key → r' ≡ recalled m t n key → r ≡ r'
recall_once m t n key p q = p ∙ sym q

pub remember_once : (m : List Slot) (p : ℕ) (t : List ℕ) (n key : ℕ) (x : Sight) {m' m'' : List Slot} → m' ≡ remembered m p t n key x → m'' ≡ remembered m p t n key x → m' ≡ m''
remember_once m p t n key x e f = e ∙ sym f
