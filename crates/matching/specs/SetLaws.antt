-- The sets that have an event: their mask is small (`mask_low`). Then what the code learns on its way: a lent set is looked up by its bytes
-- (`set_no_event`, `set_beyond`, `set_there`), and the mask is added up set by set (`mask_more`), of those that are lent
-- (`mask_all`, `mask_lent`).
-- Assumes nothing.
use Rattle.std.specs.Prelude.{ℕ, zero, suc, min, ◌+◌, ◌*◌, ◌-◌, ◌/◌, ◌%◌, ◌^◌, ◌<◌, ◌≤◌, Bool, ◌&&◌, ◌||◌, cond, List, ◌≡◌, length, get_or}
use Rattle.std.proofs.Math.Bool.{true, false, and-false}
use Rattle.std.proofs.lemmas.Bool.{false≢true}
use Rattle.std.proofs.Math.Path.{refl, ap, sym}
use Rattle.std.proofs.Common.{ap₂, ◌∙◌, add-one, arith, pow_mono}
use Rattle.std.proofs.Math.Nat.{zero-div}
use Rattle.std.specs.Int.{div_ceil}
use borrow.Author.Tests.{leb-true, le-leb, ltb-true, ltb-false, le-ltb}
use Rattle.std.proofs.Math.Dec.{eqb, leb, ltb}
use Rattle.std.proofs.Math.ListN.{get_or-eq_default}
use Rattle.calculus.specs.Term.{Joint}
use Rattle.flow.specs.Kinds.{most_sets}
use Rattle.flow.specs.Records.{most_events, is_event_number}
use Rattle.flow.specs.Legends.{set_bytes, bit, in_set}
use Rattle.flow.specs.Cues.{mask_of, masked}
use Rattle.flow.specs.MaskLaws.{mask_small}
use Rattle.flow.specs.Tests.{neither_one, neither_two}

pub mask_low : (sets : ℕ → Joint) (a : ℕ) → masked sets a < 65536
mask_low sets a = mask_small (λ k. sets k a) most_sets

---- One set ----

-- a number that is an event's
pub set_some : (event : ℕ) → (ltb event 1 || ltb most_events event) ≡ false → 1 ≤ event
set_some event t = ltb-false event 1 (neither_one (ltb event 1) (ltb most_events event) t)

module _ (sets : List ℕ) (set event : ℕ) where
  abbrev place : ℕ
  place = set_bytes * set + (event - 1) / 8

  -- a number that is no event's
  pub set_no_event : (ltb event 1 || ltb most_events event) ≡ true → false ≡ in_set sets set event
  unfolding in_set is_event_number
  set_no_event t = by (leb 1 event) (leb event most_events) refl refl
    where
      by : (b c : Bool) → leb 1 event ≡ b → leb event most_events ≡ c → false ≡ ((b && c) && bit (get_or sets place 0) ((event - 1) % 8))
      by true true p q =
          let none : (ltb event 1 || ltb most_events event) ≡ false = rw (le-ltb event 1 (leb-true 1 event p), le-ltb most_events event (leb-true event most_events q)) in
          absurd (false≢true (sym none ∙ t))
      by true false p q = refl
      by false c p q = refl

  -- a byte that is missing counts as 0
  pub set_beyond : length sets ≤ place → false ≡ in_set sets set event
  unfolding in_set
  set_beyond h = sym (ap (λ (n : ℕ). is_event_number event && bit n ((event - 1) % 8)) (get_or-eq_default sets 0 {n = place} h) ∙ ap (λ (n : ℕ). is_event_number event && eqb (n % 2) 1) (zero-div (2 ^ ((event - 1) % 8))) ∙ and-false (is_event_number event))

  pub set_there : (ltb event 1 || ltb most_events event) ≡ false → bit (get_or sets place 0) ((event - 1) % 8) ≡ in_set sets set event
  unfolding in_set is_event_number
  set_there t =
      let high = ltb-false most_events event (neither_two (ltb event 1) (ltb most_events event) t) in
      rw (le-leb 1 event (set_some event t), le-leb event most_events high)

---- Set by set ----

pub mask_none : (f : ℕ → Bool) → mask_of f 0 ≡ 0
unfolding mask_of
mask_none f = refl

-- the bit of a set is not cut
pub bit_whole : (n : ℕ) → n < most_sets → 1 * 2 ^ n % 18446744073709551616 ≡ 2 ^ n
bit_whole n h = let p : 2 ^ n ≤ 65536 = pow_mono {i = n} {j = 16} (omega arith) in omega arith

-- one set more
pub mask_more : (f : ℕ → Bool) (n : ℕ) {bits more : ℕ} → bits ≡ mask_of f n → more ≡ cond (f n) (2 ^ n) 0 → bits + more ≡ mask_of f (n + 1)
unfolding mask_of
mask_more f n e d = ap₂ ◌+◌ e d ∙ ap (mask_of f) (sym (add-one n))

pub mask_within : (f : ℕ → Bool) (n : ℕ) → n ≤ most_sets → mask_of f n < 65536
mask_within f n h = let p : 2 ^ n ≤ 65536 = pow_mono {i = n} {j = 16} h in omega (arith, mask_small f n)

-- while a set is looked at, there may be more
pub some_set : (sets : List ℕ) (n : ℕ) → (ltb n most_sets && ltb (set_bytes * n) (length sets)) ≡ true → n < most_sets
some_set sets n t = by (ltb n most_sets) refl t
  where
    by : (b : Bool) → ltb n most_sets ≡ b → (b && ltb (set_bytes * n) (length sets)) ≡ true → n < most_sets
    by true p q = ltb-true n most_sets p
    by false p q = absurd (false≢true q)

-- sets that have nothing add nothing
mask_rest : (f : ℕ → Bool) (n d : ℕ) → ((k : ℕ) → n ≤ k → f k ≡ false) → mask_of f n ≡ mask_of f (n + d)
unfolding mask_of
mask_rest f n zero none = let e : n ≡ n + 0 = omega arith in ap (mask_of f) e
mask_rest f n (suc d) none =
    let e : suc (n + d) ≡ n + suc d = omega arith in
    let z : mask_of f (n + d) ≡ mask_of f (n + d) + 0 = omega arith in
    mask_rest f n d none ∙ z ∙ ap (λ (b : Bool). mask_of f (n + d) + cond b (2 ^ (n + d)) 0) (sym (none (n + d) (omega arith))) ∙ ap (mask_of f) e

pub mask_all : (sets : List ℕ) (event n : ℕ) → n ≤ most_sets → (ltb n most_sets && ltb (set_bytes * n) (length sets)) ≡ false
    → mask_of (λ k. in_set sets k event) n ≡ masked (in_set sets) event
mask_all sets event n h t = by (ltb n most_sets) refl t
  where
    f : ℕ → Bool
    f k = in_set sets k event

    by : (b : Bool) → ltb n most_sets ≡ b → (b && ltb (set_bytes * n) (length sets)) ≡ false → mask_of f n ≡ mask_of f most_sets
    by true p q =
        let short = ltb-false (set_bytes * n) (length sets) q in
        let e : n + (most_sets - n) ≡ most_sets = omega arith in
        mask_rest f n (most_sets - n) (λ k l. sym (set_beyond sets k event (omega arith))) ∙ ap (mask_of f) e
    by false p q = let e : n ≡ most_sets = omega (arith, ltb-false n most_sets p) in ap (mask_of f) e

-- so of no more sets than are lent
pub mask_lent : (sets : List ℕ) (event n : ℕ) → n ≡ min (div_ceil (length sets) set_bytes) most_sets → mask_of (λ k. in_set sets k event) n ≡ masked (in_set sets) event
mask_lent sets event n e = mask_all sets event n (omega arith) (by (ltb n most_sets) refl)
  where
    by : (b : Bool) → ltb n most_sets ≡ b → (b && ltb (set_bytes * n) (length sets)) ≡ false
    by true p = le-ltb (set_bytes * n) (length sets) (omega (arith, ltb-true n most_sets p))
    by false p = refl
