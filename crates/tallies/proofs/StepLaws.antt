-- Where the steps of a part stand among the steps of the whole, for each way of putting parts together; and that an index
-- that is left over for a part lies among that part's steps. An index is compared with counts that stop at the greatest
-- number. a is the event of the next record, j a set of joint events. Theorems only. Assumes nothing.
use Rattle.std.specs.Prelude.{ℕ, ◌*◌, ◌-◌, ◌/◌, ◌%◌, ◌≤◌, ◌<◌, ◌≡◌, Bool, false, List, [], ◌∷◌, ◌++◌, map}
use native.Mathlib.Omega.{arith}
use Rattle.std.proofs.Math.Path.{refl, ap}
use Rattle.std.proofs.Common.{◌∙◌, length-append}
use Rattle.std.proofs.Math.Bool.{true}
use Rattle.std.proofs.Math.ListN.{length, length-map}
use Rattle.calculus.specs.Term.{Closing, done, failed, Leaf, Joint, Std, Cmp, skip, throw, yield, ev, seq, alt, par, hnd, blk, pair, cseq, calt, cpar, held}
use Rattle.calculus.specs.Successors.{only, each, beside, ends, steps, comps, csteps}
use Rattle.calculus.proofs.Equations.{steps_skip, steps_throw, steps_yield, steps_ev, steps_seq, steps_hnd, steps_alt, steps_par, steps_blk, csteps_pair, csteps_cseq, csteps_calt, csteps_cpar, csteps_held}
use Rattle.tallies.specs.Capped.{cap}
use Rattle.tallies.specs.CappedLaws.{factor_some, factor_first, factor_second, cap_divided}
use Rattle.tallies.specs.Formulas.{sides, moves_g, hold_g}
use Rattle.tallies.specs.Counts.{sum_of, moves, weight}
use Rattle.tallies.specs.SumsLaws.{length_each}
use Rattle.tallies.proofs.CountsLaws.{sides_beside}
use Rattle.tallies.specs.Places.{At, Finds}
use Rattle.tallies.specs.PlacesLaws.{at_is, at_left, at_after, at_map, at_grid, at_only, at_each, finds_rest, finds_rest_le, finds_cap, sum_cap, only_holds, only_room}

-- Two lists, one after the other ----------------------------------------------------------------------------------------

-- w is l, of n elements, and then m
record Split {A : Type 0} (w l m : List A) (n : ℕ) : Type 0 where
  whole : w ≡ l ++ m
  many : length l ≡ n

module _ {A : Type 0} {w l m : List A} {n : ℕ} (s : Split w l m n) where
  at_first : {k : ℕ} {x : A} → At l k x → At w k x
  at_first p = rw s.whole (at_left m p)

  module _ {c k : ℕ} (e : c ≡ cap n) (h : k < cap (length w)) (g : c ≤ k) where
    -- what is left of an index that lies beyond the first list lies in the second
    room : k - c < cap (length m)
    room = let z = ap length s.whole ∙ length-append l m in omega arith

    at_second : {x : A} → At m (k - c) x → At w k x
    at_second p =
        let z : length l ≡ c = omega (arith, s.many) in
        rw s.whole (at_after l (omega arith) (at_is (omega arith) p))

-- the second list is made of lists, one for each of xs, and f weighs each by its length, up to the greatest number
module _ {A B : Type 0} (f : A → ℕ) (lists : A → List B) (e : (x : A) → cap (f x) ≡ cap (length (lists x))) (xs : List A) {w l : List B} {n : ℕ} (s : Split w l (each xs lists) n) {c k : ℕ} (d : c ≡ cap n) (h : k < cap (length w)) (g : c ≤ k) where
  each_room : k - c < cap (sum_of f xs)
  each_room =
      let z = length_each lists xs in
      let y = sum_cap f (λ x. length (lists x)) e xs in
      let x = room s d h g in omega arith

  each_rest : {x : A} {r : ℕ} → Finds f xs (k - c) x r → r < cap (length (lists x))
  each_rest {x} p = let z = e x in let y = finds_rest p in let u = finds_rest_le p in omega arith

  at_each_second : {x : A} {r : ℕ} {y : B} → Finds f xs (k - c) x r → At (lists x) r y → At w k y
  at_each_second p u = at_second s d h g (at_each lists (finds_cap f (λ x. length (lists x)) e (omega arith) p) u)

-- Two sides --------------------------------------------------------------------------------------------------------------

-- w are the steps of two sides p and q put together by f, where ps and qs are their own, and b says that the event is joint
pub record Together {A : Type 0} (b : Bool) (f : A → A → A) (p q : A) (w ps qs : List A) : Type 0 where
  pub whole : w ≡ beside b f p q ps qs

pub par_together : (a : ℕ) (j : Joint) (p q : Std) {b : Bool} → j a ≡ b → Together b (par j) p q (steps (par j p q) a) (steps p a) (steps q a)
par_together a j p q o = record { whole = steps_par j p q a ∙ ap (λ b. beside b (par j) p q (steps p a) (steps q a)) o }

pub cpar_together : (a : ℕ) (j : Joint) (pp qq : Cmp) {b : Bool} → j a ≡ b → Together b (cpar j) pp qq (csteps (cpar j pp qq) a) (csteps pp a) (csteps qq a)
cpar_together a j pp qq o = record { whole = csteps_cpar j pp qq a ∙ ap (λ b. beside b (cpar j) pp qq (csteps pp a) (csteps qq a)) o }

-- by an event that is not joint, the first's steps and then the second's
module _ {A : Type 0} {f : A → A → A} {p q : A} {w ps qs : List A} (s : Together false f p q w ps qs) where
  apart_split : Split w (map (λ r. f r q) ps) (map (f p) qs) (length ps)
  unfolding beside
  apart_split = record { whole = s.whole; many = length-map ps (λ r. f r q) }

  pub apart_at_first : {k : ℕ} {x : A} → At ps k x → At w k (f x q)
  apart_at_first u = at_first apart_split (at_map (λ r. f r q) u)

  module _ {c k : ℕ} (e : c ≡ cap (length ps)) (h : k < cap (length w)) (g : c ≤ k) where
    pub apart_room : k - c < cap (length qs)
    apart_room = rw (length-map qs (f p)) at (room apart_split e h g)

    pub apart_at_second : {x : A} → At qs (k - c) x → At w k (f p x)
    apart_at_second u = at_second apart_split e h g (at_map (f p) u)

-- by a joint event, a step of both: by the first's order and then by the second's, which has n
module _ {A : Type 0} {f : A → A → A} {p q : A} {w ps qs : List A} (s : Together true f p q w ps qs) {n k : ℕ} (e : n ≡ cap (length qs)) (h : k < cap (length w)) where
  joint_below : k < cap (length ps) * n
  unfolding sides
  joint_below = let z = ap (λ l. cap (length l)) s.whole ∙ sides_beside true f p q ps qs in rw e (omega arith)

  pub joint_some : 0 < n
  joint_some = factor_some (cap (length ps)) n joint_below

  pub joint_first_room : k / n < cap (length ps)
  joint_first_room = factor_first (cap (length ps)) n joint_below

  pub joint_second_room : k % n < cap (length qs)
  joint_second_room = let z = factor_second (cap (length ps)) n joint_below in omega arith

  pub joint_goes : {x y : A} → At ps (k / n) x → At qs (k % n) y → At w k (f x y)
  unfolding beside
  joint_goes u v = rw s.whole (at_is (cap_divided k n (length qs) e (omega arith)) (at_grid f u v))

-- Standard parts --------------------------------------------------------------------------------------------------------

-- an event leaf that takes the record
pub at_ev : (l : Leaf) (a : ℕ) {k : ℕ} → k < cap (moves a (ev l)) → At (steps (ev l) a) k skip
unfolding moves only
at_ev l a {k} h =
    let go : (b : Bool) → k < cap (length (only b (skip ∷ []))) → At (only b (skip ∷ [])) k skip = elim [ true ↦ λ z. at_is (omega arith) At.here | false ↦ λ z. let f : ⊥ = omega arith in absurd f ] in
    rw steps_ev (go (l.takes a) (rw steps_ev at h))

-- the leaves without steps
no_step : (p : Std) (a : ℕ) → steps p a ≡ [] → {k : ℕ} → k < cap (moves a p) → ⊥
unfolding moves
no_step p a e h = let z = ap length e in omega arith

module _ (a : ℕ) {k : ℕ} where
  pub no_skip_step : k < cap (moves a skip) → ⊥
  no_skip_step = no_step skip a (steps_skip a)

  pub no_throw_step : k < cap (moves a throw) → ⊥
  no_throw_step = no_step throw a (steps_throw a)

  pub no_yield_step : k < cap (moves a yield) → ⊥
  no_yield_step = no_step yield a (steps_yield a)

-- P;Q and P▷Q: the steps of P and, where P can end by w, those of Q
module _ (on : Std → Std → Std) (w : Closing) (a : ℕ) (p q : Std) (parts : steps (on p q) a ≡ map (λ r. on r q) (steps p a) ++ only (ends p w) (steps q a)) where
  on_split : Split (steps (on p q) a) (map (λ r. on r q) (steps p a)) (only (ends p w) (steps q a)) (moves a p)
  unfolding moves
  on_split = record { whole = parts; many = length-map (steps p a) (λ r. on r q) }

  at_on_first : {k : ℕ} {p' : Std} → At (steps p a) k p' → At (steps (on p q) a) k (on p' q)
  at_on_first u = at_first on_split (at_map (λ r. on r q) u)

  -- an index beyond the steps of P: P can end by w, and the rest lies among the steps of Q
  module _ {c k : ℕ} (e : c ≡ cap (moves a p)) (h : k < cap (moves a (on p q))) (g : c ≤ k) where
    on_rest : k - c < cap (length (only (ends p w) (steps q a)))
    unfolding moves
    on_rest = room on_split e h g

    on_room : k - c < cap (moves a q)
    unfolding moves
    on_room = only_room length refl (ends p w) (steps q a) on_rest

    at_on_second : {q' : Std} → At (steps q a) (k - c) q' → At (steps (on p q) a) k q'
    unfolding moves
    at_on_second u = at_second on_split e h g (at_only (ends p w) (only_holds length refl (ends p w) (steps q a) on_rest) u)

module _ (a : ℕ) (p q : Std) where
  alt_split : Split (steps (alt p q) a) (steps p a) (steps q a) (moves a p)
  unfolding moves
  alt_split = record { whole = steps_alt p q a; many = refl }

  pub at_seq_first : {k : ℕ} {p' : Std} → At (steps p a) k p' → At (steps (seq p q) a) k (seq p' q)
  at_seq_first = at_on_first seq done a p q (steps_seq p q a)

  pub at_hnd_first : {k : ℕ} {p' : Std} → At (steps p a) k p' → At (steps (hnd p q) a) k (hnd p' q)
  at_hnd_first = at_on_first hnd failed a p q (steps_hnd p q a)

  pub at_alt_first : {k : ℕ} {p' : Std} → At (steps p a) k p' → At (steps (alt p q) a) k p'
  at_alt_first u = at_first alt_split u

  module _ {c k : ℕ} (e : c ≡ cap (moves a p)) (h : k < cap (moves a (seq p q))) (g : c ≤ k) where
    pub seq_room : k - c < cap (moves a q)
    seq_room = on_room seq done a p q (steps_seq p q a) e h g

    pub at_seq_second : {q' : Std} → At (steps q a) (k - c) q' → At (steps (seq p q) a) k q'
    at_seq_second = at_on_second seq done a p q (steps_seq p q a) e h g

  module _ {c k : ℕ} (e : c ≡ cap (moves a p)) (h : k < cap (moves a (hnd p q))) (g : c ≤ k) where
    pub hnd_room : k - c < cap (moves a q)
    hnd_room = on_room hnd failed a p q (steps_hnd p q a) e h g

    pub at_hnd_second : {q' : Std} → At (steps q a) (k - c) q' → At (steps (hnd p q) a) k q'
    at_hnd_second = at_on_second hnd failed a p q (steps_hnd p q a) e h g

  module _ {c k : ℕ} (e : c ≡ cap (moves a p)) (h : k < cap (moves a (alt p q))) (g : c ≤ k) where
    pub alt_room : k - c < cap (moves a q)
    unfolding moves
    alt_room = room alt_split e h g

    pub at_alt_second : {q' : Std} → At (steps q a) (k - c) q' → At (steps (alt p q) a) k q'
    unfolding moves
    at_alt_second u = at_second alt_split e h g u

-- Blocks ----------------------------------------------------------------------------------------------------------------

moves_weight : (a : ℕ) (k : Std) → cap (weight a moves_g k) ≡ cap (length (steps k a))
unfolding weight moves
moves_weight a k = omega arith

module _ (a : ℕ) (pp : Cmp) where
  blk_split : Split (steps (blk pp) a) (map blk (csteps pp a)) (each (comps pp failed) (λ k. steps k a)) (length (csteps pp a))
  blk_split = record { whole = steps_blk pp a; many = length-map (csteps pp a) blk }

  pub at_blk_first : {k : ℕ} {pp' : Cmp} → At (csteps pp a) k pp' → At (steps (blk pp) a) k (blk pp')
  at_blk_first u = at_first blk_split (at_map blk u)

  -- out of the block by a compensation
  module _ {c k : ℕ} (e : c ≡ cap (length (csteps pp a))) (h : k < cap (moves a (blk pp))) (g : c ≤ k) where
    pub blk_room : k - c < cap (sum_of (weight a moves_g) (comps pp failed))
    unfolding moves
    blk_room = each_room (weight a moves_g) (λ r. steps r a) (moves_weight a) (comps pp failed) blk_split e h g

    -- what is left within the compensation lies among its steps
    pub blk_rest : {r : Std} {s : ℕ} → Finds (weight a moves_g) (comps pp failed) (k - c) r s → s < cap (moves a r)
    unfolding moves
    blk_rest = each_rest (weight a moves_g) (λ r. steps r a) (moves_weight a) (comps pp failed) blk_split e h g

    pub at_blk_second : {r : Std} {s : ℕ} {r' : Std} → Finds (weight a moves_g) (comps pp failed) (k - c) r s → At (steps r a) s r' → At (steps (blk pp) a) k r'
    unfolding moves
    at_blk_second = at_each_second (weight a moves_g) (λ r. steps r a) (moves_weight a) (comps pp failed) blk_split e h g

-- Compensable parts -----------------------------------------------------------------------------------------------------

module _ (a : ℕ) where
  pub at_pair : (p q : Std) {k : ℕ} {p' : Std} → At (steps p a) k p' → At (csteps (pair p q) a) k (pair p' q)
  at_pair p q u = rw csteps_pair (at_map (λ r. pair r q) u)

  pub pair_room : (p q : Std) {k : ℕ} → k < cap (length (csteps (pair p q) a)) → k < cap (moves a p)
  unfolding moves
  pair_room p q h = let z = ap length (csteps_pair p q a) ∙ length-map (steps p a) (λ r. pair r q) in omega arith

  pub at_held : (qq : Cmp) (r : Std) {k : ℕ} {qq' : Cmp} → At (csteps qq a) k qq' → At (csteps (held qq r) a) k (held qq' r)
  at_held qq r u = rw csteps_held (at_map (λ y. held y r) u)

  pub held_room : (qq : Cmp) (r : Std) {k : ℕ} → k < cap (length (csteps (held qq r) a)) → k < cap (length (csteps qq a))
  held_room qq r h = let z = ap length (csteps_held qq r a) ∙ length-map (csteps qq a) (λ y. held y r) in omega arith

module _ (a : ℕ) (pp qq : Cmp) where
  cseq_split : Split (csteps (cseq pp qq) a) (map (λ r. cseq r qq) (csteps pp a)) (each (comps pp done) (λ k. map (λ r. held r k) (csteps qq a))) (length (csteps pp a))
  cseq_split = record { whole = csteps_cseq pp qq a; many = length-map (csteps pp a) (λ r. cseq r qq) }

  calt_split : Split (csteps (calt pp qq) a) (csteps pp a) (csteps qq a) (length (csteps pp a))
  calt_split = record { whole = csteps_calt pp qq a; many = refl }

  pub at_cseq_first : {k : ℕ} {pp' : Cmp} → At (csteps pp a) k pp' → At (csteps (cseq pp qq) a) k (cseq pp' qq)
  at_cseq_first u = at_first cseq_split (at_map (λ r. cseq r qq) u)

  pub at_calt_first : {k : ℕ} {pp' : Cmp} → At (csteps pp a) k pp' → At (csteps (calt pp qq) a) k pp'
  at_calt_first u = at_first calt_split u

  -- PP;QQ goes on: PP has become a compensation r, which is held while QQ takes a step
  module _ {c k n : ℕ} (e : c ≡ cap (length (csteps pp a))) (h : k < cap (length (csteps (cseq pp qq) a))) (g : c ≤ k) (d : n ≡ cap (length (csteps qq a))) where
    held_weight : (r : Std) → cap (weight a (hold_g n) r) ≡ cap (length (map (λ y. held y r) (csteps qq a)))
    unfolding weight
    held_weight r = let z = length-map (csteps qq a) (λ y. held y r) in omega arith

    pub cseq_room : k - c < cap (sum_of (weight a (hold_g n)) (comps pp done))
    cseq_room = each_room (weight a (hold_g n)) (λ r. map (λ y. held y r) (csteps qq a)) held_weight (comps pp done) cseq_split e h g

    -- what is left within r lies among QQ's steps
    pub cseq_rest : {r : Std} {s : ℕ} → Finds (weight a (hold_g n)) (comps pp done) (k - c) r s → s < cap (length (csteps qq a))
    cseq_rest {r} f = rw (length-map (csteps qq a) (λ y. held y r)) at (each_rest (weight a (hold_g n)) (λ r. map (λ y. held y r) (csteps qq a)) held_weight (comps pp done) cseq_split e h g f)

    pub at_cseq_second : {r : Std} {s : ℕ} {qq' : Cmp} → Finds (weight a (hold_g n)) (comps pp done) (k - c) r s → At (csteps qq a) s qq' → At (csteps (cseq pp qq) a) k (held qq' r)
    at_cseq_second {r} f u = at_each_second (weight a (hold_g n)) (λ r. map (λ y. held y r) (csteps qq a)) held_weight (comps pp done) cseq_split e h g f (at_map (λ y. held y r) u)

  module _ {c k : ℕ} (e : c ≡ cap (length (csteps pp a))) (h : k < cap (length (csteps (calt pp qq) a))) (g : c ≤ k) where
    pub calt_room : k - c < cap (length (csteps qq a))
    calt_room = room calt_split e h g

    pub at_calt_second : {qq' : Cmp} → At (csteps qq a) (k - c) qq' → At (csteps (calt pp qq) a) k qq'
    at_calt_second u = at_second calt_split e h g u
