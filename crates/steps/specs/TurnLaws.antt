-- How the step of a node is handed down, by what is left of the node: to the first or the second of two live parts, to the one part
-- that is left, into a block or out of it. What has no live part makes its step itself, or has none. Assumes nothing.
use Rattle.std.specs.Prelude.{ℕ, ◌<◌, ◌≤◌, ◌-◌, ◌≡◌, false, ◌&&◌, T, length, set}
use Rattle.std.proofs.Math.Path.{refl, subst}
use Rattle.std.proofs.Common.{sym, ◌∙◌, ap, subst₂, true≢false, arith}
use Rattle.std.proofs.Math.Bool.{true, cond}
use mathlib.Core.List.{List}
use Rattle.calculus.specs.Term.{Joint, Std, Cmp, done, failed, skip, throw, yield, seq, par, hnd, blk, pair, cseq, cpar, held}
use Rattle.calculus.specs.Successors.{steps, csteps, comps}
use Rattle.calculus.proofs.Members.{and_left, and_right}
use Rattle.flow.specs.declared.Simple.{Simple}
use Rattle.flow.specs.declared.Simple.TheVariants.{Skip, Throw, Yield}
use Rattle.flow.specs.declared.Operator.{Operator}
use Rattle.flow.specs.declared.Operator.TheVariants.{Sequence, Choice, Parallel}
use Rattle.flow.specs.declared.Two.{Two}
use Rattle.flow.specs.declared.Node.{Node}
use Rattle.flow.specs.Kinds.{node, shape, set_of, basic, paired, standard, compensable}
use Rattle.flow.specs.Shapes.{Kid}
use Rattle.flow.specs.Trees.{Tree}
use Rattle.flow.specs.Cues.{cued_leaf, cued, joint_by}
use Rattle.tallies.specs.Capped.{cap}
use Rattle.tallies.specs.Formulas.{moves_g, hold_g}
use Rattle.tallies.specs.Counts.{sum_of, moves, weight}
use Rattle.tallies.specs.Places.{At, Finds}
use Rattle.tallies.proofs.StepLaws.{at_ev, no_skip_step, no_throw_step, no_yield_step, at_seq_first, at_hnd_first, at_alt_first, seq_room, at_seq_second, hnd_room, at_hnd_second, alt_room, at_alt_second, par_together, cpar_together, apart_at_first, apart_room, apart_at_second, at_blk_first, blk_room, blk_rest, at_blk_second, at_pair, pair_room, at_held, held_room, at_cseq_first, at_calt_first, cseq_room, cseq_rest, at_cseq_second, calt_room, at_calt_second}
use Rattle.tallies.specs.declared.Weight.{Weight}
use Rattle.states.specs.declared.Sense.{Sense}
use Rattle.states.specs.declared.Sense.TheVariants.{Drawn, Undoing}
use Rattle.states.specs.declared.Standing.{Standing}
use Rattle.states.specs.declared.Standing.TheVariants as standing
use Rattle.states.specs.declared.Course.{Course}
use Rattle.states.specs.declared.Course.TheVariants as course
use Rattle.states.specs.declared.Role.{Role}
use Rattle.states.specs.declared.Role.TheVariants.{Plain, Running}
use Rattle.states.specs.declared.Sub.{Sub}
use Rattle.states.specs.declared.Picked.{Picked}
use Rattle.states.specs.Standings.{event_taken, moved_on, compensating, holding, only, stand, course_of}
use Rattle.states.specs.State.{Part, std_of, run_of, part, modes, counts}
use Rattle.states.specs.Rows.{Notes, Entry, entries}
use Rattle.states.specs.Stored.{over, std_right, run_right}
use Rattle.states.specs.NotedLaws.{own_count, noted_stored}
use Rattle.states.specs.LiveParts.{Twins, Rests, CRests}
use Rattle.states.specs.Rests.{stand_rests, course_rests}
use Rattle.states.specs.Roles.{get, nexts, many, ok}
use Rattle.states.specs.Clauses.{Spot, Kept, Sets, Redrawn, Scene, scene, part_at, stored_at, noted_at, weight_of, ask, Chosen, Weighed, Undone, Ready, Stepped}
use Rattle.states.specs.ChildLaws.{set_sets, sets_none, not_own, lower_spot, same_room, kept_set, kid_lower, kept_kid, same_part, spot_down, mode_after, kept_up}
use Rattle.seek.specs.WeighedLaws.{weighed_still}
use Rattle.steps.specs.declared.Turn.{Turn}
use Rattle.states.specs.Hands.{Move, move, Stance, stance_of, stand_in, course_in, gone, first_mode, second_mode, Passed, to_first, to_second, Marked, GoesOn, HandsBy, takes}
use Rattle.steps.specs.Turns.{Turned, halves, Forked, in_first, in_second, stance_term}
use Rattle.steps.specs.AfterLaws.{After, CAfter, stand_after, course_after}
use Rattle.steps.specs.NodeLaws.{tree_of, step_room, parts_right, step_goes, handed, handed_by, handed_past}

-- Node numbers are small ------------------------------------------------------------------------------------------------------

module _ {s : Scene} {r : Role} {c : Notes} {i k : ℕ} (h : Ready s r c i k) where
  number_small : {j : ℕ} → Kid (shape s.ns) i j → j < 64
  number_small kid = let n = h.spot.node in omega (arith, n.inside, n.sound.few, kid_lower s.ns n.sound.tree kid)

  twins_small : {p : Two} → Twins s.ns i p → (p.first < 64) × (p.second < 64)
  twins_small tw = (number_small tw.one, number_small tw.other)

-- the node's mode is set, and what is kept of a child is as right as it was
marked_weighed : {ns t t₁ : List ℕ} {a i x m : ℕ} {c : Notes} → Tree (shape ns) → Kid (shape ns) i x → Sets t i m t₁ → Weighed (scene ns t a) c x → Weighed (scene ns t₁ a) c x
marked_weighed {ns} {t} {t₁} {a} {i} {x} {c = c} tree kid w = weighed_still ns tree a x t t₁ c c (λ j u. sym (w.others j (not_own ns tree kid u))) (λ j u. refl) refl

-- Two live parts -------------------------------------------------------------------------------------------------------------

module _ {s : Scene} {r : Role} {c : Notes} {i k : ℕ} (h : Ready s r c i k) {x : Stance r} (e : stance_of r (node s.ns i) (modes s.t i) ≡ x)
    {p : Two} (tw : Twins s.ns i p) (right : T (ok r (noted_at s c p.first) && ok r (noted_at s c p.second))) where
  first_noted : T (ok r (noted_at s c p.first))
  first_noted = and_left (ok r (noted_at s c p.first)) (ok r (noted_at s c p.second)) right

  second_noted : T (ok r (noted_at s c p.second))
  second_noted = and_right (ok r (noted_at s c p.first)) (ok r (noted_at s c p.second)) right

  pub first_count : counts c.steps p.first ≡ many r s.a (part_at s p.first)
  first_count = own_count s.ns s.a (modes s.t) (entries c) p.first r first_noted

  -- a place is before the first's steps, or after them
  truly_below : k < counts c.steps p.first → k < many r s.a (part_at s p.first)
  truly_below l = subst (λ z. k < z) first_count l

  truly_past : counts c.steps p.first ≤ k → many r s.a (part_at s p.first) ≤ k
  truly_past g = subst (λ z. z ≤ k) first_count g

  true_place : {q : Role} → move q p.second (k - counts c.steps p.first) ≡ move q p.second (k - many r s.a (part_at s p.first))
  true_place {q} = ap (λ z. move q p.second (k - z)) first_count

  first_right : T (ok r (stored_at s c p.first))
  first_right = noted_stored s.ns s.a (modes s.t) (entries c) p.first r first_noted

  second_right : T (ok r (stored_at s c p.second))
  second_right = noted_stored s.ns s.a (modes s.t) (entries c) p.second r second_noted

  module _ {m : ℕ} {t' : List ℕ} (w : Sets s.t i m t') {x' : Stance r} (e' : stance_of r (node s.ns i) m ≡ x') where
    at_first : k < counts c.steps p.first
        → ((at : ℕ → Part) → at p.second ≡ part_at s p.second → At (nexts r (get r (part_at s p.first)) s.a) k (get r (at p.first))
        → At (nexts r (stance_term r x (part_at s)) s.a) k (stance_term r x' at))
        → HandsBy s i k r x t' (move r p.first k) → Turned s c (move r i k) t' (move r p.first k)
    at_first l goes way = handed_by h e r tw.one w e' first_right (subst (λ z. k < z) first_count l) (λ at same u. goes at (same p.second tw.other tw.free) u) way

    at_second : k - counts c.steps p.first < many r s.a (part_at s p.second)
        → ((at : ℕ → Part) → at p.first ≡ part_at s p.first → At (nexts r (get r (part_at s p.second)) s.a) (k - counts c.steps p.first) (get r (at p.second))
        → At (nexts r (stance_term r x (part_at s)) s.a) k (stance_term r x' at))
        → HandsBy s i k r x t' (move r p.second (k - counts c.steps p.first)) → Turned s c (move r i k) t' (move r p.second (k - counts c.steps p.first))
    at_second room goes way = handed_by h e r tw.other w e' second_right room (λ at same u. goes at (same p.first tw.one (λ j y z. tw.free j z y)) u) way

    -- something under the first changes, which is left out
    past_first : {t₂ : List ℕ} → Kept s.ns p.first (modes t') (modes t₂) → length t₂ ≡ length t' → k - counts c.steps p.first < many r s.a (part_at s p.second)
        → ((at : ℕ → Part) → At (nexts r (get r (part_at s p.second)) s.a) (k - counts c.steps p.first) (get r (at p.second))
        → At (nexts r (stance_term r x (part_at s)) s.a) k (stance_term r x' at))
        → HandsBy s i k r x t₂ (move r p.second (k - counts c.steps p.first)) → Turned s c (move r i k) t₂ (move r p.second (k - counts c.steps p.first))
    past_first keep long room goes way = handed_past h e r tw.other tw.one tw.free (λ j n. refl) refl w keep long e' second_right room (λ at d u. goes at u) way

-- what is left of two parts after a step of the first, and after one of the second
abbrev first_standing : Operator → Two → Sense → Standing
first_standing Sequence p v = standing.Both Sequence p
first_standing Choice p v = only p.first v
first_standing (Parallel n) p v = standing.Both (Parallel n) p

abbrev second_standing : Operator → Two → Sense → Standing
second_standing Sequence p v = only p.second v
second_standing Choice p v = only p.second v
second_standing (Parallel n) p v = standing.Both (Parallel n) p

module _ (v : Sense) (n : Node) (m : ℕ) {p : Two} where
  first_stands : (o : Operator) → stand v n m ≡ standing.Both o p → stand v n (first_mode o m) ≡ first_standing o p v
  unfolding first_mode
  first_stands Sequence e = e
  first_stands Choice e = (subst (After v n) e (stand_after v n m)).0
  first_stands (Parallel n) e = e

  second_stands : (o : Operator) → stand v n m ≡ standing.Both o p → stand v n (second_mode o (gone v) m) ≡ second_standing o p v
  unfolding second_mode
  second_stands Sequence e = subst (After v n) e (stand_after v n m)
  second_stands Choice e = (subst (After v n) e (stand_after v n m)).1
  second_stands (Parallel n) e = e

-- the parts before are those of b, and those after of at
module _ (a : ℕ) (v : Sense) (p : Two) (b at : ℕ → Part) (k : ℕ) where
  abbrev std_one : Std
  std_one = (b p.first).std v

  abbrev std_other : Std
  std_other = (b p.second).std v

  both_first : (o : Operator) → joint_by a o ≡ false → at p.second ≡ b p.second → At (steps std_one a) k ((at p.first).std v) → At (steps (standard cued.sets o std_one std_other) a) k (std_of (first_standing o p v) v at)
  unfolding std_of
  both_first Sequence f e u = subst (λ z. At (steps (seq std_one std_other) a) k (seq ((at p.first).std v) (z.std v))) (sym e) (at_seq_first a std_one std_other u)
  both_first Choice f e u = at_alt_first a std_one std_other u
  both_first (Parallel n) f e u =
      let j : Joint = set_of cued.sets n in
      subst (λ z. At (steps (par j std_one std_other) a) k (par j ((at p.first).std v) (z.std v))) (sym e) (apart_at_first (par_together a j std_one std_other f) u)

  hnd_first : at p.second ≡ b p.second → At (steps std_one a) k ((at p.first).std v) → At (steps (hnd std_one std_other) a) k (std_of (standing.Handler p) v at)
  unfolding std_of
  hnd_first e u = subst (λ z. At (steps (hnd std_one std_other) a) k (hnd ((at p.first).std v) (z.std v))) (sym e) (at_hnd_first a std_one std_other u)

  module _ {n : ℕ} (d : n ≡ cap (length (steps std_one a))) (g : n ≤ k) where
    both_room : (o : Operator) → joint_by a o ≡ false → k < cap (length (steps (standard cued.sets o std_one std_other) a)) → k - n < cap (length (steps std_other a))
    unfolding moves
    both_room Sequence f h = seq_room a std_one std_other d h g
    both_room Choice f h = alt_room a std_one std_other d h g
    both_room (Parallel m) f h = apart_room (par_together a (set_of cued.sets m) std_one std_other f) d h g

    both_second : (o : Operator) → joint_by a o ≡ false → k < cap (length (steps (standard cued.sets o std_one std_other) a)) → at p.first ≡ b p.first
        → At (steps std_other a) (k - n) ((at p.second).std v) → At (steps (standard cued.sets o std_one std_other) a) k (std_of (second_standing o p v) v at)
    unfolding std_of moves
    both_second Sequence f h e u = at_seq_second a std_one std_other d h g u
    both_second Choice f h e u = at_alt_second a std_one std_other d h g u
    both_second (Parallel m) f h e u =
        let j : Joint = set_of cued.sets m in
        subst (λ z. At (steps (par j std_one std_other) a) k (par j (z.std v) ((at p.second).std v))) (sym e) (apart_at_second (par_together a j std_one std_other f) d h g u)

module _ {s : Scene} {v : Sense} {c : Notes} {i k : ℕ} (h : Ready s (Plain v) c i k) {p : Two} where
  both_twins : {o : Operator} → stand_in s v i ≡ standing.Both o p → Twins s.ns i p
  both_twins e = subst (Rests s.ns i) e (stand_rests s.ns i (tree_of h e) v (modes s.t i))

  handler_twins : stand_in s v i ≡ standing.Handler p → Twins s.ns i p
  handler_twins e = subst (Rests s.ns i) e (stand_rests s.ns i (tree_of h e) v (modes s.t i))

  pub both_first_spot : {t₁ : List ℕ} {o : Operator} → stand_in s v i ≡ standing.Both o p → length t₁ ≡ length s.t → Spot s.ns t₁ p.first
  both_first_spot e long = lower_spot (same_room h.spot long) (kid_lower s.ns (tree_of h e) (both_twins e).one)

  pub handler_first_spot : {t₁ : List ℕ} → stand_in s v i ≡ standing.Handler p → length t₁ ≡ length s.t → Spot s.ns t₁ p.first
  handler_first_spot e long = lower_spot (same_room h.spot long) (kid_lower s.ns (tree_of h e) (handler_twins e).one)

  pub both_small : {o : Operator} → stand_in s v i ≡ standing.Both o p → p.first < 64
  both_small e = number_small h (both_twins e).one

  pub handler_small : stand_in s v i ≡ standing.Handler p → p.first < 64
  handler_small e = number_small h (handler_twins e).one

  -- the first makes the step
  pub both_first_turned : {t' : List ℕ} {y : Turn} {o : Operator} → joint_by s.a o ≡ false → stand_in s v i ≡ standing.Both o p → Forked c.steps s.t k (halves i o p (gone v)) t' y → y.second ≡ false
      → Turned s c (move (Plain v) i k) t' (move (Plain v) y.node y.at)
  unfolding std_of std_right
  both_first_turned {o = o} f e (in_first l w) b =
      let tw = both_twins e in
      at_first h e tw (parts_right h e) w (first_stands v (node s.ns i) (modes s.t i) o e) l (λ at d u. both_first s.a v p (part_at s) at k o f d u)
      (f, to_first (truly_below h e tw (parts_right h e) l) (record { sets = w; is = refl }))
  both_first_turned f e (in_second g w) b = absurd (true≢false b)

  module _ {o : Operator} (f : joint_by s.a o ≡ false) (e : stand_in s v i ≡ standing.Both o p) (g : counts c.steps p.first ≤ k) {t' : List ℕ} (w : Sets s.t i (second_mode o (gone v) (modes s.t i)) t') where
    beside_turned : Passed s.ns o p.first t' t' → Turned s c (move (Plain v) i k) t' (move (Plain v) p.second (k - counts c.steps p.first))
    unfolding std_of std_right
    beside_turned z =
        let tw = both_twins e in
        let n = first_count h e tw (parts_right h e) in
        at_second h e tw (parts_right h e) w (second_stands v (node s.ns i) (modes s.t i) o e) (both_room s.a v p (part_at s) (part_at s) k n g o f (step_room h e))
        (λ at d u. both_second s.a v p (part_at s) at k n g o f (step_room h e) d u)
        (f, to_second (truly_past h e tw (parts_right h e) g) (record { between = t'; sets = w; passed = z; is = true_place h e tw (parts_right h e) }))

  -- the second makes it, and the first of a sequence is passed
  pub both_second_turned : {t₁ t' : List ℕ} {y : Turn} {o : Operator} → joint_by s.a o ≡ false → stand_in s v i ≡ standing.Both o p → Forked c.steps s.t k (halves i o p (gone v)) t₁ y → y.second ≡ true → Passed s.ns o p.first t₁ t'
      → Turned s c (move (Plain v) i k) t' (move (Plain v) y.node y.at)
  unfolding std_of std_right moves
  both_second_turned f e (in_first l w) b z = absurd (true≢false (sym b))
  both_second_turned {o = Sequence} f e (in_second g w) b z =
      let n = first_count h e (both_twins e) (parts_right h e) in
      past_first h e (both_twins e) (parts_right h e) w (second_stands v (node s.ns i) (modes s.t i) Sequence e) z.kept z.long
      (both_room s.a v p (part_at s) (part_at s) k n g Sequence refl (step_room h e))
      (λ at u. at_seq_second s.a ((part_at s p.first).std v) ((part_at s p.second).std v) n (step_room h e) g u)
      (refl, to_second (truly_past h e (both_twins e) (parts_right h e) g) (record { between = _; sets = w; passed = z; is = true_place h e (both_twins e) (parts_right h e) }))
  both_second_turned {y = y} {o = Choice} f e (in_second g w) b z = subst (λ t. Turned s c (move (Plain v) i k) t (move (Plain v) y.node y.at)) (sym z) (beside_turned f e g w refl)
  both_second_turned {y = y} {o = Parallel n} f e (in_second g w) b z = subst (λ t. Turned s c (move (Plain v) i k) t (move (Plain v) y.node y.at)) (sym z) (beside_turned f e g w refl)

  -- a handler goes on as a sequence does
  pub handler_first_turned : {t' : List ℕ} {y : Turn} → stand_in s v i ≡ standing.Handler p → Forked c.steps s.t k (halves i Sequence p moved_on) t' y → y.second ≡ false
      → Turned s c (move (Plain v) i k) t' (move (Plain v) y.node y.at)
  unfolding std_of std_right first_mode
  handler_first_turned e (in_first l w) b = at_first h e (handler_twins e) (parts_right h e) w e l (λ at d u. hnd_first s.a v p (part_at s) at k d u)
      (to_first (truly_below h e (handler_twins e) (parts_right h e) l) (record { sets = w; is = refl }))
  handler_first_turned e (in_second g w) b = absurd (true≢false b)

  pub handler_second_turned : {t₁ t' : List ℕ} {y : Turn} → stand_in s v i ≡ standing.Handler p → Forked c.steps s.t k (halves i Sequence p moved_on) t₁ y → y.second ≡ true → Redrawn s.ns p.first t₁ t'
      → Turned s c (move (Plain v) i k) t' (move (Plain v) y.node y.at)
  unfolding std_of std_right second_mode moves
  handler_second_turned e (in_first l w) b z = absurd (true≢false (sym b))
  handler_second_turned e (in_second g w) b z =
      let n = first_count h e (handler_twins e) (parts_right h e) in
      past_first h e (handler_twins e) (parts_right h e) w (subst (After v (node s.ns i)) e (stand_after v (node s.ns i) (modes s.t i))) z.kept z.long
      (hnd_room s.a ((part_at s p.first).std v) ((part_at s p.second).std v) n (step_room h e) g)
      (λ at u. at_hnd_second s.a ((part_at s p.first).std v) ((part_at s p.second).std v) n (step_room h e) g u)
      (to_second (truly_past h e (handler_twins e) (parts_right h e) g) (record { between = _; sets = w; passed = z; is = true_place h e (handler_twins e) (parts_right h e) }))

-- Compensable parts ----------------------------------------------------------------------------------------------------------

-- what is left of two running parts after a step of the first
abbrev first_course : Operator → Two → Course
first_course Sequence p = course.Both Sequence p
first_course Choice p = course.As p.first
first_course (Parallel n) p = course.Both (Parallel n) p

first_runs : (n : Node) (m : ℕ) {p : Two} (o : Operator) → course_of n m ≡ course.Both o p → course_of n (first_mode o m) ≡ first_course o p
unfolding first_mode
first_runs n m Sequence e = e
first_runs n m Choice e = (subst (CAfter n) e (course_after n m)).0
first_runs n m (Parallel j) e = e

-- and after one of the second; of PP;QQ a compensation of PP's is held
abbrev second_course : Operator → Two → Course
second_course Sequence p = course.Held p
second_course Choice p = course.As p.second
second_course (Parallel n) p = course.Both (Parallel n) p

second_runs : (n : Node) (m : ℕ) {p : Two} (o : Operator) → course_of n m ≡ course.Both o p → course_of n (second_mode o holding m) ≡ second_course o p
unfolding second_mode
second_runs n m Sequence e = subst (CAfter n) e (course_after n m)
second_runs n m Choice e = (subst (CAfter n) e (course_after n m)).1
second_runs n m (Parallel j) e = e

-- nothing is held for the second part
abbrev pub Apart : Operator → Type 0
Apart Sequence = ⊥
Apart Choice = Unit {0}
Apart (Parallel n) = Unit {0}

module _ (a : ℕ) (p : Two) (b at : ℕ → Part) (k : ℕ) where
  abbrev run_one : Cmp
  run_one = (b p.first).run

  abbrev run_other : Cmp
  run_other = (b p.second).run

  run_first : (o : Operator) → joint_by a o ≡ false → at p.second ≡ b p.second → At (csteps run_one a) k (at p.first).run → At (csteps (compensable cued.sets o run_one run_other) a) k (run_of (first_course o p) at)
  unfolding run_of
  run_first Sequence f e u = subst (λ z. At (csteps (cseq run_one run_other) a) k (cseq (at p.first).run z.run)) (sym e) (at_cseq_first a run_one run_other u)
  run_first Choice f e u = at_calt_first a run_one run_other u
  run_first (Parallel n) f e u =
      let j : Joint = set_of cued.sets n in
      subst (λ z. At (csteps (cpar j run_one run_other) a) k (cpar j (at p.first).run z.run)) (sym e) (apart_at_first (cpar_together a j run_one run_other f) u)

  module _ {n : ℕ} (d : n ≡ cap (length (csteps run_one a))) (g : n ≤ k) where
    run_room : (o : Operator) → Apart o → joint_by a o ≡ false → k < cap (length (csteps (compensable cued.sets o run_one run_other) a)) → k - n < cap (length (csteps run_other a))
    run_room Sequence z f h = absurd z
    run_room Choice z f h = calt_room a run_one run_other d h g
    run_room (Parallel m) z f h = apart_room (cpar_together a (set_of cued.sets m) run_one run_other f) d h g

    run_second : (o : Operator) → Apart o → joint_by a o ≡ false → k < cap (length (csteps (compensable cued.sets o run_one run_other) a)) → at p.first ≡ b p.first
        → At (csteps run_other a) (k - n) (at p.second).run → At (csteps (compensable cued.sets o run_one run_other) a) k (run_of (second_course o p) at)
    unfolding run_of
    run_second Sequence z f h e u = absurd z
    run_second Choice z f h e u = at_calt_second a run_one run_other d h g u
    run_second (Parallel m) z f h e u =
        let j : Joint = set_of cued.sets m in
        subst (λ y. At (csteps (cpar j run_one run_other) a) k (cpar j y.run (at p.second).run)) (sym e) (apart_at_second (cpar_together a j run_one run_other f) d h g u)

module _ {s : Scene} {c : Notes} {i k : ℕ} (h : Ready s Running c i k) {p : Two} where
  module _ {o : Operator} (e : course_in s i ≡ course.Both o p) where
    pub run_twins : Twins s.ns i p
    run_twins = subst (CRests s.ns i) e (course_rests s.ns i (tree_of h e) (modes s.t i))

    pub run_small : (p.first < 64) × (p.second < 64)
    run_small = twins_small h run_twins

    -- outside the node is outside its first part
    pub first_kept : {d d' : ℕ → Entry} → Kept s.ns p.first d d' → Kept s.ns i d d'
    first_kept x = kept_kid s.ns (tree_of h e) run_twins.one x

    both_right : T ((noted_at s c p.first).run && (noted_at s c p.second).run)
    unfolding run_right
    both_right = parts_right h e

  pub into_first : {t' : List ℕ} {y : Turn} {o : Operator} → joint_by s.a o ≡ false → course_in s i ≡ course.Both o p → Forked c.steps s.t k (halves i o p holding) t' y → y.second ≡ false
      → Turned s c (move Running i k) t' (move Running y.node y.at)
  unfolding run_of
  into_first {o = o} f e (in_first l w) b = at_first h e (run_twins e) (both_right e) w (first_runs (node s.ns i) (modes s.t i) o e) l (λ at d u. run_first s.a p (part_at s) at k o f d u)
      (f, to_first (truly_below h e (run_twins e) (both_right e) l) (record { sets = w; is = refl }))
  into_first f e (in_second g w) b = absurd (true≢false b)

  pub apart_turned : {t' : List ℕ} {y : Turn} {o : Operator} → Apart o → joint_by s.a o ≡ false → course_in s i ≡ course.Both o p → Forked c.steps s.t k (halves i o p holding) t' y
      → Turned s c (move Running i k) t' (move Running y.node y.at)
  unfolding run_of
  apart_turned z f e (in_first l w) = into_first f e (in_first l w) refl
  apart_turned {o = o} z f e (in_second g w) =
      let n = first_count h e (run_twins e) (both_right e) in
      at_second h e (run_twins e) (both_right e) w (second_runs (node s.ns i) (modes s.t i) o e) (run_room s.a p (part_at s) (part_at s) k n g o z f (step_room h e))
      (λ at d u. run_second s.a p (part_at s) at k n g o z f (step_room h e) d u)
      (f, to_second (truly_past h e (run_twins e) (both_right e) g) (apart_goes o z (record { sets = w; is = true_place h e (run_twins e) (both_right e) })))
    where
      apart_goes : (o : Operator) → Apart o → {t' : List ℕ} {y : Move} → Marked s i (second_mode o holding (modes s.t i)) (move Running p.second (k - many Running s.a (part_at s p.first))) t' y → GoesOn s i k o p t' y
      apart_goes Sequence z m = absurd z
      apart_goes Choice z m = m
      apart_goes (Parallel n) z m = m

  -- PP;QQ goes on: one of PP's compensations is held, and QQ makes a step
  module _ (e : course_in s i ≡ course.Both Sequence p) (g : counts c.steps p.first ≤ k) {t₁ : List ℕ} (w : Sets s.t i holding t₁) where
    abbrev pp : Cmp
    pp = (part_at s p.first).run

    abbrev qq : Cmp
    qq = (part_at s p.second).run

    abbrev per_step : Weight
    per_step = hold_g (counts c.steps p.second)

    second_count : counts c.steps p.second ≡ many Running s.a (part_at s p.second)
    second_count = own_count s.ns s.a (modes s.t) (entries c) p.second Running (second_noted h e (run_twins e) (both_right e))

    on_same : part s.ns (modes t₁) p.first ≡ part_at s p.first
    on_same = same_part s.ns (tree_of h e) (run_twins e).one w

    on_left : k < cap (length (csteps (cseq pp qq) s.a))
    unfolding run_of
    on_left = step_room h e

    on_room : k - counts c.steps p.first < weight_of (scene s.ns t₁ s.a) p.first done per_step
    on_room = subst (λ z. k - counts c.steps p.first < cap (sum_of (weight s.a per_step) (comps z.run done))) (sym on_same)
        (cseq_room s.a pp qq (first_count h e (run_twins e) (both_right e)) on_left g second_count)

    module _ {t₂ : List ℕ} {y : Picked} (ch : Chosen (scene s.ns t₁ s.a) p.first (ask done per_step (k - counts c.steps p.first)) t₂ y) where
      on_found : Finds (weight s.a per_step) (comps pp done) (k - counts c.steps p.first) ((part s.ns (modes t₂) p.first).std Undoing) y.rest
      on_found = subst (λ z. Finds (weight s.a per_step) (comps z.run done) (k - counts c.steps p.first) ((part s.ns (modes t₂) p.first).std Undoing) y.rest) on_same ch.sought.found

      on_chosen : Chosen (scene s.ns t₁ s.a) p.first (ask done (hold_g (many Running s.a (part_at s p.second))) (k - many Running s.a (part_at s p.first))) t₂ y
      on_chosen = subst₂ (λ a b. Chosen (scene s.ns t₁ s.a) p.first (ask done (hold_g a) (k - b)) t₂ y) second_count (first_count h e (run_twins e) (both_right e)) ch

      on_turned : {c' : Notes} → Kept s.ns p.first (entries c) (entries c') → length c'.rows ≡ length c.rows → length t₂ ≡ length t₁ → Turned s c' (move Running i k) t₂ (move Running p.second y.rest)
      unfolding run_of
      on_turned kept rows long =
          let tw = run_twins e in
          let n = first_count h e tw (both_right e) in
          handed_past h e Running tw.other tw.one tw.free kept rows w ch.kept long (subst (CAfter (node s.ns i)) e (course_after (node s.ns i) (modes s.t i)))
          (second_right h e tw (both_right e)) (cseq_rest s.a pp qq n on_left g second_count on_found)
          (λ at d u. subst (λ z. At (csteps (cseq pp qq) s.a) k (held (at p.second).run (z.std Undoing))) (sym d) (at_cseq_second s.a pp qq n on_left g second_count on_found u))
          (refl, to_second (truly_past h e tw (both_right e) g) (record { between = t₁; picked = y; sets = w; chosen = on_chosen; long = long; is = refl }))

  module _ (e : course_in s i ≡ course.Both Sequence p) where
    pub held_spot : {t₁ : List ℕ} {y : Turn} → Forked c.steps s.t k (halves i Sequence p holding) t₁ y → y.second ≡ true → Spot s.ns t₁ p.first
    unfolding second_mode
    held_spot (in_first l w) b = absurd (true≢false (sym b))
    held_spot (in_second g w) b = spot_down s.ns (tree_of h e) (run_twins e).one w h.spot

    -- what is kept of PP is right, once the node holds
    pub held_weighed : {t₁ : List ℕ} {y : Turn} → Forked c.steps s.t k (halves i Sequence p holding) t₁ y → y.second ≡ true → Weighed (scene s.ns t₁ s.a) c p.first
    unfolding second_mode
    held_weighed (in_first l w) b = absurd (true≢false (sym b))
    held_weighed {t₁} (in_second g w) b = marked_weighed (tree_of h e) (run_twins e).one w (record { long = h.long; right = first_noted h e (run_twins e) (both_right e) })

    pub held_number : {t₁ : List ℕ} {y : Turn} → Forked c.steps s.t k (halves i Sequence p holding) t₁ y → y.second ≡ true
        → y.at < weight_of (scene s.ns t₁ s.a) p.first done (hold_g (counts c.steps p.second))
    unfolding second_mode
    held_number (in_first l w) b = absurd (true≢false (sym b))
    held_number (in_second g w) b = on_room e g w

    pub sequence_turned : {t₁ t₂ : List ℕ} {y : Turn} {z : Picked} → Forked c.steps s.t k (halves i Sequence p holding) t₁ y → y.second ≡ true
        → Chosen (scene s.ns t₁ s.a) p.first (ask done (hold_g (counts c.steps p.second)) y.at) t₂ z → {c' : Notes} → Kept s.ns p.first (entries c) (entries c') → length c'.rows ≡ length c.rows → length t₂ ≡ length t₁
        → Turned s c' (move Running i k) t₂ (move Running y.node z.rest)
    unfolding second_mode
    sequence_turned (in_first l w) b ch kept rows long = absurd (true≢false (sym b))
    sequence_turned (in_second g w) b ch kept rows long = on_turned e g w ch kept rows long

  pub pair_turned : course_in s i ≡ course.Pair p → Turned s c (move Running i k) s.t (move (Plain Drawn) p.first k)
  unfolding run_of run_right moves
  pair_turned e =
      let tw = subst (CRests s.ns i) e (course_rests s.ns i (tree_of h e) (modes s.t i)) in
      let q = (part_at s p.second).std Drawn in
      let second = cond (over s.ns s.a (modes s.t) p.first) ((noted_at s c p.second).std Drawn) true in
      handed_by h e (Plain Drawn) tw.one (sets_none refl) e (and_left ((stored_at s c p.first).std Drawn) second (parts_right h e)) (pair_room s.a ((part_at s p.first).std Drawn) q (step_room h e))
      (λ at same u. subst (λ z. At (csteps (pair ((part_at s p.first).std Drawn) q) s.a) k (pair ((at p.first).std Drawn) (z.std Drawn))) (sym (same p.second tw.other tw.free))
      (at_pair s.a ((part_at s p.first).std Drawn) q u)) (record { sets = sets_none refl; is = refl })

  pub held_turned : course_in s i ≡ course.Held p → Turned s c (move Running i k) s.t (move Running p.second k)
  unfolding run_of run_right
  held_turned e =
      let tw = subst (CRests s.ns i) e (course_rests s.ns i (tree_of h e) (modes s.t i)) in
      let r = (part_at s p.first).std Undoing in
      handed_by h e Running tw.other (sets_none refl) e (noted_stored s.ns s.a (modes s.t) (entries c) p.second Running (and_right (noted_at s c p.first).held (noted_at s c p.second).run (parts_right h e))) (held_room s.a (part_at s p.second).run r (step_room h e))
      (λ at same u. subst (λ z. At (csteps (held (part_at s p.second).run r) s.a) k (held (at p.second).run (z.std Undoing))) (sym (same p.first tw.one (λ j v z. tw.free j z v)))
      (at_held s.a (part_at s p.second).run r u)) (record { sets = sets_none refl; is = refl })

-- One live part --------------------------------------------------------------------------------------------------------------

module _ {s : Scene} {c : Notes} {i k : ℕ} where
  pub only_turned : {v : Sense} → Ready s (Plain v) c i k → {x : Sub} → stand_in s v i ≡ standing.As x
      → Turned s c (move (Plain v) i k) s.t (move (Plain x.sense) x.node k)
  unfolding std_of std_right
  only_turned {v} h {x} e =
      let kid = subst (Rests s.ns i) e (stand_rests s.ns i (tree_of h e) v (modes s.t i)) in
      handed_by h e (Plain x.sense) kid (sets_none refl) e (parts_right h e) (step_room h e) (λ at same u. u) (record { sets = sets_none refl; is = refl })

  pub as_turned : Ready s Running c i k → {d : ℕ} → course_in s i ≡ course.As d → Turned s c (move Running i k) s.t (move Running d k)
  unfolding run_of run_right
  as_turned h {d} e =
      let kid = subst (CRests s.ns i) e (course_rests s.ns i (tree_of h e) (modes s.t i)) in
      handed_by h e Running kid (sets_none refl) e (noted_stored s.ns s.a (modes s.t) (entries c) d Running (parts_right h e)) (step_room h e) (λ at same u. u) (record { sets = sets_none refl; is = refl })

-- Blocks ---------------------------------------------------------------------------------------------------------------------

module _ {s : Scene} {v : Sense} {c : Notes} {i k : ℕ} (h : Ready s (Plain v) c i k) {d : ℕ} (e : stand_in s v i ≡ standing.Block d) where
  block_after : After v (node s.ns i) (standing.Block d)
  block_after = subst (After v (node s.ns i)) e (stand_after v (node s.ns i) (modes s.t i))

  block_drawn : v ≡ Drawn
  block_drawn = block_after.0

  pub block_ready : Ready s (Plain Drawn) c i k
  block_ready = subst (λ z. Ready s (Plain z) c i k) block_drawn h

  pub block_stands : stand_in s Drawn i ≡ standing.Block d
  block_stands = subst (λ z. stand_in s z i ≡ standing.Block d) block_drawn e

  pub block_stepped : {t' : List ℕ} → Stepped s (Plain Drawn) i k t' → Stepped s (Plain v) i k t'
  block_stepped {t'} x = subst (λ z. Stepped s (Plain z) i k t') (sym block_drawn) x

  pub block_kid : Kid (shape s.ns) i d
  block_kid = subst (Rests s.ns i) e (stand_rests s.ns i (tree_of h e) v (modes s.t i))

  pub block_kept : {m m' : ℕ → Entry} → Kept s.ns d m m' → Kept s.ns i m m'
  block_kept x = kept_kid s.ns (tree_of h e) block_kid x

  pub block_small : d < 64
  block_small = number_small h block_kid

  block_noted : T (noted_at s c d).run
  unfolding std_right
  block_noted = parts_right h e

  block_right : T (stored_at s c d).run
  block_right = noted_stored s.ns s.a (modes s.t) (entries c) d Running block_noted

  block_count : counts c.steps d ≡ many Running s.a (part_at s d)
  block_count = own_count s.ns s.a (modes s.t) (entries c) d Running block_noted

  pub inside_turned : k < counts c.steps d → Turned s c (move (Plain v) i k) s.t (move Running d k)
  unfolding std_of
  inside_turned l = handed_by h e Running block_kid (sets_none refl) e block_right (subst (λ z. k < z) block_count l) (λ at same u. at_blk_first s.a (part_at s d).run u)
      (to_first (subst (λ z. k < z) block_count l) (record { sets = sets_none refl; is = refl }))

  -- it fails inside, and a compensation is chosen
  module _ (g : counts c.steps d ≤ k) {t₁ : List ℕ} (w : Sets s.t i compensating t₁) where
    pub out_spot : Spot s.ns t₁ d
    out_spot = spot_down s.ns (tree_of h e) block_kid w h.spot

    out_same : part s.ns (modes t₁) d ≡ part_at s d
    out_same = same_part s.ns (tree_of h e) block_kid w

    out_left : k < cap (moves s.a (blk (part_at s d).run))
    unfolding std_of moves
    out_left = step_room h e

    pub out_weighed : Weighed (scene s.ns t₁ s.a) c d
    out_weighed = marked_weighed (tree_of h e) block_kid w (record { long = h.long; right = block_noted })

    pub out_room : k - counts c.steps d < weight_of (scene s.ns t₁ s.a) d failed moves_g
    out_room = subst (λ z. k - counts c.steps d < cap (sum_of (weight s.a moves_g) (comps z.run failed))) (sym out_same) (blk_room s.a (part_at s d).run block_count out_left g)

    module _ {t₂ : List ℕ} {y : Picked} (ch : Chosen (scene s.ns t₁ s.a) d (ask failed moves_g (k - counts c.steps d)) t₂ y) (long : length t₂ ≡ length t₁) where
      out_found : Finds (weight s.a moves_g) (comps (part_at s d).run failed) (k - counts c.steps d) ((part s.ns (modes t₂) d).std Undoing) y.rest
      out_found = subst (λ z. Finds (weight s.a moves_g) (comps z.run failed) (k - counts c.steps d) ((part s.ns (modes t₂) d).std Undoing) y.rest) out_same ch.sought.found

      out_chosen : Chosen (scene s.ns t₁ s.a) d (ask failed moves_g (k - many Running s.a (part_at s d))) t₂ y
      out_chosen = subst (λ z. Chosen (scene s.ns t₁ s.a) d (ask failed moves_g (k - z)) t₂ y) block_count ch

      pub out_turned : {c' : Notes} → length c'.rows ≡ length c.rows → Undone (scene s.ns t₂ s.a) d c c'
          → Turned s c' (move (Plain v) i k) t₂ (move (Plain Undoing) d y.rest)
      unfolding std_of moves
      out_turned {c'} rows m = handed h e (Plain Undoing) block_kid rows
          (ap (stand v (node s.ns i)) (mode_after s.ns (tree_of h e) block_kid w t₂ ch.kept) ∙ block_after.1)
          (kept_up s.ns (tree_of h e) block_kid w t₂ ch.kept) (long ∙ w.long) (noted_stored s.ns s.a (modes t₂) (entries c') d (Plain Undoing) m.right)
          (blk_rest s.a (part_at s d).run block_count out_left g out_found)
          (λ at beside u. at_blk_second s.a (part_at s d).run block_count out_left g out_found u)
          (to_second (subst (λ z. z ≤ k) block_count g) (record { between = t₁; picked = y; sets = w; chosen = out_chosen; long = long; is = refl }))

-- Events, and parts without steps --------------------------------------------------------------------------------------------

module _ (a : ℕ) {k : ℕ} where
  no_basic : (b : Simple) → k < cap (moves a (basic b)) → ⊥
  no_basic Skip l = no_skip_step a l
  no_basic Throw l = no_throw_step a l
  no_basic Yield l = no_yield_step a l

  no_paired : (b : Simple) → k < cap (length (csteps (paired b) a)) → ⊥
  no_paired Skip l = no_skip_step a (pair_room a skip skip l)
  no_paired Throw l = no_throw_step a (pair_room a throw skip l)
  no_paired Yield l = no_yield_step a (pair_room a yield skip l)

module _ {s : Scene} {c : Notes} {i k : ℕ} where
  pub event_stepped : {v : Sense} → Ready s (Plain v) c i k → {x : ℕ} → stand_in s v i ≡ standing.Event x
      → {t' : List ℕ} → t' ≡ set s.t i event_taken → Stepped s (Plain v) i k t'
  unfolding std_of moves
  event_stepped {v} h {x} e {t'} d =
      let w : Sets s.t i event_taken t' = set_sets h.spot.room d in
      record {
        goes = step_goes h e t' (ap (stand v (node s.ns i)) w.here ∙ subst (After v (node s.ns i)) e (stand_after v (node s.ns i) (modes s.t i))) (at_ev (cued_leaf x) s.a (step_room h e));
        kept = kept_set s.ns w;
        makes = takes refl e w;
      }

  pub no_step : {v : Sense} → Ready s (Plain v) c i k → {b : Simple} → stand_in s v i ≡ standing.Basic b → ⊥
  unfolding std_of moves
  no_step h {b} e = no_basic s.a b (step_room h e)

  pub no_run_step : Ready s Running c i k → {b : Simple} → course_in s i ≡ course.Basic b → ⊥
  unfolding run_of
  no_run_step h {b} e = no_paired s.a b (step_room h e)
