-- Both sides of a parallel make a step by a joint event: the first one of its own, and then the second one of its own, by the place of the
-- node's step and the number of the second side's steps (`first_ready`, `second_ready`); so the node has made its step (`met_stepped`). Said
-- once for standard and for running parts. Assumes nothing.
use Rattle.std.specs.Prelude.{ℕ, ◌<◌, ◌/◌, ◌%◌, ◌≡◌, true, ◌&&◌, List, T, length}
use Rattle.std.proofs.Math.Path.{refl}
use Rattle.std.proofs.Common.{sym, ◌∙◌, ap, subst, subst₂, true≢false, arith}
use Rattle.calculus.specs.Term.{par, cpar}
use Rattle.calculus.proofs.Members.{and_left, and_right}
use Rattle.flow.specs.declared.Operator.{Operator}
use Rattle.flow.specs.declared.Operator.TheVariants.{Sequence, Choice, Parallel}
use Rattle.flow.specs.declared.Two.{Two}
use Rattle.flow.specs.Kinds.{node, set_of}
use Rattle.flow.specs.Cues.{cued, joint_at, joint_by}
use Rattle.tallies.specs.Capped.{cap}
use Rattle.tallies.specs.Places.{At}
use Rattle.tallies.proofs.StepLaws.{Together, par_together, cpar_together, joint_some, joint_first_room, joint_second_room, joint_goes}
use Rattle.states.specs.declared.Sense.{Sense}
use Rattle.states.specs.declared.Standing.{Standing}
use Rattle.states.specs.declared.Standing.TheVariants as standing
use Rattle.states.specs.declared.Course.{Course}
use Rattle.states.specs.declared.Course.TheVariants as course
use Rattle.states.specs.declared.Role.{Role}
use Rattle.states.specs.declared.Role.TheVariants.{Plain, Running}
use Rattle.states.specs.State.{Part, std_of, run_of, part, modes, counts}
use Rattle.states.specs.Rows.{Notes, Entry, entries}
use Rattle.states.specs.Stored.{std_right, run_right}
use Rattle.states.specs.NotedLaws.{own_count, noted_stored}
use Rattle.states.specs.LiveParts.{Twins, Rests, CRests}
use Rattle.states.specs.Rests.{stand_rests, course_rests}
use Rattle.states.specs.Roles.{Term, get, nexts, many, ok}
use Rattle.states.specs.Clauses.{Kept, Scene, scene, part_at, noted_at, Ready, Stepped}
use Rattle.states.specs.ChildLaws.{sets_none, lower_spot, same_room, kid_lower, kept_kid, own_kept, kept_part, beside_part, beside_stored}
use Rattle.states.specs.Hands.{move, Stance, stance_of, Meets, both_stand, both_run, Makes, meets}
use Rattle.steps.specs.Turns.{stance_term}
use Rattle.steps.specs.NodeLaws.{tree_of, step_room, parts_right, step_goes}

-- what is left of a parallel, by the role, and how two sides are put together in it
abbrev joined : (r : Role) → ℕ → Two → Stance r
joined (Plain v) n p = standing.Both (Parallel n) p
joined Running n p = course.Both (Parallel n) p

abbrev sides_of : (r : Role) → ℕ → Term r → Term r → Term r
sides_of (Plain v) n x y = par (set_of cued.sets n) x y
sides_of Running n x y = cpar (set_of cued.sets n) x y

-- two sides that meet are such a parallel's, and the event is joint
meeting : {a : ℕ} {r : Role} {z : Stance r} {p : Two} → Meets a r z p → (n : ℕ) × (z ≡ joined r n p) × (joint_at a n ≡ true)
meeting (both_stand {n} e) = (n, refl, e)
meeting (both_run {n} e) = (n, refl, e)

module _ (a : ℕ) (n : ℕ) (o : joint_at a n ≡ true) (p : Two) where
  term_of : (r : Role) (at : ℕ → Part) → stance_term r (joined r n p) at ≡ sides_of r n (get r (at p.first)) (get r (at p.second))
  unfolding std_of run_of
  term_of (Plain v) at = refl
  term_of Running at = refl

  together : (r : Role) (x y : Term r) → Together true (sides_of r n) x y (nexts r (sides_of r n x y) a) (nexts r x a) (nexts r y a)
  together (Plain v) x y = par_together a (set_of cued.sets n) x y o
  together Running x y = cpar_together a (set_of cued.sets n) x y o

-- the two sides are the node's children, and their counts are right
twins_by : {s : Scene} (r : Role) {c : Notes} {i k : ℕ} → Ready s r c i k → (n : ℕ) (p : Two) → stance_of r (node s.ns i) (modes s.t i) ≡ joined r n p → Twins s.ns i p
twins_by {s} (Plain v) {i = i} h n p e = subst (Rests s.ns i) e (stand_rests s.ns i (tree_of h e) v (modes s.t i))
twins_by {s} Running {i = i} h n p e = subst (CRests s.ns i) e (course_rests s.ns i (tree_of h e) (modes s.t i))

right_by : {s : Scene} (r : Role) {c : Notes} {i k : ℕ} → Ready s r c i k → (n : ℕ) (p : Two) → stance_of r (node s.ns i) (modes s.t i) ≡ joined r n p → T (ok r (noted_at s c p.first) && ok r (noted_at s c p.second))
unfolding std_right run_right
right_by (Plain v) h n p e = parts_right h e
right_by Running h n p e = parts_right h e

module _ {s : Scene} {r : Role} {c : Notes} {i k : ℕ} (h : Ready s r c i k) (n : ℕ) (p : Two) (e : stance_of r (node s.ns i) (modes s.t i) ≡ joined r n p) (o : joint_at s.a n ≡ true) where
  tw : Twins s.ns i p
  tw = twins_by r h n p e

  first_noted : T (ok r (noted_at s c p.first))
  first_noted = and_left (ok r (noted_at s c p.first)) (ok r (noted_at s c p.second)) (right_by r h n p e)

  second_noted : T (ok r (noted_at s c p.second))
  second_noted = and_right (ok r (noted_at s c p.first)) (ok r (noted_at s c p.second)) (right_by r h n p e)

  seconds : counts c.steps p.second ≡ many r s.a (part_at s p.second)
  seconds = own_count s.ns s.a (modes s.t) (entries c) p.second r second_noted

  -- the steps of both
  pair : Together true (sides_of r n) (get r (part_at s p.first)) (get r (part_at s p.second)) (nexts r (sides_of r n (get r (part_at s p.first)) (get r (part_at s p.second))) s.a) (nexts r (get r (part_at s p.first)) s.a) (nexts r (get r (part_at s p.second)) s.a)
  pair = together s.a n o p r (get r (part_at s p.first)) (get r (part_at s p.second))

  room : k < cap (length (nexts r (sides_of r n (get r (part_at s p.first)) (get r (part_at s p.second))) s.a))
  room = subst (λ z. k < cap (length (nexts r z s.a))) (term_of s.a n o p r (part_at s)) (step_room h e)

  some_second : 0 < counts c.steps p.second
  some_second = joint_some pair seconds room

  ready_first : Ready s r c p.first (k / counts c.steps p.second)
  ready_first = record {
    long = h.long;
    spot = lower_spot h.spot (kid_lower s.ns (tree_of h e) tw.one);
    right = noted_stored s.ns s.a (modes s.t) (entries c) p.first r first_noted;
    room = joint_first_room pair seconds room;
  }

  module _ {t₁ : List ℕ} (x : Stepped s r p.first (k / counts c.steps p.second) t₁) where
    same_second : part s.ns (modes t₁) p.second ≡ part_at s p.second
    same_second = beside_part s.ns (tree_of h e) tw.one (sets_none {t = s.t} refl) t₁ x.kept tw.other tw.free

    ready_second : {c' : Notes} → Kept s.ns p.first (entries c) (entries c') → length c'.rows ≡ length c.rows → length t₁ ≡ length s.t → Ready (scene s.ns t₁ s.a) r c' p.second (k % counts c.steps p.second)
    ready_second {c'} kept rows long = record {
      long = rows ∙ h.long;
      spot = lower_spot (same_room h.spot long) (kid_lower s.ns (tree_of h e) tw.other);
      right = subst (λ z. T (ok r z)) (sym (beside_stored s.ns (tree_of h e) tw.one (sets_none {t = s.t} refl) t₁ x.kept tw.other tw.free s.a c c' kept)) (noted_stored s.ns s.a (modes s.t) (entries c) p.second r second_noted);
      room = subst (λ z. k % counts c.steps p.second < many r s.a z) (sym same_second) (joint_second_room pair seconds room);
    }

    module _ {t₂ : List ℕ} (y : Stepped (scene s.ns t₁ s.a) r p.second (k % counts c.steps p.second) t₂) where
      same_first : part s.ns (modes t₂) p.first ≡ part s.ns (modes t₁) p.first
      same_first = kept_part s.ns (tree_of h e) p.second (λ j u v. tw.free j v u) y.kept

      first_goes : At (nexts r (get r (part_at s p.first)) s.a) (k / counts c.steps p.second) (get r (part s.ns (modes t₂) p.first))
      first_goes = subst (λ z. At (nexts r (get r (part_at s p.first)) s.a) (k / counts c.steps p.second) (get r z)) (sym same_first) x.goes

      second_goes : At (nexts r (get r (part_at s p.second)) s.a) (k % counts c.steps p.second) (get r (part s.ns (modes t₂) p.second))
      second_goes = subst (λ z. At (nexts r (get r z) s.a) (k % counts c.steps p.second) (get r (part s.ns (modes t₂) p.second))) same_second y.goes

      both_go : At (nexts r (stance_term r (joined r n p) (part_at s)) s.a) k (stance_term r (joined r n p) (part s.ns (modes t₂)))
      both_go = subst₂ (λ w z. At (nexts r w s.a) k z) (sym (term_of s.a n o p r (part_at s))) (sym (term_of s.a n o p r (part s.ns (modes t₂)))) (joint_goes pair seconds room first_goes second_goes)

      stance_after : stance_of r (node s.ns i) (modes t₂ i) ≡ joined r n p
      stance_after = ap (stance_of r (node s.ns i)) (own_kept s.ns (tree_of h e) tw.other y.kept ∙ own_kept s.ns (tree_of h e) tw.one x.kept) ∙ e

      stepped : Meets s.a r (stance_of r (node s.ns i) (modes s.t i)) p → Stepped s r i k t₂
      stepped m = record {
        goes = step_goes h e t₂ stance_after both_go;
        kept = λ j out. kept_kid s.ns (tree_of h e) tw.other y.kept j out ∙ kept_kid s.ns (tree_of h e) tw.one x.kept j out;
        makes = meets m (subst (λ z. Makes s (move r p.first (k / z)) t₁) seconds x.makes) (subst (λ z. Makes (scene s.ns t₁ s.a) (move r p.second (k % z)) t₂) seconds y.makes);
      }

-- two sides of a parallel, by a joint event
pub stand_meets : {a : ℕ} {v : Sense} {z : Standing} {o : Operator} {p : Two} → joint_by a o ≡ true → z ≡ standing.Both o p → Meets a (Plain v) z p
stand_meets {o = Sequence} j e = absurd (true≢false (sym j))
stand_meets {o = Choice} j e = absurd (true≢false (sym j))
stand_meets {a} {v} {o = Parallel n} {p} j e = subst (λ z. Meets a (Plain v) z p) (sym e) (both_stand j)

pub run_meets : {a : ℕ} {z : Course} {o : Operator} {p : Two} → joint_by a o ≡ true → z ≡ course.Both o p → Meets a Running z p
run_meets {o = Sequence} j e = absurd (true≢false (sym j))
run_meets {o = Choice} j e = absurd (true≢false (sym j))
run_meets {a} {o = Parallel n} {p} j e = subst (λ z. Meets a Running z p) (sym e) (both_run j)

-- by what meets
module _ {s : Scene} {r : Role} {c : Notes} {i k : ℕ} (h : Ready s r c i k) {p : Two} (m : Meets s.a r (stance_of r (node s.ns i) (modes s.t i)) p) where
  pub met_lower : (p.first < i) × (p.second < i)
  met_lower = let w = meeting m in let t = twins_by r h w.0 p w.1 in (kid_lower s.ns (tree_of h w.1) t.one, kid_lower s.ns (tree_of h w.1) t.other)

  pub met_within : p.second < 64
  met_within = let n = h.spot.node in omega (arith, n.inside, n.sound.few, met_lower.1)

  pub met_some : 0 < counts c.steps p.second
  met_some = let w = meeting m in some_second h w.0 p w.1 w.2

  pub first_ready : Ready s r c p.first (k / counts c.steps p.second)
  first_ready = let w = meeting m in ready_first h w.0 p w.1 w.2

  pub second_ready : {t₁ : List ℕ} {c' : Notes} → Stepped s r p.first (k / counts c.steps p.second) t₁ → Kept s.ns p.first (entries c) (entries c') → length c'.rows ≡ length c.rows → length t₁ ≡ length s.t → Ready (scene s.ns t₁ s.a) r c' p.second (k % counts c.steps p.second)
  second_ready x kept rows long = let w = meeting m in ready_second h w.0 p w.1 w.2 x kept rows long

  -- outside the node all is kept
  pub met_kept : {d d₁ d₂ : ℕ → Entry} → Kept s.ns p.first d d₁ → Kept s.ns p.second d₁ d₂ → Kept s.ns i d d₂
  met_kept x y j out = let w = meeting m in let t = twins_by r h w.0 p w.1 in kept_kid s.ns (tree_of h w.1) t.other y j out ∙ kept_kid s.ns (tree_of h w.1) t.one x j out

  pub met_stepped : {t₁ t₂ : List ℕ} → Stepped s r p.first (k / counts c.steps p.second) t₁ → Stepped (scene s.ns t₁ s.a) r p.second (k % counts c.steps p.second) t₂ → Stepped s r i k t₂
  met_stepped x y = let w = meeting m in stepped h w.0 p w.1 w.2 x y m
