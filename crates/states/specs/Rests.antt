-- What is live under a node are children of it, and lower: of two that are live both are, and nothing is under both. Assumes nothing.
use Rattle.std.specs.Prelude.{ℕ, ◌<◌, ◌≡◌, Bool, cond, List, eqb}
use Rattle.std.proofs.Math.Path.{refl}
use Rattle.std.proofs.Math.Bool.{true, false}
use Rattle.flow.specs.declared.Simple.TheVariants.{Skip}
use Rattle.flow.specs.declared.Operator.{Operator}
use Rattle.flow.specs.declared.Operator.TheVariants.{Sequence, Choice, Parallel}
use Rattle.flow.specs.declared.Two.{Two}
use Rattle.flow.specs.declared.Node.{Node}
use Rattle.flow.specs.declared.Node.TheVariants.{Event, Basic, Standard, Handler, Block, Pair, Compensable, Paired, Unknown}
use Rattle.flow.specs.Shapes.{Kid}
use Rattle.flow.specs.Trees.{Tree}
use Rattle.flow.specs.Kinds.{two, node, shape}
use Rattle.flow.specs.NodeChildren.{Has, two_kids, kids_disjoint, one_kid}
use Rattle.states.specs.declared.Sense.{Sense}
use Rattle.states.specs.declared.Sense.TheVariants.{Drawn, Undoing}
use Rattle.states.specs.declared.Standing.{Standing}
use Rattle.states.specs.declared.Standing.TheVariants as standing
use Rattle.states.specs.declared.Course.{Course}
use Rattle.states.specs.declared.Course.TheVariants as course
use Rattle.states.specs.LiveParts.{Twins, Rests, CRests, Lower, CLower}
use Rattle.states.specs.Standings.{as_drawn, first_taken, left_second, left_first, only, drawn_two, stand_drawn, undoing_two, stand_undoing, stand, course_two, course_of}

module _ (ns : List ℕ) (i : ℕ) where
  back : {t : Two} → Twins ns i t → Twins ns i (two t.second t.first)
  back w = record { one = w.other; other = w.one; free = λ j u v. w.free j v u }

  module _ (tree : Tree (shape ns)) where
    twins : {n : Node} (e : node ns i ≡ n) (t : Two) → Has n t → Twins ns i t
    twins e t h = let k = two_kids ns i e t h in record { one = k.0; other = k.1; free = kids_disjoint ns i e t h tree }

    drawn_rests : (o : Operator) (t : Two) (m : ℕ) → Twins ns i t → Rests ns i (drawn_two o t m)
    unfolding drawn_two
    drawn_rests Sequence t m w = by (eqb m as_drawn)
      where
        by : (b : Bool) → Rests ns i (cond b (standing.Both Sequence t) (only t.second Drawn))
        by true = w
        by false = w.other
    drawn_rests Choice t m w = by (eqb m as_drawn) (eqb m first_taken)
      where
        by : (b d : Bool) → Rests ns i (cond b (standing.Both Choice t) (cond d (only t.first Drawn) (only t.second Drawn)))
        by true d = w
        by false true = w.one
        by false false = w.other
    drawn_rests (Parallel k) t m w = w

    undoing_rests : (o : Operator) (t : Two) (m : ℕ) → Twins ns i t → Rests ns i (undoing_two o t m)
    unfolding undoing_two
    undoing_rests Sequence t m w = by (eqb m left_first)
      where
        by : (b : Bool) → Rests ns i (cond b (only t.first Undoing) (standing.Both Sequence (two t.second t.first)))
        by true = w.one
        by false = back w
    undoing_rests Choice t m w = by (eqb m first_taken)
      where
        by : (b : Bool) → Rests ns i (cond b (only t.first Undoing) (only t.second Undoing))
        by true = w.one
        by false = w.other
    undoing_rests (Parallel k) t m w = w

    course_rests_two : (o : Operator) (t : Two) (m : ℕ) → Twins ns i t → CRests ns i (course_two o t m)
    unfolding course_two
    course_rests_two Sequence t m w = by (eqb m as_drawn)
      where
        by : (b : Bool) → CRests ns i (cond b (course.Both Sequence t) (course.Held t))
        by true = w
        by false = w
    course_rests_two Choice t m w = by (eqb m as_drawn) (eqb m first_taken)
      where
        by : (b d : Bool) → CRests ns i (cond b (course.Both Choice t) (cond d (course.As t.first) (course.As t.second)))
        by true d = w
        by false true = w.one
        by false false = w.other
    course_rests_two (Parallel k) t m w = w

    stand_drawn_rests : (n : Node) → node ns i ≡ n → (m : ℕ) → Rests ns i (stand_drawn n m)
    unfolding stand_drawn
    stand_drawn_rests (Event x) e m = by (eqb m as_drawn)
      where
        by : (b : Bool) → Rests ns i (cond b (standing.Event x) (standing.Basic Skip))
        by true = tt
        by false = tt
    stand_drawn_rests (Basic b) e m = tt
    stand_drawn_rests (Standard o t) e m = drawn_rests o t m (twins e t refl)
    stand_drawn_rests (Handler t) e m = by (eqb m as_drawn) (twins e t refl)
      where
        by : (b : Bool) → Twins ns i t → Rests ns i (cond b (standing.Handler t) (only t.second Drawn))
        by true w = w
        by false w = w.other
    stand_drawn_rests (Block c) e m = by (eqb m as_drawn) (one_kid ns i e c refl)
      where
        by : (b : Bool) → Kid (shape ns) i c → Rests ns i (cond b (standing.Block c) (only c Undoing))
        by true k = k
        by false k = k
    stand_drawn_rests (Pair t) e m = tt
    stand_drawn_rests (Compensable o t) e m = tt
    stand_drawn_rests (Paired b) e m = tt
    stand_drawn_rests Unknown e m = tt

    stand_undoing_rests : (n : Node) → node ns i ≡ n → (m : ℕ) → Rests ns i (stand_undoing n m)
    unfolding stand_undoing
    stand_undoing_rests (Event x) e m = tt
    stand_undoing_rests (Basic b) e m = tt
    stand_undoing_rests (Standard o t) e m = tt
    stand_undoing_rests (Handler t) e m = tt
    stand_undoing_rests (Block c) e m = tt
    stand_undoing_rests (Pair t) e m = by (eqb m left_second) (twins e t refl)
      where
        by : (b : Bool) → Twins ns i t → Rests ns i (cond b (only t.second Drawn) (standing.Basic Skip))
        by true w = w.other
        by false w = tt
    stand_undoing_rests (Compensable o t) e m = undoing_rests o t m (twins e t refl)
    stand_undoing_rests (Paired b) e m = tt
    stand_undoing_rests Unknown e m = tt

    pub stand_rests : (s : Sense) (m : ℕ) → Rests ns i (stand s (node ns i) m)
    unfolding stand
    stand_rests Drawn m = stand_drawn_rests (node ns i) refl m
    stand_rests Undoing m = stand_undoing_rests (node ns i) refl m

    course_rests_at : (n : Node) → node ns i ≡ n → (m : ℕ) → CRests ns i (course_of n m)
    unfolding course_of
    course_rests_at (Event x) e m = tt
    course_rests_at (Basic b) e m = tt
    course_rests_at (Standard o t) e m = tt
    course_rests_at (Handler t) e m = tt
    course_rests_at (Block c) e m = tt
    course_rests_at (Pair t) e m = twins e t refl
    course_rests_at (Compensable o t) e m = course_rests_two o t m (twins e t refl)
    course_rests_at (Paired b) e m = tt
    course_rests_at Unknown e m = tt

    pub course_rests : (m : ℕ) → CRests ns i (course_of (node ns i) m)
    course_rests m = course_rests_at (node ns i) refl m

-- and so they are lower
module _ (ns : List ℕ) (i : ℕ) (tree : Tree (shape ns)) where
  twins_lower : {t : Two} → Twins ns i t → (t.first < i) × (t.second < i)
  twins_lower {t} w = (tree.lower i t.first w.one, tree.lower i t.second w.other)

  rests_lower : (x : Standing) → Rests ns i x → Lower i x
  rests_lower (standing.Event e) w = tt
  rests_lower (standing.Basic b) w = tt
  rests_lower (standing.Both o t) w = twins_lower w
  rests_lower (standing.Handler t) w = twins_lower w
  rests_lower (standing.Block c) w = tree.lower i c w
  rests_lower (standing.As x) w = tree.lower i x.node w

  crests_lower : (x : Course) → CRests ns i x → CLower i x
  crests_lower (course.Basic b) w = tt
  crests_lower (course.Pair t) w = twins_lower w
  crests_lower (course.Both o t) w = twins_lower w
  crests_lower (course.Held t) w = twins_lower w
  crests_lower (course.As c) w = tree.lower i c w

  pub stand_lower : (s : Sense) (m : ℕ) → Lower i (stand s (node ns i) m)
  stand_lower s m = rests_lower (stand s (node ns i) m) (stand_rests ns i tree s m)

  pub course_lower : (m : ℕ) → CLower i (course_of (node ns i) m)
  course_lower m = crests_lower (course_of (node ns i) m) (course_rests ns i tree m)
