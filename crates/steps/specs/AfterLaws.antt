-- What is left of a part after its mode has been set for a step: of a choice the part that was taken, of a sequence and of a handler
-- that have gone on the second part, of a block that is left, which is drawn, a compensation. Assumes nothing.
use Rattle.std.specs.Prelude.{ℕ, ◌≡◌, refl, Bool, true, false, cond, eqb}
use Rattle.flow.specs.declared.Simple.TheVariants.{Skip}
use Rattle.flow.specs.declared.Operator.TheVariants.{Sequence, Choice, Parallel}
use Rattle.flow.specs.declared.Node.{Node}
use Rattle.flow.specs.declared.Node.TheVariants.{Event, Basic, Standard, Handler, Block, Pair, Compensable, Paired, Unknown}
use Rattle.flow.specs.Kinds.{two}
use Rattle.states.specs.declared.Sense.{Sense}
use Rattle.states.specs.declared.Sense.TheVariants.{Drawn, Undoing}
use Rattle.states.specs.declared.Standing.{Standing}
use Rattle.states.specs.declared.Standing.TheVariants as standing
use Rattle.states.specs.declared.Course.{Course}
use Rattle.states.specs.declared.Course.TheVariants as course
use Rattle.states.specs.Standings.{as_drawn, event_taken, moved_on, first_taken, second_taken, compensating, left_second, holding, left_first, only, drawn_two, stand_drawn, undoing_two, stand_undoing, stand, course_two, course_of}
use Rattle.states.specs.Hands.{gone}

module _ (s : Sense) (n : Node) where
  abbrev pub After : Standing → Type 0
  After (standing.Event e) = stand s n event_taken ≡ standing.Basic Skip
  After (standing.Basic b) = Unit {0}
  After (standing.Both Sequence t) = stand s n (gone s) ≡ only t.second s
  After (standing.Both Choice t) = (stand s n first_taken ≡ only t.first s) × (stand s n second_taken ≡ only t.second s)
  After (standing.Both (Parallel k) t) = Unit {0}
  After (standing.Handler t) = stand s n moved_on ≡ only t.second s
  After (standing.Block c) = (s ≡ Drawn) × (stand s n compensating ≡ only c Undoing)
  After (standing.As x) = Unit {0}

module _ (n : Node) where
  abbrev pub CAfter : Course → Type 0
  CAfter (course.Basic b) = Unit {0}
  CAfter (course.Pair t) = Unit {0}
  CAfter (course.Both Sequence t) = course_of n holding ≡ course.Held t
  CAfter (course.Both Choice t) = (course_of n first_taken ≡ course.As t.first) × (course_of n second_taken ≡ course.As t.second)
  CAfter (course.Both (Parallel k) t) = Unit {0}
  CAfter (course.Held t) = Unit {0}
  CAfter (course.As c) = Unit {0}

drawn_after : (n : Node) (m : ℕ) → After Drawn n (stand_drawn n m)
unfolding stand stand_drawn drawn_two
drawn_after (Event x) m = by (eqb m as_drawn)
  where
    by : (b : Bool) → After Drawn (Event x) (cond b (standing.Event x) (standing.Basic Skip))
    by true = refl
    by false = tt
drawn_after (Basic b) m = tt
drawn_after (Standard Sequence t) m = by (eqb m as_drawn)
  where
    by : (b : Bool) → After Drawn (Standard Sequence t) (cond b (standing.Both Sequence t) (only t.second Drawn))
    by true = refl
    by false = tt
drawn_after (Standard Choice t) m = by (eqb m as_drawn) (eqb m first_taken)
  where
    by : (b d : Bool) → After Drawn (Standard Choice t) (cond b (standing.Both Choice t) (cond d (only t.first Drawn) (only t.second Drawn)))
    by true d = (refl, refl)
    by false true = tt
    by false false = tt
drawn_after (Standard (Parallel k) t) m = tt
drawn_after (Handler t) m = by (eqb m as_drawn)
  where
    by : (b : Bool) → After Drawn (Handler t) (cond b (standing.Handler t) (only t.second Drawn))
    by true = refl
    by false = tt
drawn_after (Block c) m = by (eqb m as_drawn)
  where
    by : (b : Bool) → After Drawn (Block c) (cond b (standing.Block c) (only c Undoing))
    by true = (refl, refl)
    by false = tt
drawn_after (Pair t) m = tt
drawn_after (Compensable o t) m = tt
drawn_after (Paired b) m = tt
drawn_after Unknown m = tt

undoing_after : (n : Node) (m : ℕ) → After Undoing n (stand_undoing n m)
unfolding stand stand_undoing undoing_two
undoing_after (Event x) m = tt
undoing_after (Basic b) m = tt
undoing_after (Standard o t) m = tt
undoing_after (Handler t) m = tt
undoing_after (Block c) m = tt
undoing_after (Pair t) m = by (eqb m left_second)
  where
    by : (b : Bool) → After Undoing (Pair t) (cond b (only t.second Drawn) (standing.Basic Skip))
    by true = tt
    by false = tt
undoing_after (Compensable Sequence t) m = by (eqb m left_first)
  where
    by : (b : Bool) → After Undoing (Compensable Sequence t) (cond b (only t.first Undoing) (standing.Both Sequence (two t.second t.first)))
    by true = tt
    by false = refl
undoing_after (Compensable Choice t) m = by (eqb m first_taken)
  where
    by : (b : Bool) → After Undoing (Compensable Choice t) (cond b (only t.first Undoing) (only t.second Undoing))
    by true = tt
    by false = tt
undoing_after (Compensable (Parallel k) t) m = tt
undoing_after (Paired b) m = tt
undoing_after Unknown m = tt

pub stand_after : (s : Sense) (n : Node) (m : ℕ) → After s n (stand s n m)
unfolding stand
stand_after Drawn n m = drawn_after n m
stand_after Undoing n m = undoing_after n m

pub course_after : (n : Node) (m : ℕ) → CAfter n (course_of n m)
unfolding course_of course_two
course_after (Event x) m = tt
course_after (Basic b) m = tt
course_after (Standard o t) m = tt
course_after (Handler t) m = tt
course_after (Block c) m = tt
course_after (Pair t) m = tt
course_after (Compensable Sequence t) m = by (eqb m as_drawn)
  where
    by : (b : Bool) → CAfter (Compensable Sequence t) (cond b (course.Both Sequence t) (course.Held t))
    by true = refl
    by false = tt
course_after (Compensable Choice t) m = by (eqb m as_drawn) (eqb m first_taken)
  where
    by : (b d : Bool) → CAfter (Compensable Choice t) (cond b (course.Both Choice t) (cond d (course.As t.first) (course.As t.second)))
    by true d = (refl, refl)
    by false true = tt
    by false false = tt
course_after (Compensable (Parallel k) t) m = tt
course_after (Paired b) m = tt
course_after Unknown m = tt
