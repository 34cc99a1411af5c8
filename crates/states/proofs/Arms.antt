-- What `stand` and `course_of` are on each arm of the code that decodes a node and its mode. Assumes nothing.
use Prim.Native.Nat.{ℕ}
use mathlib.Core.Path.{◌≡◌, refl}
use mathlib.Core.Logic.{◌≢◌}
use borrow.Author.Tests.{eq-eqb, ne_eqb}
use Rattle.flow.specs.declared.Simple.{Simple}
use Rattle.flow.specs.declared.Simple.TheVariants.{Skip}
use Rattle.flow.specs.declared.Operator.{Operator}
use Rattle.flow.specs.declared.Operator.TheVariants.{Sequence, Choice, Parallel}
use Rattle.flow.specs.declared.Two.{Two}
use Rattle.flow.specs.declared.Node.{Node}
use Rattle.flow.specs.declared.Node.TheVariants.{Event, Basic, Standard, Handler, Block, Pair, Compensable, Paired, Unknown}
use Rattle.states.specs.declared.Standing.TheVariants as standing
use Rattle.states.specs.declared.Course.TheVariants as course
use Rattle.states.specs.Standings.{as_drawn, drawn_two, stand_drawn, stand_undoing, course_two, course_of}

-- a node that is none of those with an arm of its own
pub other_drawn : (n : Node) → ((e : ℕ) → n ≡ Event e → ⊥) → ((b : Simple) → n ≡ Basic b → ⊥) → ((o : Operator) → (t : Two) → n ≡ Standard o t → ⊥) → ((t : Two) → n ≡ Handler t → ⊥) → ((c : ℕ) → n ≡ Block c → ⊥) → standing.Basic Skip ≡ stand_drawn n as_drawn
unfolding stand_drawn
other_drawn (Event e) x0 x1 x2 x3 x4 = absurd (x0 e refl)
other_drawn (Basic b) x0 x1 x2 x3 x4 = absurd (x1 b refl)
other_drawn (Standard o t) x0 x1 x2 x3 x4 = absurd (x2 o t refl)
other_drawn (Handler t) x0 x1 x2 x3 x4 = absurd (x3 t refl)
other_drawn (Block c) x0 x1 x2 x3 x4 = absurd (x4 c refl)
other_drawn (Pair t) x0 x1 x2 x3 x4 = refl
other_drawn (Compensable o t) x0 x1 x2 x3 x4 = refl
other_drawn (Paired b) x0 x1 x2 x3 x4 = refl
other_drawn Unknown x0 x1 x2 x3 x4 = refl

pub other_moved : (n : Node) (m : ℕ) → m ≢ as_drawn → ((b : Simple) → n ≡ Basic b → ⊥) → ((o : Operator) → (t : Two) → n ≡ Standard o t → ⊥) → ((t : Two) → n ≡ Handler t → ⊥) → ((c : ℕ) → n ≡ Block c → ⊥) → standing.Basic Skip ≡ stand_drawn n m
unfolding stand_drawn
other_moved (Event e) m d x0 x1 x2 x3 = rw (ne_eqb m as_drawn d)
other_moved (Basic b) m d x0 x1 x2 x3 = absurd (x0 b refl)
other_moved (Standard o t) m d x0 x1 x2 x3 = absurd (x1 o t refl)
other_moved (Handler t) m d x0 x1 x2 x3 = absurd (x2 t refl)
other_moved (Block c) m d x0 x1 x2 x3 = absurd (x3 c refl)
other_moved (Pair t) m d x0 x1 x2 x3 = refl
other_moved (Compensable o t) m d x0 x1 x2 x3 = refl
other_moved (Paired b) m d x0 x1 x2 x3 = refl
other_moved Unknown m d x0 x1 x2 x3 = refl

pub other_undoing : (n : Node) (m : ℕ) → ((t : Two) → n ≡ Pair t → ⊥) → ((o : Operator) → (t : Two) → n ≡ Compensable o t → ⊥) → standing.Basic Skip ≡ stand_undoing n m
unfolding stand_undoing
other_undoing (Event e) m x0 x1 = refl
other_undoing (Basic b) m x0 x1 = refl
other_undoing (Standard o t) m x0 x1 = refl
other_undoing (Handler t) m x0 x1 = refl
other_undoing (Block c) m x0 x1 = refl
other_undoing (Pair t) m x0 x1 = absurd (x0 t refl)
other_undoing (Compensable o t) m x0 x1 = absurd (x1 o t refl)
other_undoing (Paired b) m x0 x1 = refl
other_undoing Unknown m x0 x1 = refl

pub other_course : (n : Node) (m : ℕ) → ((t : Two) → n ≡ Pair t → ⊥) → ((o : Operator) → (t : Two) → n ≡ Compensable o t → ⊥) → ((b : Simple) → n ≡ Paired b → ⊥) → course.Basic Skip ≡ course_of n m
unfolding course_of
other_course (Event e) m x0 x1 x2 = refl
other_course (Basic b) m x0 x1 x2 = refl
other_course (Standard o t) m x0 x1 x2 = refl
other_course (Handler t) m x0 x1 x2 = refl
other_course (Block c) m x0 x1 x2 = refl
other_course (Pair t) m x0 x1 x2 = absurd (x0 t refl)
other_course (Compensable o t) m x0 x1 x2 = absurd (x1 o t refl)
other_course (Paired b) m x0 x1 x2 = absurd (x2 b refl)
other_course Unknown m x0 x1 x2 = refl

-- two parts as drawn
pub both_drawn : (o : Operator) (t : Two) {m : ℕ} → m ≡ 0 → standing.Both o t ≡ drawn_two o t m
unfolding drawn_two
both_drawn Sequence t {m} e = rw (eq-eqb m 0 e) refl
both_drawn Choice t {m} e = rw (eq-eqb m 0 e) refl
both_drawn (Parallel k) t e = refl

pub both_course : (o : Operator) (t : Two) {m : ℕ} → m ≡ 0 → course.Both o t ≡ course_two o t m
unfolding course_two
both_course Sequence t {m} e = rw (eq-eqb m 0 e) refl
both_course Choice t {m} e = rw (eq-eqb m 0 e) refl
both_course (Parallel k) t e = refl
