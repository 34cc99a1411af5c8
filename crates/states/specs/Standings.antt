-- What is left of a part in a state, by its node and its mode: the one definition of which parts are live. `stand` of a standard
-- part, drawn or a compensation; `course_of` of a compensable part that runs. All modes `as_drawn` is the flow as drawn.
-- Definitions only. Assumes nothing.
use Rattle.std.specs.Prelude.{ℕ, cond, eqb}
use Rattle.flow.specs.declared.Simple.TheVariants.{Skip}
use Rattle.flow.specs.declared.Operator.{Operator}
use Rattle.flow.specs.declared.Operator.TheVariants.{Sequence, Choice, Parallel}
use Rattle.flow.specs.declared.Two.{Two}
use Rattle.flow.specs.declared.Node.{Node}
use Rattle.flow.specs.declared.Node.TheVariants.{Event, Basic, Standard, Handler, Block, Pair, Compensable, Paired, Unknown}
use Rattle.flow.specs.Kinds.{two}
use Rattle.states.specs.declared.Sense.{Sense}
use Rattle.states.specs.declared.Sense.TheVariants.{Drawn, Undoing}
use Rattle.states.specs.declared.Standing.{Standing}
use Rattle.states.specs.declared.Standing.TheVariants as standing
use Rattle.states.specs.declared.Course.{Course}
use Rattle.states.specs.declared.Course.TheVariants as course

-- the modes, by what a node is; all parts of a flow that is drawn have the first
abbrev pub as_drawn : ℕ
as_drawn = 0

-- an event has been taken
abbrev pub event_taken : ℕ
event_taken = 1

-- P;Q and the handler have gone on to their second part
abbrev pub moved_on : ℕ
moved_on = 1

-- a choice has been made
abbrev pub first_taken : ℕ
first_taken = 1

abbrev pub second_taken : ℕ
second_taken = 2

-- a block is undoing what was done in it
abbrev pub compensating : ℕ
compensating = 1

-- a pair has left its second part to be done, or nothing
abbrev pub left_second : ℕ
left_second = 1

abbrev pub left_nothing : ℕ
left_nothing = 2

-- PP;QQ holds PP's compensation; it has left PP's only; it has left QQ's and then PP's
abbrev pub holding : ℕ
holding = 1

abbrev pub left_first : ℕ
left_first = 2

abbrev pub left_both : ℕ
left_both = 3

abbrev pub only : ℕ → Sense → Standing
only node sense = standing.As (record { node = node; sense = sense })

unfoldable pub drawn_two : Operator → Two → ℕ → Standing
drawn_two Sequence t m = cond (eqb m as_drawn) (standing.Both Sequence t) (only t.second Drawn)
drawn_two Choice t m = cond (eqb m as_drawn) (standing.Both Choice t) (cond (eqb m first_taken) (only t.first Drawn) (only t.second Drawn))
drawn_two (Parallel k) t m = standing.Both (Parallel k) t

unfoldable pub stand_drawn : Node → ℕ → Standing
stand_drawn (Event e) m = cond (eqb m as_drawn) (standing.Event e) (standing.Basic Skip)
stand_drawn (Basic b) m = standing.Basic b
stand_drawn (Standard o t) m = drawn_two o t m
stand_drawn (Handler t) m = cond (eqb m as_drawn) (standing.Handler t) (only t.second Drawn)
stand_drawn (Block c) m = cond (eqb m as_drawn) (standing.Block c) (only c Undoing)
stand_drawn (Pair t) m = standing.Basic Skip
stand_drawn (Compensable o t) m = standing.Basic Skip
stand_drawn (Paired b) m = standing.Basic Skip
stand_drawn Unknown m = standing.Basic Skip

-- 01: "QQ's first and then R"
unfoldable pub undoing_two : Operator → Two → ℕ → Standing
undoing_two Sequence t m = cond (eqb m left_first) (only t.first Undoing) (standing.Both Sequence (two t.second t.first))
undoing_two Choice t m = cond (eqb m first_taken) (only t.first Undoing) (only t.second Undoing)
undoing_two (Parallel k) t m = standing.Both (Parallel k) t

unfoldable pub stand_undoing : Node → ℕ → Standing
stand_undoing (Event e) m = standing.Basic Skip
stand_undoing (Basic b) m = standing.Basic Skip
stand_undoing (Standard o t) m = standing.Basic Skip
stand_undoing (Handler t) m = standing.Basic Skip
stand_undoing (Block c) m = standing.Basic Skip
stand_undoing (Pair t) m = cond (eqb m left_second) (only t.second Drawn) (standing.Basic Skip)
stand_undoing (Compensable o t) m = undoing_two o t m
stand_undoing (Paired b) m = standing.Basic Skip
stand_undoing Unknown m = standing.Basic Skip

unfoldable pub stand : Sense → Node → ℕ → Standing
stand Drawn n m = stand_drawn n m
stand Undoing n m = stand_undoing n m

unfoldable pub course_two : Operator → Two → ℕ → Course
course_two Sequence t m = cond (eqb m as_drawn) (course.Both Sequence t) (course.Held t)
course_two Choice t m = cond (eqb m as_drawn) (course.Both Choice t) (cond (eqb m first_taken) (course.As t.first) (course.As t.second))
course_two (Parallel k) t m = course.Both (Parallel k) t

unfoldable pub course_of : Node → ℕ → Course
course_of (Event e) m = course.Basic Skip
course_of (Basic b) m = course.Basic Skip
course_of (Standard o t) m = course.Basic Skip
course_of (Handler t) m = course.Basic Skip
course_of (Block c) m = course.Basic Skip
course_of (Pair t) m = course.Pair t
course_of (Compensable o t) m = course_two o t m
course_of (Paired b) m = course.Basic b
course_of Unknown m = course.Basic Skip
