-- What a state means: a state keeps one number a node, its mode, and the drawn table; from both come the term of each node as a
-- standard part, drawn or a compensation, and as a compensable part that runs. Definitions only; their laws are in StateLaws.
-- Assumes nothing.
use Rattle.std.specs.Prelude.{ℕ, List, get_or}
use Rattle.calculus.specs.Term.{Std, Cmp, skip, ev, hnd, blk, pair, held, skipp}
use Rattle.flow.specs.declared.Node.{Node}
use Rattle.flow.specs.Trees.{descend}
use Rattle.flow.specs.Cues.{cued_leaf, cued}
use Rattle.flow.specs.Kinds.{node, basic, paired, standard, compensable}
use Rattle.states.specs.declared.Sense.{Sense}
use Rattle.states.specs.declared.Sense.TheVariants.{Drawn, Undoing}
use Rattle.states.specs.declared.Standing.{Standing}
use Rattle.states.specs.declared.Standing.TheVariants as standing
use Rattle.states.specs.declared.Course.{Course}
use Rattle.states.specs.declared.Course.TheVariants as course
use Rattle.states.specs.Standings.{stand, course_of}

-- the terms of a node
pub record Part : Type 0 where
  pub std : Sense → Std
  pub run : Cmp

abbrev pub nothing : Part
nothing = record { std = λ s. skip; run = skipp }

-- what the nodes stand for is `at`
unfoldable pub std_of : Standing → Sense → (ℕ → Part) → Std
std_of (standing.Event e) s at = ev (cued_leaf e)
std_of (standing.Basic b) s at = basic b
std_of (standing.Both o t) s at = standard cued.sets o ((at t.first).std s) ((at t.second).std s)
std_of (standing.Handler t) s at = hnd ((at t.first).std s) ((at t.second).std s)
std_of (standing.Block c) s at = blk (at c).run
std_of (standing.As x) s at = (at x.node).std x.sense

unfoldable pub run_of : Course → (ℕ → Part) → Cmp
run_of (course.Basic b) at = paired b
run_of (course.Pair t) at = pair ((at t.first).std Drawn) ((at t.second).std Drawn)
run_of (course.Both o t) at = compensable cued.sets o (at t.first).run (at t.second).run
run_of (course.Held t) at = held (at t.second).run ((at t.first).std Undoing)
run_of (course.As c) at = (at c).run

unfoldable pub build : Node → ℕ → (ℕ → Part) → Part
build n m at = record { std = λ s. std_of (stand s n m) s at; run = run_of (course_of n m) at }

-- the part of node i, by the modes m
unfoldable pub part : List ℕ → (ℕ → ℕ) → ℕ → Part
part ns m i = descend nothing (λ j at. build (node ns j) (m j) at) i

-- the modes that a stretch of the work bytes holds: node j's at byte j
abbrev pub modes : List ℕ → ℕ → ℕ
modes t j = get_or t j 0

-- an array of counts, one a node
abbrev pub counts : List ℕ → ℕ → ℕ
counts c j = get_or c j 0
