-- Whether what a pass over a state has left in its tables is right: how many steps a live part has by the cue a, capped, and of one that
-- runs what weights look at. Only what is looked at when a successor is made has to be. Definitions only. Assumes nothing.
use Rattle.std.specs.Prelude.{ℕ, Bool, true, false, ◌&&◌, cond, List, eqb, length}
use Rattle.calculus.specs.Term.{done, Std, skip, pair}
use Rattle.calculus.specs.Successors.{steps, csteps, ends}
use Rattle.flow.specs.declared.Node.{Node}
use Rattle.flow.specs.Trees.{descend}
use Rattle.flow.specs.Kinds.{node}
use Rattle.tallies.specs.Capped.{cap}
use Rattle.tallies.specs.declared.Word.{Word}
use Rattle.tallies.specs.Counts.{word}
use Rattle.states.specs.declared.Sense.{Sense}
use Rattle.states.specs.declared.Sense.TheVariants.{Drawn, Undoing}
use Rattle.states.specs.declared.Standing.{Standing}
use Rattle.states.specs.declared.Standing.TheVariants as standing
use Rattle.states.specs.declared.Course.{Course}
use Rattle.states.specs.declared.Course.TheVariants as course
use Rattle.states.specs.Standings.{stand, course_of}
use Rattle.states.specs.State.{part}
use Rattle.states.specs.Rows.{same_row, Entry}

-- whether what is looked at of a node is right, by what it is live as: a standard part, one that runs, a compensation that is held
pub record Right : Type 0 where
  pub std : Sense → Bool
  pub run : Bool
  pub held : Bool

abbrev pub wrong : Right
wrong = record { std = λ s. false; run = false; held = false }

-- both are
abbrev pub together : Right → Right → Right
together x y = record { std = λ s. x.std s && y.std s; run = x.run && y.run; held = x.held && y.held }

-- Of two live parts, and of the inside of a block, the own entry is looked at too (`noted`); of one that is live in place of another
-- only what is under it (`at`).
unfoldable pub std_right : Standing → Sense → (ℕ → Right) → (ℕ → Right) → Bool
std_right (standing.Event e) s noted at = true
std_right (standing.Basic b) s noted at = true
std_right (standing.Both o t) s noted at = (noted t.first).std s && (noted t.second).std s
std_right (standing.Handler t) s noted at = (noted t.first).std s && (noted t.second).std s
std_right (standing.Block c) s noted at = (noted c).run
std_right (standing.As x) s noted at = (at x.node).std x.sense

-- The second part of a pair is looked at only where the first can end done (`over`); what is held, once it is chosen.
unfoldable pub run_right : Course → (ℕ → Bool) → (ℕ → Right) → (ℕ → Right) → Bool
run_right (course.Basic b) over noted at = true
run_right (course.Pair t) over noted at = (at t.first).std Drawn && cond (over t.first) ((noted t.second).std Drawn) true
run_right (course.Both o t) over noted at = (noted t.first).run && (noted t.second).run
run_right (course.Held t) over noted at = (noted t.first).held && (noted t.second).run
run_right (course.As c) over noted at = (noted c).run

unfoldable pub right : Node → ℕ → (ℕ → Bool) → (ℕ → Right) → (ℕ → Right) → Right
right n m over noted at = record {
  std = λ s. std_right (stand s n m) s noted at;
  run = run_right (course_of n m) over noted at;
  held = std_right (stand Undoing n m) Undoing noted at;
}

-- a compensation k that is held is kept as the one of SKIP÷k
abbrev pub held_word : ℕ → Std → Word
held_word a k = word a (pair skip k)

module _ (ns : List ℕ) (a : ℕ) (m : ℕ → ℕ) where
  -- whether a drawn part can end done
  abbrev pub over : ℕ → Bool
  over j = ends ((part ns m j).std Drawn) done

  module _ (c : ℕ → Entry) where
    -- the number of steps kept of node j is that of its part, and the row too
    abbrev pub counted_std : Sense → ℕ → Bool
    counted_std s j = eqb (c j).steps (cap (length (steps ((part ns m j).std s) a)))

    unfoldable pub own : ℕ → Right
    own j = record {
      std = λ s. counted_std s j;
      run = eqb (c j).steps (cap (length (csteps (part ns m j).run a))) && same_row (c j).row (word a (part ns m j).run);
      held = counted_std Undoing j && same_row (c j).row (held_word a ((part ns m j).std Undoing));
    }

    -- what is looked at below node i
    unfoldable pub stored : ℕ → Right
    stored i = descend wrong (λ j at. right (node ns j) (m j) over (λ k. together (own k) (at k)) at) i

    -- and its own entry
    abbrev pub noted : ℕ → Right
    noted i = together (own i) (stored i)
