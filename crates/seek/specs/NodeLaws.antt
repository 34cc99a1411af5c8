-- A node of a known course: its term, its live parts, and what it is once it has become its compensation; and what a search in a
-- child of a node that got a mode leaves of the node, of the other child and outside. Theorems only. Assumes nothing.
use Rattle.std.specs.Prelude.{ℕ, ◌<◌, ◌≡◌, refl, Bool, true, false, cond, List, eqb, set}
use Rattle.std.proofs.Common.{◌∙◌, ap, subst}
use Rattle.calculus.specs.Term.{Closing, Std, Cmp}
use Rattle.calculus.specs.Successors.{comps}
use Rattle.flow.specs.declared.Operator.{Operator}
use Rattle.flow.specs.declared.Operator.TheVariants.{Sequence, Choice, Parallel}
use Rattle.flow.specs.declared.Two.{Two}
use Rattle.flow.specs.declared.Simple.TheVariants.{Skip}
use Rattle.flow.specs.declared.Node.{Node}
use Rattle.flow.specs.declared.Node.TheVariants.{Event, Basic, Standard, Handler, Block, Pair, Compensable, Paired, Unknown}
use Rattle.flow.specs.Kinds.{node, shape}
use Rattle.flow.specs.Shapes.{Kid}
use Rattle.flow.specs.Trees.{Under, Tree}
use Rattle.tallies.specs.Capped.{cap}
use Rattle.tallies.specs.Counts.{sum_of, weight}
use Rattle.tallies.specs.Sought.{Sought}
use Rattle.tallies.specs.declared.Weight.{Weight}
use Rattle.states.specs.declared.Sense.TheVariants.{Undoing}
use Rattle.states.specs.declared.Standing.TheVariants as standing
use Rattle.states.specs.declared.Course.{Course}
use Rattle.states.specs.declared.Course.TheVariants as course
use Rattle.states.specs.declared.Picked.{Picked}
use Rattle.states.specs.Standings.{as_drawn, first_taken, only, stand, stand_undoing, undoing_two, course_two, course_of}
use Rattle.states.specs.State.{std_of, run_of, part, modes}
use Rattle.states.specs.StateLaws.{std_part, run_part}
use Rattle.states.specs.LiveParts.{CRests}
use Rattle.states.specs.Rests.{course_rests}
use Rattle.states.specs.Clauses.{Spot, Kept, Sets, scene, Ask, Chosen}
use Rattle.states.specs.ChildLaws.{set_sets, same_part, mode_after, kept_up, beside_part}
use Rattle.seek.specs.Asked.{course_at, runs, left, Picks}

-- A node by its course --------------------------------------------------------------------------------------------------------

-- which node it is; of one that is SKIP, or a choice already made, what it becomes
abbrev pub NodeBy : Node → ℕ → Course → Type 0
NodeBy n m (course.Basic b) = (k : ℕ) → stand Undoing n k ≡ standing.Basic Skip
NodeBy n m (course.Pair t) = n ≡ Pair t
NodeBy n m (course.Both o t) = n ≡ Compensable o t
NodeBy n m (course.Held t) = n ≡ Compensable Sequence t
NodeBy n m (course.As c) = stand Undoing n m ≡ only c Undoing

by_operator : (o : Operator) (t : Two) (m : ℕ) → NodeBy (Compensable o t) m (course_two o t m)
unfolding course_two stand stand_undoing undoing_two
by_operator Sequence t m = by (eqb m as_drawn)
  where
    by : (b : Bool) → NodeBy (Compensable Sequence t) m (cond b (course.Both Sequence t) (course.Held t))
    by true = refl
    by false = refl
by_operator Choice t m = by (eqb m as_drawn) (eqb m first_taken) refl
  where
    by : (b d : Bool) → eqb m first_taken ≡ d → NodeBy (Compensable Choice t) m (cond b (course.Both Choice t) (cond d (course.As t.first) (course.As t.second)))
    by true d e = refl
    by false true e = ap (λ d. cond d (only t.first Undoing) (only t.second Undoing)) e
    by false false e = ap (λ d. cond d (only t.first Undoing) (only t.second Undoing)) e
by_operator (Parallel n) t m = refl

by_course : (n : Node) (m : ℕ) → NodeBy n m (course_of n m)
unfolding course_of stand stand_undoing
by_course (Event e) m = λ k. refl
by_course (Basic b) m = λ k. refl
by_course (Standard o t) m = λ k. refl
by_course (Handler t) m = λ k. refl
by_course (Block c) m = λ k. refl
by_course (Pair t) m = refl
by_course (Compensable o t) m = by_operator o t m
by_course (Paired b) m = λ k. refl
by_course Unknown m = λ k. refl

module _ {ns t : List ℕ} {i : ℕ} (spot : Spot ns t i) {x : Course} (e : course_at ns t i ≡ x) where
  pub course_runs : runs ns t i ≡ run_of x (part ns (modes t))
  course_runs = run_part ns spot.node.sound.tree (modes t) i ∙ ap (λ x. run_of x (part ns (modes t))) e

  pub course_kids : CRests ns i x
  course_kids = subst (CRests ns i) e (course_rests ns i spot.node.sound.tree (modes t i))

  pub course_node : NodeBy (node ns i) (modes t i) x
  course_node = subst (NodeBy (node ns i) (modes t i)) e (by_course (node ns i) (modes t i))

-- what a node has become, by the mode that it got
pub left_is : (ns t : List ℕ) (i : ℕ) → Tree (shape ns) → {n : Node} {m : ℕ} → node ns i ≡ n → modes t i ≡ m → left ns t i ≡ std_of (stand Undoing n m) Undoing (part ns (modes t))
left_is ns t i tree e d = std_part ns tree (modes t) i Undoing ∙ (λ z. std_of (stand Undoing (e z) (d z)) Undoing (part ns (modes t)))

-- A search in the same terms -----------------------------------------------------------------------------------------------------

module _ (a : ℕ) (g : Weight) {pp qq : Cmp} (w : Closing) {j : ℕ} (e : pp ≡ qq) where
  pub room_is : j < cap (sum_of (weight a g) (comps pp w)) → j < cap (sum_of (weight a g) (comps qq w))
  room_is h = rw e at h

  pub sought_is : {k l : Std} {r n : ℕ} {b : Bool} → k ≡ l → Sought a g (comps pp w) j k r n b → Sought a g (comps qq w) j l r n b
  sought_is {k} {r} {n} {b} d s = subst (λ l. Sought a g (comps qq w) j l r n b) d (subst (λ pp. Sought a g (comps pp w) j k r n b) e s)

-- A child is sought in, and the node has got the mode m -------------------------------------------------------------------------

module _ {ns t : List ℕ} {a i : ℕ} (m : ℕ) {c : ℕ} {q : Ask} {t' : List ℕ} {p : Picked} (spot : Spot ns t i) (kid : Kid (shape ns) i c) (h : Chosen (scene ns (set t i m) a) c q t' p) where
  sets : Sets t i m (set t i m)
  sets = set_sets spot.room refl

  pub marked_picks : Picks a q (comps (runs ns t c) q.closing) (left ns t' c) p
  marked_picks = sought_is a q.weight q.closing (ap (λ p. p.run) (same_part ns spot.node.sound.tree kid sets)) refl h.sought

  pub marked_mode : modes t' i ≡ m
  marked_mode = mode_after ns spot.node.sound.tree kid sets t' h.kept

  pub marked_kept : Kept ns i (modes t) (modes t')
  marked_kept = kept_up ns spot.node.sound.tree kid sets t' h.kept

  pub marked_beside : {s : ℕ} → Kid (shape ns) i s → ((j : ℕ) → Under (shape ns) c j → Under (shape ns) s j → ⊥) → part ns (modes t') s ≡ part ns (modes t) s
  marked_beside other free = beside_part ns spot.node.sound.tree kid sets t' h.kept other free
