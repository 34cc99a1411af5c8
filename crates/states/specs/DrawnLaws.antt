-- A state in which every mode is `as_drawn` is the flow as drawn: what a table draws is the part of each node there. Assumes nothing.
use Rattle.std.specs.Prelude.{ℕ, ◌≡◌, refl, List}
use Rattle.std.proofs.Common.{◌∙◌}
use Rattle.std.proofs.Math.Path.{ap}
use Rattle.calculus.specs.Term.{hnd, blk, pair}
use Rattle.calculus.specs.Records.{State, over, std, cmp}
use Rattle.flow.specs.declared.Operator.{Operator}
use Rattle.flow.specs.declared.Operator.TheVariants.{Sequence, Choice, Parallel}
use Rattle.flow.specs.declared.Two.{Two}
use Rattle.flow.specs.declared.Node.{Node}
use Rattle.flow.specs.Trees.{Tree}
use Rattle.flow.specs.Cues.{cued}
use Rattle.flow.specs.Kinds.{node, shape, standard, compensable}
use Rattle.flow.specs.Draws.{Draws, at_event, at_basic, at_standard, at_handler, at_block, at_pair, at_compensable, at_paired}
use Rattle.states.specs.declared.Sense.TheVariants.{Drawn}
use Rattle.states.specs.declared.Standing.TheVariants as standing
use Rattle.states.specs.declared.Course.TheVariants as course
use Rattle.states.specs.Standings.{as_drawn, drawn_two, stand_drawn, stand, course_two, course_of}
use Rattle.states.specs.State.{Part, std_of, run_of, part}
use Rattle.states.specs.StateLaws.{std_part, run_part}

abbrev pub none_done : ℕ → ℕ
none_done j = as_drawn

-- the part is the state's, in its sort's role
abbrev pub Means : State → Part → Type 0
Means over x = ⊥
Means (std p) x = x.std Drawn ≡ p
Means (cmp pp) x = x.run ≡ pp

both_drawn : (o : Operator) (t : Two) → drawn_two o t as_drawn ≡ standing.Both o t
unfolding drawn_two
both_drawn Sequence t = refl
both_drawn Choice t = refl
both_drawn (Parallel k) t = refl

both_runs : (o : Operator) (t : Two) → course_two o t as_drawn ≡ course.Both o t
unfolding course_two
both_runs Sequence t = refl
both_runs Choice t = refl
both_runs (Parallel k) t = refl

module _ (ns : List ℕ) (tree : Tree (shape ns)) where
  abbrev at : ℕ → Part
  at i = part ns none_done i

  standard_at : {n : Node} (i : ℕ) → node ns i ≡ n → (at i).std Drawn ≡ std_of (stand Drawn n as_drawn) Drawn at
  standard_at i e = std_part ns tree none_done i Drawn ∙ ap (λ n. std_of (stand Drawn n as_drawn) Drawn at) e

  running_at : {n : Node} (i : ℕ) → node ns i ≡ n → (at i).run ≡ run_of (course_of n as_drawn) at
  running_at i e = run_part ns tree none_done i ∙ ap (λ n. run_of (course_of n as_drawn) at) e

  pub drawn_means : {i : ℕ} {s : State} → Draws cued ns i s → Means s (at i)
  unfolding stand stand_drawn course_of std_of run_of
  drawn_means (at_event {i} e) = standard_at i e
  drawn_means (at_basic {i} e) = standard_at i e
  drawn_means (at_standard {i} {o} {t} e d d') =
      let p = drawn_means d in
      let q = drawn_means d' in
      standard_at i e ∙ ap (λ x. std_of x Drawn at) (both_drawn o t) ∙ (λ z. standard cued.sets o (p z) (q z))
  drawn_means (at_handler {i} e d d') = let p = drawn_means d in let q = drawn_means d' in standard_at i e ∙ (λ z. hnd (p z) (q z))
  drawn_means (at_block {i} e d) = standard_at i e ∙ ap blk (drawn_means d)
  drawn_means (at_pair {i} e d d') = let p = drawn_means d in let q = drawn_means d' in running_at i e ∙ (λ z. pair (p z) (q z))
  drawn_means (at_compensable {i} {o} {t} e d d') =
      let p = drawn_means d in
      let q = drawn_means d' in
      running_at i e ∙ ap (λ x. run_of x at) (both_runs o t) ∙ (λ z. compensable cued.sets o (p z) (q z))
  drawn_means (at_paired {i} e) = running_at i e
