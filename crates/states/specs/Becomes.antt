-- How a running part becomes one of its compensations: by its course, which modes are set, which part is passed and so redrawn, and
-- which child becomes one of its own, by the number that is left for it (`Becomes`). Weights are those of the terms before. This says
-- all of the bytes after (`becomes_once` in BecomesLaws); that they are those of the compensation asked for is said with it (`Chosen`).
-- Definitions only. Assumes nothing.
use Rattle.std.specs.Prelude.{ℕ, ◌+◌, ◌-◌, ◌<◌, ◌≤◌, ◌≡◌, Bool, true, not, ◌&&◌, cond, List, T}
use Rattle.calculus.specs.Term.{Closing, done, withdrawn, failed, Std}
use Rattle.calculus.specs.Successors.{eqc, only, ends, comps}
use Rattle.flow.specs.declared.Simple.{Simple}
use Rattle.flow.specs.declared.Operator.TheVariants.{Sequence, Choice, Parallel}
use Rattle.flow.specs.declared.Two.{Two}
use Rattle.flow.specs.Kinds.{node}
use Rattle.flow.specs.Cues.{joint_at}
use Rattle.tallies.specs.Capped.{cap}
use Rattle.tallies.specs.Counts.{sum_of, moves, weight, tally, word}
use Rattle.tallies.specs.Formulas.{sides, by_w, total, after_g, inside_g, beside_g, within_g, fitting_t, partners_t}
use Rattle.tallies.specs.Sought.{Sought}
use Rattle.tallies.specs.declared.Weight.{Weight}
use Rattle.states.specs.declared.Sense.TheVariants.{Drawn, Undoing}
use Rattle.states.specs.declared.Course.{Course}
use Rattle.states.specs.declared.Course.TheVariants as course
use Rattle.states.specs.declared.Picked.{Picked}
use Rattle.states.specs.Standings.{first_taken, second_taken, left_second, left_nothing, left_first, left_both, course_of}
use Rattle.states.specs.State.{part, modes}
use Rattle.states.specs.Scenes.{Kept, Sets, Redrawn, Scene, scene, part_at, weight_of, Ask, ask}

-- what is left of node i as a part that runs
abbrev pub course_in : Scene → ℕ → Course
course_in s i = course_of (node s.ns i) (modes s.t i)

-- What is known of a compensation ---------------------------------------------------------------------------------------------------

abbrev pub picked : ℕ → ℕ → Bool → Picked
picked r n b = record { rest = r; moves = n; able = b }

-- of k, where r of the number is left
abbrev pub known_of : ℕ → ℕ → Std → Picked
known_of a r k = picked r (cap (moves a k)) (ends k done)

-- of l;k and of k beside l, where l was chosen last; b says whether the event is joint
abbrev pub seq_of : Picked → Picked → Picked
seq_of l k = picked l.rest (cond l.able (cap (l.moves + k.moves)) l.moves) (l.able && k.able)

abbrev pub par_of : Bool → Picked → Picked → Picked
par_of b k l = picked l.rest (sides b k.moves l.moves) (k.able && l.able)

-- What is asked of children -----------------------------------------------------------------------------------------------------------

-- of QQ in PP;QQ, where k is known of what PP has become
abbrev pub ask_second : Ask → Picked → Ask
ask_second q k = ask q.closing (inside_g q.weight k.moves k.able) k.rest

-- what one of QQ's compensations weighs in PP∥QQ, beside one of PP's of which k is known
abbrev pub within_of : Bool → Ask → Picked → Weight
within_of b q k = within_g b q.weight k.moves k.able

-- where done and withdrawn weigh x and y, j falls on a closing, so far into its weight
pub data Lands (x y j : ℕ) : Closing → ℕ → Type 0 where
  on_done : j < x → Lands x y j done j
  on_withdrawn : x ≤ j → j - x < y → Lands x y j withdrawn (j - x)
  on_failed : x ≤ j → y ≤ j - x → Lands x y j failed (j - x - y)

module _ (s : Scene) where
  -- what PP, node i, weighs in PP;QQ by w: all that it can become, if it does not end done
  abbrev pub own_of : ℕ → Closing → Weight → ℕ
  own_of i w g = cap (sum_of (weight s.a g) (only (not (eqc w done)) (comps (part_at s i).run w)))

  -- of PP, node i, in PP;QQ with QQ node l, once it is not PP that closes
  abbrev pub ask_first : ℕ → ℕ → Ask → Ask
  ask_first i l q = ask done (after_g (tally s.a (comps (part_at s l).run q.closing)) q.weight) (q.number - own_of i q.closing q.weight)

  -- PP∥QQ: what one of PP's compensations by x weighs with all that go with it, and what all of them do
  abbrev pub beside_of : Bool → ℕ → Ask → Closing → Weight
  beside_of b l q x = beside_g b (partners_t (word s.a (part_at s l).run) q.closing x) q.weight

  abbrev pub side_of : Bool → ℕ → ℕ → Ask → Closing → ℕ
  side_of b i l q x = total (by_w (word s.a (part_at s i).run) x) (beside_of b l q x)

  -- and what QQ's by y do, beside one of PP's by x of which k is known
  abbrev pub fitting_of : Bool → ℕ → Ask → Closing → Picked → Closing → ℕ
  fitting_of b l q x k y = total (fitting_t (word s.a (part_at s l).run) q.closing x y) (within_of b q k)

-- Node i, of the given course by the modes t, becomes the compensation that q asks for: t' are the modes after, the last is what is
-- known of it -----------------------------------------------------------------------------------------------------------------------

pub data Becomes (ns : List ℕ) (a : ℕ) : Course → List ℕ → ℕ → Ask → List ℕ → Picked → Type 0 where
  basic_stays : {b : Simple} {t : List ℕ} {i : ℕ} {q : Ask} → Becomes ns a (course.Basic b) t i q t (picked q.number 0 true)
  -- P is passed, and Q is left to be done, or nothing
  pair_to_second : {p : Two} {t t₁ t' : List ℕ} {i : ℕ} {q : Ask} → q.closing ≡ done → Redrawn ns p.first t t₁ → Sets t₁ i left_second t'
      → Becomes ns a (course.Pair p) t i q t' (known_of a q.number ((part ns (modes t) p.second).std Drawn))
  pair_to_nothing : {p : Two} {t t₁ t' : List ℕ} {i : ℕ} {q : Ask} → T (not (eqc q.closing done)) → Redrawn ns p.first t t₁ → Sets t₁ i left_nothing t'
      → Becomes ns a (course.Pair p) t i q t' (picked q.number 0 true)
  as_child : {c : ℕ} {t t' : List ℕ} {i : ℕ} {q : Ask} {k : Picked} → Becomes ns a (course_in (scene ns t a) c) t c q t' k → Becomes ns a (course.As c) t i q t' k
  held_to_both : {p : Two} {t t₁ t' : List ℕ} {i : ℕ} {q : Ask} {l : Picked} → Sets t i left_both t₁
      → Becomes ns a (course_in (scene ns t₁ a) p.second) t₁ p.second (ask_second q (known_of a q.number ((part ns (modes t) p.first).std Undoing))) t' l
      → Becomes ns a (course.Held p) t i q t' (seq_of l (known_of a q.number ((part ns (modes t) p.first).std Undoing)))
  -- PP closes, or ends done and QQ closes
  seq_to_first : {p : Two} {t t₁ t' : List ℕ} {i : ℕ} {q : Ask} {k : Picked} → q.number < own_of (scene ns t a) p.first q.closing q.weight → Sets t i left_first t₁
      → Becomes ns a (course_in (scene ns t₁ a) p.first) t₁ p.first q t' k → Becomes ns a (course.Both Sequence p) t i q t' k
  seq_to_both : {p : Two} {t t₁ t₂ t' : List ℕ} {i : ℕ} {q : Ask} {k l : Picked} → own_of (scene ns t a) p.first q.closing q.weight ≤ q.number
      → Becomes ns a (course_in (scene ns t a) p.first) t p.first (ask_first (scene ns t a) p.first p.second q) t₁ k → Sets t₁ i left_both t₂
      → Becomes ns a (course_in (scene ns t₂ a) p.second) t₂ p.second (ask_second q k) t' l → Becomes ns a (course.Both Sequence p) t i q t' (seq_of l k)
  alt_to_first : {p : Two} {t t₁ t' : List ℕ} {i : ℕ} {q : Ask} {k : Picked} → q.number < weight_of (scene ns t a) p.first q.closing q.weight → Sets t i first_taken t₁
      → Becomes ns a (course_in (scene ns t₁ a) p.first) t₁ p.first q t' k → Becomes ns a (course.Both Choice p) t i q t' k
  alt_to_second : {p : Two} {t t₁ t' : List ℕ} {i : ℕ} {q : Ask} {k : Picked} → weight_of (scene ns t a) p.first q.closing q.weight ≤ q.number → Sets t i second_taken t₁
      → Becomes ns a (course_in (scene ns t₁ a) p.second) t₁ p.second (ask q.closing q.weight (q.number - weight_of (scene ns t a) p.first q.closing q.weight)) t' k
      → Becomes ns a (course.Both Choice p) t i q t' k
  -- by what PP ends, what it becomes, by what QQ ends, and what it becomes
  par_to_both : {n : ℕ} {p : Two} {t t₁ t' : List ℕ} {i : ℕ} {q : Ask} {x y : Closing} {r r₂ : ℕ} {k l : Picked}
      → Lands (side_of (scene ns t a) (joint_at a n) p.first p.second q done) (side_of (scene ns t a) (joint_at a n) p.first p.second q withdrawn) q.number x r
      → Becomes ns a (course_in (scene ns t a) p.first) t p.first (ask x (beside_of (scene ns t a) (joint_at a n) p.second q x) r) t₁ k
      → Lands (fitting_of (scene ns t a) (joint_at a n) p.second q x k done) (fitting_of (scene ns t a) (joint_at a n) p.second q x k withdrawn) k.rest y r₂
      → Becomes ns a (course_in (scene ns t₁ a) p.second) t₁ p.second (ask y (within_of (joint_at a n) q k) r₂) t' l
      → Becomes ns a (course.Both (Parallel n) p) t i q t' (par_of (joint_at a n) k l)

-- A compensation is chosen: t' are the modes after, p what is known of it --------------------------------------------------------------

pub record Chosen (s : Scene) (i : ℕ) (q : Ask) (t' : List ℕ) (p : Picked) : Type 0 where
  pub sought : Sought s.a q.weight (comps (part_at s i).run q.closing) q.number ((part s.ns (modes t') i).std Undoing) p.rest p.moves p.able
  pub kept : Kept s.ns i (modes s.t) (modes t')
  pub becomes : Becomes s.ns s.a (course_in s i) s.t i q t' p
