-- How the modes become those after a step: by setting a node's mode, redrawing what is passed and choosing a compensation, a step of
-- the node becomes a step of one child, perhaps in another role (`Hands`), or of both sides that meet (`Meets`), and so on down to the
-- event that is taken (`Makes`). Places
-- are compared with the true counts. This says all of the bytes after (`makes_once` in HandsLaws).
-- Definitions only. Assumes nothing.
use Rattle.std.specs.Prelude.{ℕ, ◌<◌, ◌≤◌, ◌-◌, ◌/◌, ◌%◌, true, false, List, ◌≡◌, length}
use Rattle.calculus.specs.Term.{done, failed}
use Rattle.flow.specs.declared.Operator.{Operator}
use Rattle.flow.specs.declared.Operator.TheVariants.{Sequence, Choice, Parallel}
use Rattle.flow.specs.declared.Two.{Two}
use Rattle.flow.specs.declared.Node.{Node}
use Rattle.flow.specs.Kinds.{node}
use Rattle.flow.specs.Cues.{joint_at, joint_by}
use Rattle.tallies.specs.Formulas.{moves_g, hold_g}
use Rattle.states.specs.declared.Sense.{Sense}
use Rattle.states.specs.declared.Sense.TheVariants.{Drawn, Undoing}
use Rattle.states.specs.declared.Standing.{Standing}
use Rattle.states.specs.declared.Standing.TheVariants as standing
use Rattle.states.specs.declared.Course.{Course}
use Rattle.states.specs.declared.Course.TheVariants as course
use Rattle.states.specs.declared.Role.{Role}
use Rattle.states.specs.declared.Role.TheVariants.{Plain, Running}
use Rattle.states.specs.declared.Picked.{Picked}
use Rattle.states.specs.Standings.{event_taken, moved_on, first_taken, second_taken, compensating, holding, left_first, stand, course_of}
use Rattle.states.specs.State.{modes}
use Rattle.states.specs.Roles.{many}
use Rattle.states.specs.Scenes.{Scene, scene, Sets, Redrawn, part_at, Ask, ask}
use Rattle.states.specs.Becomes.{Chosen}
pub use Rattle.states.specs.Becomes.{course_in}

-- a step of node i in role r, at place k among its steps
pub record Move : Type 0 where
  pub role : Role
  pub node : ℕ
  pub place : ℕ

abbrev pub move : Role → ℕ → ℕ → Move
move r i k = record { role = r; node = i; place = k }

-- what is left of a part in a role
abbrev pub Stance : Role → Type 0
Stance (Plain s) = Standing
Stance Running = Course

abbrev pub stance_of : (r : Role) → Node → ℕ → Stance r
stance_of (Plain s) n m = stand s n m
stance_of Running n m = course_of n m

-- what is left of node i
abbrev pub stand_in : Scene → Sense → ℕ → Standing
stand_in s v i = stand v (node s.ns i) (modes s.t i)

-- the mode of P;Q and of QQ's and then PP's compensation, once the second part has made a step
abbrev pub gone : Sense → ℕ
gone Drawn = moved_on
gone Undoing = left_first

-- the mode m of two live parts after a step of the first, and after one of the second; g is that of a sequence
unfoldable pub first_mode : Operator → ℕ → ℕ
first_mode Sequence m = m
first_mode Choice m = first_taken
first_mode (Parallel k) m = m

unfoldable pub second_mode : Operator → ℕ → ℕ → ℕ
second_mode Sequence g m = g
second_mode Choice g m = second_taken
second_mode (Parallel k) g m = m

-- once the second part has made a step: the first part of a sequence, node j, is passed, and so redrawn
abbrev pub Passed : List ℕ → Operator → ℕ → List ℕ → List ℕ → Type 0
Passed ns Sequence j t t' = Redrawn ns j t t'
Passed ns Choice j t t' = t' ≡ t
Passed ns (Parallel k) j t t' = t' ≡ t

-- one of two parts makes the step, by its place
pub data Fork (n k : ℕ) (x y : Type 0) : Type 0 where
  to_first : k < n → x → Fork n k x y
  to_second : n ≤ k → y → Fork n k x y

-- Node i gets the mode m, and the step is z.
pub record Marked (s : Scene) (i m : ℕ) (z : Move) (t' : List ℕ) (y : Move) : Type 0 where
  pub sets : Sets s.t i m t'
  pub is : y ≡ z

-- And node j, the first of two parts, is passed.
pub record Past (s : Scene) (i m : ℕ) (o : Operator) (j : ℕ) (z : Move) (t' : List ℕ) (y : Move) : Type 0 where
  pub between : List ℕ
  pub sets : Sets s.t i m between
  pub passed : Passed s.ns o j between t'
  pub is : y ≡ z

-- Or node j becomes a compensation, and the place of the step, of node l, is how far the number falls into it.
pub record Picks (s : Scene) (i m j : ℕ) (q : Ask) (r : Role) (l : ℕ) (t' : List ℕ) (y : Move) : Type 0 where
  pub between : List ℕ
  pub picked : Picked
  pub sets : Sets s.t i m between
  pub chosen : Chosen (scene s.ns between s.a) j q t' picked
  pub long : length t' ≡ length between
  pub is : y ≡ move r l picked.rest

module _ (s : Scene) (i k : ℕ) where
  -- how many steps a part has, and the place k after them; the node's mode
  abbrev count : Role → ℕ → ℕ
  count r j = many r s.a (part_at s j)

  abbrev after : Role → ℕ → ℕ
  after r j = k - count r j

  abbrev own : ℕ
  own = modes s.t i

  -- the event is not joint: one of the two makes the step
  abbrev pub OneSide : Operator → Type 0
  OneSide o = joint_by s.a o ≡ false

  -- two standard parts, where g is the mode of a sequence that has gone on
  abbrev pub HandsTwo : Sense → Operator → Two → ℕ → List ℕ → Move → Type 0
  HandsTwo v o p g t' y = Fork (count (Plain v) p.first) k
      (Marked s i (first_mode o own) (move (Plain v) p.first k) t' y)
      (Past s i (second_mode o g own) o p.first (move (Plain v) p.second (after (Plain v) p.first)) t' y)

  abbrev pub HandsStd : Sense → Standing → List ℕ → Move → Type 0
  HandsStd v (standing.Event e) t' y = ⊥
  HandsStd v (standing.Basic b) t' y = ⊥
  HandsStd v (standing.Both o p) t' y = OneSide o × HandsTwo v o p (gone v) t' y
  HandsStd v (standing.Handler p) t' y = HandsTwo v Sequence p moved_on t' y
  HandsStd v (standing.Block c) t' y = Fork (count Running c) k
      (Marked s i own (move Running c k) t' y)
      (Picks s i compensating c (ask failed moves_g (after Running c)) (Plain Undoing) c t' y)
  HandsStd v (standing.As x) t' y = Marked s i own (move (Plain x.sense) x.node k) t' y

  -- PP;QQ goes on, and holds one of PP's compensations; the others go on as they are
  abbrev pub GoesOn : Operator → Two → List ℕ → Move → Type 0
  GoesOn Sequence p t' y = Picks s i holding p.first (ask done (hold_g (count Running p.second)) (after Running p.first)) Running p.second t' y
  GoesOn Choice p t' y = Marked s i (second_mode Choice holding own) (move Running p.second (after Running p.first)) t' y
  GoesOn (Parallel n) p t' y = Marked s i (second_mode (Parallel n) holding own) (move Running p.second (after Running p.first)) t' y

  abbrev pub HandsRun : Course → List ℕ → Move → Type 0
  HandsRun (course.Basic b) t' y = ⊥
  HandsRun (course.Pair p) t' y = Marked s i own (move (Plain Drawn) p.first k) t' y
  HandsRun (course.Both o p) t' y = OneSide o × Fork (count Running p.first) k (Marked s i (first_mode o own) (move Running p.first k) t' y) (GoesOn o p t' y)
  HandsRun (course.Held p) t' y = Marked s i own (move Running p.second k) t' y
  HandsRun (course.As c) t' y = Marked s i own (move Running c k) t' y

  abbrev pub HandsBy : (r : Role) → Stance r → List ℕ → Move → Type 0
  HandsBy (Plain v) x t' y = HandsStd v x t' y
  HandsBy Running x t' y = HandsRun x t' y

-- both sides of a parallel make the step together: its event is in their set
pub data Meets (a : ℕ) : (r : Role) → Stance r → Two → Type 0 where
  both_stand : {v : Sense} {n : ℕ} {p : Two} → joint_at a n ≡ true → Meets a (Plain v) (standing.Both (Parallel n) p) p
  both_run : {n : ℕ} {p : Two} → joint_at a n ≡ true → Meets a Running (course.Both (Parallel n) p) p

-- Of the first side's steps each comes with all of the second's: so places go by the number of these.
module _ (s : Scene) (x : Move) (p : Two) where
  abbrev seconds : ℕ
  seconds = many x.role s.a (part_at s p.second)

  abbrev pub first_move : Move
  first_move = move x.role p.first (x.place / seconds)

  abbrev pub second_move : Move
  second_move = move x.role p.second (x.place % seconds)

-- what is left of the node of a step
abbrev pub stance_at : (s : Scene) (x : Move) → Stance x.role
stance_at s x = stance_of x.role (node s.ns x.node) (modes s.t x.node)

-- the step x of the modes before is the step y of the modes t'
abbrev pub Hands : Scene → Move → List ℕ → Move → Type 0
Hands s x t' y = HandsBy s x.node x.place x.role (stance_at s x) t' y

-- the modes after the step x are t'
pub data Makes : Scene → Move → List ℕ → Type 0 where
  takes : {s : Scene} {x : Move} {t' : List ℕ} {v : Sense} {e : ℕ} → x.role ≡ Plain v → stand_in s v x.node ≡ standing.Event e → Sets s.t x.node event_taken t' → Makes s x t'
  meets : {s : Scene} {x : Move} {p : Two} {t₁ t' : List ℕ} → Meets s.a x.role (stance_at s x) p → Makes s (first_move s x p) t₁ → Makes (scene s.ns t₁ s.a) (second_move s x p) t' → Makes s x t'
  hands : {s : Scene} {x y : Move} {t₁ t' : List ℕ} → Hands s x t₁ y → Makes (scene s.ns t₁ s.a) y t' → Makes s x t'
