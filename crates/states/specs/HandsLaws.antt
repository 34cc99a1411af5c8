-- A step has one content of the bytes after (`makes_once`, `step_once`). Assumes nothing.
use Rattle.std.specs.Prelude.{ℕ, ◌≡◌, refl, List}
use Rattle.std.proofs.Common.{sym, ◌∙◌, ap, subst, subst₂, true≢false, arith}
use Rattle.flow.specs.declared.Operator.{Operator}
use Rattle.flow.specs.declared.Operator.TheVariants.{Sequence, Choice, Parallel}
use Rattle.flow.specs.declared.Two.{Two}
use Rattle.flow.specs.declared.Node.{Node}
use Rattle.flow.specs.Kinds.{node, shape}
use Rattle.flow.specs.Trees.{Tree}
use Rattle.states.specs.declared.Standing.{Standing}
use Rattle.states.specs.declared.Standing.TheVariants as standing
use Rattle.states.specs.declared.Course.{Course}
use Rattle.states.specs.declared.Course.TheVariants as course
use Rattle.states.specs.declared.Sense.{Sense}
use Rattle.states.specs.declared.Role.{Role}
use Rattle.states.specs.declared.Role.TheVariants.{Plain, Running}
use Rattle.states.specs.Standings.{stand}
use Rattle.states.specs.State.{modes}
use Rattle.states.specs.Clauses.{Scene, scene, Ask, Chosen, Stepped}
use Rattle.states.specs.BecomesLaws.{sets_once, redrawn_same, chosen_once}
use Rattle.states.specs.Hands.{Move, move, Stance, stance_of, stand_in, Passed, Fork, to_first, to_second, Marked, Past, Picks, HandsStd, HandsRun, HandsBy, Hands, Meets, both_stand, both_run, first_move, second_move, Makes, takes, meets, hands}

-- A part is passed ----------------------------------------------------------------------------------------------------------------

module _ (ns : List ℕ) (tree : Tree (shape ns)) (j : ℕ) (t : List ℕ) {t₁ t₂ : List ℕ} where
  pub passed_once : (o : Operator) → Passed ns o j t t₁ → Passed ns o j t t₂ → t₁ ≡ t₂
  passed_once Sequence x y = redrawn_same tree x y
  passed_once Choice x y = x ∙ sym y
  passed_once (Parallel n) x y = x ∙ sym y

-- One turn ------------------------------------------------------------------------------------------------------------------------

-- the same modes, and the same step of them
abbrev Alike : List ℕ → Move → List ℕ → Move → Type 0
Alike t₁ y₁ t₂ y₂ = (t₁ ≡ t₂) × (y₁ ≡ y₂)

module _ (s : Scene) (tree : Tree (shape s.ns)) {t₁ t₂ : List ℕ} {y₁ y₂ : Move} where
  fork_once : {n k : ℕ} {a₁ b₁ a₂ b₂ : Type 0} → (a₁ → a₂ → Alike t₁ y₁ t₂ y₂) → (b₁ → b₂ → Alike t₁ y₁ t₂ y₂) → Fork n k a₁ b₁ → Fork n k a₂ b₂ → Alike t₁ y₁ t₂ y₂
  fork_once f g (to_first h x) (to_first h' y) = f x y
  fork_once f g (to_first h x) (to_second h' y) = absurd (omega (arith, h, h'))
  fork_once f g (to_second h x) (to_first h' y) = absurd (omega (arith, h, h'))
  fork_once f g (to_second h x) (to_second h' y) = g x y

  marked_once : {i m : ℕ} {z : Move} → Marked s i m z t₁ y₁ → Marked s i m z t₂ y₂ → Alike t₁ y₁ t₂ y₂
  marked_once x y = (sets_once x.sets y.sets, x.is ∙ sym y.is)

  past_once : {i m j : ℕ} (o : Operator) {z : Move} → Past s i m o j z t₁ y₁ → Past s i m o j z t₂ y₂ → Alike t₁ y₁ t₂ y₂
  past_once {j = j} o x y = (passed_once s.ns tree j y.between o (subst (λ u. Passed s.ns o j u t₁) (sets_once x.sets y.sets) x.passed) y.passed, x.is ∙ sym y.is)

  picks_once : {i m j : ℕ} {q : Ask} {r : Role} {l : ℕ} → Picks s i m j q r l t₁ y₁ → Picks s i m j q r l t₂ y₂ → Alike t₁ y₁ t₂ y₂
  picks_once {j = j} {q = q} {r = r} {l = l} x y =
      let c = chosen_once tree (subst (λ u. Chosen (scene s.ns u s.a) j q t₁ x.picked) (sets_once x.sets y.sets) x.chosen) y.chosen in
      (c.0, x.is ∙ ap (λ p. move r l p.rest) c.1 ∙ sym y.is)

  module _ (i k : ℕ) where
    std_once : (v : Sense) (x : Standing) → HandsStd s i k v x t₁ y₁ → HandsStd s i k v x t₂ y₂ → Alike t₁ y₁ t₂ y₂
    std_once v (standing.Event e) a b = absurd a
    std_once v (standing.Basic e) a b = absurd a
    std_once v (standing.Both o p) a b = fork_once marked_once (past_once o) a.1 b.1
    std_once v (standing.Handler p) a b = fork_once marked_once (past_once Sequence) a b
    std_once v (standing.Block c) a b = fork_once marked_once picks_once a b
    std_once v (standing.As x) a b = marked_once a b

    run_once : (x : Course) → HandsRun s i k x t₁ y₁ → HandsRun s i k x t₂ y₂ → Alike t₁ y₁ t₂ y₂
    run_once (course.Basic e) a b = absurd a
    run_once (course.Pair p) a b = marked_once a b
    run_once (course.Both Sequence p) a b = fork_once marked_once picks_once a.1 b.1
    run_once (course.Both Choice p) a b = fork_once marked_once marked_once a.1 b.1
    run_once (course.Both (Parallel n) p) a b = fork_once marked_once marked_once a.1 b.1
    run_once (course.Held p) a b = marked_once a b
    run_once (course.As c) a b = marked_once a b

    by_once : (r : Role) (x : Stance r) → HandsBy s i k r x t₁ y₁ → HandsBy s i k r x t₂ y₂ → Alike t₁ y₁ t₂ y₂
    by_once (Plain v) x a b = std_once v x a b
    by_once Running x a b = run_once x a b

  pub hands_once : (x : Move) → Hands s x t₁ y₁ → Hands s x t₂ y₂ → Alike t₁ y₁ t₂ y₂
  hands_once x a b = by_once x.node x.place x.role (stance_of x.role (node s.ns x.node) (modes s.t x.node)) a b

-- A step --------------------------------------------------------------------------------------------------------------------------

module _ (s : Scene) (x : Move) {v : Sense} {e : ℕ} (t' : List ℕ) (y : Move) where
  -- an event is not handed down
  no_hand : x.role ≡ Plain v → stand_in s v x.node ≡ standing.Event e → Hands s x t' y → ⊥
  no_hand f d h =
      let g : HandsStd s x.node x.place v (stand_in s v x.node) t' y
      = subst (λ r. HandsBy s x.node x.place r (stance_of r (node s.ns x.node) (modes s.t x.node)) t' y) f h in
      subst (λ z. HandsStd s x.node x.place v z t' y) d g

-- two sides that meet are the parallel's own, and hand nothing down by one of them; and they are no event
meets_once : {a : ℕ} {r : Role} {z : Stance r} {p q : Two} → Meets a r z p → Meets a r z q → p ≡ q
meets_once (both_stand e) (both_stand d) = refl
meets_once (both_run e) (both_run d) = refl

no_side : (s : Scene) (i k : ℕ) (t' : List ℕ) (y : Move) {r : Role} {z : Stance r} {p : Two} → Meets s.a r z p → HandsBy s i k r z t' y → ⊥
no_side s i k t' y (both_stand e) h = true≢false (sym e ∙ h.0)
no_side s i k t' y (both_run e) h = true≢false (sym e ∙ h.0)

no_event : {a : ℕ} {r : Role} {v : Sense} {e : ℕ} {p : Two} (n : Node) (m : ℕ) → r ≡ Plain v → stand v n m ≡ standing.Event e → Meets a r (stance_of r n m) p → ⊥
no_event {a} {v = v} {p = p} n m f d h = elim (subst (λ z. Meets a (Plain v) z p) d (subst (λ r. Meets a r (stance_of r n m) p) f h)) [ ]

pub makes_once : (ns : List ℕ) → Tree (shape ns) → {s : Scene} {x : Move} {t₁ t₂ : List ℕ} → s.ns ≡ ns → Makes s x t₁ → Makes s x t₂ → t₁ ≡ t₂
makes_once ns tree f (takes r e w) (takes r' e' w') = sets_once w w'
makes_once ns tree {s = s} {x = x} f (takes r e w) (hands {y = y} {t₁ = u} h m) = absurd (no_hand s x u y r e h)
makes_once ns tree {s = s} {x = x} f (takes r e w) (meets h m n) = absurd (no_event (node s.ns x.node) (modes s.t x.node) r e h)
makes_once ns tree {s = s} {x = x} f (meets h m n) (takes r e w) = absurd (no_event (node s.ns x.node) (modes s.t x.node) r e h)
makes_once ns tree {s = s} {x = x} {t₂ = t₂} f (meets {p = p} {t₁ = u} h m n) (meets {p = q} {t₁ = u'} h' m' n') =
    let d = meets_once h h' in
    let e = makes_once ns tree f m (subst (λ p. Makes s (first_move s x p) u') (sym d) m') in
    makes_once ns tree f n (subst₂ (λ p u. Makes (scene s.ns u s.a) (second_move s x p) t₂) (sym d) (sym e) n')
makes_once ns tree {s = s} {x = x} f (meets h m n) (hands {y = y} {t₁ = u} h' m') = absurd (no_side s x.node x.place u y h h')
makes_once ns tree {s = s} {x = x} f (hands {y = y} {t₁ = u} h m) (takes r e w) = absurd (no_hand s x u y r e h)
makes_once ns tree {s = s} {x = x} f (hands {y = y} {t₁ = u} h' m') (meets h m n) = absurd (no_side s x.node x.place u y h h')
makes_once ns tree {s = s} {x = x} {t₂ = t₂} f (hands h m) (hands h' m') =
    let d = hands_once s (subst (λ z. Tree (shape z)) (sym f) tree) x h h' in
    makes_once ns tree f m (subst₂ (λ u z. Makes (scene s.ns u s.a) z t₂) (sym d.0) (sym d.1) m')

-- a step of a node in a role, at a place, has one content of the bytes after
pub step_once : {s : Scene} {r : Role} {i k : ℕ} {t₁ t₂ : List ℕ} → Tree (shape s.ns) → Stepped s r i k t₁ → Stepped s r i k t₂ → t₁ ≡ t₂
step_once {s} tree x y = makes_once s.ns tree refl x.makes y.makes
