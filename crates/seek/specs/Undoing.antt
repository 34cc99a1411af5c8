-- Why the tables are right for a compensation that has been chosen: one lemma for each course. What is drawn below a pair, and what was held,
-- is as it was; the nodes above are given their numbers of steps one by one (`undone_by`). Assumes nothing.
use Rattle.std.specs.Prelude.{ℕ, ◌≡◌, refl, List, ◌≢◌, set}
use Rattle.std.proofs.Common.{sym, ◌∙◌}
use Rattle.std.proofs.Math.Path.{ap, subst}
use Rattle.std.proofs.Math.Dec.{T}
use Rattle.calculus.specs.Term.{Closing}
use Rattle.calculus.proofs.Members.{and_in}
use Rattle.flow.specs.declared.Simple.{Simple}
use Rattle.flow.specs.declared.Operator.{Operator}
use Rattle.flow.specs.declared.Operator.TheVariants.{Parallel}
use Rattle.flow.specs.declared.Two.{Two}
use Rattle.flow.specs.declared.Node.{Node}
use Rattle.flow.specs.declared.Node.TheVariants.{Compensable}
use Rattle.flow.specs.Kinds.{node, shape}
use Rattle.flow.specs.Shapes.{Kid}
use Rattle.flow.specs.Trees.{Under, self, Tree}
use Rattle.flow.specs.NodeChildren.{two_kids, kids_disjoint}
use Rattle.tallies.specs.Counts.{view}
use Rattle.tallies.specs.declared.Weight.{Weight}
use Rattle.states.specs.declared.Sense.TheVariants.{Undoing}
use Rattle.states.specs.declared.Role.TheVariants.{Plain}
use Rattle.states.specs.declared.Course.TheVariants as course
use Rattle.states.specs.declared.Picked.{Picked}
use Rattle.states.specs.Standings as standings
use Rattle.states.specs.Standings.{left_both, stand, stand_undoing, undoing_two}
use Rattle.states.specs.State.{modes}
use Rattle.states.specs.Rows.{Notes, notes, entries, row}
use Rattle.states.specs.Stored.{Right, std_right}
use Rattle.states.specs.StateLaws.{std_stored, stored_own}
use Rattle.states.specs.NotedLaws.{noted_in, noted_stored}
use Rattle.states.specs.LiveParts.{Twins}
use Rattle.states.specs.Clauses.{Spot, Kept, Sets, Scene, scene, Ask, Chosen, stored_at, noted_at, Undone}
use Rattle.states.specs.ChildLaws.{set_sets, not_own, kept_kid, own_kept}
use Rattle.seek.specs.Asked.{Wanted, SecondWanted, UndoneBelow}
use Rattle.seek.specs.NodeLaws.{course_kids, course_node, marked_mode}
use Rattle.seek.specs.WeighedLaws.{noted_still}

-- by the mode that the node got
module _ (ns t : List ℕ) (a i : ℕ) (tree : Tree (shape ns)) (c : Notes) where
  pub undone_is : {n : Node} {m : ℕ} → node ns i ≡ n → modes t i ≡ m → (stored_at (scene ns t a) c i).std Undoing ≡ std_right (stand Undoing n m) Undoing (noted_at (scene ns t a) c) (stored_at (scene ns t a) c)
  undone_is e d = std_stored ns tree a (modes t) (entries c) i Undoing ∙ (λ z. std_right (stand Undoing (e z) (d z)) Undoing (noted_at (scene ns t a) c) (stored_at (scene ns t a) c))

-- a part's own entry was right, and so is what is under it
below_undone : {s : Scene} {x : ℕ} {c₀ c : Notes} → Undone s x c₀ c → T ((stored_at s c x).std Undoing)
below_undone {s} {x} {c₀} {c} h = noted_stored s.ns s.a (modes s.t) (entries c) x (Plain Undoing) h.right

-- The node's own number of steps is set ------------------------------------------------------------------------------------------

pub undone_by : {ns t t' : List ℕ} {a i : ℕ} {q : Ask} {p : Picked} {c₀ : Notes} {c c' d : List ℕ} → Spot ns t i → Chosen (scene ns t a) i q t' p → UndoneBelow (scene ns t' a) i c₀ (notes c d) → Sets c i p.moves c' → Undone (scene ns t' a) i c₀ (notes c' d)
unfolding view
undone_by {ns} {t} {t'} {a} {i} {c₀ = c₀} {c} {c'} {d} spot h b w =
    let tree = spot.node.sound.tree in
    let others : (j : ℕ) → j ≢ i → entries (notes c' d) j ≡ entries (notes c d) j = λ j n z. record { steps = w.others j n z; row = row d j } in
    record {
      right = noted_in ns a (modes t') (entries (notes c' d)) i (Plain Undoing) (w.here ∙ h.sought.counted) (subst (λ (z : Right). T (z.std Undoing)) (stored_own ns tree a (modes t') (entries (notes c d)) (entries (notes c' d)) i others) b.right);
      kept = λ j n. others j (λ q. n (self q)) ∙ b.kept j n;
    }

-- Nothing is left to be undone, or one part alone ---------------------------------------------------------------------------------

pub basic_undone : {ns t : List ℕ} {a i : ℕ} {w : Closing} {g : Weight} {j : ℕ} {b : Simple} → Wanted (scene ns t a) i (course.Basic b) w g j → (c : Notes) → UndoneBelow (scene ns t a) i c c
unfolding std_right
basic_undone {ns} {t} {a} {i} h c =
    let e = std_stored ns h.spot.node.sound.tree a (modes t) (entries c) i Undoing ∙ ap (λ x. std_right x Undoing (noted_at (scene ns t a) c) (stored_at (scene ns t a) c)) (course_node h.spot h.is (modes t i)) in
    record { right = subst T (sym e) tt; kept = λ k u. refl }

pub as_undone : {ns t : List ℕ} {a i x : ℕ} {w : Closing} {g : Weight} {j : ℕ} → Wanted (scene ns t a) i (course.As x) w g j → {t' : List ℕ} → Kept ns x (modes t) (modes t') → {c c' : Notes} → Undone (scene ns t' a) x c c' → UndoneBelow (scene ns t' a) i c c'
unfolding std_right
as_undone {ns} {t} {a} {i} {x} h {t'} k {c} {c'} u =
    let tree = h.spot.node.sound.tree in
    let kid = course_kids h.spot h.is in
    let e = undone_is ns t' a i tree c' refl (own_kept ns tree kid k) ∙ ap (λ y. std_right y Undoing (noted_at (scene ns t' a) c') (stored_at (scene ns t' a) c')) (course_node h.spot h.is) in
    record { right = subst T (sym e) (below_undone u); kept = kept_kid ns tree kid u.kept }

-- of two parts that both run
module _ {ns t : List ℕ} {a i : ℕ} {w : Closing} {g : Weight} {j : ℕ} {o : Operator} {two : Two} (h : Wanted (scene ns t a) i (course.Both o two) w g j) where
  alone_tree : Tree (shape ns)
  alone_tree = h.spot.node.sound.tree

  pub alone_undone : (m : ℕ) {x : ℕ} → Kid (shape ns) i x → stand Undoing (Compensable o two) m ≡ standings.only x Undoing → {q : Ask} {t' : List ℕ} {p : Picked} → Chosen (scene ns (set t i m) a) x q t' p
      → {c c' : Notes} → Undone (scene ns t' a) x c c' → UndoneBelow (scene ns t' a) i c c'
  unfolding std_right
  alone_undone m {x} kid d {t' = t'} ch {c} {c'} u =
      let e = undone_is ns t' a i alone_tree c' (course_node h.spot h.is) (marked_mode m h.spot kid ch) ∙ ap (λ y. std_right y Undoing (noted_at (scene ns t' a) c') (stored_at (scene ns t' a) c')) d in
      record { right = subst T (sym e) (below_undone u); kept = kept_kid ns alone_tree kid u.kept }

-- Two parts to be undone ----------------------------------------------------------------------------------------------------------

-- node x was undone, and then only what is under y, beside it, changed
module _ (ns : List ℕ) (tree : Tree (shape ns)) (a : ℕ) {x y : ℕ} (free : (j : ℕ) → Under (shape ns) y j → Under (shape ns) x j → ⊥) where
  beside_undone : (t t' : List ℕ) (c c' : Notes) → Kept ns y (modes t) (modes t') → Kept ns y (entries c) (entries c') → T ((noted_at (scene ns t a) c x).std Undoing) → T ((noted_at (scene ns t' a) c' x).std Undoing)
  beside_undone t t' c c' k l = noted_still ns tree a x t t' c c' (λ j u. sym (k j (λ v. free j v u))) (λ j u. sym (l j (λ v. free j v u))) (λ z. z.std Undoing)

-- QQ's and then PP's, which was undone before
pub second_undone : {ns t : List ℕ} {a i : ℕ} {w : Closing} {g : Weight} {two : Two} {k : Picked} → SecondWanted (scene ns t a) i two w g k → {c c' : Notes} → T ((noted_at (scene ns t a) c two.first).std Undoing)
    → {q : Ask} {t' : List ℕ} {p : Picked} → Chosen (scene ns (set t i left_both) a) two.second q t' p → Undone (scene ns t' a) two.second c c' → UndoneBelow (scene ns t' a) i c c'
unfolding std_right stand stand_undoing undoing_two
second_undone {ns} {t} {a} {i} {two = two} h {c} {c'} before {t' = t'} ch u =
    let tree = h.spot.node.sound.tree in
    let kids = two_kids ns i h.is two refl in
    let free : (j : ℕ) → Under (shape ns) two.second j → Under (shape ns) two.first j → ⊥ = λ j v v'. kids_disjoint ns i h.is two refl tree j v' v in
    let marks : Sets t i left_both (set t i left_both) = set_sets h.spot.room refl in
    let marked : T ((noted_at (scene ns (set t i left_both) a) c two.first).std Undoing) =
    noted_still ns tree a two.first t (set t i left_both) c c (λ j v. sym (marks.others j (not_own ns tree kids.0 v))) (λ j v. refl) (λ z. z.std Undoing) before in
    let e = undone_is ns t' a i tree c' h.is (marked_mode left_both h.spot kids.1 ch) in
    let first = (noted_at (scene ns t' a) c' two.first).std Undoing in
    let second = (noted_at (scene ns t' a) c' two.second).std Undoing in
    record { right = subst T (sym e) (and_in second first u.right (beside_undone ns tree a free (set t i left_both) t' c c' ch.kept u.kept marked)); kept = kept_kid ns tree kids.1 u.kept }

-- what was changed before stays outside too
pub undone_after : {ns t : List ℕ} {a i : ℕ} → Tree (shape ns) → {x : ℕ} → Kid (shape ns) i x → {c c₁ c₂ : Notes} → Kept ns x (entries c) (entries c₁) → UndoneBelow (scene ns t a) i c₁ c₂ → UndoneBelow (scene ns t a) i c c₂
undone_after {ns} tree kid k h = record { right = h.right; kept = λ j n. h.kept j n ∙ kept_kid ns tree kid k j n }

-- both sides of a parallel
pub par_undone : {ns t : List ℕ} {a i : ℕ} {w : Closing} {g : Weight} {j n : ℕ} {two : Two} → Wanted (scene ns t a) i (course.Both (Parallel n) two) w g j → {q q₂ : Ask} {t₁ t₂ : List ℕ} {k l : Picked}
    → Chosen (scene ns t a) two.first q t₁ k → Chosen (scene ns t₁ a) two.second q₂ t₂ l → {c c₁ c₂ : Notes} → Undone (scene ns t₁ a) two.first c c₁ → Undone (scene ns t₂ a) two.second c₁ c₂ → UndoneBelow (scene ns t₂ a) i c c₂
unfolding std_right stand stand_undoing undoing_two
par_undone {ns} {t} {a} {i} {two = two} h {t₁ = t₁} {t₂} ch₁ ch₂ {c} {c₁} {c₂} u v =
    let tree = h.spot.node.sound.tree in
    let twins : Twins ns i two = course_kids h.spot h.is in
    let e = undone_is ns t₂ a i tree c₂ (course_node h.spot h.is) refl in
    let first = (noted_at (scene ns t₂ a) c₂ two.first).std Undoing in
    let second = (noted_at (scene ns t₂ a) c₂ two.second).std Undoing in
    record {
      right = subst T (sym e) (and_in first second (beside_undone ns tree a (λ j x y. twins.free j y x) t₁ t₂ c₁ c₂ ch₂.kept v.kept u.right) v.right);
      kept = λ j n. kept_kid ns tree twins.other v.kept j n ∙ kept_kid ns tree twins.one u.kept j n;
    }
