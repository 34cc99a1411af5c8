-- Laws of states and of stored counts: what a node's part and its counts are from those of its live parts (`std_part`, `run_part`,
-- `std_stored`, `run_stored`), and that both depend only on what is under the node (`part_frame`, `stored_frame`). Assumes nothing.
use Rattle.std.specs.Prelude.{ℕ, ◌≡◌, Bool, ◌&&◌, List, ◌≢◌, length}
use Rattle.std.proofs.Math.Path.{refl, sym}
use Rattle.std.proofs.Common.{◌∙◌, ap, subst}
use Rattle.std.proofs.Math.Bool.{true, cond}
use Rattle.std.proofs.Math.Dec.{eqb}
use Rattle.calculus.specs.Term.{done, hnd, blk, pair, held}
use Rattle.calculus.specs.Successors.{steps, csteps, ends}
use Rattle.flow.specs.Shapes.{Kid}
use Rattle.flow.specs.Trees.{Under, self, up, Tree, Local}
use Rattle.flow.specs.Nodes.{under_trans, not_under, descend_node, descend_frame}
use Rattle.flow.specs.Cues.{cued}
use Rattle.flow.specs.Kinds.{node, shape, standard, compensable}
use Rattle.tallies.specs.Capped.{cap}
use Rattle.tallies.specs.Counts.{word}
use Rattle.states.specs.declared.Sense.{Sense}
use Rattle.states.specs.declared.Sense.TheVariants.{Drawn, Undoing}
use Rattle.states.specs.declared.Standing.{Standing}
use Rattle.states.specs.declared.Standing.TheVariants as standing
use Rattle.states.specs.declared.Course.{Course}
use Rattle.states.specs.declared.Course.TheVariants as course
use Rattle.states.specs.Standings.{stand, course_of}
use Rattle.states.specs.State.{Part, nothing, std_of, run_of, build, part}
use Rattle.states.specs.Stored.{Right, wrong, together, std_right, run_right, right, held_word, over, own, stored, noted}
use Rattle.states.specs.Rows.{same_row, Entry}
use Rattle.states.specs.LiveParts.{Rests, CRests}
use Rattle.states.specs.Rests.{stand_rests, course_rests}

-- A node looks at its children only -----------------------------------------------------------------------------------------

module _ (ns : List ℕ) (i : ℕ) where
  module _ (g h : ℕ → Part) (e : (c : ℕ) → Kid (shape ns) i c → g c ≡ h c) where
    std_local : (x : Standing) (s : Sense) → Rests ns i x → std_of x s g ≡ std_of x s h
    unfolding std_of
    std_local (standing.Event v) s w = refl
    std_local (standing.Basic b) s w = refl
    std_local (standing.Both o t) s w = λ z. standard cued.sets o ((e t.first w.one z).std s) ((e t.second w.other z).std s)
    std_local (standing.Handler t) s w = λ z. hnd ((e t.first w.one z).std s) ((e t.second w.other z).std s)
    std_local (standing.Block c) s w = λ z. blk (e c w z).run
    std_local (standing.As x) s w = λ z. (e x.node w z).std x.sense

    run_local : (x : Course) → CRests ns i x → run_of x g ≡ run_of x h
    unfolding run_of
    run_local (course.Basic b) w = refl
    run_local (course.Pair t) w = λ z. pair ((e t.first w.one z).std Drawn) ((e t.second w.other z).std Drawn)
    run_local (course.Both o t) w = λ z. compensable cued.sets o (e t.first w.one z).run (e t.second w.other z).run
    run_local (course.Held t) w = λ z. held (e t.second w.other z).run ((e t.first w.one z).std Undoing)
    run_local (course.As c) w = λ z. (e c w z).run

  -- the same of counts, where the own ones are looked at (g, h) and where they are not (g', h')
  module _ (g h : ℕ → Right) (e : (c : ℕ) → Kid (shape ns) i c → g c ≡ h c) (g' h' : ℕ → Right) (e' : (c : ℕ) → Kid (shape ns) i c → g' c ≡ h' c) where
    std_right_local : (x : Standing) (s : Sense) → Rests ns i x → std_right x s g g' ≡ std_right x s h h'
    unfolding std_right
    std_right_local (standing.Event v) s w = refl
    std_right_local (standing.Basic b) s w = refl
    std_right_local (standing.Both o t) s w = λ z. (e t.first w.one z).std s && (e t.second w.other z).std s
    std_right_local (standing.Handler t) s w = λ z. (e t.first w.one z).std s && (e t.second w.other z).std s
    std_right_local (standing.Block c) s w = λ z. (e c w z).run
    std_right_local (standing.As x) s w = λ z. (e' x.node w z).std x.sense

    module _ (f f' : ℕ → Bool) (ef : (c : ℕ) → Kid (shape ns) i c → f c ≡ f' c) where
      run_right_local : (x : Course) → CRests ns i x → run_right x f g g' ≡ run_right x f' h h'
      unfolding run_right
      run_right_local (course.Basic b) w = refl
      run_right_local (course.Pair t) w = λ z. (e' t.first w.one z).std Drawn && cond (ef t.first w.one z) ((e t.second w.other z).std Drawn) true
      run_right_local (course.Both o t) w = λ z. (e t.first w.one z).run && (e t.second w.other z).run
      run_right_local (course.Held t) w = λ z. (e t.first w.one z).held && (e t.second w.other z).run
      run_right_local (course.As c) w = λ z. (e c w z).run

      right_alike : Tree (shape ns) → (m : ℕ) → right (node ns i) m f g g' ≡ right (node ns i) m f' h h'
      unfolding right
      right_alike tree m = λ z. record {
        std = λ s. std_right_local (stand s (node ns i) m) s (stand_rests ns i tree s m) z;
        run = run_right_local (course_of (node ns i) m) (course_rests ns i tree m) z;
        held = std_right_local (stand Undoing (node ns i) m) Undoing (stand_rests ns i tree Undoing m) z;
      }

module _ (ns : List ℕ) (tree : Tree (shape ns)) where
  build_local : (m : ℕ → ℕ) (i : ℕ) → Local nothing (shape ns) (λ j at. build (node ns j) (m j) at) i
  unfolding build
  build_local m i g h e = λ z. record {
    std = λ s. std_local ns i g h e (stand s (node ns i) (m i)) s (stand_rests ns i tree s (m i)) z;
    run = run_local ns i g h e (course_of (node ns i) (m i)) (course_rests ns i tree (m i)) z;
  }

  right_local : (f : ℕ → Bool) (o : ℕ → Right) (m : ℕ → ℕ) (i : ℕ) → Local wrong (shape ns) (λ j at. right (node ns j) (m j) f (λ d. together (o d) (at d)) at) i
  right_local f o m i g h e =
      right_alike ns i (λ d. together (o d) (g d)) (λ d. together (o d) (h d)) (λ d k z. together (o d) (e d k z)) g h e f f (λ c k. refl) tree (m i)

  -- One node -----------------------------------------------------------------------------------------------------------------

  module _ (m : ℕ → ℕ) (i : ℕ) where
    part_is : part ns m i ≡ build (node ns i) (m i) (part ns m)
    unfolding part
    part_is = descend_node nothing (shape ns) tree (λ j at. build (node ns j) (m j) at) i (build_local m i)

    pub std_part : (s : Sense) → (part ns m i).std s ≡ std_of (stand s (node ns i) (m i)) s (part ns m)
    unfolding build
    std_part s = λ z. (part_is z).std s

    pub run_part : (part ns m i).run ≡ run_of (course_of (node ns i) (m i)) (part ns m)
    unfolding build
    run_part = λ z. (part_is z).run

  module _ (a : ℕ) (m : ℕ → ℕ) (c : ℕ → Entry) (i : ℕ) where
    stored_is : stored ns a m c i ≡ right (node ns i) (m i) (over ns a m) (noted ns a m c) (stored ns a m c)
    unfolding stored
    stored_is = descend_node wrong (shape ns) tree (λ j at. right (node ns j) (m j) (over ns a m) (λ d. together (own ns a m c d) (at d)) at) i (right_local (over ns a m) (own ns a m c) m i)

    pub std_stored : (s : Sense) → (stored ns a m c i).std s ≡ std_right (stand s (node ns i) (m i)) s (noted ns a m c) (stored ns a m c)
    unfolding right
    std_stored s = λ z. (stored_is z).std s

    pub run_stored : (stored ns a m c i).run ≡ run_right (course_of (node ns i) (m i)) (over ns a m) (noted ns a m c) (stored ns a m c)
    unfolding right
    run_stored = λ z. (stored_is z).run

    -- what is held is looked at as any compensation
    pub held_stored : (stored ns a m c i).held ≡ (stored ns a m c i).std Undoing
    unfolding right
    held_stored = (λ z. (stored_is z).held) ∙ sym (λ z. (stored_is z).std Undoing)

  -- What is under the node -----------------------------------------------------------------------------------------------------

  pub part_frame : (m m' : ℕ → ℕ) (i : ℕ) → ((j : ℕ) → Under (shape ns) i j → m j ≡ m' j) → part ns m i ≡ part ns m' i
  unfolding part
  part_frame m m' i e = descend_frame nothing (shape ns) (λ j at. build (node ns j) (m j) at) (λ j at. build (node ns j) (m' j) at)
      (build_local m') i (λ j u z at. build (node ns j) (e j u z) at)

  module _ (a : ℕ) (m m' : ℕ → ℕ) (c c' : ℕ → Entry) where
    own_frame : (j : ℕ) → part ns m j ≡ part ns m' j → c j ≡ c' j → own ns a m c j ≡ own ns a m' c' j
    unfolding own
    own_frame j e d = λ z. record {
      std = λ s. eqb (d z).steps (cap (length (steps ((e z).std s) a)));
      run = eqb (d z).steps (cap (length (csteps (e z).run a))) && same_row (d z).row (word a (e z).run);
      held = eqb (d z).steps (cap (length (steps ((e z).std Undoing) a))) && same_row (d z).row (held_word a ((e z).std Undoing));
    }

    module _ (i : ℕ) (e : (j : ℕ) → Under (shape ns) i j → m j ≡ m' j) (d : (j : ℕ) → Under (shape ns) i j → c j ≡ c' j) where
      part_under : (j : ℕ) → Under (shape ns) i j → part ns m j ≡ part ns m' j
      part_under j u = part_frame m m' j (λ k v. e k (under_trans (shape ns) u v))

      own_under : (j : ℕ) → Under (shape ns) i j → own ns a m c j ≡ own ns a m' c' j
      own_under j u = own_frame j (part_under j u) (d j u)

      right_under : (j : ℕ) → Under (shape ns) i j → (at : ℕ → Right)
          → right (node ns j) (m j) (over ns a m) (λ x. together (own ns a m c x) (at x)) at ≡ right (node ns j) (m' j) (over ns a m') (λ x. together (own ns a m' c' x) (at x)) at
      right_under j u at =
          right_alike ns j (λ x. together (own ns a m c x) (at x)) (λ x. together (own ns a m' c' x) (at x))
          (λ x k z. together (own_under x (up k u) z) (at x)) at at (λ x k. refl) (over ns a m) (over ns a m') (λ x k z. ends ((part_under x (up k u) z).std Drawn) done) tree (m j)
          ∙ ap (λ n. right (node ns j) n (over ns a m') (λ x. together (own ns a m' c' x) (at x)) at) (e j u)

      pub stored_frame : stored ns a m c i ≡ stored ns a m' c' i
      unfolding stored
      stored_frame = descend_frame wrong (shape ns) (λ j at. right (node ns j) (m j) (over ns a m) (λ x. together (own ns a m c x) (at x)) at)
          (λ j at. right (node ns j) (m' j) (over ns a m') (λ x. together (own ns a m' c' x) (at x)) at)
          (right_local (over ns a m') (own ns a m' c') m') i (λ j u z at. right_under j u at z)

      pub noted_frame : noted ns a m c i ≡ noted ns a m' c' i
      noted_frame = λ z. together (own_under i (self refl) z) (stored_frame z)

  -- the node's own entry is not looked at
  pub stored_own : (a : ℕ) (m : ℕ → ℕ) (c c' : ℕ → Entry) (i : ℕ) → ((j : ℕ) → j ≢ i → c' j ≡ c j) → stored ns a m c i ≡ stored ns a m c' i
  stored_own a m c c' i e =
      let below : (x : ℕ) → Kid (shape ns) i x → (j : ℕ) → Under (shape ns) x j → c j ≡ c' j = λ x k j u. sym (e j (λ q. not_under (shape ns) tree k (subst (Under (shape ns) x) q u))) in
      stored_is a m c i
      ∙ right_alike ns i (noted ns a m c) (noted ns a m c') (λ x k. noted_frame a m m c c' x (λ j u. refl) (below x k))
      (stored ns a m c) (stored ns a m c') (λ x k. stored_frame a m m c c' x (λ j u. refl) (below x k)) (over ns a m) (over ns a m) (λ x k. refl) tree (m i)
      ∙ sym (stored_is a m c' i)
