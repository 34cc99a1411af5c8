-- Why each way through the search is right: one lemma for each call that the code makes and for each way in which it returns. Each
-- takes what the code has learnt, in the code's order; what it says of terms is in SeekLaws of the crate below. Assumes nothing.
use Rattle.std.specs.Prelude.{ℕ, ◌+◌, ◌*◌, ◌-◌, ◌<◌, ◌≤◌, ◌≡◌, Bool, true, false, not, cond, List, [], ◌∷◌, map, eqb, length}
use Rattle.std.proofs.Math.Path.{refl, sym, ap, subst}
use Rattle.std.proofs.Common.{◌∙◌, subst₂, arith}
use Rattle.std.proofs.Math.Dec.{T}
use Rattle.std.proofs.Math.ListN.{set}
use Rattle.calculus.specs.Term.{Closing, done, withdrawn, failed, Std, skip, seq, par, pair, cseq, held}
use Rattle.calculus.specs.Successors.{eqc, only, ends, comps}
use Rattle.calculus.proofs.Equations.{ends_skip, comps_pair}
use Rattle.flow.specs.declared.Simple.{Simple}
use Rattle.flow.specs.declared.Simple.TheVariants.{Skip, Throw, Yield}
use Rattle.flow.specs.declared.Operator.{Operator}
use Rattle.flow.specs.declared.Operator.TheVariants.{Sequence, Choice, Parallel}
use Rattle.flow.specs.declared.Two.{Two}
use Rattle.flow.specs.declared.Node.TheVariants.{Compensable}
use Rattle.flow.specs.Kinds.{set_of, paired, compensable, shape}
use Rattle.flow.specs.Cues.{cued, joint_at}
use Rattle.flow.specs.Shapes.{Kid}
use Rattle.flow.specs.Trees.{Under, Tree}
use Rattle.flow.specs.NodeChildren.{two_kids, kids_disjoint}
use Rattle.tallies.specs.Capped.{cap}
use Rattle.tallies.specs.Counts.{sum_of, moves, view, tally, word, weight}
use Rattle.tallies.proofs.CountsLaws.{by_word, word_pair}
use Rattle.tallies.specs.Formulas.{skip_v, one_t, worded, pair_w, when_t, by_w, total, after_g, inside_g, beside_g, within_g, fitting_t, partners_t}
use Rattle.tallies.specs.Bare.{bare_w}
use Rattle.tallies.specs.BareLaws.{total_by_bare, total_when_bare, after_by_bare, beside_partners_bare, side_bare, fitting_bare}
use Rattle.tallies.proofs.SeekLaws.{fall_done, fall_withdrawn, fall_failed, total_by, total_when, seek_pair, seek_pair_skip, seek_skip, seek_calt_first, seek_calt_room, seek_calt_second, seek_second_room, seek_second, seek_held_room, seek_held, seek_own_room, seek_own, seek_both_room, seek_both_rest, seek_both, seek_par_first_room, seek_par_second_room, seek_par}
use Rattle.tallies.specs.Sought.{Falls}
use Rattle.tallies.specs.declared.Word.{Word}
use Rattle.tallies.specs.declared.Weight.{Weight}
use Rattle.states.specs.declared.Sense.TheVariants.{Drawn, Undoing}
use Rattle.states.specs.declared.Role.TheVariants.{Plain}
use Rattle.states.specs.declared.Course.{Course}
use Rattle.states.specs.declared.Course.TheVariants as course
use Rattle.states.specs.declared.Picked.{Picked}
use Rattle.states.specs.Standings as standings
use Rattle.states.specs.Standings.{first_taken, second_taken, left_second, left_nothing, left_first, left_both, stand, stand_undoing, undoing_two}
use Rattle.states.specs.State.{std_of, run_of, part, modes}
use Rattle.states.specs.Rows.{row, Notes, entries}
use Rattle.states.specs.Stored.{std_right}
use Rattle.states.specs.NotedLaws.{noted_stored}
use Rattle.states.specs.StateLaws.{std_part}
use Rattle.states.specs.LiveParts.{Twins}
use Rattle.states.specs.Becomes.{picked, known_of, seq_of, par_of, own_of, side_of, fitting_of, Lands, on_done, on_withdrawn, on_failed, Becomes, basic_stays, pair_to_second, pair_to_nothing, as_child, held_to_both, seq_to_first, seq_to_both, alt_to_first, alt_to_second, par_to_both}
use Rattle.states.specs.Clauses.{Spot, Kept, Sets, Redrawn, Scene, scene, weight_of, Ask, ask, Chosen, Weighed, Undone}
use Rattle.states.specs.ChildLaws.{set_sets, not_own, lower_spot, same_room, kept_set, kept_part, kid_lower, kept_kid, own_kept, same_part, spot_down}
use Rattle.seek.specs.Asked.{course_at, runs, left, lone, PairLeft, to_second, to_nothing, UndoneBelow, Picks, Wanted, Below, seconds, SecondWanted, SecondChosen}
use Rattle.seek.specs.WeighedLaws.{row_is, row_room, noted_still, weighed_still, first_weighed, second_weighed, held_row_is, pair_noted}
use Rattle.seek.specs.Undoing.{undone_is, alone_undone, undone_after}
use Rattle.seek.specs.NodeLaws.{course_runs, course_kids, course_node, left_is, room_is, sought_is, marked_picks, marked_mode, marked_kept, marked_beside}

-- What is read from the table ------------------------------------------------------------------------------------------------

module _ {ns t : List ℕ} {a i : ℕ} {n : Notes} (k : Weighed (scene ns t a) n i) where
  module _ (w : Closing) (g : Weight) where
    weight_read : {r : ℕ} → r ≡ total (by_w (row n.rows i) w) g → r ≡ weight_of (scene ns t a) i w g
    weight_read e = total_by a g _ w refl refl (e ∙ ap (λ x. total (by_w x w) g) (row_is k) ∙ total_by_bare (word a (runs ns t i)) w g)

    -- none where the closing is done
    own_read : {r : ℕ} → r ≡ total (when_t (not (eqc w done)) (by_w (row n.rows i) w)) g → r ≡ own_of (scene ns t a) i w g
    own_read e = (total_when a g _ w (not (eqc w done)) refl (e ∙ ap (λ x. total (when_t (not (eqc w done)) (by_w x w)) g) (row_is k) ∙ total_when_bare (word a (runs ns t i)) w g (not (eqc w done))))

    before_read : {r : Weight} → r ≡ after_g (by_w (row n.rows i) w) g → r ≡ after_g (tally a (comps (runs ns t i) w)) g
    before_read e = e ∙ ap (λ x. after_g (by_w x w) g) (row_is k) ∙ after_by_bare (word a (runs ns t i)) w g ∙ ap (λ x. after_g x g) (by_word a (runs ns t i) w)

-- A node of a course becomes what one of that course does
at_course : {ns t : List ℕ} {a i : ℕ} {x : Course} {q : Ask} {t' : List ℕ} {p : Picked} → course_at ns t i ≡ x → Becomes ns a x t i q t' p → Becomes ns a (course_at ns t i) t i q t' p
at_course {ns} {t} {a} {i} {q = q} {t' = t'} {p = p} e b = subst (λ x. Becomes ns a x t i q t' p) (sym e) b

-- where what is asked, or what is known, is said in another way
ask_is : {ns t : List ℕ} {a i : ℕ} {x : Course} {q q₂ : Ask} {t' : List ℕ} {p : Picked} → q ≡ q₂ → Becomes ns a x t i q t' p → Becomes ns a x t i q₂ t' p
ask_is {ns} {t} {a} {i} {x} {t' = t'} {p = p} e b = subst (λ q. Becomes ns a x t i q t' p) e b

known_is : {ns t : List ℕ} {a i : ℕ} {x : Course} {q : Ask} {t' : List ℕ} {p r : Picked} → r ≡ p → Becomes ns a x t i q t' p → Becomes ns a x t i q t' r
known_is {ns} {t} {a} {i} {x} {q} {t'} e b = subst (λ p. Becomes ns a x t i q t' p) (sym e) b

-- a pair whose first part cannot end done has no compensation by done
pair_none : (a : ℕ) (g : Weight) (p q : Std) {j : ℕ} → ends p done ≡ false → j < cap (sum_of (weight a g) (comps (pair p q) done)) → ⊥
unfolding sum_of only
pair_none a g p q {j} e h =
    let none : comps (pair p q) done ≡ [] = comps_pair p q done ∙ ap (λ b. only b (q ∷ [])) e in
    let k : j < cap (sum_of (weight a g) []) = subst (λ l. j < cap (sum_of (weight a g) l)) none h in
    omega (arith, k)

-- the row of a pair whose first part can end done tells what is known of the second
not_none : (b : Bool) → not (eqb (cond b 1 0) 0) ≡ b
not_none true = refl
not_none false = refl

lone_known : (a j : ℕ) (p k : Std) → ends p done ≡ true → {x : Word} → x ≡ bare_w (word a (pair p k)) → lone x j ≡ known_of a j k
unfolding view pair_w
lone_known a j p k o {x} e =
    let y : x ≡ bare_w (worded (cap (moves a p)) (one_t (view a k)) (when_t (ends p withdrawn) (one_t skip_v)) (when_t (ends p failed) (one_t skip_v))) = e ∙ ap bare_w (word_pair a p k) ∙ (λ z. bare_w (worded (cap (moves a p)) (when_t (o z) (one_t (view a k))) (when_t (ends p withdrawn) (one_t skip_v)) (when_t (ends p failed) (one_t skip_v)))) in
    (λ z. picked j (y z).done.moves (not (eqb (y z).done.able 0))) ∙ ap (picked j (cap (moves a k))) (not_none (ends k done))

-- on which closing a number falls
falls_on : {x y j : ℕ} {w : Closing} {r : ℕ} → Lands x y j w r → Falls x y j w r
falls_on (on_done h) = fall_done h
falls_on (on_withdrawn h k) = fall_withdrawn h k
falls_on (on_failed h k) = fall_failed h k

-- A node by its course ---------------------------------------------------------------------------------------------------------

pub wanted : {ns t : List ℕ} {a i : ℕ} {w : Closing} {g : Weight} {j : ℕ} {r x : Course} → Spot ns t i → j < weight_of (scene ns t a) i w g → r ≡ course_at ns t i → r ≡ x → Wanted (scene ns t a) i x w g j
wanted spot q e d = record { spot = spot; is = sym e ∙ d; room = q }

-- by its operator too
pub wanted_both : {s : Scene} {i : ℕ} {w : Closing} {g : Weight} {j : ℕ} {o o' : Operator} {two : Two} → Wanted s i (course.Both o two) w g j → o ≡ o' → Wanted s i (course.Both o' two) w g j
wanted_both {s} {i} {w} {g} {j} {two = two} h e = subst (λ o. Wanted s i (course.Both o two) w g j) e h

-- A node gets a mode, and a child is sought in ----------------------------------------------------------------------------------

module _ {ns t : List ℕ} {a i : ℕ} (m : ℕ) {c : ℕ} {w : Closing} {g : Weight} {j : ℕ} {t₁ : List ℕ} (e : t₁ ≡ set t i m) (b : Below (scene ns t a) i c w g j) where
  below_sets : Sets t i m t₁
  below_sets = set_sets b.spot.room e

  pub below_spot : Spot ns t₁ c
  below_spot = spot_down ns b.spot.node.sound.tree b.kid below_sets b.spot

  pub below_room : j < weight_of (scene ns t₁ a) c w g
  below_room = room_is a g w (ap (λ p. p.run) (sym (same_part ns b.spot.node.sound.tree b.kid below_sets))) b.room

  pub below_weighed : {n : Notes} → Weighed (scene ns t a) n c → Weighed (scene ns t₁ a) n c
  below_weighed {n} = weighed_still ns b.spot.node.sound.tree a c t t₁ n n (λ j u. sym (below_sets.others j (not_own ns b.spot.node.sound.tree b.kid u))) (λ j u. refl) refl

  pub below_chosen : {t' : List ℕ} {p : Picked} → Chosen (scene ns t₁ a) c (ask w g j) t' p → Chosen (scene ns (set t i m) a) c (ask w g j) t' p
  below_chosen {t'} {p} h = subst (λ u. Chosen (scene ns u a) c (ask w g j) t' p) e h

-- A part that is SKIP÷SKIP, THROW÷SKIP or YIELD÷SKIP: nothing changes ------------------------------------------------------------

module _ (a : ℕ) (g : Weight) (w : Closing) {j : ℕ} where
  skip_picks : (b : Simple) → j < cap (sum_of (weight a g) (comps (paired b) w)) → Picks a (ask w g j) (comps (paired b) w) skip (picked j 0 true)
  skip_picks Skip h = seek_skip a g _ w h
  skip_picks Throw h = seek_skip a g _ w h
  skip_picks Yield h = seek_skip a g _ w h

pub basic_chosen : {ns t : List ℕ} {a i : ℕ} {w : Closing} {g : Weight} {j : ℕ} {b : Simple} → Wanted (scene ns t a) i (course.Basic b) w g j → Chosen (scene ns t a) i (ask w g j) t (picked j 0 true)
unfolding run_of std_of
basic_chosen {ns} {t} {a} {i} {w} {g} {b} h =
    let tree = h.spot.node.sound.tree in
    let r : runs ns t i ≡ paired b = course_runs h.spot h.is in
    let l : left ns t i ≡ skip = std_part ns tree (modes t) i Undoing ∙ ap (λ x. std_of x Undoing (part ns (modes t))) (course_node h.spot h.is (modes t i)) in
    record { sought = sought_is a g w (sym r) (sym l) (skip_picks a g w b (room_is a g w r h.room)); kept = λ k u. refl; becomes = at_course h.is basic_stays }

-- P÷Q -----------------------------------------------------------------------------------------------------------------------

module _ {ns t : List ℕ} {i : ℕ} {two : Two} (spot : Spot ns t i) (e : course_at ns t i ≡ course.Pair two) where
  pair_tree : Tree (shape ns)
  pair_tree = spot.node.sound.tree

  pair_twins : Twins ns i two
  pair_twins = course_kids spot e

  pair_runs : runs ns t i ≡ pair ((part ns (modes t) two.first).std Drawn) ((part ns (modes t) two.second).std Drawn)
  unfolding run_of
  pair_runs = course_runs spot e

  pub pair_first : Spot ns t two.first
  pair_first = lower_spot spot (kid_lower ns pair_tree pair_twins.one)

  -- P is redrawn, and the node gets the mode m: Q stays
  module _ (m : ℕ) {t₁ t' : List ℕ} (x : Redrawn ns two.first t t₁) (f : t' ≡ set t₁ i m) where
    pair_sets : Sets t₁ i m t'
    pair_sets = set_sets (omega (arith, spot.room, x.long)) f

    pair_same : part ns (modes t') two.second ≡ part ns (modes t) two.second
    pair_same = same_part ns pair_tree pair_twins.other pair_sets ∙ kept_part ns pair_tree two.first pair_twins.free x.kept

    pair_kept : Kept ns i (modes t) (modes t')
    pair_kept j n = kept_set ns pair_sets j n ∙ kept_kid ns pair_tree pair_twins.one x.kept j n

  -- P can end done, if there is a compensation by done
  pair_over : (a j : ℕ) (g : Weight) → j < weight_of (scene ns t a) i done g → ends ((part ns (modes t) two.first).std Drawn) done ≡ true
  pair_over a j g room = by (ends ((part ns (modes t) two.first).std Drawn) done) refl
    where
      by : (b : Bool) → ends ((part ns (modes t) two.first).std Drawn) done ≡ b → ends ((part ns (modes t) two.first).std Drawn) done ≡ true
      by true e = e
      by false e = absurd (pair_none a g _ _ e (room_is a g done pair_runs room))

  module _ {a : ℕ} {w : Closing} {j : ℕ} {n : Notes} (k : Weighed (scene ns t a) n i) (g : Weight) (room : j < weight_of (scene ns t a) i w g) {t' : List ℕ} where
    pub pair_chosen : {p : Picked} → PairLeft ns t n.rows i two w j t' p → Chosen (scene ns t a) i (ask w g j) t' p
    unfolding std_of stand stand_undoing view
    pair_chosen (to_second o x f) =
        let q = pair_same left_second x f in
        let l : left ns t' i ≡ (part ns (modes t) two.second).std Drawn = left_is ns t' i pair_tree (course_node spot e) (pair_sets left_second x f).here ∙ ap (λ p. p.std Drawn) q in
        let u : lone (row n.rows i) j ≡ known_of a j ((part ns (modes t) two.second).std Drawn) = lone_known a j _ _ (pair_over a j g (subst (λ w. j < weight_of (scene ns t a) i w g) o room)) (row_is k ∙ ap (λ r. bare_w (word a r)) pair_runs) in
        subst (Chosen (scene ns t a) i (ask w g j) t') (sym u) (record {
          sought = sought_is a g w (sym pair_runs) (sym l) (seek_pair a g _ _ o refl (room_is a g w pair_runs room));
          kept = pair_kept left_second x f;
          becomes = at_course e (pair_to_second o x (pair_sets left_second x f));
        })
    pair_chosen (to_nothing o x f) = record {
      sought = sought_is a g w (sym pair_runs) (sym (left_is ns t' i pair_tree (course_node spot e) (pair_sets left_nothing x f).here)) (seek_pair_skip a g _ _ w o (room_is a g w pair_runs room));
      kept = pair_kept left_nothing x f;
      becomes = at_course e (pair_to_nothing o x (pair_sets left_nothing x f));
    }

    -- what is drawn below is as it was
    pub pair_undone : {p : Picked} → PairLeft ns t n.rows i two w j t' p → UndoneBelow (scene ns t' a) i n n
    unfolding std_right stand stand_undoing
    pair_undone (to_second o x f) =
        let drawn = pair_noted k spot e (pair_over a j g (subst (λ w. j < weight_of (scene ns t a) i w g) o room)) in
        let w' = pair_sets left_second x f in
        let same : (m : ℕ) → Under (shape ns) two.second m → modes t m ≡ modes t' m = λ m u. sym (w'.others m (not_own ns pair_tree pair_twins.other u) ∙ x.kept m (λ v. pair_twins.free m v u)) in
        let still = noted_still ns pair_tree a two.second t t' n n same (λ m u. refl) (λ z. z.std Drawn) drawn in
        record { right = subst T (sym (undone_is ns t' a i pair_tree n (course_node spot e) w'.here)) (noted_stored ns a (modes t') (entries n) two.second (Plain Drawn) still); kept = λ m u. refl }
    pair_undone (to_nothing o x f) = record { right = subst T (sym (undone_is ns t' a i pair_tree n (course_node spot e) (pair_sets left_nothing x f).here)) tt; kept = λ m u. refl }

-- A choice that has been made -----------------------------------------------------------------------------------------------

module _ {ns t : List ℕ} {a i c : ℕ} {w : Closing} {g : Weight} {j : ℕ} (h : Wanted (scene ns t a) i (course.As c) w g j) where
  as_tree : Tree (shape ns)
  as_tree = h.spot.node.sound.tree

  as_runs : runs ns t i ≡ runs ns t c
  unfolding run_of
  as_runs = course_runs h.spot h.is

  pub as_lower : c < i
  as_lower = kid_lower ns as_tree (course_kids h.spot h.is)

  pub as_room : j < weight_of (scene ns t a) c w g
  as_room = room_is a g w as_runs h.room

  -- its mode stays, and says what it becomes too
  pub as_chosen : {t' : List ℕ} {p : Picked} → Chosen (scene ns t a) c (ask w g j) t' p → Chosen (scene ns t a) i (ask w g j) t' p
  unfolding std_of
  as_chosen {t'} x =
      let l : left ns t' i ≡ left ns t' c = left_is ns t' i as_tree refl (own_kept ns as_tree (course_kids h.spot h.is) x.kept) ∙ ap (λ x. std_of x Undoing (part ns (modes t'))) (course_node h.spot h.is) in
      record { sought = sought_is a g w (sym as_runs) (sym l) x.sought; kept = kept_kid ns as_tree (course_kids h.spot h.is) x.kept; becomes = at_course h.is (as_child x.becomes) }

-- Two parts that both run, whatever joins them ------------------------------------------------------------------------------

module _ {ns t : List ℕ} {a i : ℕ} {w : Closing} {g : Weight} {j : ℕ} {o : Operator} {two : Two} (h : Wanted (scene ns t a) i (course.Both o two) w g j) where
  two_tree : Tree (shape ns)
  two_tree = h.spot.node.sound.tree

  two_twins : Twins ns i two
  two_twins = course_kids h.spot h.is

  two_runs : runs ns t i ≡ compensable cued.sets o (runs ns t two.first) (runs ns t two.second)
  unfolding run_of
  two_runs = course_runs h.spot h.is

  two_room : j < cap (sum_of (weight a g) (comps (compensable cued.sets o (runs ns t two.first) (runs ns t two.second)) w))
  two_room = room_is a g w two_runs h.room

  pub first_lower : two.first < i
  first_lower = kid_lower ns two_tree two_twins.one

  pub second_lower : two.second < i
  second_lower = kid_lower ns two_tree two_twins.other

  pub first_spot : Spot ns t two.first
  first_spot = lower_spot h.spot first_lower

  pub second_spot : Spot ns t two.second
  second_spot = lower_spot h.spot second_lower

  module _ {n : Notes} (k : Weighed (scene ns t a) n i) where
    pub first_known : Weighed (scene ns t a) n two.first
    first_known = first_weighed k h.spot h.is

    pub second_known : Weighed (scene ns t a) n two.second
    second_known = second_weighed k h.spot h.is

    pub first_row : 9 * two.first + 8 < length n.rows
    first_row = row_room first_known first_spot

    pub second_row : 9 * two.second + 8 < length n.rows
    second_row = row_room second_known second_spot

    -- the first has become its compensation, and the second is as it was
    pub second_still : {t₁ : List ℕ} {n₁ : Notes} → Kept ns two.first (modes t) (modes t₁) → Kept ns two.first (entries n) (entries n₁) → length n₁.rows ≡ length n.rows → Weighed (scene ns t₁ a) n₁ two.second
    second_still {t₁} {n₁} x y l = weighed_still ns two_tree a two.second t t₁ n n₁ (λ j u. sym (x j (λ v. two_twins.free j v u))) (λ j u. sym (y j (λ v. two_twins.free j v u))) l second_known

  -- the mode m leaves the child c alone, and what is picked there is what is picked in the whole
  alone_chosen : (m : ℕ) {c n : ℕ} → Kid (shape ns) i c → stand Undoing (Compensable o two) m ≡ standings.only c Undoing → {t' : List ℕ} {p : Picked}
      → (Picks a (ask w g n) (comps (runs ns t c) w) (left ns t' c) p → Picks a (ask w g j) (comps (compensable cued.sets o (runs ns t two.first) (runs ns t two.second)) w) (left ns t' c) p)
      → (Sets t i m (set t i m) → Becomes ns a (course_at ns (set t i m) c) (set t i m) c (ask w g n) t' p → Becomes ns a (course.Both o two) t i (ask w g j) t' p)
      → Chosen (scene ns (set t i m) a) c (ask w g n) t' p → Chosen (scene ns t a) i (ask w g j) t' p
  unfolding std_of
  alone_chosen m {c} kid e {t'} up way x =
      let l : left ns t' i ≡ left ns t' c = left_is ns t' i two_tree (course_node h.spot h.is) (marked_mode m h.spot kid x) ∙ ap (λ x. std_of x Undoing (part ns (modes t'))) e in
      record { sought = sought_is a g w (sym two_runs) (sym l) (up (marked_picks m h.spot kid x)); kept = marked_kept m h.spot kid x; becomes = at_course h.is (way (set_sets h.spot.room refl) x.becomes) }

-- PP□QQ ---------------------------------------------------------------------------------------------------------------------

module _ {ns t : List ℕ} {a i : ℕ} {w : Closing} {g : Weight} {j : ℕ} {two : Two} (h : Wanted (scene ns t a) i (course.Both Choice two) w g j) where
  pub choice_weight : {n : Notes} → Weighed (scene ns t a) n i → {c : ℕ} → c ≡ total (by_w (row n.rows two.first) w) g → c ≡ weight_of (scene ns t a) two.first w g
  choice_weight k = weight_read (first_known h k) w g

  -- the first's compensations weigh c
  module _ {c : ℕ} (d : c ≡ weight_of (scene ns t a) two.first w g) where
    module _ (lt : j < c) where
      pub choice_first_below : Below (scene ns t a) i two.first w g j
      choice_first_below = record { spot = h.spot; kid = (two_twins h).one; room = omega (arith, d) }

      pub choice_first : {t' : List ℕ} {p : Picked} → Chosen (scene ns (set t i first_taken) a) two.first (ask w g j) t' p → Chosen (scene ns t a) i (ask w g j) t' p
      unfolding stand stand_undoing undoing_two
      choice_first = alone_chosen h first_taken (two_twins h).one refl (seek_calt_first a g _ _ w) (alt_to_first (omega (arith, d, lt)))

      pub choice_first_undone : {q : Ask} {t' : List ℕ} {p : Picked} → Chosen (scene ns (set t i first_taken) a) two.first q t' p → {n n' : Notes} → Undone (scene ns t' a) two.first n n' → UndoneBelow (scene ns t' a) i n n'
      unfolding stand stand_undoing undoing_two
      choice_first_undone = alone_undone h first_taken (two_twins h).one refl

    module _ (le : c ≤ j) where
      pub choice_second_below : Below (scene ns t a) i two.second w g (j - c)
      choice_second_below = record { spot = h.spot; kid = (two_twins h).other; room = seek_calt_room a g _ _ w d (two_room h) le }

      pub choice_second : {t' : List ℕ} {p : Picked} → Chosen (scene ns (set t i second_taken) a) two.second (ask w g (j - c)) t' p → Chosen (scene ns t a) i (ask w g j) t' p
      unfolding stand stand_undoing undoing_two
      choice_second = alone_chosen h second_taken (two_twins h).other refl (seek_calt_second a g _ _ w d (two_room h) le) (λ u b. alt_to_second (omega (arith, d, le)) u (ask_is (λ z. ask w g (j - d z)) b))

      pub choice_second_undone : {q : Ask} {t' : List ℕ} {p : Picked} → Chosen (scene ns (set t i second_taken) a) two.second q t' p → {n n' : Notes} → Undone (scene ns t' a) two.second n n' → UndoneBelow (scene ns t' a) i n n'
      unfolding stand stand_undoing undoing_two
      choice_second_undone = alone_undone h second_taken (two_twins h).other refl

-- PP;QQ: the second, before what the first has become -----------------------------------------------------------------------

module _ {ns t : List ℕ} {a i : ℕ} {w : Closing} {g : Weight} {two : Two} {k : Picked} (h : SecondWanted (scene ns t a) i two w g k) {g₂ : Weight} (eg : g₂ ≡ inside_g g k.moves k.able) where
  second_tree : Tree (shape ns)
  second_tree = h.spot.node.sound.tree

  pub second_below : Below (scene ns t a) i two.second w g₂ k.rest
  second_below = record { spot = h.spot; kid = (two_kids ns i h.is two refl).1; room = seek_second_room a g _ _ h.counted h.ended eg h.room }

  pub second_chosen : {t' : List ℕ} {p : Picked} → Chosen (scene ns (set t i left_both) a) two.second (ask w g₂ k.rest) t' p
      → SecondChosen (scene ns t a) i two w g k t' (seq_of p k)
  unfolding std_of stand stand_undoing undoing_two
  second_chosen {t'} {p} m =
      let kids = two_kids ns i h.is two refl in
      let f : part ns (modes t') two.first ≡ part ns (modes t) two.first = marked_beside left_both h.spot kids.1 m kids.0 (λ j u v. kids_disjoint ns i h.is two refl second_tree j v u) in
      let l : left ns t' i ≡ seq (left ns t' two.second) (left ns t' two.first) = left_is ns t' i second_tree h.is (marked_mode left_both h.spot kids.1 m) in
      let r : seq (left ns t' two.second) (left ns t two.first) ≡ left ns t' i = sym (l ∙ ap (λ p. seq (left ns t' two.second) (p.std Undoing)) f) in
      record {
        sought = subst (λ x. Picks a (ask w g k.rest) (seconds (scene ns t a) two w) x (seq_of p k)) r
            (seek_second a g _ _ h.counted h.ended eg h.room (marked_picks left_both h.spot kids.1 m));
        kept = marked_kept left_both h.spot kids.1 m;
        between = set t i left_both;
        last = p;
        sets = set_sets h.spot.room refl;
        becomes = ask_is (ap (λ g. ask w g k.rest) eg) m.becomes;
        is = refl;
      }

-- PP;QQ whose PP has ended --------------------------------------------------------------------------------------------------

module _ {ns t : List ℕ} {a i : ℕ} {w : Closing} {g : Weight} {j : ℕ} {two : Two} (h : Wanted (scene ns t a) i (course.Held two) w g j) where
  held_tree : Tree (shape ns)
  held_tree = h.spot.node.sound.tree

  held_twins : Twins ns i two
  held_twins = course_kids h.spot h.is

  held_runs : runs ns t i ≡ held (runs ns t two.second) (left ns t two.first)
  unfolding run_of
  held_runs = course_runs h.spot h.is

  pub held_spot : Spot ns t two.first
  held_spot = lower_spot h.spot (kid_lower ns held_tree held_twins.one)

  module _ {n : Notes} (k : Weighed (scene ns t a) n i) where
    pub held_room : 9 * two.first + 8 < length n.rows
    held_room = omega (arith, row_room k h.spot, kid_lower ns held_tree held_twins.one)

    -- PP's compensation, as its row tells
    held_is : lone (row n.rows two.first) j ≡ known_of a j (left ns t two.first)
    held_is = lone_known a j skip (left ns t two.first) (ends_skip done) (held_row_is k h.spot h.is)

    pub held_wanted : {l : Picked} → l ≡ lone (row n.rows two.first) j → SecondWanted (scene ns t a) i two w g l
    held_wanted {l} e = subst (SecondWanted (scene ns t a) i two w g) (sym (e ∙ held_is)) (record {
      spot = h.spot;
      is = course_node h.spot h.is;
      counted = refl;
      ended = refl;
      room = seek_held_room a g _ _ w (room_is a g w held_runs h.room);
    })

    pub held_chosen : {l : Picked} → l ≡ lone (row n.rows two.first) j → {t' : List ℕ} {p : Picked} → SecondChosen (scene ns t a) i two w g l t' p → Chosen (scene ns t a) i (ask w g j) t' p
    held_chosen {l} e {t'} {p} m = by (subst (λ l. SecondChosen (scene ns t a) i two w g l t' p) (e ∙ held_is) m)
      where
        by : SecondChosen (scene ns t a) i two w g (known_of a j (left ns t two.first)) t' p → Chosen (scene ns t a) i (ask w g j) t' p
        by m =
            let u : Picks a (ask w g j) (comps (held (runs ns t two.second) (left ns t two.first)) w) (left ns t' i) p = seek_held a g _ _ w m.sought in
            record { sought = sought_is a g w (sym held_runs) refl u; kept = m.kept; becomes = at_course h.is (known_is m.is (held_to_both m.sets m.becomes)) }

-- PP;QQ whose PP runs -------------------------------------------------------------------------------------------------------

module _ {ns t : List ℕ} {a i : ℕ} {w : Closing} {g : Weight} {j : ℕ} {two : Two} (h : Wanted (scene ns t a) i (course.Both Sequence two) w g j) where
  module _ {n : Notes} (k : Weighed (scene ns t a) n i) where
    pub own_weight : {c : ℕ} → c ≡ total (when_t (not (eqc w done)) (by_w (row n.rows two.first) w)) g → c ≡ own_of (scene ns t a) two.first w g
    own_weight = own_read (first_known h k) w g

    pub weight_before : {g₁ : Weight} → g₁ ≡ after_g (by_w (row n.rows two.second) w) g → g₁ ≡ after_g (tally a (comps (runs ns t two.second) w)) g
    weight_before = before_read (second_known h k) w g

  module _ {c : ℕ} (d : c ≡ own_of (scene ns t a) two.first w g) where
    -- PP closes by w
    module _ (lt : j < c) where
      pub own_below : Below (scene ns t a) i two.first w g j
      own_below = record { spot = h.spot; kid = (two_twins h).one; room = seek_own_room a g _ _ w d (two_room h) lt }

      pub own_chosen : {t' : List ℕ} {p : Picked} → Chosen (scene ns (set t i left_first) a) two.first (ask w g j) t' p → Chosen (scene ns t a) i (ask w g j) t' p
      unfolding stand stand_undoing undoing_two
      own_chosen = alone_chosen h left_first (two_twins h).one refl (seek_own a g _ _ w d (two_room h) lt) (seq_to_first (omega (arith, d, lt)))

      pub own_undone : {q : Ask} {t' : List ℕ} {p : Picked} → Chosen (scene ns (set t i left_first) a) two.first q t' p → {n n' : Notes} → Undone (scene ns t' a) two.first n n' → UndoneBelow (scene ns t' a) i n n'
      unfolding stand stand_undoing undoing_two
      own_undone = alone_undone h left_first (two_twins h).one refl

    -- PP ends done, and QQ closes by w
    module _ (le : c ≤ j) {g₁ : Weight} (eg : g₁ ≡ after_g (tally a (comps (runs ns t two.second) w)) g) where
      pub both_room : j - c < weight_of (scene ns t a) two.first done g₁
      both_room = seek_both_room a g _ _ w d (two_room h) le refl eg

      module _ {t₁ : List ℕ} {k : Picked} (x : Chosen (scene ns t a) two.first (ask done g₁ (j - c)) t₁ k) where
        -- what the first has become is read off the new modes, and the second is as it was
        both_list : map (λ x. seq x (left ns t₁ two.first)) (comps (runs ns t two.second) w) ≡ seconds (scene ns t₁ a) two w
        both_list =
            let q : part ns (modes t₁) two.second ≡ part ns (modes t) two.second = kept_part ns (two_tree h) two.first (two_twins h).free x.kept in
            λ z. map (λ x. seq x (left ns t₁ two.first)) (comps (sym q z).run w)

        pub both_wanted : length t₁ ≡ length t → SecondWanted (scene ns t₁ a) i two w g k
        both_wanted l = record {
          spot = same_room h.spot l;
          is = course_node h.spot h.is;
          counted = x.sought.counted;
          ended = x.sought.ended;
          room = subst (λ l. k.rest < cap (sum_of (weight a g) l)) both_list (seek_both_rest a g _ _ w d (two_room h) le refl eg x.sought);
        }

        pub both_chosen : {t' : List ℕ} {p : Picked} → SecondChosen (scene ns t₁ a) i two w g k t' p → Chosen (scene ns t a) i (ask w g j) t' p
        both_chosen {t'} {p} m =
            let v : Picks a (ask w g k.rest) (map (λ x. seq x (left ns t₁ two.first)) (comps (runs ns t two.second) w)) (left ns t' i) p = subst (λ l. Picks a (ask w g k.rest) l (left ns t' i) p) (sym both_list) m.sought in
            let u : Picks a (ask w g j) (comps (cseq (runs ns t two.first) (runs ns t two.second)) w) (left ns t' i) p = seek_both a g _ _ w d (two_room h) le refl eg x.sought v in
            record {
              sought = sought_is a g w (sym (two_runs h)) refl u;
              kept = λ y u. m.kept y u ∙ kept_kid ns (two_tree h) (two_twins h).one x.kept y u;
              becomes = at_course h.is (known_is m.is (seq_to_both (omega (arith, d, le)) (ask_is (λ z. ask done (eg z) (j - d z)) x.becomes) m.sets m.becomes));
            }

  pub both_undone : {t₁ t' : List ℕ} {n n₁ n₂ : Notes} → Undone (scene ns t₁ a) two.first n n₁ → UndoneBelow (scene ns t' a) i n₁ n₂ → UndoneBelow (scene ns t' a) i n n₂
  both_undone u v = undone_after (two_tree h) (two_twins h).one u.kept v

-- PP∥QQ ---------------------------------------------------------------------------------------------------------------------

-- b says whether the event is joint
module _ {ns t : List ℕ} {a i : ℕ} {w : Closing} {g : Weight} {j n : ℕ} {two : Two} (h : Wanted (scene ns t a) i (course.Both (Parallel n) two) w g j) {m : Notes} (weighed : Weighed (scene ns t a) m i) {b : Bool} (eb : b ≡ joint_at a n) where
  abbrev first_word : Word
  first_word = word a (runs ns t two.first)

  abbrev second_word : Word
  second_word = word a (runs ns t two.second)

  module _ {p q : Word} (ep : p ≡ row m.rows two.first) (eq : q ≡ row m.rows two.second) where
    first_is : p ≡ bare_w first_word
    first_is = ep ∙ row_is (first_known h weighed)

    second_is : q ≡ bare_w second_word
    second_is = eq ∙ row_is (second_known h weighed)

    side_is : (x : Closing) → total (by_w p x) (beside_g b (partners_t q w x) g) ≡ total (by_w first_word x) (beside_g (joint_at a n) (partners_t second_word w x) g)
    side_is x = (λ z. total (by_w (first_is z) x) (beside_g (eb z) (partners_t (second_is z) w x) g)) ∙ side_bare (joint_at a n) first_word second_word w x g

    beside_is : (x : Closing) → beside_g b (partners_t q w x) g ≡ beside_g (joint_at a n) (partners_t second_word w x) g
    beside_is x = (λ z. beside_g (eb z) (partners_t (second_is z) w x) g) ∙ beside_partners_bare (joint_at a n) second_word w x g

    fitting_is : (x y : Closing) (g₂ : Weight) → total (fitting_t q w x y) g₂ ≡ total (fitting_t second_word w x y) g₂
    fitting_is x y g₂ = ap (λ q. total (fitting_t q w x y) g₂) second_is ∙ fitting_bare second_word w x y g₂

  within_is : (k : Picked) {g₂ : Weight} → g₂ ≡ within_g b g k.moves k.able → g₂ ≡ within_g (joint_at a n) g k.moves k.able
  within_is k e = e ∙ ap (λ b. within_g b g k.moves k.able) eb

  module _ {p q : Word} (ep : p ≡ row m.rows two.first) (eq : q ≡ row m.rows two.second) {x : Closing} {r : ℕ} (fx : Lands (total (by_w p done) (beside_g b (partners_t q w done) g)) (total (by_w p withdrawn) (beside_g b (partners_t q w withdrawn) g)) j x r) {g₁ : Weight} (e₁ : g₁ ≡ beside_g b (partners_t q w x) g) where
    pub par_first_room : r < weight_of (scene ns t a) two.first x g₁
    par_first_room = seek_par_first_room a g (set_of cued.sets n) _ _ w refl refl (two_room h) (side_is ep eq done) (side_is ep eq withdrawn) (falls_on fx) (e₁ ∙ beside_is ep eq x)

    module _ {t₁ : List ℕ} {k : Picked} (c₁ : Chosen (scene ns t a) two.first (ask x g₁ r) t₁ k) {g₂ : Weight} (e₂ : g₂ ≡ within_g b g k.moves k.able) {y : Closing} {r₂ : ℕ} (fy : Lands (total (fitting_t q w x done) g₂) (total (fitting_t q w x withdrawn) g₂) k.rest y r₂) where
      second_same : part ns (modes t₁) two.second ≡ part ns (modes t) two.second
      second_same = kept_part ns (two_tree h) two.first (two_twins h).free c₁.kept

      pub par_second_room : r₂ < weight_of (scene ns t₁ a) two.second y g₂
      par_second_room = room_is a g₂ y (ap (λ p. p.run) (sym second_same)) (seek_par_second_room a g (set_of cued.sets n) _ _ w refl refl (two_room h) (side_is ep eq done) (side_is ep eq withdrawn) (falls_on fx) (e₁ ∙ beside_is ep eq x) c₁.sought (within_is k e₂) (fitting_is ep eq x done g₂) (fitting_is ep eq x withdrawn g₂) (falls_on fy))

      -- the same by what the terms weigh
      first_lands : Lands (side_of (scene ns t a) (joint_at a n) two.first two.second (ask w g j) done) (side_of (scene ns t a) (joint_at a n) two.first two.second (ask w g j) withdrawn) j x r
      first_lands = subst₂ (λ u v. Lands u v j x r) (side_is ep eq done) (side_is ep eq withdrawn) fx

      fitting_same : (v : Closing) → total (fitting_t q w x v) g₂ ≡ fitting_of (scene ns t a) (joint_at a n) two.second (ask w g j) x k v
      fitting_same v = fitting_is ep eq x v g₂ ∙ ap (total (fitting_t second_word w x v)) (within_is k e₂)

      second_lands : Lands (fitting_of (scene ns t a) (joint_at a n) two.second (ask w g j) x k done) (fitting_of (scene ns t a) (joint_at a n) two.second (ask w g j) x k withdrawn) k.rest y r₂
      second_lands = subst₂ (λ u v. Lands u v k.rest y r₂) (fitting_same done) (fitting_same withdrawn) fy

      pub par_chosen : {t₂ : List ℕ} {l : Picked} → Chosen (scene ns t₁ a) two.second (ask y g₂ r₂) t₂ l → Chosen (scene ns t a) i (ask w g j) t₂ (par_of b k l)
      unfolding std_of stand stand_undoing undoing_two
      par_chosen {t₂} {l} c₂ =
          let z : part ns (modes t₂) two.first ≡ part ns (modes t₁) two.first = kept_part ns (two_tree h) two.second (λ j u v. (two_twins h).free j v u) c₂.kept in
          let o : left ns t₂ i ≡ par (set_of cued.sets n) (left ns t₂ two.first) (left ns t₂ two.second) = left_is ns t₂ i (two_tree h) (course_node h.spot h.is) refl in
          let whole : par (set_of cued.sets n) (left ns t₁ two.first) (left ns t₂ two.second) ≡ left ns t₂ i = sym (o ∙ ap (λ p. par (set_of cued.sets n) (p.std Undoing) (left ns t₂ two.second)) z) in
          let v : Picks a (ask y g₂ r₂) (comps (runs ns t two.second) y) (left ns t₂ two.second) l = sought_is a g₂ y (ap (λ p. p.run) second_same) refl c₂.sought in
          subst (λ b. Chosen (scene ns t a) i (ask w g j) t₂ (par_of b k l)) (sym eb) (record {
            sought = sought_is a g w (sym (two_runs h)) whole (seek_par a g (set_of cued.sets n) _ _ w refl refl (two_room h) (side_is ep eq done) (side_is ep eq withdrawn) (falls_on fx) (e₁ ∙ beside_is ep eq x) c₁.sought (within_is k e₂) (fitting_is ep eq x done g₂) (fitting_is ep eq x withdrawn g₂) (falls_on fy) v);
            kept = λ b u. kept_kid ns (two_tree h) (two_twins h).other c₂.kept b u ∙ kept_kid ns (two_tree h) (two_twins h).one c₁.kept b u;
            becomes = at_course h.is (par_to_both first_lands (ask_is (ap (λ g. ask x g r) (e₁ ∙ beside_is ep eq x)) c₁.becomes) second_lands (ask_is (ap (λ g. ask y g r₂) (within_is k e₂)) c₂.becomes));
          })
