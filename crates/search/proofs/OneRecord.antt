-- One record: the counting pass, the steps and the choice of a compensation give what the functions over a role promise, and tell whether
-- the record can follow. `i` is the root's number, as the code has it. Assumes nothing.
use Prim.Native.Nat.{ℕ, suc, ◌-◌, ◌≤◌, ◌<◌}
use mathlib.Core.Path.{◌≡◌, refl, sym, ap, ◌∙◌, subst, subst₂}
use mathlib.Core.Bool.{Bool, true, false, cond}
use mathlib.Core.Logic.{◌≢◌}
use mathlib.Core.List.{List, [], ◌∷◌, map}
use native.Mathlib.Omega.{arith}
use lib.Dec.{T, ltb}
use lib.ListN.{length, length-map}
use borrow.Author.Tests.{lt-ltb, le-ltb}
use Rattle.calculus.specs.Term.{Closing, done, withdrawn, failed, Std}
use Rattle.calculus.specs.Records.{State, over, std, cmp, Fits}
use Rattle.calculus.specs.Successors.{only, some_of, ends, comps}
use Rattle.calculus.specs.Search.{next}
use Rattle.calculus.specs.Ahead.{passes, may_follow}
use Rattle.calculus.specs.Spending.{spent, back, chain, tries_b, visit_b}
use Rattle.flow.specs.Cues.{done_cue, failed_cue, cue_record, cue_records}
use Rattle.flow.specs.Refusals.{root}
use Rattle.tallies.specs.Capped.{cap}
use Rattle.tallies.specs.Counts.{moves, view, tally, word}
use Rattle.tallies.specs.Formulas.{by_w, closing, one_g}
use Rattle.tallies.specs.PlacesLaws.{at_map}
use Rattle.tallies.specs.Places.{At}
use Rattle.tallies.proofs.SeekLaws.{view_moves, word_moves, tally_by, seek_one, seek_one_room}
use Rattle.tallies.specs.declared.Closing.{Closing as Ending}
use Rattle.tallies.specs.declared.View.{View}
use Rattle.tallies.specs.declared.Tally.{Tally}
use Rattle.tallies.specs.declared.Word.{Word}
use Rattle.states.specs.State.{Part, part, modes}
use Rattle.states.specs.declared.Picked.{Picked}
use Rattle.states.specs.declared.Sense.{Sense}
use Rattle.states.specs.declared.Sense.TheVariants.{Undoing}
use Rattle.states.specs.declared.Role.{Role}
use Rattle.states.specs.declared.Role.TheVariants.{Plain, Running}
use Rattle.states.specs.Roles.{Term, get, nexts, many, Sight, look, moves_of, ok}
use Rattle.states.specs.Rows.{Notes, notes, entries}
use Rattle.states.specs.NotedLaws.{noted_stored}
use Rattle.states.specs.Clauses.{Spot, scene, noted_at, weight_of, ask, Counted, Weighed, Ready, Stepped, Chosen}
use Rattle.search.specs.Visits.{state, role_next, closing_of, ends_by, onward, Inner, RightCounts, successor_count, SuccessorsCounted, Applied}
use Rattle.search.proofs.Numbers.{record_event, record_close, last_close, not_twice}

-- Successors, by the role -------------------------------------------------------------------------------------------------

-- a part in its role is a state
abbrev as_state : (x : Role) → Term x → State
as_state (Plain s) p = std p
as_state Running pp = cmp pp

module _ (ns t : List ℕ) where
  abbrev at_root : Part
  at_root = part ns (modes t) (root ns)

  state_is : (x : Role) → state ns x t ≡ as_state x (get x at_root)
  unfolding state
  state_is (Plain s) = refl
  state_is Running = refl

  module _ (r : ℕ) where
    -- by an event
    next_event : (x : Role) → r < done_cue → next (state ns x t) (cue_record r) ≡ map (as_state x) (nexts x (get x at_root) r)
    unfolding state next
    next_event (Plain s) h = ap (next (state ns (Plain s) t)) (record_event r h)
    next_event Running h = ap (next (state ns Running t)) (record_event r h)

    count_event : (x : Role) → r < done_cue → successor_count ns x r t ≡ many x r at_root
    count_event x h = ap (λ l. cap (length l)) (next_event x h) ∙ ap cap (length-map (nexts x (get x at_root) r) (as_state x))

    -- a part that runs, by a closing
    next_closing : done_cue ≤ r → r ≤ failed_cue → next (state ns Running t) (cue_record r) ≡ map std (comps at_root.run (closing_of r))
    unfolding state next
    next_closing h k = ap (next (state ns Running t)) (record_close r h k)

    count_closing : done_cue ≤ r → r ≤ failed_cue → successor_count ns Running r t ≡ cap (length (comps at_root.run (closing_of r)))
    count_closing h k = ap (λ l. cap (length l)) (next_closing h k) ∙ ap cap (length-map (comps at_root.run (closing_of r)) std)

-- the number of steps that is seen
moves_seen : (q : Role) (a : ℕ) (p : Part) {v : Sight q} → v ≡ look q a (get q p) → moves_of q v ≡ many q a p
unfolding moves
moves_seen (Plain s) a p e = view_moves a (p.std s) e
moves_seen Running a p e = word_moves a p.run e

-- the role after an event
role_stays : (x : Role) (r : ℕ) → r < done_cue → role_next x r ≡ x
unfolding role_next
role_stays (Plain s) r h = refl
role_stays Running r h = ap (λ b. cond b Running (Plain Undoing)) (lt-ltb r done_cue h)

-- the role that the code has found
module _ (ns t : List ℕ) (r i : ℕ) (e : i ≡ root ns) {role x : Role} (g : role ≡ x) where
  pub inner_is : Inner role r → Inner x r
  inner_is h = subst (λ z. Inner z r) g h

  -- An event ------------------------------------------------------------------------------------------------------------

  module _ (event : r < done_cue) where
    pub counted_event : {c : Notes} {c' d' : List ℕ} {v : Sight x} → length c.rows ≡ 576 → Counted (scene ns t r) x i c (notes c' d') v → SuccessorsCounted ns role r t c' d' (moves_of x v)
    counted_event {c} {c'} {d'} {v} long k =
        let q : Counted (scene ns t r) x (root ns) c (notes c' d') v = subst (λ j. Counted (scene ns t r) x j c (notes c' d') v) e k in
        subst (λ z. SuccessorsCounted ns z r t c' d' (moves_of x v)) (sym g)
        (record { many = moves_seen x r (at_root ns t) q.seen ∙ sym (count_event ns t r x event); right = record { long = q.long ∙ long; right = q.right } })

    pub step_asked : Spot ns t (root ns) → {c d : List ℕ} → RightCounts ns role r t c d → {k : ℕ} → k < successor_count ns role r t → Ready (scene ns t r) x (notes c d) i k
    step_asked spot {c} {d} right {k} h = subst (λ j. Ready (scene ns t r) x (notes c d) j k) (sym e) (record {
      spot = spot;
      long = right.long;
      right = noted_stored ns r (modes t) (entries (notes c d)) (root ns) x (subst (λ z. T (ok z (noted_at (scene ns t r) (notes c d) (root ns)))) g right.right);
      room = subst (λ n. k < n) (ap (λ z. successor_count ns z r t) g ∙ count_event ns t r x event) h;
    })

    pub step_applied : {k : ℕ} {t' : List ℕ} → Stepped (scene ns t r) x i k t' → Applied ns role r t k t'
    step_applied {k} {t'} s =
        let q : Stepped (scene ns t r) x (root ns) k t' = subst (λ j. Stepped (scene ns t r) x j k t') e s in
        subst (λ z. Applied ns z r t k t') (sym g) (record {
          goes = subst₂ (λ l z. At l k z) (sym (next_event ns t r x event)) (sym (state_is ns t' x) ∙ ap (λ z. state ns z t') (sym (role_stays x r event))) (at_map (as_state x) q.goes);
          kept = q.kept;
        })

-- Whether a record can follow -----------------------------------------------------------------------------------------------

-- it can where there is a successor
some_follow : (l : List State) → ltb 0 (cap (length l)) ≡ some_of (λ t. passes [] t) l
unfolding passes some_of
some_follow [] = refl
some_follow (s ∷ l) = lt-ltb 0 (cap (length (s ∷ l))) (omega arith)

pub count_follows : (ns : List ℕ) (role : Role) (r : ℕ) (t : List ℕ) {n : ℕ} → n ≡ successor_count ns role r t → ltb 0 n ≡ may_follow [] (state ns role t) (cue_record r)
unfolding passes
count_follows ns role r t e = ap (ltb 0) e ∙ some_follow (next (state ns role t) (cue_record r))

-- nothing left, or no successor
only_follow : (b : Bool) → b ≡ some_of (λ t. passes [] t) (only b (over ∷ []))
unfolding passes some_of only
only_follow true = refl
only_follow false = refl

pub end_follows : (s : State) (r : ℕ) {b : Bool} → next s (cue_record r) ≡ only b (over ∷ []) → b ≡ may_follow [] s (cue_record r)
unfolding passes
end_follows s r {b} e = only_follow b ∙ ap (some_of (λ t. passes [] t)) (sym e)

-- A closing of a part that runs ---------------------------------------------------------------------------------------------

module _ (ns t : List ℕ) (r i : ℕ) (e : i ≡ root ns) {role : Role} (g : role ≡ Running) (low : done_cue ≤ r) (inner : Inner role r) (w : Ending) (cw : closing w ≡ closing_of r) where
  high : r ≤ failed_cue
  high = subst (λ z. Inner z r) g inner

  pub closing_asked : Spot ns t (root ns) → {c d : List ℕ} → RightCounts ns role r t c d → {k : ℕ} → k < successor_count ns role r t
      → Spot ns t i × (Weighed (scene ns t r) (notes c d) i × (k < weight_of (scene ns t r) i (closing w) one_g))
  closing_asked spot {c} {d} right {k} h =
      let n : k < cap (length (comps (at_root ns t).run (closing_of r))) = subst (λ n. k < n) (ap (λ z. successor_count ns z r t) g ∙ count_closing ns t r low high) h in
      let known : Weighed (scene ns t r) (notes c d) (root ns) = record { long = right.long; right = subst (λ z. T (ok z (noted_at (scene ns t r) (notes c d) (root ns)))) g right.right } in
      subst (λ j. Spot ns t j × (Weighed (scene ns t r) (notes c d) j × (k < weight_of (scene ns t r) j (closing w) one_g))) (sym e)
      (spot, (known, subst (λ z. k < weight_of (scene ns t r) (root ns) z one_g) (sym cw) (seek_one_room r (comps (at_root ns t).run (closing_of r)) n)))

  pub closing_applied : {k : ℕ} {t' : List ℕ} {p : Picked} → Chosen (scene ns t r) i (ask (closing w) one_g k) t' p → Applied ns role r t k t'
  unfolding state role_next
  closing_applied {k} {t'} {p} s =
      let q : Chosen (scene ns t r) (root ns) (ask (closing_of r) one_g k) t' p = subst₂ (λ j z. Chosen (scene ns t r) j (ask z one_g k) t' p) e cw s in
      let ends : role_next Running r ≡ Plain Undoing = ap (λ b. cond b Running (Plain Undoing)) (le-ltb r done_cue low) in
      subst (λ z. Applied ns z r t k t') (sym g) (record {
        goes = subst₂ (λ l x. At l k (state ns x t')) (sym (next_closing ns t r low high)) (sym ends) (at_map std (seek_one r q.sought.found));
        kept = q.kept;
      })

-- how many they are, as the tally says
module _ (ns t : List ℕ) (r i : ℕ) (e : i ≡ root ns) (low : done_cue ≤ r) (high : r ≤ failed_cue) (w : Ending) (cw : closing w ≡ closing_of r)
    {v : Word} {y : Tally} (ev : v ≡ word r (part ns (modes t) i).run) (ey : y ≡ by_w v (closing w)) where
  tallied_closing : y.many ≡ successor_count ns Running r t
  unfolding tally
  tallied_closing =
      ap (λ (z : Tally). z.many) (tally_by r (at_root ns t).run (closing_of r) (ev ∙ ap (λ j. word r (part ns (modes t) j).run) e) (ey ∙ ap (by_w v) cw))
      ∙ sym (count_closing ns t r low high)

  pub counted_closing : {role : Role} → role ≡ Running → {c' d' : List ℕ} → length d' ≡ 576 → T (noted_at (scene ns t r) (notes c' d') i).run → SuccessorsCounted ns role r t c' d' y.many
  counted_closing g {c'} {d'} long right =
      subst (λ z. SuccessorsCounted ns z r t c' d' y.many) (sym g) (record { many = tallied_closing; right = record { long = long; right = subst (λ j. T (noted_at (scene ns t r) (notes c' d') j).run) e right } })

-- the closing that the code has found
pub closing_high : {role : Role} {r : ℕ} → role ≡ Running → Inner role r → r ≤ failed_cue
closing_high {r = r} g h = subst (λ z. Inner z r) g h

-- The last record -----------------------------------------------------------------------------------------------------------

view_ends : (a : ℕ) (p : Std) (w : Closing) {v : View} → v ≡ view a p → ends_by v w ≡ ends p w
unfolding ends_by view
view_ends a p done e = ap (λ (x : View). x.done) e
view_ends a p withdrawn e = ap (λ (x : View). x.withdraws) e
view_ends a p failed e = ap (λ (x : View). x.fails) e

last_ends : (p : Std) (r : ℕ) (b : Bool) → Fits (std p) (cue_records (r ∷ [])) → b ≡ ends p (closing_of r) → next (std p) (cue_record r) ≡ only b (over ∷ [])
unfolding next
last_ends p r b f e = ap (next (std p)) (last_close r f) ∙ ap (λ b. only b (over ∷ [])) (sym e)

module _ (ns t : List ℕ) (r i : ℕ) (e : i ≡ root ns) (role : Role) (f : Fits (state ns role t) (cue_records (r ∷ []))) where
  module _ {b : Bool} {v : View} (q : b ≡ ends_by v (closing_of r)) where
    -- what is seen of the part that is the state
    seen_ends : (p : Std) → state ns role t ≡ std p → v ≡ view r p → next (state ns role t) (cue_record r) ≡ only b (over ∷ [])
    seen_ends p d h = ap (λ s. next s (cue_record r)) d ∙ last_ends p r b (subst (λ s. Fits s (cue_records (r ∷ []))) d f) (q ∙ view_ends r p (closing_of r) h)

    pub std_ends : (z : Sense) → role ≡ Plain z → {c c' : Notes} → Counted (scene ns t r) (Plain z) i c c' v → next (state ns role t) (cue_record r) ≡ only b (over ∷ [])
    std_ends z g k = seen_ends ((part ns (modes t) i).std z) (ap (λ x. state ns x t) g ∙ state_is ns t (Plain z) ∙ ap (λ j. std ((part ns (modes t) j).std z)) (sym e)) k.seen

  -- a part that runs takes two closings
  pub never_running : role ≡ Running → ⊥
  unfolding state
  never_running g = by (subst (λ role. Fits (state ns role t) (cue_records (r ∷ []))) g f)
    where
      by : Fits (state ns Running t) (cue_records (r ∷ [])) → ⊥
      by f = not_twice f

module _ (s : State) (r : ℕ) (left : ℕ) {b : Bool} (e : next s (cue_record r) ≡ only b (over ∷ [])) where
  ended : (x : Bool) → b ≡ x → onward s r [] left ≡ tries_b (λ t m. visit_b [] t m) (only x (over ∷ [])) left
  unfolding onward
  ended x g = ap (λ l. tries_b (λ t m. visit_b [] t m) l left) (e ∙ ap (λ b. only b (over ∷ [])) g)

  pub finish_not : b ≡ false → back false 0 left ≡ onward s r [] left
  unfolding only tries_b
  finish_not g = sym (ended false g)

  pub finish_spent : b ≡ true → left ≡ 0 → spent ≡ onward s r [] left
  unfolding only tries_b visit_b chain
  finish_spent g z = sym (ended true g ∙ ap (λ n. tries_b (λ t m. visit_b [] t m) (over ∷ []) n) z)

  pub finish_over : b ≡ true → left ≢ 0 → back true 1 (left - 1) ≡ onward s r [] left
  unfolding only tries_b visit_b chain
  finish_over g z =
      let q : left ≡ suc (left - 1) = omega (arith, z) in
      sym (ended true g ∙ ap (λ n. tries_b (λ t m. visit_b [] t m) (over ∷ []) n) q)
