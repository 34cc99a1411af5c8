-- The search for a compensation, one lemma to a branch, over terms: which compensation of a whole an index falls on, from what
-- it falls on in the parts, and that an index handed to a part lies below what the part's compensations weigh in all.
-- a is the event of the next record, js a set of joint events. Theorems only. Assumes nothing.
use Prim.Native.Nat.{ℕ, ◌+◌, ◌*◌, ◌-◌, ◌≤◌, ◌<◌}
use native.Mathlib.Omega.{arith}
use Rattle.std.proofs.Math.Nat.{mul_comm}
use Rattle.std.specs.Prelude.{◌≡◌, ◌≢◌, ◌↔◌, Bool, true, false, not, ◌&&◌, T}
use Rattle.std.proofs.Math.Path.{refl, sym, ap}
use Rattle.std.proofs.Common.{◌∙◌, ap₂}
use Rattle.std.proofs.Math.Bool.{cond}
use mathlib.Core.List.{List, [], ◌∷◌, ◌++◌, map}
use Rattle.std.proofs.Math.ListN.{length}
use Rattle.calculus.specs.Term.{Closing, done, withdrawn, failed, Joint, Std, Cmp, skip, seq, par, pair, cseq, calt, cpar, held, join}
use Rattle.calculus.specs.Successors.{eqc, closings, only, ends, comps, csteps}
use Rattle.calculus.proofs.Equations.{ends_skip, ends_seq, steps_skip, comps_pair, comps_cseq, comps_calt, comps_held}
use Rattle.tallies.specs.Capped.{cap}
use Rattle.tallies.specs.CappedLaws.{cap_cap, cap_add, cap_add_left, cap_add_right, cap_mul_left, cap_mul_right, cap_sum, cap_product}
use Rattle.tallies.specs.RankLaws.{same_rank}
use Rattle.tallies.specs.Formulas.{closing, when_t, by_w, weighs, total, one_g, after_g, inside_g, sides, beside_g, within_g, fitting_t, partners_t}
use Rattle.tallies.specs.Counts.{sum_of, moves_both, moves, able, view, tally, word, weight}
use Rattle.tallies.specs.Grids.{besides, partners}
use Rattle.tallies.specs.SumsLaws.{numbers, number_nil, sum_append, sum_map, sum_each, sum_by, sum_same, length_is}
use Rattle.tallies.proofs.CountsLaws.{both_done, able_seq, able_par, moves_seq, moves_par, par_counted, tally_only, by_word, comps_partners, word_partners, weight_total}
use Rattle.tallies.specs.Places.{At, Finds}
use Rattle.tallies.specs.PlacesLaws.{at_is, finds_is, finds_left, finds_after, finds_one, finds_rest, finds_rest_le, finds_only, finds_map, finds_each, finds_cap, sum_cap, only_holds, only_room}
use Rattle.tallies.specs.Sought.{Sought, Falls, by_closing}
use Rattle.tallies.specs.declared.Closing.{Closing as Ending}
use Rattle.tallies.specs.declared.Closing.TheVariants.{Done, Withdrawn, Failed}
use Rattle.tallies.specs.declared.View.{View}
use Rattle.tallies.specs.declared.Tally.{Tally}
use Rattle.tallies.specs.declared.Word.{Word}
use Rattle.tallies.specs.declared.Weight.{Weight}

-- Weights ---------------------------------------------------------------------------------------------------------------

own_cap : (u v x y : ℕ) → cap (cap (cap (u * cap x) + cap (v * cap y))) ≡ cap (u * x + v * y)
own_cap u v x y = cap_cap _ ∙ ap₂ (λ s t. cap (s + t)) (cap_mul_right u x) (cap_mul_right v y) ∙ cap_add (u * x) (v * y)

part_cap : (u x y : ℕ) → cap (cap (u * cap x) * y) ≡ cap (u * x * y)
part_cap u x y = ap (λ s. cap (s * y)) (cap_mul_right u x) ∙ cap_mul_left (u * x) y

three_cap : (x x' y y' z z' : ℕ) → cap x ≡ cap x' → cap y ≡ cap y' → cap z ≡ cap z' → cap (x + y + z) ≡ cap (x' + y' + z')
three_cap x x' y y' z z' e f g = cap_sum (x + y) (x' + y') z z' (cap_sum x x' y y' e f) g

inner_cap : (u x v y : ℕ) → cap (cap (cap (u * cap x) + v) * y) ≡ cap ((u * x + v) * y)
inner_cap u x v y = cap_mul_left _ y ∙ cap_product _ (u * x + v) y y (ap (λ s. cap (s + v)) (cap_mul_right u x) ∙ cap_add_left (u * x) v) refl

-- the weight of something able or not
able_times : (n : ℕ) (b : Bool) → cond b n 0 ≡ n * cond b 1 0
able_times n true = omega arith
able_times n false = omega arith

-- what k weighs with all of a list, where an element x and k are put together by `on`: x takes r x steps by itself, and k takes its
-- own as often as s says
module _ (a : ℕ) (g : Weight) (on : Std → Std → Std) (r s : Std → ℕ) (em : (x k : Std) → moves a (on x k) ≡ r x + s x * moves a k) (ea : (x k : Std) → able a (on x k) ≡ able a x * able a k) (k : Std) where
  sum_with : (l : List Std) → sum_of (λ x. weight a g (on x k)) l ≡ g.own * length l + g.moves * sum_of r l + g.moves * sum_of s l * moves a k + g.able * sum_of (able a) l * able a k
  unfolding sum_of weight
  sum_with [] = omega arith
  sum_with (x ∷ l) = let e = sum_with l in rw (em x k, ea x k) (omega arith)

  with_weight : (l : List Std) (o : ℕ) {n : ℕ} → cap o ≡ cap (g.own * length l + g.moves * sum_of r l) → n ≡ sum_of s l →
      cap (weight a (weighs o (cap (g.moves * cap n)) (cap (g.able * cap (sum_of (able a) l)))) k) ≡ cap (sum_of (λ x. weight a g (on x k)) l)
  unfolding weight
  with_weight l o {n} d e =
      three_cap o (g.own * length l + g.moves * sum_of r l) _ (g.moves * n * moves a k) _ (g.able * sum_of (able a) l * able a k)
      d (part_cap g.moves n (moves a k)) (part_cap g.able (sum_of (able a) l) (able a k))
      ∙ ap (λ z. cap (g.own * length l + g.moves * sum_of r l + g.moves * z * moves a k + g.able * sum_of (able a) l * able a k)) e
      ∙ ap cap (sym (sum_with l))

module _ (a : ℕ) (g : Weight) where
  -- what k weighs with all l;k
  after_weight : (l : List Std) (k : Std) → cap (weight a (after_g (tally a l) g) k) ≡ cap (sum_of (weight a g) (map (λ x. seq x k) l))
  unfolding tally after_g
  after_weight l k =
      with_weight a g seq (moves a) (able a) (moves_seq a) (able_seq a) k l _ (own_cap g.own g.moves (length l) (sum_of (moves a) l)) refl
      ∙ ap cap (sym (sum_map numbers (weight a g) (λ x. seq x k) l))

  -- what k weighs beside all of a list
  beside_weight : (js : Joint) (l : List Std) (k : Std) → cap (weight a (beside_g (js a) (tally a l) g) k) ≡ cap (sum_of (λ x. weight a g (par js k x)) l)
  unfolding tally beside_g
  beside_weight js l k = by (js a) (moves_par a js)
    where
      able_turned : (x k : Std) → able a (par js k x) ≡ able a x * able a k
      able_turned x k = able_par a js k x ∙ mul_comm (able a k) (able a x)

      by : (b : Bool) → ((p q : Std) → moves a (par js p q) ≡ moves_both b (moves a p) (moves a q)) → cap (weight a (beside_g b (tally a l) g) k) ≡ cap (sum_of (λ x. weight a g (par js k x)) l)
      by true e =
          with_weight a g (λ x k. par js k x) (λ x. 0) (moves a) (λ x k. let z = e k x in omega arith) able_turned k l _
          (cap_cap _ ∙ cap_mul_right g.own (length l) ∙ ap cap (rw (sum_same 0 l) (omega arith))) refl
      by false e =
          with_weight a g (λ x k. par js k x) (moves a) (λ x. 1) (λ x k. let z = e k x in omega arith) able_turned k l _
          (own_cap g.own g.moves (length l) (sum_of (moves a) l)) (length_is l)

  -- what l weighs in l;k
  inside_sum : (k x : Std) → g.own + g.moves * moves a x + (g.moves * moves a k + cond (ends k done) g.able 0) * able a x ≡ weight a g (seq x k)
  unfolding weight able
  inside_sum k x = rw (able_times g.able (ends k done), moves_seq a x k, able_seq a x k) (omega arith)

  inside_weight : {n : ℕ} {b : Bool} (k : Std) → n ≡ cap (moves a k) → b ≡ ends k done → (x : Std) → cap (weight a (inside_g g n b) x) ≡ cap (weight a g (seq x k))
  unfolding weight inside_g
  inside_weight k e d x = rw (e, d)
      (three_cap _ g.own _ (g.moves * moves a x) _ ((g.moves * moves a k + cond (ends k done) g.able 0) * able a x) refl refl (inner_cap g.moves (moves a k) (cond (ends k done) g.able 0) (able a x))
      ∙ ap cap (inside_sum k x))

  -- what l weighs beside k
  within_weight : (js : Joint) {n : ℕ} {c : Bool} (k : Std) → n ≡ cap (moves a k) → c ≡ ends k done → (x : Std) → cap (weight a (within_g (js a) g n c) x) ≡ cap (weight a g (par js k x))
  unfolding weight within_g able
  within_weight js k e d x = rw (e, d) (by (js a) (moves_par a js k x))
    where
      on : ℕ
      on = cond (ends k done) g.able 0

      by : (b : Bool) → moves a (par js k x) ≡ moves_both b (moves a k) (moves a x) → cap (weight a (within_g b g (cap (moves a k)) (ends k done)) x) ≡ cap (weight a g (par js k x))
      by true m =
          three_cap _ g.own _ (g.moves * moves a k * moves a x) _ (on * able a x) refl (part_cap g.moves (moves a k) (moves a x)) refl
          ∙ ap cap (rw (able_times g.able (ends k done), m, able_par a js k x) (omega arith))
      by false m =
          three_cap _ (g.own + g.moves * moves a k) _ (g.moves * moves a x) _ (on * able a x)
          (cap_cap _ ∙ cap_add_right g.own (g.moves * cap (moves a k)) ∙ cap_sum g.own g.own _ (g.moves * moves a k) refl (cap_mul_right g.moves (moves a k))) refl refl
          ∙ ap cap (rw (able_times g.able (ends k done), m, able_par a js k x) (omega arith))

-- Closings of the code --------------------------------------------------------------------------------------------------

pub eqc_done : (w : Ending) → (eqc (closing w) done ≡ true) ↔ (w ≡ Done)
eqc_done w = ((λ e. sym ((same_rank done w).1 e)), (λ e. (same_rank done w).0 (sym e)))

pub closing_other : (w : Ending) → w ≢ Done → T (not (eqc (closing w) done))
closing_other Done h = absurd (h refl)
closing_other Withdrawn h = tt
closing_other Failed h = tt

-- What the code learns of counts and weights ----------------------------------------------------------------------------

module _ (a : ℕ) where
  pub view_moves : (k : Std) {v : View} → v ≡ view a k → v.moves ≡ cap (moves a k)
  unfolding view
  view_moves k e = ap (λ v. v.moves) e

  pub view_able : (k : Std) {v : View} → v ≡ view a k → v.done ≡ ends k done
  unfolding view
  view_able k e = ap (λ v. v.done) e

  pub word_moves : (pp : Cmp) {x : Word} → x ≡ word a pp → x.moves ≡ cap (length (csteps pp a))
  unfolding word
  word_moves pp e = ap (λ x. x.moves) e

pub tally_by : (a : ℕ) (pp : Cmp) (w : Closing) {x : Word} {t : Tally} → x ≡ word a pp → t ≡ by_w x w → t ≡ tally a (comps pp w)
tally_by a pp w e d = d ∙ ap (λ x. by_w x w) e ∙ by_word a pp w

-- what a part's compensations weigh in all
pub total_by : (a : ℕ) (g : Weight) (pp : Cmp) (w : Closing) {x : Word} {t : Tally} {c : ℕ} → x ≡ word a pp → t ≡ by_w x w → c ≡ total t g → c ≡ cap (sum_of (weight a g) (comps pp w))
total_by a g pp w e d f = f ∙ ap (λ t. total t g) (tally_by a pp w e d) ∙ weight_total a g (comps pp w)

-- the same under a condition
pub total_when : (a : ℕ) (g : Weight) (pp : Cmp) (w : Closing) (b : Bool) {x : Word} {c : ℕ} → x ≡ word a pp → c ≡ total (when_t b (by_w x w)) g → c ≡ cap (sum_of (weight a g) (only b (comps pp w)))
total_when a g pp w b e f = f ∙ ap (λ t. total (when_t b t) g) (ap (λ x. by_w x w) e ∙ by_word a pp w) ∙ ap (λ t. total t g) (sym (tally_only a b (comps pp w))) ∙ weight_total a g (only b (comps pp w))

-- Two lists, one after the other ----------------------------------------------------------------------------------------

module _ {a : ℕ} {g : Weight} where
  sought_in : {l m : List Std} {i j : ℕ} {k : Std} {r n : ℕ} {b : Bool} → Sought a g l i k r n b → Finds (weight a g) m j k r → Sought a g m j k r n b
  sought_in s f = record { found = f; counted = s.counted; ended = s.ended }

  sought_same : {l m : List Std} {j : ℕ} {k : Std} {r n : ℕ} {b : Bool} → m ≡ l → Sought a g l j k r n b → Sought a g m j k r n b
  sought_same e s = rw e s

module _ (a : ℕ) (g : Weight) (w l m : List Std) (e : w ≡ l ++ m) where
  sought_first : {j : ℕ} {k : Std} {r n : ℕ} {b : Bool} → Sought a g l j k r n b → Sought a g w j k r n b
  sought_first s = rw e (sought_in s (finds_left m s.found))

  module _ {c j : ℕ} (d : c ≡ cap (sum_of (weight a g) l)) (h : j < cap (sum_of (weight a g) w)) (le : c ≤ j) where
    sum_both : sum_of (weight a g) w ≡ sum_of (weight a g) l + sum_of (weight a g) m
    sum_both = ap (sum_of (weight a g)) e ∙ sum_append numbers (weight a g) l m

    rest_room : j - c < cap (sum_of (weight a g) m)
    rest_room = omega (arith, sum_both)

    sought_second : {k : Std} {r n : ℕ} {b : Bool} → Sought a g m (j - c) k r n b → Sought a g w j k r n b
    sought_second s =
        let z : sum_of (weight a g) l ≡ c = omega (arith, sum_both) in
        rw e (sought_in s (finds_after l (omega arith) (finds_is (omega arith) s.found)))

-- P÷Q -------------------------------------------------------------------------------------------------------------------

one_found : {f : Std → ℕ} (b : Bool) (k : Std) {j : ℕ} → j < cap (sum_of f (only b (k ∷ []))) → Finds f (only b (k ∷ [])) j k j
unfolding only sum_of
one_found true k h = finds_one (omega arith)
one_found false k h = let z : ⊥ = omega arith in absurd z

module _ (a : ℕ) (g : Weight) (p : Std) {j : ℕ} where
  pub seek_pair : (q : Std) {w : Closing} {v : View} → w ≡ done → v ≡ view a q → j < cap (sum_of (weight a g) (comps (pair p q) w)) → Sought a g (comps (pair p q) w) j q j v.moves v.done
  seek_pair q o e h = rw o (record {
    found = rw comps_pair (one_found (ends p done) q (rw (o, comps_pair) at h));
    counted = view_moves a q e;
    ended = view_able a q e;
  })

  skip_sought : {l : List Std} → Finds (weight a g) l j skip j → Sought a g l j skip j 0 true
  unfolding moves
  skip_sought f = record { found = f; counted = rw steps_skip refl; ended = sym (ends_skip done) }

  pub seek_pair_skip : (q : Std) (w : Closing) → T (not (eqc w done)) → j < cap (sum_of (weight a g) (comps (pair p q) w)) → Sought a g (comps (pair p q) w) j skip j 0 true
  seek_pair_skip q done t h = elim t [ ]
  seek_pair_skip q withdrawn t h = skip_sought (rw comps_pair (one_found (ends p withdrawn) skip (rw comps_pair at h)))
  seek_pair_skip q failed t h = skip_sought (rw comps_pair (one_found (ends p failed) skip (rw comps_pair at h)))

  -- kinds 14 to 16
  pub seek_skip : (w : Closing) → j < cap (sum_of (weight a g) (comps (pair p skip) w)) → Sought a g (comps (pair p skip) w) j skip j 0 true
  seek_skip done h = skip_sought (rw comps_pair (one_found (ends p done) skip (rw comps_pair at h)))
  seek_skip withdrawn h = seek_pair_skip skip withdrawn tt h
  seek_skip failed h = seek_pair_skip skip failed tt h

-- PP□QQ -----------------------------------------------------------------------------------------------------------------

module _ (a : ℕ) (g : Weight) (pp qq : Cmp) (w : Closing) where
  pub seek_calt_first : {j : ℕ} {k : Std} {r n : ℕ} {b : Bool} → Sought a g (comps pp w) j k r n b → Sought a g (comps (calt pp qq) w) j k r n b
  seek_calt_first = sought_first a g _ _ _ (comps_calt pp qq w)

  module _ {c j : ℕ} (d : c ≡ cap (sum_of (weight a g) (comps pp w))) (h : j < cap (sum_of (weight a g) (comps (calt pp qq) w))) (le : c ≤ j) where
    pub seek_calt_room : j - c < cap (sum_of (weight a g) (comps qq w))
    seek_calt_room = rest_room a g _ _ _ (comps_calt pp qq w) d h le

    pub seek_calt_second : {k : Std} {r n : ℕ} {b : Bool} → Sought a g (comps qq w) (j - c) k r n b → Sought a g (comps (calt pp qq) w) j k r n b
    seek_calt_second = sought_second a g _ _ _ (comps_calt pp qq w) d h le

-- l;k for all l of a list -----------------------------------------------------------------------------------------------

-- the steps of l;k, up to the greatest number
seq_counted : (a : ℕ) (x k : Std) → cond (ends x done) (cap (cap (moves a x) + cap (moves a k))) (cap (moves a x)) ≡ cap (moves a (seq x k))
unfolding able
seq_counted a x k = by (ends x done) ∙ ap cap (sym (moves_seq a x k))
  where
    by : (b : Bool) → cond b (cap (cap (moves a x) + cap (moves a k))) (cap (moves a x)) ≡ cap (moves a x + cond b 1 0 * moves a k)
    by true = omega arith
    by false = omega arith

-- k is chosen, and now l
module _ (a : ℕ) (g : Weight) (l : List Std) (k : Std) {j n : ℕ} {b : Bool} {g₂ : Weight} (e : n ≡ cap (moves a k)) (d : b ≡ ends k done) (f : g₂ ≡ inside_g g n b) (h : j < cap (sum_of (weight a g) (map (λ x. seq x k) l))) where
  second_weight : (x : Std) → cap (weight a g₂ x) ≡ cap (weight a g (seq x k))
  second_weight x = ap (λ g. cap (weight a g x)) f ∙ inside_weight a g k e d x

  pub seek_second_room : j < cap (sum_of (weight a g₂) l)
  seek_second_room = let z = sum_cap _ _ second_weight l in let y = sum_map numbers (weight a g) (λ x. seq x k) l in omega arith

  pub seek_second : {x : Std} {r n' : ℕ} {b' : Bool} → Sought a g₂ l j x r n' b' → Sought a g (map (λ x. seq x k) l) j (seq x k) r (cond b' (cap (n' + n)) n') (b' && b)
  seek_second {x} s = record {
    found = finds_map (weight a g) (λ x. seq x k) (finds_cap _ _ second_weight (omega arith) s.found);
    counted = rw (s.counted, s.ended, e) (seq_counted a x k);
    ended = rw (s.ended, d) (sym (ends_seq x k done));
  }

-- PP;QQ whose first part has become R
module _ (a : ℕ) (g : Weight) (qq : Cmp) (k : Std) (w : Closing) {j : ℕ} where
  pub seek_held_room : j < cap (sum_of (weight a g) (comps (held qq k) w)) → j < cap (sum_of (weight a g) (map (λ x. seq x k) (comps qq w)))
  seek_held_room h = rw comps_held at h

  pub seek_held : {m : Std} {r n : ℕ} {b : Bool} → Sought a g (map (λ x. seq x k) (comps qq w)) j m r n b → Sought a g (comps (held qq k) w) j m r n b
  seek_held s = sought_same (comps_held qq k w) s

-- PP;QQ -----------------------------------------------------------------------------------------------------------------

module _ (a : ℕ) (g : Weight) (pp qq : Cmp) (w : Closing) {c j : ℕ} (d : c ≡ cap (sum_of (weight a g) (only (not (eqc w done)) (comps pp w)))) (h : j < cap (sum_of (weight a g) (comps (cseq pp qq) w))) where
  -- PP closes by w
  module _ (lt : j < c) where
    own_below : j < cap (sum_of (weight a g) (only (not (eqc w done)) (comps pp w)))
    own_below = omega arith

    own_holds : T (not (eqc w done))
    own_holds = only_holds (sum_of (weight a g)) (number_nil _) (not (eqc w done)) (comps pp w) own_below

    pub seek_own_room : j < cap (sum_of (weight a g) (comps pp w))
    seek_own_room = only_room (sum_of (weight a g)) (number_nil _) (not (eqc w done)) (comps pp w) own_below

    pub seek_own : {k : Std} {r n : ℕ} {b : Bool} → Sought a g (comps pp w) j k r n b → Sought a g (comps (cseq pp qq) w) j k r n b
    seek_own s = sought_first a g _ _ _ (comps_cseq pp qq w) (sought_in s (finds_only (not (eqc w done)) own_holds s.found))

  -- PP ends done and becomes k, and then QQ closes by w
  module _ (le : c ≤ j) {t : Tally} {g₁ : Weight} (e : t ≡ tally a (comps qq w)) (f : g₁ ≡ after_g t g) where
    first_weight : (k : Std) → cap (weight a g₁ k) ≡ cap (sum_of (weight a g) (map (λ x. seq x k) (comps qq w)))
    first_weight k = ap (λ g. cap (weight a g k)) (f ∙ ap (λ t. after_g t g) e) ∙ after_weight a g (comps qq w) k

    pub seek_both_room : j - c < cap (sum_of (weight a g₁) (comps pp done))
    seek_both_room =
        let z = sum_cap _ _ first_weight (comps pp done) in
        let y = sum_each numbers (weight a g) (λ k. map (λ x. seq x k) (comps qq w)) (comps pp done) in
        let x = rest_room a g _ _ _ (comps_cseq pp qq w) d h le in omega arith

    module _ {k : Std} {r n : ℕ} {b : Bool} (s : Sought a g₁ (comps pp done) (j - c) k r n b) where
      pub seek_both_rest : r < cap (sum_of (weight a g) (map (λ x. seq x k) (comps qq w)))
      seek_both_rest = let z = first_weight k in let y = finds_rest s.found in let x = finds_rest_le s.found in omega arith

      pub seek_both : {m : Std} {i n' : ℕ} {b' : Bool} → Sought a g (map (λ x. seq x k) (comps qq w)) r m i n' b' → Sought a g (comps (cseq pp qq) w) j m i n' b'
      seek_both u =
          sought_second a g _ _ _ (comps_cseq pp qq w) d h le
          (sought_in u (finds_each (weight a g) (λ k. map (λ x. seq x k) (comps qq w)) (finds_cap _ _ first_weight (omega arith) s.found) u.found))

-- PP∥QQ -----------------------------------------------------------------------------------------------------------------

-- one of the three closings, by what the first two weigh
module _ {x y j : ℕ} where
  pub fall_done : j < x → Falls x y j done j
  fall_done h = record { falls = λ z l. Finds.here h }

  pub fall_withdrawn : x ≤ j → j - x < y → Falls x y j withdrawn (j - x)
  fall_withdrawn h k = record { falls = λ z l. finds_is (omega arith) (Finds.past {y = done} (Finds.here {x = withdrawn} k)) }

  pub fall_failed : x ≤ j → y ≤ j - x → Falls x y j failed (j - x - y)
  unfolding sum_of
  fall_failed h k = record { falls = λ z l. finds_is (omega arith) (Finds.past {y = done} (Finds.past {y = withdrawn} (Finds.here {x = failed} {r = j - x - y} (omega arith)))) }

each_closing : (f : Closing → ℕ) {x y : ℕ} → x ≡ f done → y ≡ f withdrawn → (w : Closing) → by_closing x y (f failed) w ≡ f w
each_closing f e d done = e
each_closing f e d withdrawn = d
each_closing f e d failed = refl

-- QQ's compensations by y that go with an ending x of PP, where both end by u
abbrev side : Cmp → Closing → Closing → Closing → List Std
side qq u x y = only (eqc u (join x y)) (comps qq y)

module _ (a : ℕ) (g : Weight) (js : Joint) (pp qq : Cmp) (u : Closing) {xw yw : Word} (ex : xw ≡ word a pp) (ey : yw ≡ word a qq) where
  -- what k weighs beside all that go with it
  beside_is : (x : Closing) (k : Std) → cap (weight a (beside_g (js a) (partners_t yw u x) g) k) ≡ cap (sum_of (weight a g) (map (par js k) (partners (comps qq) u x)))
  beside_is x k =
      ap (λ t. cap (weight a (beside_g (js a) t g) k)) (ap (λ z. partners_t z u x) ey ∙ sym (word_partners a qq u x))
      ∙ beside_weight a g js (partners (comps qq) u x) k
      ∙ ap cap (sym (sum_map numbers (weight a g) (par js k) (partners (comps qq) u x)))

  -- what PP's compensations by x weigh in all with what goes with them
  block_is : (x : Closing) → cap (sum_of (weight a (beside_g (js a) (partners_t yw u x) g)) (comps pp x)) ≡ cap (sum_of (weight a g) (besides js (comps pp x) (partners (comps qq) u x)))
  block_is x = sum_cap _ _ (beside_is x) (comps pp x) ∙ ap cap (sym (sum_each numbers (weight a g) (λ k. map (par js k) (partners (comps qq) u x)) (comps pp x)))

  module _ {t : Closing → ℕ} (et : (x : Closing) → t x ≡ total (by_w xw x) (beside_g (js a) (partners_t yw u x) g)) {j : ℕ} (h : j < cap (sum_of (weight a g) (comps (cpar js pp qq) u))) where
    first_total : (x : Closing) → t x ≡ cap (sum_of (weight a (beside_g (js a) (partners_t yw u x) g)) (comps pp x))
    first_total x = total_by a (beside_g (js a) (partners_t yw u x) g) pp x ex refl (et x)

    first_block : (x : Closing) → cap (t x) ≡ cap (sum_of (weight a g) (besides js (comps pp x) (partners (comps qq) u x)))
    first_block x = ap cap (first_total x ∙ block_is x) ∙ cap_cap _

    -- the index falls on one of the three endings of PP
    ending_room : j < cap (sum_of t closings)
    ending_room =
        let z = sum_cap _ _ first_block closings in
        let y = ap (sum_of (weight a g)) (comps_partners js pp qq u) ∙ sum_each numbers (weight a g) (λ x. besides js (comps pp x) (partners (comps qq) u x)) closings in omega arith

    module _ {x : Closing} {i : ℕ} (f : Finds t closings j x i) {g₁ : Weight} (e₁ : g₁ ≡ beside_g (js a) (partners_t yw u x) g) where
      -- then on one of PP's compensations by that ending
      first_room : i < cap (sum_of (weight a g₁) (comps pp x))
      first_room = rw e₁ (let z = first_total x in let y = finds_rest f in omega arith)

      module _ {p : Std} {r n : ℕ} {b : Bool} (s : Sought a g₁ (comps pp x) i p r n b) {g₂ : Weight} (e₂ : g₂ ≡ within_g (js a) g n b) {v : Closing → ℕ} (ev : (y : Closing) → v y ≡ total (fitting_t yw u x y) g₂) where
        around_weight : (k : Std) → cap (weight a g₁ k) ≡ cap (sum_of (weight a g) (map (par js k) (partners (comps qq) u x)))
        around_weight k = ap (λ z. cap (weight a z k)) e₁ ∙ beside_is x k

        inner_weight : (q : Std) → cap (weight a g₂ q) ≡ cap (weight a g (par js p q))
        inner_weight q = ap (λ z. cap (weight a z q)) e₂ ∙ within_weight a g js p s.counted s.ended q

        second_total : (y : Closing) → v y ≡ cap (sum_of (weight a g₂) (side qq u x y))
        unfolding fitting_t
        second_total y = total_when a g₂ qq y (eqc u (join x y)) ey (ev y)

        second_block : (y : Closing) → cap (v y) ≡ cap (sum_of (λ q. weight a g (par js p q)) (side qq u x y))
        second_block y = ap cap (second_total y ∙ sum_cap _ _ inner_weight (side qq u x y)) ∙ cap_cap _

        -- what is left falls on one of the three endings of QQ
        between_room : r < cap (sum_of v closings)
        unfolding partners
        between_room =
            let z = sum_cap _ _ second_block closings in
            let y = sum_map numbers (weight a g) (par js p) (partners (comps qq) u x) ∙ sum_each numbers (λ q. weight a g (par js p q)) (side qq u x) closings in
            let w = around_weight p in
            let m = finds_rest s.found in
            let l = finds_rest_le s.found in
            let k = finds_rest_le f in omega arith

        module _ {y : Closing} {i' : ℕ} (f' : Finds v closings r y i') where
          last_below : i' < cap (sum_of (weight a g₂) (side qq u x y))
          last_below = let z = second_total y in let m = finds_rest f' in omega arith

          fits : T (eqc u (join x y))
          fits = only_holds (sum_of (weight a g₂)) (number_nil _) (eqc u (join x y)) (comps qq y) last_below

          -- and then on one of QQ's compensations by that ending
          last_room : i' < cap (sum_of (weight a g₂) (comps qq y))
          last_room = only_room (sum_of (weight a g₂)) (number_nil _) (eqc u (join x y)) (comps qq y) last_below

          both_sought : {q : Std} {o n' : ℕ} {b' : Bool} → Sought a g₂ (comps qq y) i' q o n' b' → Sought a g (comps (cpar js pp qq) u) j (par js p q) o (sides (js a) n n') (b && b')
          unfolding partners
          both_sought {q} s' =
              let l = finds_rest_le s.found in
              let k = finds_rest_le f in
              let k' = finds_rest_le f' in
              let inner = finds_only {f = λ q. weight a g (par js p q)} (eqc u (join x y)) fits (finds_cap _ _ inner_weight (omega arith) s'.found) in
              let middle = finds_map (weight a g) (par js p) (finds_each (λ q. weight a g (par js p q)) (side qq u x) (finds_cap _ _ second_block (omega arith) f') inner) in
              let outer = finds_each (weight a g) (λ k. map (par js k) (partners (comps qq) u x)) (finds_cap _ _ around_weight (omega arith) s.found) middle in
              record {
                found = rw comps_partners (finds_each (weight a g) (λ x. besides js (comps pp x) (partners (comps qq) u x)) (finds_cap _ _ first_block (omega arith) f) outer);
                counted = rw (s.counted, s'.counted) (sym (par_counted a js p q));
                ended = rw (s.ended, s'.ended) (sym (both_done js p q));
              }

-- The same as the code learns it: PP's endings done and withdrawn weigh x₁ and y₁ with what goes with them, the index falls on the
-- ending w, and within it on p; then QQ's endings done and withdrawn that go with w weigh x₂ and y₂ beside p, and so on.
module _ (a : ℕ) (g : Weight) (js : Joint) (pp qq : Cmp) (u : Closing) {xw yw : Word} (ex : xw ≡ word a pp) (ey : yw ≡ word a qq) {j : ℕ} (h : j < cap (sum_of (weight a g) (comps (cpar js pp qq) u))) where
  module _ {x₁ y₁ : ℕ} (dx : x₁ ≡ total (by_w xw done) (beside_g (js a) (partners_t yw u done) g)) (dy : y₁ ≡ total (by_w xw withdrawn) (beside_g (js a) (partners_t yw u withdrawn) g)) {w : Closing} {i : ℕ} (f : Falls x₁ y₁ j w i) {g₁ : Weight} (e₁ : g₁ ≡ beside_g (js a) (partners_t yw u w) g) where
    totals : (x : Closing) → by_closing x₁ y₁ (total (by_w xw failed) (beside_g (js a) (partners_t yw u failed) g)) x ≡ total (by_w xw x) (beside_g (js a) (partners_t yw u x) g)
    totals = each_closing (λ x. total (by_w xw x) (beside_g (js a) (partners_t yw u x) g)) dx dy

    fallen : Finds (by_closing x₁ y₁ (total (by_w xw failed) (beside_g (js a) (partners_t yw u failed) g))) closings j w i
    fallen = f.falls _ (ending_room a g js pp qq u ex ey totals h)

    pub seek_par_first_room : i < cap (sum_of (weight a g₁) (comps pp w))
    seek_par_first_room = first_room a g js pp qq u ex ey totals h fallen e₁

    module _ {p : Std} {r n : ℕ} {b : Bool} (s : Sought a g₁ (comps pp w) i p r n b) {g₂ : Weight} (e₂ : g₂ ≡ within_g (js a) g n b) {x₂ y₂ : ℕ} (cx : x₂ ≡ total (fitting_t yw u w done) g₂) (cy : y₂ ≡ total (fitting_t yw u w withdrawn) g₂) {v : Closing} {i' : ℕ} (f' : Falls x₂ y₂ r v i') where
      totals' : (y : Closing) → by_closing x₂ y₂ (total (fitting_t yw u w failed) g₂) y ≡ total (fitting_t yw u w y) g₂
      totals' = each_closing (λ y. total (fitting_t yw u w y) g₂) cx cy

      fallen' : Finds (by_closing x₂ y₂ (total (fitting_t yw u w failed) g₂)) closings r v i'
      fallen' = f'.falls _ (between_room a g js pp qq u ex ey totals h fallen e₁ s e₂ totals')

      pub seek_par_second_room : i' < cap (sum_of (weight a g₂) (comps qq v))
      seek_par_second_room = last_room a g js pp qq u ex ey totals h fallen e₁ s e₂ totals' fallen'

      pub seek_par : {q : Std} {o n' : ℕ} {b' : Bool} → Sought a g₂ (comps qq v) i' q o n' b' → Sought a g (comps (cpar js pp qq) u) j (par js p q) o (sides (js a) n n') (b && b')
      seek_par = both_sought a g js pp qq u ex ey totals h fallen e₁ s e₂ totals' fallen'

-- Each compensation once ------------------------------------------------------------------------------------------------

one_at : {A : Type 0} {f : A → ℕ} → ((x : A) → f x ≡ 1) → {l : List A} {j : ℕ} {x : A} {r : ℕ} → Finds f l j x r → At l j x
one_at e (Finds.here {x} h) = at_is (omega (arith, e x)) At.here
one_at e (Finds.past {y} h) = at_is (omega (arith, e y)) (At.past (one_at e h))

module _ (a : ℕ) where
  one_weight : (k : Std) → weight a one_g k ≡ 1
  unfolding weight
  one_weight k = omega arith

  -- the closing of a compensable root
  pub seek_one : {l : List Std} {j : ℕ} {k : Std} {r : ℕ} → Finds (weight a one_g) l j k r → At l j k
  seek_one f = one_at one_weight f

  pub seek_one_room : (l : List Std) {j : ℕ} → j < cap (length l) → j < cap (sum_of (weight a one_g) l)
  seek_one_room l h = let z = length_is l ∙ sym (sum_by numbers _ _ one_weight l) in omega arith
