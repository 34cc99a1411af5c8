-- The formulas give the views, tallies and words of a whole from those of its parts, for every event a. In order: counts of one term,
-- views, tallies of lists, words. Assumes nothing.
use Prim.Native.Nat.{ℕ, suc, min, ◌+◌, ◌*◌}
use Rattle.std.specs.Prelude.{◌≡◌, Bool, not, ◌&&◌, List, [], ◌∷◌, ◌++◌, map, eqb}
use Rattle.std.proofs.Math.Path.{refl, sym, ap, ap₂, fun_ext}
use Rattle.std.proofs.Common.{◌∙◌, append-nil, append_assoc, arith, add-one, add_comm, add-zero, zero-add, mul-one, one-mul}
use Rattle.std.proofs.Math.Bool.{true, false, ◌||◌, cond, or-false, and-true}
use Rattle.std.proofs.lemmas.List.{map-append}
use Rattle.std.proofs.Math.Nat.{mul_comm}
use Rattle.std.proofs.Math.Dec.{eqb-suc-zero}
use Rattle.std.proofs.Math.ListN.{length, length-append, length-map}
use Rattle.calculus.specs.Term.{Closing, done, withdrawn, failed, Leaf, Joint, Std, Cmp, skip, throw, yield, ev, seq, alt, par, hnd, blk, pair, cseq, calt, cpar, held, skipp, throww, yieldd, join}
use Rattle.calculus.specs.Successors.{eqc, closings, only, some_of, each, any_at_all, beside, ends, steps, comps, csteps}
use Rattle.calculus.proofs.Equations.{ends_seq, ends_hnd, ends_alt, ends_par, ends_blk, comps_pair, comps_cseq, comps_calt, comps_cpar, comps_held, steps_seq, steps_hnd, steps_alt, steps_par, steps_blk, csteps_pair, csteps_cseq, csteps_calt, csteps_cpar, csteps_held}
use Rattle.tallies.specs.Capped.{cap}
use Rattle.tallies.specs.CappedLaws.{cap_add, cap_mul, cap_mul_right, capped_sum, capped_product, capped_products}
use Rattle.tallies.specs.Formulas.{viewed, skip_v, throw_v, yield_v, ev_v, alt_v, seq_v, hnd_v, ends_v, meet_v, both_v, sides, par_v, tallied, nonzero, none_t, one_t, when_t, plus_t, seq_t, any_v, sides_t, par_t, over_t, worded, by_w, blk_v, pair_w, cseq_w, held_w, calt_w, cpar_w, skipp_w, throww_w, yieldd_w, fitting_t, partners_t, both_t, total}
use Rattle.tallies.specs.Counts.{sum_of, moves_both, moves, able, view, tally, word, weight}
use Rattle.tallies.specs.Grids.{afters, besides, partners}
use Rattle.tallies.specs.JoinLaws.{ends_both_done}
use Rattle.tallies.specs.SumsLaws.{turned, numbers, truths, sum_append, sum_plus, sum_products, sum_products₂, sum_pairs, grid_nil, sum_right, sum_same, length_is, length_each, length_grid}
use Rattle.tallies.specs.declared.View.{View}
use Rattle.tallies.specs.declared.Tally.{Tally}
use Rattle.tallies.specs.declared.Weight.{Weight}

-- How a term ends that has two sides ------------------------------------------------------------------------------------

pub both_done : (j : Joint) (p q : Std) → ends (par j p q) done ≡ (ends p done && ends q done)
both_done j p q = ends_par j p q done ∙ ends_both_done (ends p) (ends q)

-- two sides end together by the views of them
both_by : (p q : View) (u : Closing) {f g : Closing → Bool} → ((x : Closing) → f x ≡ ends_v p x) → ((y : Closing) → g y ≡ ends_v q y) →
    some_of (λ x. some_of (λ y. eqc u (join x y) && (f x && g y)) closings) closings ≡ both_v p q u
unfolding both_v meet_v
both_by p q u d e = ap₂ (λ f g. some_of (λ x. some_of (λ y. eqc u (join x y) && (f x && g y)) closings) closings) (fun_ext d) (fun_ext e)

-- a part that goes on where b: make makes a view of the steps, the ending it goes on from and the two others
goes_on : (make : ℕ → Bool → Bool → Bool → View) (b : Bool) (m n : ℕ) (y x₁ y₁ x₂ y₂ : Bool) →
    make (cap (m + cond b 1 0 * n)) (b && y) (x₁ || (b && y₁)) (x₂ || (b && y₂)) ≡ cond b (make (cap (cap m + cap n)) y (x₁ || y₁) (x₂ || y₂)) (make (cap m) b x₁ x₂)
goes_on make true m n y x₁ y₁ x₂ y₂ = ap (λ z. make z y (x₁ || y₁) (x₂ || y₂)) (omega arith)
goes_on make false m n y x₁ y₁ x₂ y₂ = λ i. make (same i) false (or-false x₁ i) (or-false x₂ i)
  where
    same : cap (m + 0 * n) ≡ cap m
    same = omega arith

-- Counts of one term ----------------------------------------------------------------------------------------------------

length_only : {A : Type 0} (b : Bool) (l : List A) → length (only b l) ≡ cond b 1 0 * length l
unfolding only
length_only true l = omega arith
length_only false l = omega arith

-- how many steps two sides have, and up to the greatest number
length_beside : {A : Type 0} (b : Bool) (f : A → A → A) (p q : A) (ps qs : List A) → length (beside b f p q ps qs) ≡ moves_both b (length ps) (length qs)
unfolding beside
length_beside true f p q ps qs = length_grid f ps qs
length_beside false f p q ps qs = simp (length-append, length-map)

capped_sides : (b : Bool) (k m n : ℕ) → k ≡ moves_both b m n → cap k ≡ sides b (cap m) (cap n)
unfolding sides
capped_sides true k m n e = capped_product k m n e
capped_sides false k m n e = capped_sum k m n e

pub sides_beside : {A : Type 0} (b : Bool) (f : A → A → A) (p q : A) (ps qs : List A) → cap (length (beside b f p q ps qs)) ≡ sides b (cap (length ps)) (cap (length qs))
sides_beside b f p q ps qs = capped_sides b _ _ _ (length_beside b f p q ps qs)

able_both : (b c : Bool) → cond (b && c) 1 0 ≡ cond b 1 0 * cond c 1 0
able_both true true = refl
able_both true false = refl
able_both false true = refl
able_both false false = refl

module _ (a : ℕ) where
  pub able_seq : (p q : Std) → able a (seq p q) ≡ able a p * able a q
  unfolding able
  able_seq p q = ap (λ b. cond b 1 0) (ends_seq p q done) ∙ able_both (ends p done) (ends q done)

  pub able_par : (j : Joint) (p q : Std) → able a (par j p q) ≡ able a p * able a q
  unfolding able
  able_par j p q = ap (λ b. cond b 1 0) (both_done j p q) ∙ able_both (ends p done) (ends q done)

  pub moves_seq : (p q : Std) → moves a (seq p q) ≡ moves a p + able a p * moves a q
  unfolding moves able
  moves_seq p q = ap length (steps_seq p q a) ∙ simp (length-append, length-map, length_only)

  pub moves_hnd : (p q : Std) → moves a (hnd p q) ≡ moves a p + cond (ends p failed) 1 0 * moves a q
  unfolding moves
  moves_hnd p q = ap length (steps_hnd p q a) ∙ simp (length-append, length-map, length_only)

  pub moves_alt : (p q : Std) → moves a (alt p q) ≡ moves a p + moves a q
  unfolding moves
  moves_alt p q = ap length (steps_alt p q a) ∙ simp length-append

  pub moves_par : (j : Joint) (p q : Std) → moves a (par j p q) ≡ moves_both (j a) (moves a p) (moves a q)
  unfolding moves
  moves_par j p q = ap length (steps_par j p q a) ∙ length_beside (j a) (par j) p q (steps p a) (steps q a)

  pub par_counted : (j : Joint) (p q : Std) → cap (moves a (par j p q)) ≡ sides (j a) (cap (moves a p)) (cap (moves a q))
  par_counted j p q = capped_sides (j a) _ _ _ (moves_par j p q)

  pub moves_blk : (pp : Cmp) → moves a (blk pp) ≡ length (csteps pp a) + sum_of (moves a) (comps pp failed)
  unfolding moves
  moves_blk pp = ap length (steps_blk pp a) ∙ simp (length-append, length-map, length_each)

  -- Views -----------------------------------------------------------------------------------------------------------------

  pub view_skip : view a skip ≡ skip_v
  unfolding view moves ends steps
  view_skip = refl

  pub view_throw : view a throw ≡ throw_v
  unfolding view moves ends steps
  view_throw = refl

  pub view_yield : view a yield ≡ yield_v
  unfolding view moves ends steps
  view_yield = refl

  pub view_ev : (l : Leaf) → view a (ev l) ≡ ev_v (l.takes a)
  unfolding view moves ends steps only
  view_ev l = by (l.takes a)
    where
      by : (b : Bool) → viewed (cap (length (only b (skip ∷ [])))) false false false ≡ ev_v b
      by true = refl
      by false = refl

  pub view_alt : (p q : Std) → view a (alt p q) ≡ alt_v (view a p) (view a q)
  unfolding view
  view_alt p q = λ i. viewed ((ap cap (moves_alt p q) ∙ sym (cap_add _ _)) i) (ends_alt p q done i) (ends_alt p q withdrawn i) (ends_alt p q failed i)

  view_ends : (p : Std) (w : Closing) → ends p w ≡ ends_v (view a p) w
  unfolding view
  view_ends p done = refl
  view_ends p withdrawn = refl
  view_ends p failed = refl

  pub view_par : (j : Joint) (p q : Std) → view a (par j p q) ≡ par_v (j a) (view a p) (view a q)
  unfolding view par_v
  view_par j p q = λ i. viewed (par_counted j p q i) (both done i) (both withdrawn i) (both failed i)
    where
      both : (u : Closing) → ends (par j p q) u ≡ both_v (view a p) (view a q) u
      both u = ends_par j p q u ∙ both_by _ _ u (view_ends p) (view_ends q)

  pub view_seq : (p q : Std) → view a (seq p q) ≡ seq_v (view a p) (view a q)
  unfolding view able seq_v
  view_seq p q =
      (λ i. viewed (cap (moves_seq p q i)) (ends_seq p q done i) (ends_seq p q withdrawn i) (ends_seq p q failed i))
      ∙ goes_on viewed (ends p done) (moves a p) (moves a q) (ends q done) (ends p withdrawn) (ends q withdrawn) (ends p failed) (ends q failed)

  pub view_hnd : (p q : Std) → view a (hnd p q) ≡ hnd_v (view a p) (view a q)
  unfolding view hnd_v
  view_hnd p q =
      (λ i. viewed (cap (moves_hnd p q i)) (ends_hnd p q done i) (ends_hnd p q withdrawn i) (ends_hnd p q failed i))
      ∙ goes_on (λ n f d w. viewed n d w f) (ends p failed) (moves a p) (moves a q) (ends q failed) (ends p done) (ends q done) (ends p withdrawn) (ends q withdrawn)

-- Tallies of lists ------------------------------------------------------------------------------------------------------

full : (n : ℕ) → eqb (cap (suc n)) 0 ≡ false
full n = ap (λ z. eqb z 0) below ∙ eqb-suc-zero (min n 4294967294)
  where
    below : cap (suc n) ≡ suc (min n 4294967294)
    below = omega arith

-- some of a list, by a number that counts them
pub some_counts : {A : Type 0} (f : A → Bool) (l : List A) → nonzero (cap (sum_of (λ x. cond (f x) 1 0) l)) ≡ some_of f l
unfolding sum_of some_of
some_counts f [] = refl
some_counts f (x ∷ l) = by (f x) (sum_of (λ x. cond (f x) 1 0) l) (some_counts f l)
  where
    by : (b : Bool) (n : ℕ) → nonzero (cap n) ≡ some_of f l → nonzero (cap (cond b 1 0 + n)) ≡ (b || some_of f l)
    by true n e = ap (λ z. nonzero (cap z)) (add_comm 1 n ∙ add-one n) ∙ ap not (full n)
    by false n e = ap (λ z. nonzero (cap z)) (zero-add n) ∙ e

pub any_counts : {A : Type 0} (l : List A) → nonzero (cap (length l)) ≡ any_at_all l
unfolding any_at_all
any_counts [] = refl
any_counts (x ∷ l) = ap not (full (length l))

-- a formula that is read off where one of two lists is empty
guarded : {A : Type 0} (z p q t : List A → List A → Tally) → ((l : List A) → z [] l ≡ p [] l) → ((x : A) (k : List A) → z (x ∷ k) [] ≡ q (x ∷ k) []) → ((x y : A) (k l : List A) → z (x ∷ k) (y ∷ l) ≡ t (x ∷ k) (y ∷ l)) → (k l : List A) → z k l ≡ cond (eqb (cap (length k)) 0) (p k l) (cond (eqb (cap (length l)) 0) (q k l) (t k l))
guarded z p q t f g h [] l = f l
guarded z p q t f g h (x ∷ k) [] = g x k ∙ ap (λ b. cond b (p (x ∷ k) []) (q (x ∷ k) [])) (sym (full (length k)))
guarded z p q t f g h (x ∷ k) (y ∷ l) = h x y k l ∙ ap₂ (λ b c. cond b (p (x ∷ k) (y ∷ l)) (cond c (q (x ∷ k) (y ∷ l)) (t (x ∷ k) (y ∷ l)))) (sym (full (length k))) (sym (full (length l)))

-- Parallel sides --------------------------------------------------------------------------------------------------------

map_chosen : {A B C : Type 0} (h : A → B) (b : C → Bool) (g : C → List A) (vs : List C) → map h (each vs (λ v. only (b v) (g v))) ≡ each vs (λ v. only (b v) (map h (g v)))
unfolding each only
map_chosen h b g [] = refl
map_chosen h b g (v ∷ vs) = map-append h (only (b v) (g v)) _ ∙ ap₂ ◌++◌ (by (b v)) (map_chosen h b g vs)
  where
    by : (c : Bool) → map h (only c (g v)) ≡ only c (map h (g v))
    by true = refl
    by false = refl

pub comps_partners : (j : Joint) (pp qq : Cmp) (u : Closing) → comps (cpar j pp qq) u ≡ each closings (λ w. besides j (comps pp w) (partners (comps qq) u w))
unfolding partners
comps_partners j pp qq u = comps_cpar j pp qq u ∙ ap (each closings) (fun_ext (λ w. ap (each (comps pp w)) (fun_ext (λ k. sym (map_chosen (par j k) (λ v. eqc u (join w v)) (comps qq) closings)))))

module _ (a : ℕ) where
  pub tally_nil : tally a [] ≡ none_t
  unfolding tally sum_of some_of
  tally_nil = refl

  pub tally_one : (p : Std) → tally a (p ∷ []) ≡ one_t (view a p)
  unfolding tally view sum_of some_of able
  tally_one p = λ i. tallied 1 (by (ends p done) i) (cap (add-zero (moves a p) i)) (or-false (ends p withdrawn) i) (or-false (ends p failed) i)
    where
      by : (b : Bool) → cap (cond b 1 0 + 0) ≡ cond b 1 0
      by true = refl
      by false = refl

  pub tally_only : (b : Bool) (l : List Std) → tally a (only b l) ≡ when_t b (tally a l)
  unfolding only
  tally_only true l = refl
  tally_only false l = tally_nil

  pub tally_append : (k l : List Std) → tally a (k ++ l) ≡ plus_t (tally a k) (tally a l)
  unfolding tally plus_t
  tally_append = guarded (λ k l. tally a (k ++ l)) (λ k l. tally a l) (λ k l. tally a k) _ (λ l. refl) (λ x k. ap (tally a) (append-nil (x ∷ k))) (λ x y xs ys.
      let k = x ∷ xs in
      let l = y ∷ ys in
      λ i. tallied
      (capped_sum _ _ _ (length-append k l) i)
      (capped_sum _ _ _ (sum_append numbers (able a) k l) i)
      (capped_sum _ _ _ (sum_append numbers (moves a) k l) i)
      (sum_append truths (λ x. ends x withdrawn) k l i)
      (sum_append truths (λ x. ends x failed) k l i))

  -- some can end done
  pub some_able : (l : List Std) → some_of (λ x. ends x done) l ≡ nonzero (cap (sum_of (able a) l))
  unfolding able
  some_able l = sym (some_counts (λ x. ends x done) l)

  pub moves_afters : (ks ls : List Std) → sum_of (moves a) (afters ks ls) ≡ sum_of (moves a) ls * length ks + sum_of (able a) ls * sum_of (moves a) ks
  moves_afters ks ls =
      sum_products₂ (turned numbers) (λ k l. seq l k) (moves a) ks ls (λ k. 1) (moves a) (moves a) (able a) (λ k l. moves_seq a l k ∙ ap (λ z. z + able a l * moves a k) (sym (mul-one (moves a l))))
      ∙ ap (λ z. sum_of (moves a) ls * z + sum_of (able a) ls * sum_of (moves a) ks) (sym (length_is ks))

  some_afters : (w : Closing) → ((p q : Std) → ends (seq p q) w ≡ (ends p w || (ends p done && ends q w))) → (k : Std) (ks ls : List Std) →
      some_of (λ x. ends x w) (afters (k ∷ ks) ls) ≡ (some_of (λ x. ends x w) ls || (nonzero (cap (sum_of (able a) ls)) && some_of (λ x. ends x w) (k ∷ ks)))
  unfolding some_of
  some_afters w e k ks ls =
      sum_products₂ (turned truths) (λ k l. seq l k) (λ x. ends x w) (k ∷ ks) ls (λ k. true) (λ k. ends k w) (λ l. ends l w) (λ l. ends l done) (λ k l. e l k ∙ ap (λ z. z || (ends l done && ends k w)) (sym (and-true (ends l w))))
      ∙ ap₂ (λ y z. y || (z && some_of (λ x. ends x w) (k ∷ ks))) (and-true (some_of (λ x. ends x w) ls)) (some_able ls)

  pub tally_seq : (ls ks : List Std) → tally a (afters ks ls) ≡ seq_t (tally a ls) (tally a ks)
  unfolding tally seq_t each
  tally_seq = guarded (λ ls ks. tally a (afters ks ls)) (λ ls ks. none_t) (λ ls ks. none_t) _ (λ ks. ap (tally a) (grid_nil (λ k l. seq l k) ks) ∙ tally_nil) (λ l ls. tally_nil) (λ x y xs ys.
      let ls = x ∷ xs in
      let ks = y ∷ ys in
      λ i. tallied
      (capped_product _ _ _ (length_grid (λ k l. seq l k) ks ls ∙ mul_comm _ _) i)
      (capped_product _ _ _ (sum_products (turned numbers) (λ k l. seq l k) (able a) ks ls (able a) (able a) (λ k l. able_seq a l k)) i)
      (capped_products _ _ _ _ _ (moves_afters ks ls) i)
      (some_afters withdrawn (λ p q. ends_seq p q withdrawn) y ys ls i)
      (some_afters failed (λ p q. ends_seq p q failed) y ys ls i))

  -- how many steps all k beside l have: steps multiply by what is joint; by what is not, each has its own with each of the others
  sides_besides : (j : Joint) (ks ls : List Std) → cap (sum_of (moves a) (besides j ks ls)) ≡ sides_t (j a) (tally a ks) (tally a ls)
  unfolding sides_t tally
  sides_besides j ks ls = by (j a) (moves_par a j)
    where
      by : (b : Bool) → ((k l : Std) → moves a (par j k l) ≡ moves_both b (moves a k) (moves a l)) → cap (sum_of (moves a) (besides j ks ls)) ≡ sides_t b (tally a ks) (tally a ls)
      by true e = capped_product _ _ _ (sum_products numbers (par j) (moves a) ks ls (moves a) (moves a) e)
      by false e = capped_products _ _ _ _ _ (
          sum_products₂ numbers (par j) (moves a) ks ls (moves a) (λ k. 1) (λ l. 1) (moves a) (λ k l. e k l ∙ ap₂ ◌+◌ (sym (mul-one (moves a k))) (sym (one-mul (moves a l))))
          ∙ ap₂ (λ y z. sum_of (moves a) ks * y + z * sum_of (moves a) ls) (sym (length_is ls)) (sym (length_is ks)))

  any_ends : (l : List Std) (w : Closing) → some_of (λ k. ends k w) l ≡ ends_v (any_v (tally a l)) w
  unfolding tally
  any_ends l done = some_able l
  any_ends l withdrawn = refl
  any_ends l failed = refl

  some_besides : (j : Joint) (u : Closing) (ks ls : List Std) → some_of (λ k. ends k u) (besides j ks ls) ≡ both_v (any_v (tally a ks)) (any_v (tally a ls)) u
  some_besides j u ks ls =
      sum_pairs truths (par j) (λ k. ends k u) ks ls closings closings (λ x y. eqc u (join x y)) (λ x k. ends k x) (λ y l. ends l y) (λ p q. ends_par j p q u)
      ∙ both_by _ _ u (any_ends ks) (any_ends ls)

  pub tally_par : (j : Joint) (ks ls : List Std) → tally a (besides j ks ls) ≡ par_t (j a) (tally a ks) (tally a ls)
  unfolding tally par_t each
  tally_par j = guarded (λ ks ls. tally a (besides j ks ls)) (λ ks ls. none_t) (λ ks ls. none_t) _ (λ ls. tally_nil) (λ k ks. ap (tally a) (grid_nil (par j) (k ∷ ks)) ∙ tally_nil) (λ x y xs ys.
      let ks = x ∷ xs in
      let ls = y ∷ ys in
      λ i. tallied
      (capped_product _ _ _ (length_grid (par j) ks ls) i)
      (capped_product _ _ _ (sum_products numbers (par j) (able a) ks ls (able a) (able a) (able_par a j)) i)
      (sides_besides j ks ls i)
      (some_besides j withdrawn ks ls i)
      (some_besides j failed ks ls i))

  -- of three lists, one for each closing
  tally_each : (l : Closing → List Std) → tally a (each closings l) ≡ over_t (λ w. tally a (l w))
  unfolding each
  tally_each l =
      ap (tally a) (ap (λ z. l done ++ (l withdrawn ++ z)) (append-nil (l failed)) ∙ sym (append_assoc (l done) (l withdrawn) (l failed)))
      ∙ tally_append (l done ++ l withdrawn) (l failed)
      ∙ ap (λ z. plus_t z (tally a (l failed))) (tally_append (l done) (l withdrawn))

  -- Words -----------------------------------------------------------------------------------------------------------------

  pub by_word : (pp : Cmp) (w : Closing) → by_w (word a pp) w ≡ tally a (comps pp w)
  unfolding word
  by_word pp done = refl
  by_word pp withdrawn = refl
  by_word pp failed = refl

  pub view_blk : (pp : Cmp) → view a (blk pp) ≡ blk_v (word a pp)
  unfolding view blk_v word
  view_blk pp = λ i. viewed
      (capped_sum _ _ _ (moves_blk a pp) i)
      ((ends_blk pp done ∙ ap₂ ◌||◌ (sym (any_counts (comps pp done))) (some_able (comps pp failed))) i)
      (ends_blk pp withdrawn i)
      (ends_blk pp failed i)

  -- of so many steps, and the lists of compensations
  word_by : (pp : Cmp) {n : ℕ} {d w f : Tally} → cap (length (csteps pp a)) ≡ n → tally a (comps pp done) ≡ d → tally a (comps pp withdrawn) ≡ w → tally a (comps pp failed) ≡ f → word a pp ≡ worded n d w f
  unfolding word
  word_by pp p q r s = λ i. worded (p i) (q i) (r i) (s i)

  pub word_pair : (p q : Std) → word a (pair p q) ≡ pair_w (view a p) (view a q)
  unfolding pair_w view moves
  word_pair p q =
      word_by (pair p q) (ap (λ l. cap (length l)) (csteps_pair p q a) ∙ simp length-map) (lone done q (comps_pair p q done))
      (lone withdrawn skip (comps_pair p q withdrawn) ∙ ap (λ v. when_t (ends p withdrawn) (one_t v)) (view_skip a))
      (lone failed skip (comps_pair p q failed) ∙ ap (λ v. when_t (ends p failed) (one_t v)) (view_skip a))
    where
      lone : (w : Closing) (r : Std) → comps (pair p q) w ≡ only (ends p w) (r ∷ []) → tally a (comps (pair p q) w) ≡ when_t (ends p w) (one_t (view a r))
      lone w r e = ap (tally a) e ∙ tally_only (ends p w) (r ∷ []) ∙ ap (when_t (ends p w)) (tally_one r)

  pub word_skipp : word a skipp ≡ skipp_w
  unfolding pair_w view moves ends steps
  word_skipp = word_pair skip skip

  pub word_throww : word a throww ≡ throww_w
  unfolding pair_w view moves ends steps
  word_throww = word_pair throw skip

  pub word_yieldd : word a yieldd ≡ yieldd_w
  unfolding pair_w view moves ends steps
  word_yieldd = word_pair yield skip

  pub word_cseq : (pp qq : Cmp) → word a (cseq pp qq) ≡ cseq_w (word a pp) (word a qq)
  unfolding cseq_w word only
  word_cseq pp qq = word_by (cseq pp qq)
      (ap (λ l. cap (length l)) (csteps_cseq pp qq a) ∙ capped_sum _ (length (csteps pp a)) (length (comps pp done) * length (csteps qq a)) (simp (length-append, length-map, length_grid)) ∙ ap (λ z. cap (cap (length (csteps pp a)) + z)) (sym (cap_mul _ _)))
      (ap (tally a) (comps_cseq pp qq done) ∙ tally_seq (comps qq done) (comps pp done))
      (later withdrawn (comps_cseq pp qq withdrawn))
      (later failed (comps_cseq pp qq failed))
    where
      later : (w : Closing) → comps (cseq pp qq) w ≡ comps pp w ++ afters (comps pp done) (comps qq w) → tally a (comps (cseq pp qq) w) ≡ plus_t (tally a (comps pp w)) (seq_t (tally a (comps qq w)) (tally a (comps pp done)))
      later w e = ap (tally a) e ∙ tally_append (comps pp w) _ ∙ ap (plus_t (tally a (comps pp w))) (tally_seq (comps qq w) (comps pp done))

  pub word_held : (qq : Cmp) (r : Std) → word a (held qq r) ≡ held_w (word a qq) (view a r)
  unfolding held_w word each
  word_held qq r = word_by (held qq r) (ap (λ l. cap (length l)) (csteps_held qq r a) ∙ simp length-map) (before done) (before withdrawn) (before failed)
    where
      before : (w : Closing) → tally a (comps (held qq r) w) ≡ seq_t (tally a (comps qq w)) (one_t (view a r))
      before w = ap (tally a) (comps_held qq r w ∙ sym (append-nil _)) ∙ tally_seq (comps qq w) (r ∷ []) ∙ ap (seq_t (tally a (comps qq w))) (tally_one r)

  pub word_calt : (pp qq : Cmp) → word a (calt pp qq) ≡ calt_w (word a pp) (word a qq)
  unfolding calt_w word
  word_calt pp qq = word_by (calt pp qq) (capped_sum _ _ _ (ap length (csteps_calt pp qq a) ∙ length-append (csteps pp a) (csteps qq a))) (either done) (either withdrawn) (either failed)
    where
      either : (w : Closing) → tally a (comps (calt pp qq) w) ≡ plus_t (tally a (comps pp w)) (tally a (comps qq w))
      either w = ap (tally a) (comps_calt pp qq w) ∙ tally_append (comps pp w) (comps qq w)

  pub word_partners : (qq : Cmp) (u w : Closing) → tally a (partners (comps qq) u w) ≡ partners_t (word a qq) u w
  unfolding partners partners_t fitting_t
  word_partners qq u w = tally_each (λ v. only (eqc u (join w v)) (comps qq v)) ∙ ap over_t (fun_ext (λ v. tally_only (eqc u (join w v)) (comps qq v) ∙ ap (when_t (eqc u (join w v))) (sym (by_word qq v))))

  pub word_cpar : (j : Joint) (pp qq : Cmp) → word a (cpar j pp qq) ≡ cpar_w (j a) (word a pp) (word a qq)
  unfolding cpar_w both_t word
  word_cpar j pp qq = word_by (cpar j pp qq) (ap (λ l. cap (length l)) (csteps_cpar j pp qq a) ∙ sides_beside (j a) (cpar j) pp qq (csteps pp a) (csteps qq a)) (both done) (both withdrawn) (both failed)
    where
      both : (u : Closing) → tally a (comps (cpar j pp qq) u) ≡ both_t (j a) (word a pp) (word a qq) u
      both u =
          ap (tally a) (comps_partners j pp qq u)
          ∙ tally_each (λ w. besides j (comps pp w) (partners (comps qq) u w))
          ∙ ap over_t (fun_ext (λ w. tally_par j (comps pp w) (partners (comps qq) u w) ∙ ap₂ (par_t (j a)) (sym (by_word pp w)) (word_partners qq u w)))

  -- Weights ---------------------------------------------------------------------------------------------------------------

  sum_weight : (g : Weight) (l : List Std) → sum_of (weight a g) l ≡ g.own * length l + g.moves * sum_of (moves a) l + g.able * sum_of (able a) l
  unfolding weight
  sum_weight g l =
      sum_plus numbers (λ k. g.own + g.moves * moves a k) (λ k. g.able * able a k) l
      ∙ ap₂ ◌+◌ (sum_plus numbers (λ k. g.own) (λ k. g.moves * moves a k) l ∙ ap₂ ◌+◌ (sum_same g.own l) (sum_right numbers g.moves (moves a) l)) (sum_right numbers g.able (able a) l)

  pub weight_total : (g : Weight) (l : List Std) → total (tally a l) g ≡ cap (sum_of (weight a g) l)
  unfolding total tally
  weight_total g l = simp (sum_weight, cap_mul_right) (omega arith)
