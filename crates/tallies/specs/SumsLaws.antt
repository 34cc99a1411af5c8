-- Sums over lists, of numbers (sum_of) and of truth values (some_of): of a list put together from others, and of all pairs of two
-- lists. Stated once for whatever adds and multiplies as these do. Assumes nothing.
use Rattle.std.specs.Prelude.{ℕ, ◌+◌, ◌*◌, ◌≡◌, Bool, true, false, ◌&&◌, ◌||◌, length}
use Rattle.std.proofs.Math.Path.{refl, sym, ap, fun_ext}
use Rattle.std.proofs.Common.{◌∙◌, ap₂, arith, mul-one}
use Rattle.std.proofs.Math.Bool.{or_assoc, and-false, and-or_distrib_left, and-or_distrib_right}
use mathlib.Core.List.{List, [], ◌∷◌, ◌++◌, map}
use Rattle.calculus.specs.Successors.{some_of, each}
use Rattle.tallies.specs.Counts.{sum_of}
use Rattle.tallies.specs.Grids.{grid}

-- what sums of both kinds have in common
pub record Summing : Type 1 where
  pub R : Type 0
  pub nil : R
  pub plus : R → R → R
  pub times : R → R → R
  pub sum : {A : Type 0} → (A → R) → List A → R
  pub sum_nil : {A : Type 0} (f : A → R) → sum f [] ≡ nil
  pub sum_cons : {A : Type 0} (f : A → R) (x : A) (l : List A) → sum f (x ∷ l) ≡ plus (f x) (sum f l)
  pub unit : (x : R) → plus nil x ≡ x
  pub assoc : (x y z : R) → plus (plus x y) z ≡ plus x (plus y z)
  pub swap : (x y z w : R) → plus (plus x y) (plus z w) ≡ plus (plus x z) (plus y w)
  pub left_nil : (x : R) → times nil x ≡ nil
  pub left_plus : (x y z : R) → times (plus x y) z ≡ plus (times x z) (times y z)
  pub right_nil : (x : R) → times x nil ≡ nil
  pub right_plus : (x y z : R) → times x (plus y z) ≡ plus (times x y) (times x z)

-- products the other way round
abbrev pub turned : Summing → Summing
turned S = record {
  R = S.R;
  nil = S.nil;
  plus = S.plus;
  times = λ x y. S.times y x;
  sum = S.sum;
  sum_nil = S.sum_nil;
  sum_cons = S.sum_cons;
  unit = S.unit;
  assoc = S.assoc;
  swap = S.swap;
  left_nil = S.right_nil;
  left_plus = λ x y z. S.right_plus z x y;
  right_nil = S.left_nil;
  right_plus = λ x y z. S.left_plus y z x;
}

module _ {A : Type 0} where
  pub number_nil : (f : A → ℕ) → sum_of f [] ≡ 0
  unfolding sum_of
  number_nil f = refl

  pub number_cons : (f : A → ℕ) (x : A) (l : List A) → sum_of f (x ∷ l) ≡ f x + sum_of f l
  unfolding sum_of
  number_cons f x l = refl

  pub truth_nil : (f : A → Bool) → some_of f [] ≡ false
  unfolding some_of
  truth_nil f = refl

  pub truth_cons : (f : A → Bool) (x : A) (l : List A) → some_of f (x ∷ l) ≡ (f x || some_of f l)
  unfolding some_of
  truth_cons f x l = refl

abbrev pub numbers : Summing
numbers = record {
  R = ℕ;
  nil = 0;
  plus = ◌+◌;
  times = ◌*◌;
  sum = sum_of;
  sum_nil = number_nil;
  sum_cons = number_cons;
  unit = λ x. omega arith;
  assoc = λ x y z. omega arith;
  swap = λ x y z w. omega arith;
  left_nil = λ x. omega arith;
  left_plus = λ x y z. omega arith;
  right_nil = λ x. omega arith;
  right_plus = λ x y z. omega arith;
}

pub or_swap : (x y z w : Bool) → ((x || y) || (z || w)) ≡ ((x || z) || (y || w))
or_swap true y z w = refl
or_swap false true true w = refl
or_swap false true false w = refl
or_swap false false true w = refl
or_swap false false false w = refl

abbrev pub truths : Summing
truths = record {
  R = Bool;
  nil = false;
  plus = ◌||◌;
  times = ◌&&◌;
  sum = some_of;
  sum_nil = truth_nil;
  sum_cons = truth_cons;
  unit = λ x. refl;
  assoc = or_assoc;
  swap = or_swap;
  left_nil = λ x. refl;
  left_plus = and-or_distrib_right;
  right_nil = and-false;
  right_plus = and-or_distrib_left;
}

-- Laws of every sum ---------------------------------------------------------------------------------------------------------

module _ (S : Summing) where
  open S use {R, nil, plus, times, sum, sum_nil, sum_cons, unit, assoc, swap, left_nil, left_plus, right_nil, right_plus}

  module _ {A : Type 0} where
    pub sum_by : (f g : A → R) → ((x : A) → f x ≡ g x) → (l : List A) → sum f l ≡ sum g l
    sum_by f g e l = ap (λ h. sum h l) (fun_ext e)

    pub sum_append : (f : A → R) (k l : List A) → sum f (k ++ l) ≡ plus (sum f k) (sum f l)
    sum_append f [] l = sym (unit (sum f l)) ∙ ap (λ z. plus z (sum f l)) (sym (sum_nil f))
    sum_append f (x ∷ k) l =
        sum_cons f x (k ++ l)
        ∙ ap (plus (f x)) (sum_append f k l)
        ∙ sym (assoc (f x) (sum f k) (sum f l))
        ∙ ap (λ z. plus z (sum f l)) (sym (sum_cons f x k))

    pub sum_plus : (f g : A → R) (l : List A) → sum (λ x. plus (f x) (g x)) l ≡ plus (sum f l) (sum g l)
    sum_plus f g [] = sum_nil _ ∙ sym (ap₂ plus (sum_nil f) (sum_nil g) ∙ unit nil)
    sum_plus f g (x ∷ l) =
        sum_cons _ x l
        ∙ ap (plus (plus (f x) (g x))) (sum_plus f g l)
        ∙ swap (f x) (g x) (sum f l) (sum g l)
        ∙ sym (ap₂ plus (sum_cons f x l) (sum_cons g x l))

    pub sum_right : (c : R) (f : A → R) (l : List A) → sum (λ x. times c (f x)) l ≡ times c (sum f l)
    sum_right c f [] = sum_nil _ ∙ sym (ap (times c) (sum_nil f) ∙ right_nil c)
    sum_right c f (x ∷ l) = sum_cons _ x l ∙ ap (plus (times c (f x))) (sum_right c f l) ∙ sym (ap (times c) (sum_cons f x l) ∙ right_plus c (f x) (sum f l))

  module _ {A B : Type 0} where
    pub sum_map : (f : B → R) (h : A → B) (l : List A) → sum f (map h l) ≡ sum (λ x. f (h x)) l
    sum_map f h [] = sum_nil f ∙ sym (sum_nil _)
    sum_map f h (x ∷ l) = sum_cons f (h x) (map h l) ∙ ap (plus (f (h x))) (sum_map f h l) ∙ sym (sum_cons _ x l)

    pub sum_each : (f : B → R) (g : A → List B) (l : List A) → sum f (each l g) ≡ sum (λ x. sum f (g x)) l
    unfolding each
    sum_each f g [] = sum_nil f ∙ sym (sum_nil _)
    sum_each f g (x ∷ l) = sum_append f (g x) (each l g) ∙ ap (plus (sum f (g x))) (sum_each f g l) ∙ sym (sum_cons _ x l)

module _ (S : Summing) where
  open S use {R, nil, plus, times, sum, sum_nil, sum_cons, left_nil}

  pub sum_left : {A : Type 0} (c : R) (f : A → R) (l : List A) → sum (λ x. times (f x) c) l ≡ times (sum f l) c
  sum_left = sum_right (turned S)

  all_products : {A B : Type 0} (k : List A) (l : List B) (u : A → R) (v : B → R) → sum (λ x. sum (λ y. times (u x) (v y)) l) k ≡ times (sum u k) (sum v l)
  all_products k l u v = sum_by S _ _ (λ x. sum_right S (u x) v l) k ∙ sum_left (sum v l) u k

  sum_nils : {A : Type 0} (l : List A) → sum (λ x. nil) l ≡ nil
  sum_nils l = sum_by S _ _ (λ x. sym (left_nil nil)) l ∙ sum_right S nil (λ x. nil) l ∙ left_nil _

  -- two sums, in the other order
  sum_swap : {A B : Type 0} (g : A → B → R) (k : List A) (l : List B) → sum (λ x. sum (g x) l) k ≡ sum (λ y. sum (λ x. g x y) k) l
  sum_swap g [] l = sum_nil _ ∙ sym (sum_by S _ _ (λ y. sum_nil _) l ∙ sum_nils l)
  sum_swap g (x ∷ k) l =
      sum_cons _ x k
      ∙ ap (plus (sum (g x) l)) (sum_swap g k l)
      ∙ sym (sum_by S _ _ (λ y. sum_cons _ x k) l ∙ sum_plus S (g x) (λ y. sum (λ x. g x y) k) l)

  sum_inward : {A B C : Type 0} (g : A → B → C → R) (k : List A) (l : List B) (m : List C) → sum (λ x. sum (λ y. sum (g x y) m) l) k ≡ sum (λ y. sum (λ z. sum (λ x. g x y z) k) m) l
  sum_inward g k l m = sum_swap (λ x y. sum (g x y) m) k l ∙ sum_by S _ _ (λ y. sum_swap (λ x. g x y) k m) l

pub grid_nil : {A B C : Type 0} (h : A → B → C) (k : List A) → grid h k [] ≡ []
unfolding each
grid_nil h [] = refl
grid_nil h (x ∷ k) = grid_nil h k

-- a sum over all pairs whose terms are products, two products each, or sums of products each
module _ (S : Summing) {A B C : Type 0} (h : A → B → C) (f : C → S.R) (k : List A) (l : List B) where
  open S use {R, plus, times, sum}

  sum_grid : (g : A → B → R) → ((x : A) (y : B) → f (h x y) ≡ g x y) → sum f (grid h k l) ≡ sum (λ x. sum (g x) l) k
  sum_grid g e = sum_each S f (λ x. map (h x) l) k ∙ sum_by S _ _ (λ x. sum_map S f (h x) l ∙ sum_by S _ _ (e x) l) k

  pub sum_products : (u : A → R) (v : B → R) → ((x : A) (y : B) → f (h x y) ≡ times (u x) (v y)) → sum f (grid h k l) ≡ times (sum u k) (sum v l)
  sum_products u v e = sum_grid (λ x y. times (u x) (v y)) e ∙ all_products S k l u v

  pub sum_products₂ : (u u' : A → R) (v v' : B → R) → ((x : A) (y : B) → f (h x y) ≡ plus (times (u x) (v y)) (times (u' x) (v' y))) → sum f (grid h k l) ≡ plus (times (sum u k) (sum v l)) (times (sum u' k) (sum v' l))
  sum_products₂ u u' v v' e =
      sum_grid (λ x y. plus (times (u x) (v y)) (times (u' x) (v' y))) e
      ∙ sum_by S _ _ (λ x. sum_plus S (λ y. times (u x) (v y)) (λ y. times (u' x) (v' y)) l) k
      ∙ sum_plus S (λ x. sum (λ y. times (u x) (v y)) l) (λ x. sum (λ y. times (u' x) (v' y)) l) k
      ∙ ap₂ plus (all_products S k l u v) (all_products S k l u' v')

  pub sum_pairs : {D E : Type 0} (ds : List D) (es : List E) (c : D → E → R) (u : D → A → R) (v : E → B → R) →
      ((x : A) (y : B) → f (h x y) ≡ sum (λ d. sum (λ e. times (c d e) (times (u d x) (v e y))) es) ds) →
      sum f (grid h k l) ≡ sum (λ d. sum (λ e. times (c d e) (times (sum (u d) k) (sum (v e) l))) es) ds
  sum_pairs ds es c u v p =
      sum_grid (λ x y. sum (λ d. sum (λ e. times (c d e) (times (u d x) (v e y))) es) ds) p
      ∙ sum_by S _ _ (λ x. sum_inward S (λ y d e. times (c d e) (times (u d x) (v e y))) l ds es) k
      ∙ sum_inward S (λ x d e. sum (λ y. times (c d e) (times (u d x) (v e y))) l) k ds es
      ∙ sum_by S _ _ (λ d. sum_by S _ _ (λ e. scaled (c d e) (u d) (v e)) es) ds
    where
      scaled : (z : R) (u : A → R) (v : B → R) → sum (λ x. sum (λ y. times z (times (u x) (v y))) l) k ≡ times z (times (sum u k) (sum v l))
      scaled z u v = sum_by S _ _ (λ x. sum_right S z (λ y. times (u x) (v y)) l) k ∙ sum_right S z (λ x. sum (λ y. times (u x) (v y)) l) k ∙ ap (times z) (all_products S k l u v)

-- Lengths are sums ----------------------------------------------------------------------------------------------------------

pub length_is : {A : Type 0} (l : List A) → length l ≡ sum_of (λ x. 1) l
unfolding sum_of
length_is [] = refl
length_is (x ∷ l) = let e = length_is l in omega arith

pub length_each : {A B : Type 0} (g : A → List B) (l : List A) → length (each l g) ≡ sum_of (λ x. length (g x)) l
length_each g l = length_is (each l g) ∙ sum_each numbers (λ x. 1) g l ∙ sum_by numbers _ _ (λ x. sym (length_is (g x))) l

pub length_grid : {A B C : Type 0} (h : A → B → C) (k : List A) (l : List B) → length (grid h k l) ≡ length k * length l
length_grid h k l = length_is (grid h k l) ∙ sum_products numbers h (λ x. 1) k l (λ x. 1) (λ x. 1) (λ x y. refl) ∙ sym (ap₂ ◌*◌ (length_is k) (length_is l))

pub sum_same : {A : Type 0} (c : ℕ) (l : List A) → sum_of (λ x. c) l ≡ c * length l
sum_same c l = sum_by numbers _ _ (λ x. sym (mul-one c)) l ∙ sum_right numbers c (λ x. 1) l ∙ ap (◌*◌ c) (sym (length_is l))
