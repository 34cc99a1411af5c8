-- 01's own equations for the ordered lists, over terms: one for the endings, compensations and steps of each kind, in 01's order.
-- They follow because a compensation in a list behaves as the term it is (`comps_real`). The equations come last, by kind.
-- Assumes nothing.
use Rattle.std.specs.Prelude.{ℕ, ◌≡◌, Bool, not, ◌&&◌, ◌||◌}
use Rattle.std.proofs.Math.Path.{refl, ap}
use Rattle.std.proofs.Common.{sym, ◌∙◌, ap₂}
use Rattle.std.proofs.Math.Bool.{true, false}
use mathlib.Core.List.{List, [], ◌∷◌, ◌++◌, map}
use Rattle.calculus.specs.Term.{Closing, done, withdrawn, failed, Leaf, Joint, Std, Cmp, skip, throw, yield, ev, seq, alt, par, hnd, blk, pair, cseq, calt, cpar, held, join}
use Rattle.calculus.specs.Successors.{Beh, eqc, closings, only, some_of, each, any_at_all, beside, does, skip_b, seq_b, par_b, ends, left_by, steps, csteps, comps}

-- a standard term with what it does
abbrev pub beh : Std → Beh
beh p = does p (λ w. ends p w) (λ a. steps p a)

-- P holds of every element
module _ {A : Type 0} where
  pub data All (P : A → Type 0) : List A → Type 0 where
    none : All P []
    also : {x : A} {xs : List A} → P x → All P xs → All P (x ∷ xs)

  pub all_append : {P : A → Type 0} {xs : List A} (ys : List A) → All P xs → All P ys → All P (xs ++ ys)
  all_append ys none k = k
  all_append ys (also h t) k = also h (all_append ys t k)

  pub all_only : {P : A → Type 0} {xs : List A} (b : Bool) → All P xs → All P (only b xs)
  unfolding only
  all_only true h = h
  all_only false h = none

module _ {A B : Type 0} where
  pub all_map : {P : A → Type 0} (Q : B → Type 0) (f : A → B) → ((x : A) → P x → Q (f x)) → {xs : List A} → All P xs → All Q (map f xs)
  all_map Q f k none = none
  all_map Q f k (also h t) = also (k _ h) (all_map Q f k t)

  pub all_each : {P : A → Type 0} {Q : B → Type 0} (f : A → List B) → ((x : A) → P x → All Q (f x)) → {xs : List A} → All P xs → All Q (each xs f)
  unfolding each
  all_each f k none = none
  all_each f k (also {xs} h t) = all_append (each xs f) (k _ h) (all_each f k t)

  pub all_each' : {Q : B → Type 0} (f : A → List B) → ((x : A) → All Q (f x)) → (xs : List A) → All Q (each xs f)
  unfolding each
  all_each' f k [] = none
  all_each' f k (x ∷ xs) = all_append (each xs f) (k x) (all_each' f k xs)

-- k is the behaviour of its own term
abbrev pub Real : Beh → Type 0
Real k = k ≡ beh k.term

seq_real : (l k : Beh) → Real l → Real k → Real (seq_b l k)
unfolding ends
seq_real l k h j = ap₂ seq_b h j

par_real : (j : Joint) (l k : Beh) → Real l → Real k → Real (par_b j l k)
unfolding ends
par_real x l k h j = ap₂ (par_b x) h j

pub comps_real : (pp : Cmp) (w : Closing) → All Real (left_by pp w)
unfolding ends
comps_real (pair p q) done = all_only (ends p done) (also refl none)
comps_real (pair p q) withdrawn = all_only (ends p withdrawn) (also refl none)
comps_real (pair p q) failed = all_only (ends p failed) (also refl none)
comps_real (cseq pp qq) w =
    all_append _ (all_only (not (eqc w done)) (comps_real pp w))
    (all_each _ (λ k h. all_map Real (λ l. seq_b l k) (λ l j. seq_real l k j h) (comps_real qq w)) (comps_real pp done))
comps_real (calt pp qq) w = all_append _ (comps_real pp w) (comps_real qq w)
comps_real (cpar x pp qq) u =
    all_each' _ (λ w. all_each _ (λ k h. all_each' _ (λ v. all_only (eqc u (join w v)) (all_map Real (λ l. par_b x k l) (λ l j. par_real x k l h j) (comps_real qq v))) closings) (comps_real pp w)) closings
comps_real (held qq r) w = all_map Real (λ l. seq_b l (beh r)) (λ l j. seq_real l (beh r) j refl) (comps_real qq w)

-- Lists of behaviours and lists of terms -----------------------------------------------------------------------------------

each_terms : {B : Type 0} (f : Beh → List B) (g : Std → List B) → ((k : Beh) → Real k → f k ≡ g k.term) → {xs : List Beh} → All Real xs → each xs f ≡ each (map (λ k. k.term) xs) g
unfolding each
each_terms f g e none = refl
each_terms f g e (also h t) = ap₂ ◌++◌ (e _ h) (each_terms f g e t)

some_terms : (f : Beh → Bool) (g : Std → Bool) → ((k : Beh) → Real k → f k ≡ g k.term) → {xs : List Beh} → All Real xs → some_of f xs ≡ some_of g (map (λ k. k.term) xs)
unfolding some_of
some_terms f g e none = refl
some_terms f g e (also h t) = ap₂ ◌||◌ (e _ h) (some_terms f g e t)

any_map : {A B : Type 0} (f : A → B) (xs : List A) → any_at_all (map f xs) ≡ any_at_all xs
unfolding any_at_all
any_map f [] = refl
any_map f (x ∷ xs) = refl

module _ {A B : Type 0} (f : A → B) where
  map-append : (xs ys : List A) → map f (xs ++ ys) ≡ map f xs ++ map f ys
  map-append [] ys = refl
  map-append (x ∷ xs) ys = ap (λ l. f x ∷ l) (map-append xs ys)

  map_only : (b : Bool) (xs : List A) → map f (only b xs) ≡ only b (map f xs)
  unfolding only
  map_only true xs = refl
  map_only false xs = refl

  map_each : {C : Type 0} (g : C → List A) (xs : List C) → map f (each xs g) ≡ each xs (λ x. map f (g x))
  unfolding each
  map_each g [] = refl
  map_each g (x ∷ xs) = map-append (g x) (each xs g) ∙ ap (λ l. map f (g x) ++ l) (map_each g xs)

  map_map : {C : Type 0} (g : C → A) (xs : List C) → map f (map g xs) ≡ map (λ x. f (g x)) xs
  map_map g [] = refl
  map_map g (x ∷ xs) = ap (λ l. f (g x) ∷ l) (map_map g xs)

each_map : {A B C : Type 0} (h : A → B) (f : B → List C) (xs : List A) → each (map h xs) f ≡ each xs (λ x. f (h x))
unfolding each
each_map h f [] = refl
each_map h f (x ∷ xs) = ap (λ l. f (h x) ++ l) (each_map h f xs)

each_cong : {A B : Type 0} (f g : A → List B) (xs : List A) → ((x : A) → f x ≡ g x) → each xs f ≡ each xs g
unfolding each
each_cong f g [] e = refl
each_cong f g (x ∷ xs) e = ap₂ ◌++◌ (e x) (each_cong f g xs e)

map_each_by : {A B C : Type 0} (f : A → B) (g : C → List A) (g' : C → List B) (xs : List C) → ((x : C) → map f (g x) ≡ g' x) → map f (each xs g) ≡ each xs g'
map_each_by f g g' xs e = map_each f g xs ∙ each_cong (λ x. map f (g x)) g' xs e

-- Endings: "Choice ends as either side does", and so on ------------------------------------------------------------------

pub ends_skip : (w : Closing) → ends skip w ≡ eqc w done
unfolding ends
ends_skip w = refl

pub ends_throw : (w : Closing) → ends throw w ≡ eqc w failed
unfolding ends
ends_throw w = refl

pub ends_yield : (w : Closing) → ends yield w ≡ not (eqc w failed)
unfolding ends
ends_yield w = refl

pub ends_ev : (l : Leaf) (w : Closing) → ends (ev l) w ≡ false
unfolding ends
ends_ev l w = refl

pub ends_seq : (p q : Std) (w : Closing) → ends (seq p q) w ≡ ((not (eqc w done) && ends p w) || (ends p done && ends q w))
unfolding ends
ends_seq p q w = refl

pub ends_hnd : (p q : Std) (w : Closing) → ends (hnd p q) w ≡ ((not (eqc w failed) && ends p w) || (ends p failed && ends q w))
unfolding ends
ends_hnd p q w = refl

pub ends_alt : (p q : Std) (w : Closing) → ends (alt p q) w ≡ (ends p w || ends q w)
unfolding ends
ends_alt p q w = refl

pub ends_par : (j : Joint) (p q : Std) (u : Closing) → ends (par j p q) u ≡ some_of (λ w. some_of (λ v. eqc u (join w v) && (ends p w && ends q v)) closings) closings
unfolding ends
ends_par j p q u = refl

pub ends_blk : (pp : Cmp) (w : Closing) → ends (blk pp) w ≡ ((eqc w done && any_at_all (comps pp done)) || some_of (λ k. ends k w) (comps pp failed))
unfolding ends comps
ends_blk pp w =
    ap₂ (λ a b. (eqc w done && a) || b)
    (sym (any_map (λ (k : Beh). k.term) (left_by pp done)))
    (some_terms (λ k. k.ends w) (λ k. ends k w) (λ k h. ap (λ (x : Beh). x.ends w) h) (comps_real pp failed))

-- Compensations ---------------------------------------------------------------------------------------------------------

pub comps_pair : (p q : Std) (w : Closing) → comps (pair p q) w ≡ only (ends p w) (elim w [ done ↦ q ∷ [] | withdrawn ↦ skip ∷ [] | failed ↦ skip ∷ [] ])
unfolding comps ends
comps_pair p q done = map_only (λ (k : Beh). k.term) (ends p done) (beh q ∷ [])
comps_pair p q withdrawn = map_only (λ (k : Beh). k.term) (ends p withdrawn) (skip_b ∷ [])
comps_pair p q failed = map_only (λ (k : Beh). k.term) (ends p failed) (skip_b ∷ [])

pub comps_cseq : (pp qq : Cmp) (w : Closing) → comps (cseq pp qq) w ≡ only (not (eqc w done)) (comps pp w) ++ each (comps pp done) (λ k. map (λ l. seq l k) (comps qq w))
unfolding comps
comps_cseq pp qq w =
    let t : Beh → Std = λ k. k.term in
    let xs = left_by pp done in
    let ys = left_by qq w in
    map-append t (only (not (eqc w done)) (left_by pp w)) (each xs (λ k. map (λ l. seq_b l k) ys))
    ∙ ap₂ ◌++◌ (map_only t (not (eqc w done)) (left_by pp w))
    (map_each t (λ k. map (λ l. seq_b l k) ys) xs
    ∙ each_cong _ (λ (k : Beh). map (λ l. seq l k.term) (map t ys)) xs (λ k. map_map t (λ l. seq_b l k) ys ∙ sym (map_map (λ l. seq l k.term) t ys))
    ∙ sym (each_map t (λ k. map (λ l. seq l k) (map t ys)) xs))

pub comps_calt : (pp qq : Cmp) (w : Closing) → comps (calt pp qq) w ≡ comps pp w ++ comps qq w
unfolding comps
comps_calt pp qq w = map-append (λ (k : Beh). k.term) (left_by pp w) (left_by qq w)

pub comps_cpar : (j : Joint) (pp qq : Cmp) (u : Closing) → comps (cpar j pp qq) u ≡ each closings (λ w. each (comps pp w) (λ k. each closings (λ v. only (eqc u (join w v)) (map (λ l. par j k l) (comps qq v)))))
unfolding comps
comps_cpar j pp qq u = map_each_by t l₁ r₁ closings e₁
  where
    t : Beh → Std
    t k = k.term

    l₃ : Closing → Beh → Closing → List Beh
    l₃ w k v = only (eqc u (join w v)) (map (λ l. par_b j k l) (left_by qq v))

    l₂ : Closing → Beh → List Beh
    l₂ w k = each closings (l₃ w k)

    l₁ : Closing → List Beh
    l₁ w = each (left_by pp w) (l₂ w)

    r₃ : Closing → Std → Closing → List Std
    r₃ w k v = only (eqc u (join w v)) (map (λ l. par j k l) (comps qq v))

    r₂ : Closing → Std → List Std
    r₂ w k = each closings (r₃ w k)

    r₁ : Closing → List Std
    r₁ w = each (comps pp w) (r₂ w)

    e₃ : (w : Closing) (k : Beh) (v : Closing) → map t (l₃ w k v) ≡ r₃ w k.term v
    e₃ w k v = map_only t (eqc u (join w v)) (map (λ l. par_b j k l) (left_by qq v)) ∙ ap (only (eqc u (join w v))) (map_map t (λ l. par_b j k l) (left_by qq v) ∙ sym (map_map (λ l. par j k.term l) t (left_by qq v)))

    e₂ : (w : Closing) (k : Beh) → map t (l₂ w k) ≡ r₂ w k.term
    e₂ w k = map_each_by t (l₃ w k) (r₃ w k.term) closings (e₃ w k)

    e₁ : (w : Closing) → map t (l₁ w) ≡ r₁ w
    e₁ w = map_each_by t (l₂ w) (λ k. r₂ w k.term) (left_by pp w) (e₂ w) ∙ sym (each_map t (r₂ w) (left_by pp w))

pub comps_held : (qq : Cmp) (r : Std) (w : Closing) → comps (held qq r) w ≡ map (λ l. seq l r) (comps qq w)
unfolding comps
comps_held qq r w =
    let t : Beh → Std = λ k. k.term in
    map_map t (λ l. seq_b l (beh r)) (left_by qq w)
    ∙ sym (map_map (λ l. seq l r) t (left_by qq w))

-- Steps of a standard part ----------------------------------------------------------------------------------------------

pub steps_skip : (a : ℕ) → steps skip a ≡ []
unfolding steps
steps_skip a = refl

pub steps_throw : (a : ℕ) → steps throw a ≡ []
unfolding steps
steps_throw a = refl

pub steps_yield : (a : ℕ) → steps yield a ≡ []
unfolding steps
steps_yield a = refl

pub steps_ev : (l : Leaf) (a : ℕ) → steps (ev l) a ≡ only (l.takes a) (skip ∷ [])
unfolding steps
steps_ev l a = refl

pub steps_seq : (p q : Std) (a : ℕ) → steps (seq p q) a ≡ map (λ r. seq r q) (steps p a) ++ only (ends p done) (steps q a)
unfolding steps
steps_seq p q a = refl

pub steps_hnd : (p q : Std) (a : ℕ) → steps (hnd p q) a ≡ map (λ r. hnd r q) (steps p a) ++ only (ends p failed) (steps q a)
unfolding steps
steps_hnd p q a = refl

pub steps_alt : (p q : Std) (a : ℕ) → steps (alt p q) a ≡ steps p a ++ steps q a
unfolding steps
steps_alt p q a = refl

pub steps_par : (j : Joint) (p q : Std) (a : ℕ) → steps (par j p q) a ≡ beside (j a) (par j) p q (steps p a) (steps q a)
unfolding steps
steps_par j p q a = refl

pub steps_blk : (pp : Cmp) (a : ℕ) → steps (blk pp) a ≡ map blk (csteps pp a) ++ each (comps pp failed) (λ k. steps k a)
unfolding steps csteps comps
steps_blk pp a = ap (λ l. map blk (csteps pp a) ++ l) (each_terms (λ k. k.steps a) (λ k. steps k a) (λ k h. ap (λ (x : Beh). x.steps a) h) (comps_real pp failed))

-- Steps of a compensable part -------------------------------------------------------------------------------------------

pub csteps_pair : (p q : Std) (a : ℕ) → csteps (pair p q) a ≡ map (λ r. pair r q) (steps p a)
unfolding csteps
csteps_pair p q a = refl

pub csteps_cseq : (pp qq : Cmp) (a : ℕ) → csteps (cseq pp qq) a ≡ map (λ r. cseq r qq) (csteps pp a) ++ each (comps pp done) (λ k. map (λ r. held r k) (csteps qq a))
unfolding comps csteps
csteps_cseq pp qq a = ap (λ l. map (λ r. cseq r qq) (csteps pp a) ++ l) (sym (each_map (λ (k : Beh). k.term) (λ k. map (λ r. held r k) (csteps qq a)) (left_by pp done)))

pub csteps_calt : (pp qq : Cmp) (a : ℕ) → csteps (calt pp qq) a ≡ csteps pp a ++ csteps qq a
unfolding csteps
csteps_calt pp qq a = refl

pub csteps_cpar : (j : Joint) (pp qq : Cmp) (a : ℕ) → csteps (cpar j pp qq) a ≡ beside (j a) (cpar j) pp qq (csteps pp a) (csteps qq a)
unfolding csteps
csteps_cpar j pp qq a = refl

pub csteps_held : (qq : Cmp) (r : Std) (a : ℕ) → csteps (held qq r) a ≡ map (λ q. held q r) (csteps qq a)
unfolding csteps
csteps_held qq r a = refl
