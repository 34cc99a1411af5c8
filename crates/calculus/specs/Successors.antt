-- The ordered successor lists of 01, "The search that is counted": endings, compensations and steps, with repetitions, a line for
-- each kind. A compensation is no part of the term that leaves it; so it is listed with what it does (`Beh`), and a block's
-- endings and steps need no second recursion. 01's equations over terms alone are theorems (Equations), and so is that the
-- lists hold exactly what the rules allow (Exact). Definitions only. Assumes nothing.
use Rattle.std.specs.Prelude.{ℕ, Bool, cond, not, ◌&&◌, ◌||◌}
use Rattle.std.proofs.Math.Bool.{true, false}
use mathlib.Core.List.{List, [], ◌∷◌, ◌++◌, map}
use Rattle.calculus.specs.Term.{Closing, done, withdrawn, failed, Joint, Std, Cmp, skip, throw, yield, ev, seq, alt, par, hnd, blk, pair, cseq, calt, cpar, held, join}
pub use Rattle.calculus.specs.Term.{eqc}

-- the order of the endings
abbrev pub closings : List Closing
closings = done ∷ withdrawn ∷ failed ∷ []

module _ {A : Type 0} where
  unfoldable pub only : Bool → List A → List A
  only true xs = xs
  only false xs = []

  unfoldable pub some_of : (A → Bool) → List A → Bool
  some_of f [] = false
  some_of f (x ∷ xs) = f x || some_of f xs

  unfoldable pub each : {B : Type 0} → List A → (A → List B) → List B
  each [] f = []
  each (x ∷ xs) f = f x ++ each xs f

  unfoldable pub any_at_all : List A → Bool
  any_at_all [] = false
  any_at_all (x ∷ xs) = true

  -- The steps of two sides p and q put together by f, where ps and qs are their own. 02, Four: a joint event is "one step of both
  -- sides (by the left's order, then the right's), all others interleave"
  unfoldable pub beside : Bool → (A → A → A) → A → A → List A → List A → List A
  unfolding each
  beside true f p q ps qs = each ps (λ p'. map (f p') qs)
  beside false f p q ps qs = map (λ p'. f p' q) ps ++ map (f p) qs

-- 01: "P;Q ends as P does by ! or ?, and as Q does where P can end ✓"; P▷Q likewise, with ! for ✓. Q goes on after u.
abbrev pub ends_on : Closing → (Closing → Bool) → (Closing → Bool) → Closing → Bool
ends_on u f g w = (not (eqc w u) && f w) || (f u && g w)

-- 01: "Two parallel sides end together"
abbrev pub ends_both : (Closing → Bool) → (Closing → Bool) → Closing → Bool
ends_both f g u = some_of (λ w. some_of (λ v. eqc u (join w v) && (f w && g v)) closings) closings

-- a term with what it does: whether it can end by a closing, and its successors by an event, in order
pub record Beh : Type 0 where
  pub term : Std
  pub ends : Closing → Bool
  pub steps : ℕ → List Std

abbrev pub does : Std → (Closing → Bool) → (ℕ → List Std) → Beh
does p f g = record { term = p; ends = f; steps = g }

abbrev pub skip_b : Beh
skip_b = does skip (λ w. eqc w done) (λ a. [])

-- one compensation after another ("QQ's first and then R"), and two in parallel
abbrev pub seq_b : Beh → Beh → Beh
seq_b x y =
    does (seq x.term y.term) (ends_on done x.ends y.ends) (λ a. map (λ p. seq p y.term) (x.steps a) ++ only (x.ends done) (y.steps a))

abbrev pub par_b : Joint → Beh → Beh → Beh
par_b j x y =
    does (par j x.term y.term) (ends_both x.ends y.ends) (λ a. beside (j a) (par j) x.term y.term (x.steps a) (y.steps a))

unfoldable mutual
  unfolding only some_of each any_at_all beside

  -- 01, "Endings": P can end by w
  pub ends : Std → Closing → Bool
  ends skip w = eqc w done
  ends throw w = eqc w failed
  ends yield w = not (eqc w failed)
  ends (ev l) w = false
  ends (seq p q) w = ends_on done (λ v. ends p v) (λ v. ends q v) w
  ends (alt p q) w = ends p w || ends q w
  ends (par j p q) w = ends_both (λ v. ends p v) (λ v. ends q v) w
  ends (hnd p q) w = ends_on failed (λ v. ends p v) (λ v. ends q v) w
  ends (blk pp) w = (eqc w done && any_at_all (left_by pp done)) || some_of (λ k. k.ends w) (left_by pp failed)

  -- 01, "Compensations": those that PP can leave when it ends by w, "the first part's own .. before the combined ones"
  pub left_by : Cmp → Closing → List Beh
  left_by (pair p q) w = only (ends p w) (cond (eqc w done) (does q (λ v. ends q v) (λ a. steps q a)) skip_b ∷ [])
  left_by (cseq pp qq) w = only (not (eqc w done)) (left_by pp w) ++ each (left_by pp done) (λ k. map (λ l. seq_b l k) (left_by qq w))
  left_by (calt pp qq) w = left_by pp w ++ left_by qq w
  left_by (cpar j pp qq) u =
      each closings (λ w. each (left_by pp w) (λ k. each closings (λ v. only (eqc u (join w v)) (map (λ l. par_b j k l) (left_by qq v)))))
  left_by (held qq r) w = map (λ l. seq_b l (does r (λ v. ends r v) (λ a. steps r a))) (left_by qq w)

  -- 01, "Steps": what P steps to by a, "steps inside the first part .. before the others"
  pub steps : Std → ℕ → List Std
  steps skip a = []
  steps throw a = []
  steps yield a = []
  steps (ev l) a = only (l.takes a) (skip ∷ [])
  steps (seq p q) a = map (λ r. seq r q) (steps p a) ++ only (ends p done) (steps q a)
  steps (alt p q) a = steps p a ++ steps q a
  steps (par j p q) a = beside (j a) (par j) p q (steps p a) (steps q a)
  steps (hnd p q) a = map (λ r. hnd r q) (steps p a) ++ only (ends p failed) (steps q a)
  steps (blk pp) a = map blk (csteps pp a) ++ each (left_by pp failed) (λ k. k.steps a)

  -- what PP steps to by a; "the compensations go outermost"
  pub csteps : Cmp → ℕ → List Cmp
  csteps (pair p q) a = map (λ r. pair r q) (steps p a)
  csteps (cseq pp qq) a = map (λ r. cseq r qq) (csteps pp a) ++ each (left_by pp done) (λ k. map (λ r. held r k.term) (csteps qq a))
  csteps (calt pp qq) a = csteps pp a ++ csteps qq a
  csteps (cpar j pp qq) a = beside (j a) (cpar j) pp qq (csteps pp a) (csteps qq a)
  csteps (held qq k) a = map (λ r. held r k) (csteps qq a)

-- the compensations as terms
unfoldable pub comps : Cmp → Closing → List Std
unfolding ends
comps pp w = map (λ k. k.term) (left_by pp w)
