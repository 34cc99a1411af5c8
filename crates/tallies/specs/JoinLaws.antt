-- How two closings join, as laws: done is joined of done and done only, withdrawn of two that are not failed and not both done, failed as
-- soon as one is failed. By these, what two sides can end by together is told without going through the nine pairs of closings.
-- Theorems only. Assumes nothing.
use Rattle.std.specs.Prelude.{◌≡◌, refl, Bool, false, not, ◌&&◌, ◌||◌}
use Rattle.std.proofs.Common.{◌∙◌, ap}
use Rattle.std.proofs.Math.Path.{fun_ext}
use Rattle.std.proofs.Math.Bool.{or-false, or_assoc, and-or_distrib_left, and-or_distrib_right}
use Rattle.calculus.specs.Term.{Closing, done, withdrawn, failed, join}
use Rattle.calculus.specs.Successors.{eqc, closings, some_of, ends_both}

pub join_done : (x y : Closing) → eqc done (join x y) ≡ (eqc done x && eqc done y)
join_done done y = refl
join_done withdrawn done = refl
join_done withdrawn withdrawn = refl
join_done withdrawn failed = refl
join_done failed y = refl

pub join_withdrawn : (x y : Closing) → eqc withdrawn (join x y) ≡ ((eqc done x && eqc withdrawn y) || (eqc withdrawn x && not (eqc failed y)))
join_withdrawn done done = refl
join_withdrawn done withdrawn = refl
join_withdrawn done failed = refl
join_withdrawn withdrawn done = refl
join_withdrawn withdrawn withdrawn = refl
join_withdrawn withdrawn failed = refl
join_withdrawn failed y = refl

pub join_failed : (x y : Closing) → eqc failed (join x y) ≡ (eqc failed x || eqc failed y)
join_failed done y = refl
join_failed withdrawn done = refl
join_failed withdrawn withdrawn = refl
join_failed withdrawn failed = refl
join_failed failed y = refl

-- so whatever goes by which closings join to u goes by the law of u
pub by_law : {A : Type 0} (f : (Closing → Closing → Bool) → A) (u : Closing) {h : Closing → Closing → Bool} → ((x y : Closing) → eqc u (join x y) ≡ h x y) → f (λ x y. eqc u (join x y)) ≡ f h
by_law f u e = ap f (fun_ext (λ x. fun_ext (e x)))

-- What two sides can end by together ------------------------------------------------------------------------------------

module _ (f g : Closing → Bool) where
  -- for some two closings of which h holds, the first side can end by one and the second by the other
  abbrev ends_by : (Closing → Closing → Bool) → Bool
  ends_by h = some_of (λ x. some_of (λ y. h x y && (f x && g y)) closings) closings

  pub ends_both_done : ends_both f g done ≡ (f done && g done)
  unfolding some_of
  ends_both_done = by_law ends_by done join_done ∙ or-false _ ∙ or-false _

  pub ends_both_withdrawn : ends_both f g withdrawn ≡ ((f done && g withdrawn) || (f withdrawn && (g done || g withdrawn)))
  unfolding some_of
  ends_both_withdrawn = by_law ends_by withdrawn join_withdrawn ∙ simp (or-false, and-or_distrib_left)

  pub ends_both_failed : ends_both f g failed ≡ (((f done || f withdrawn) && g failed) || (f failed && (g done || (g withdrawn || g failed))))
  unfolding some_of
  ends_both_failed = by_law ends_by failed join_failed ∙ grouped (f done) (f withdrawn) (f failed) (g done) (g withdrawn) (g failed)
    where
      grouped : (a b c x y z : Bool) → (((a && z) || false) || (((b && z) || false) || (((c && x) || ((c && y) || ((c && z) || false))) || false))) ≡ (((a || b) && z) || (c && (x || (y || z))))
      grouped a b c x y z = simp (or-false, and-or_distrib_left, and-or_distrib_right, or_assoc)
