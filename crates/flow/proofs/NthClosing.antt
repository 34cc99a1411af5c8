-- Check 13 by the closing behind n others: what a search for it learns, and what is answered by it, of a whole list and of a beginning.
-- Assumes nothing.
use Prim.Native.Nat.{ℕ, zero, suc, ◌+◌}
use Rattle.std.specs.Prelude.{◌≡◌, refl, Bool, true, false, cond, List, [], ◌∷◌, ◌≢◌, ◌&&◌, ◌||◌, eqb, length, Ok, Some, None}
use Rattle.std.proofs.Common.{sym, ◌∙◌, add-one}
use Rattle.std.proofs.Math.Path.{ap}
use Rattle.std.proofs.Math.Dec.{eqb-suc-suc, eqb-zero-suc}
use Rattle.std.proofs.lemmas.Bool.{eq-eqb, ne_eqb}
use native.Mathlib.Omega.{arith}
use Rattle.flow.specs.declared.Extent.TheVariants.{Whole, Beginning}
use Rattle.flow.specs.Records.{is_closing_number}
use Rattle.flow.specs.Refusals.{closed, after_closings, closings_wanted, closings_allowed, too_many_closings, extra_closing}
use Rattle.flow.specs.Checks.{closings_check, refused}
use Rattle.flow.specs.Forms.{nth_closing}
use Rattle.flow.specs.Closings.{wanted_some, closings_fine, closings_refused, open_fine, open_refused}

---- What is found ----

module _ (rs : List ℕ) (n : ℕ) where
  pub nth_found : (i : ℕ) → too_many_closings rs n ≡ true → i ≡ extra_closing rs n → Some i ≡ nth_closing rs n
  nth_found i e q = rw (e, q)

  pub nth_none : too_many_closings rs n ≡ false → None ≡ nth_closing rs n
  nth_none e = rw e

  pub found_nth : (i : ℕ) → nth_closing rs n ≡ Some i → (too_many_closings rs n ≡ true) × (i ≡ extra_closing rs n)
  found_nth i e = by (too_many_closings rs n) refl e
    where
      by : (b : Bool) → too_many_closings rs n ≡ b → cond b (Some (extra_closing rs n)) None ≡ Some i → (too_many_closings rs n ≡ true) × (i ≡ extra_closing rs n)
      by true t s = (t, sym (cc))
      by false t s = cc

  pub none_nth : nth_closing rs n ≡ None → too_many_closings rs n ≡ false
  none_nth e = by (too_many_closings rs n) refl e
    where
      by : (b : Bool) → too_many_closings rs n ≡ b → cond b (Some (extra_closing rs n)) None ≡ None → too_many_closings rs n ≡ false
      by true t s = cc
      by false t s = t

---- The closings that the root needs ----

over : (rs : List ℕ) → closed rs 0 ≡ eqb 1 (suc (length rs))
unfolding closed
over [] = refl
over (r ∷ rs) = sym (eqb-suc-suc 0 (suc (length rs)) ∙ eqb-zero-suc (length rs))

no_more : (rs : List ℕ) → after_closings rs 0 ≡ 0
unfolding after_closings
no_more [] = refl
no_more (r ∷ rs) = refl

one_more : (t : Bool) (x y : ℕ) → suc (cond t x y) ≡ cond t (suc x) (suc y)
one_more true x y = refl
one_more false x y = refl

-- a whole list ends with the closing behind n others, the last that is wanted
pub closed_at : (rs : List ℕ) (n : ℕ) → closed rs (suc n) ≡ (too_many_closings rs n && eqb (suc (extra_closing rs n)) (length rs))
unfolding closed too_many_closings extra_closing
closed_at [] n = refl
closed_at (r ∷ rs) zero = by (is_closing_number r) (closed_at rs zero)
  where
    by : (b : Bool) → closed rs 1 ≡ (too_many_closings rs zero && eqb (suc (extra_closing rs zero)) (length rs))
        → closed rs (cond b 0 1) ≡ ((b || too_many_closings rs zero) && eqb (suc (cond b 0 (suc (extra_closing rs zero)))) (suc (length rs)))
    by true next = over rs
    by false next = next ∙ ap (λ (b : Bool). too_many_closings rs zero && b) (sym (eqb-suc-suc _ _))
closed_at (r ∷ rs) (suc n) = by (is_closing_number r) (closed_at rs n) (closed_at rs (suc n))
  where
    by : (b : Bool) → closed rs (suc n) ≡ (too_many_closings rs n && eqb (suc (extra_closing rs n)) (length rs))
        → closed rs (suc (suc n)) ≡ (too_many_closings rs (suc n) && eqb (suc (extra_closing rs (suc n))) (length rs))
        → closed rs (cond b (suc n) (suc (suc n))) ≡ (too_many_closings rs (cond b n (suc n)) && eqb (suc (suc (extra_closing rs (cond b n (suc n))))) (suc (length rs)))
    by true same next = same ∙ ap (λ (b : Bool). too_many_closings rs n && b) (sym (eqb-suc-suc _ _))
    by false same next = next ∙ ap (λ (b : Bool). too_many_closings rs (suc n) && b) (sym (eqb-suc-suc _ _))

-- and else what comes behind it, or the end, is named
pub after_at : (rs : List ℕ) (n : ℕ) → after_closings rs (suc n) ≡ cond (too_many_closings rs n) (suc (extra_closing rs n)) (length rs)
unfolding after_closings too_many_closings extra_closing
after_at [] n = refl
after_at (r ∷ rs) zero = by (is_closing_number r) (after_at rs zero)
  where
    by : (b : Bool) → after_closings rs 1 ≡ cond (too_many_closings rs zero) (suc (extra_closing rs zero)) (length rs)
        → suc (after_closings rs (cond b 0 1)) ≡ cond (b || too_many_closings rs zero) (suc (cond b 0 (suc (extra_closing rs zero)))) (suc (length rs))
    by true next = ap suc (no_more rs)
    by false next = ap suc next ∙ one_more (too_many_closings rs zero) _ _
after_at (r ∷ rs) (suc n) = by (is_closing_number r) (after_at rs n) (after_at rs (suc n))
  where
    by : (b : Bool) → after_closings rs (suc n) ≡ cond (too_many_closings rs n) (suc (extra_closing rs n)) (length rs)
        → after_closings rs (suc (suc n)) ≡ cond (too_many_closings rs (suc n)) (suc (extra_closing rs (suc n))) (length rs)
        → suc (after_closings rs (cond b (suc n) (suc (suc n)))) ≡ cond (too_many_closings rs (cond b n (suc n))) (suc (suc (extra_closing rs (cond b n (suc n))))) (suc (length rs))
    by true same next = ap suc same ∙ one_more (too_many_closings rs n) _ _
    by false same next = ap suc next ∙ one_more (too_many_closings rs (suc n)) _ _

-- what is wanted is one more than may stand before the last
pub wanted_allowed : (ns : List ℕ) → closings_wanted ns ≡ suc (closings_allowed ns)
unfolding closings_allowed
wanted_allowed ns = let h = wanted_some ns in omega (arith, h)

---- The check ----

-- by the closing behind those that are allowed
module _ (ns rs : List ℕ) where
  wanted_closed : closed rs (closings_wanted ns) ≡ (too_many_closings rs (closings_allowed ns) && eqb (suc (extra_closing rs (closings_allowed ns))) (length rs))
  wanted_closed = ap (closed rs) (wanted_allowed ns) ∙ closed_at rs (closings_allowed ns)

  wanted_after : after_closings rs (closings_wanted ns) ≡ cond (too_many_closings rs (closings_allowed ns)) (suc (extra_closing rs (closings_allowed ns))) (length rs)
  wanted_after = ap (after_closings rs) (wanted_allowed ns) ∙ after_at rs (closings_allowed ns)

  module _ (i : ℕ) (e : nth_closing rs (closings_allowed ns) ≡ Some i) where
    found : (too_many_closings rs (closings_allowed ns) ≡ true) × (i ≡ extra_closing rs (closings_allowed ns))
    found = found_nth rs (closings_allowed ns) i e

    found_closed : closed rs (closings_wanted ns) ≡ eqb (suc i) (length rs)
    found_closed = wanted_closed ∙ (λ z. found.0 z && eqb (suc (sym found.1 z)) (length rs))

    found_after : i + 1 ≡ after_closings rs (closings_wanted ns)
    found_after = add-one i ∙ ap suc found.1 ∙ sym (wanted_after ∙ ap (λ (b : Bool). cond b (suc (extra_closing rs (closings_allowed ns))) (length rs)) found.0)

    pub found_last : i + 1 ≡ length rs → closings_check Whole ns rs ≡ Ok tt
    found_last q = closings_fine ns rs (found_closed ∙ eq-eqb _ _ (sym (add-one i) ∙ q))

    pub found_early : i + 1 ≢ length rs → closings_check Whole ns rs ≡ refused 13 (i + 1)
    found_early q = closings_refused ns rs (i + 1) (found_closed ∙ ne_eqb _ _ (λ s. q (add-one i ∙ s))) found_after

    pub found_extra : closings_check Beginning ns rs ≡ refused 13 i
    found_extra = open_refused ns rs i found.0 found.1

  module _ (e : nth_closing rs (closings_allowed ns) ≡ None) where
    none : too_many_closings rs (closings_allowed ns) ≡ false
    none = none_nth rs (closings_allowed ns) e

    pub none_last : closings_check Whole ns rs ≡ refused 13 (length rs)
    none_last =
        closings_refused ns rs (length rs) (wanted_closed ∙ ap (λ (b : Bool). b && eqb (suc (extra_closing rs (closings_allowed ns))) (length rs)) none)
        (sym (wanted_after ∙ ap (λ (b : Bool). cond b (suc (extra_closing rs (closings_allowed ns))) (length rs)) none))

    pub none_extra : closings_check Beginning ns rs ≡ Ok tt
    none_extra = open_fine ns rs none
