-- Check 13 while the records are gone through: how many closings are still to come (`Passed`), or may still come in a beginning
-- (`PassedOpen`). Assumes nothing.
use Prim.Native.Nat.{ℕ, zero, suc, ◌+◌, ◌-◌, ◌<◌, ◌≤◌}
use Rattle.std.specs.Prelude.{◌≡◌, refl, Bool, true, false, cond, List, [], ◌∷◌, ◌≢◌, length, get_or, drop, Ok}
use Rattle.std.proofs.Common.{sym, ◌∙◌, add-one, drop_of_length-le, length-drop, drop-cons}
use Rattle.std.proofs.Math.Path.{ap}
use Rattle.std.proofs.Math.Bool.{not}
use native.Mathlib.Omega.{arith}
use Rattle.flow.specs.declared.Extent.{Extent}
use Rattle.flow.specs.declared.Extent.TheVariants.{Whole, Beginning}
use Rattle.flow.specs.Kinds.{node, is_standard}
use Rattle.flow.specs.Records.{is_closing_number}
use Rattle.flow.specs.Refusals.{root, closed, after_closings, closings_wanted, closings_allowed, too_many_closings, extra_closing, wrong_closings, closings_place}
use Rattle.flow.specs.Checks.{closings_check, refused}
use Rattle.flow.specs.FirstRefusal.{single_held, single_passed}
pub use Rattle.flow.specs.Forms.{Passed, PassedOpen}

---- The closings that the root needs ----

-- what one record is to the closings to come
module _ (r : ℕ) (rs : List ℕ) where
  pub event_closed : (left : ℕ) → 1 ≤ left → is_closing_number r ≡ false → closed (r ∷ rs) left ≡ closed rs left
  unfolding closed
  event_closed zero h e = absurd (omega arith)
  event_closed (suc n) h e = rw e

  pub event_place : (left : ℕ) → 1 ≤ left → is_closing_number r ≡ false → after_closings (r ∷ rs) left ≡ suc (after_closings rs left)
  unfolding after_closings
  event_place zero h e = absurd (omega arith)
  event_place (suc n) h e = rw e

  pub closing_closed : (left : ℕ) → 1 ≤ left → is_closing_number r ≡ true → closed (r ∷ rs) left ≡ closed rs (left - 1)
  unfolding closed
  closing_closed zero h e = absurd (omega arith)
  closing_closed (suc n) h e = let q : suc n - 1 ≡ n = omega arith in rw (e, q)

  pub closing_place : (left : ℕ) → 1 ≤ left → is_closing_number r ≡ true → after_closings (r ∷ rs) left ≡ suc (after_closings rs (left - 1))
  unfolding after_closings
  closing_place zero h e = absurd (omega arith)
  closing_place (suc n) h e = let q : suc n - 1 ≡ n = omega arith in rw (e, q)

no_more : (rs : List ℕ) → after_closings rs 0 ≡ 0
unfolding after_closings
no_more [] = refl
no_more (r ∷ rs) = refl

closed_over : (rs : List ℕ) → length rs ≡ 0 → closed rs 0 ≡ true
unfolding closed
closed_over [] h = refl
closed_over (r ∷ rs) h = absurd (omega arith)

closed_not : (rs : List ℕ) → 0 < length rs → closed rs 0 ≡ false
unfolding closed
closed_not [] h = absurd (omega arith)
closed_not (r ∷ rs) h = refl

closed_few : (left : ℕ) → 1 ≤ left → closed [] left ≡ false
unfolding closed
closed_few zero h = absurd (omega arith)
closed_few (suc n) h = refl

few_place : (left : ℕ) → after_closings [] left ≡ 0
unfolding after_closings
few_place left = refl

module _ (rs : List ℕ) (wanted : ℕ) where
  pub passed_none : 1 ≤ wanted → Passed rs wanted 0 wanted
  passed_none h = record { within = omega arith; some = h; closes = refl; place = omega arith }

  module _ (i left : ℕ) (h : i < length rs) (p : Passed rs wanted i left) where
    here : drop i rs ≡ get_or rs i 0 ∷ drop (i + 1) rs
    here = rw add-one (drop-cons rs i 0 h)

    closes_here : closed (get_or rs i 0 ∷ drop (i + 1) rs) left ≡ closed rs wanted
    closes_here = ap (λ (l : List ℕ). closed l left) (sym here) ∙ p.closes

    place_here : i + after_closings (get_or rs i 0 ∷ drop (i + 1) rs) left ≡ after_closings rs wanted
    place_here = ap (λ (l : List ℕ). i + after_closings l left) (sym here) ∙ p.place

    pub passed_event : is_closing_number (get_or rs i 0) ≡ false → Passed rs wanted (i + 1) left
    passed_event e =
        let q = event_place (get_or rs i 0) (drop (i + 1) rs) left p.some e in
        record {
          within = omega arith;
          some = p.some;
          closes = sym (event_closed (get_or rs i 0) (drop (i + 1) rs) left p.some e) ∙ closes_here;
          place = omega (arith, place_here);
        }

    pub passed_closing : is_closing_number (get_or rs i 0) ≡ true → left ≢ 1 → Passed rs wanted (i + 1) (left - 1)
    passed_closing e n =
        let q = closing_place (get_or rs i 0) (drop (i + 1) rs) left p.some e in
        record {
          within = omega arith;
          some = omega (arith, p.some, n);
          closes = sym (closing_closed (get_or rs i 0) (drop (i + 1) rs) left p.some e) ∙ closes_here;
          place = omega (arith, place_here);
        }

    -- the last closing that is wanted
    module _ (e : is_closing_number (get_or rs i 0) ≡ true) (one : left ≡ 1) where
      rest_closes : closed (drop (i + 1) rs) 0 ≡ closed rs wanted
      rest_closes =
          let z : left - 1 ≡ 0 = omega arith in
          ap (closed (drop (i + 1) rs)) (sym z) ∙ sym (closing_closed (get_or rs i 0) (drop (i + 1) rs) left p.some e) ∙ closes_here

      pub closed_last : i + 1 ≡ length rs → closed rs wanted ≡ true
      closed_last l = sym rest_closes ∙ closed_over (drop (i + 1) rs) (omega (arith, length-drop (i + 1) rs))

      pub closed_early : i + 1 ≢ length rs → closed rs wanted ≡ false
      closed_early l = sym rest_closes ∙ closed_not (drop (i + 1) rs) (omega (arith, l, length-drop (i + 1) rs))

      pub place_early : i + 1 ≡ after_closings rs wanted
      place_early =
          let z : left - 1 ≡ 0 = omega arith in
          let q = closing_place (get_or rs i 0) (drop (i + 1) rs) left p.some e in
          let o = ap (after_closings (drop (i + 1) rs)) z ∙ no_more (drop (i + 1) rs) in
          omega (arith, place_here)

  -- all records are passed
  module _ (i left : ℕ) (h : length rs ≤ i) (p : Passed rs wanted i left) where
    pub closed_late : closed rs wanted ≡ false
    closed_late = sym p.closes ∙ ap (λ (l : List ℕ). closed l left) (drop_of_length-le rs h) ∙ closed_few left p.some

    pub place_late : i ≡ after_closings rs wanted
    place_late = omega (arith, p.place, ap (λ (l : List ℕ). after_closings l left) (drop_of_length-le rs h) ∙ few_place left)

pub wanted_some : (ns : List ℕ) → 1 ≤ closings_wanted ns
unfolding closings_wanted
wanted_some ns = by (is_standard (node ns (root ns)))
  where
    by : (b : Bool) → 1 ≤ cond b 1 2
    by true = omega arith
    by false = omega arith

---- The closings that a beginning may have ----

-- what one record is to the closings that may come
module _ (r : ℕ) (rs : List ℕ) where
  pub event_many : (left : ℕ) → is_closing_number r ≡ false → too_many_closings (r ∷ rs) left ≡ too_many_closings rs left
  unfolding too_many_closings
  event_many zero e = rw e
  event_many (suc n) e = rw e

  pub event_extra : (left : ℕ) → is_closing_number r ≡ false → extra_closing (r ∷ rs) left ≡ suc (extra_closing rs left)
  unfolding extra_closing
  event_extra zero e = rw e
  event_extra (suc n) e = rw e

  pub closing_many : (left : ℕ) → 1 ≤ left → is_closing_number r ≡ true → too_many_closings (r ∷ rs) left ≡ too_many_closings rs (left - 1)
  unfolding too_many_closings
  closing_many zero h e = absurd (omega arith)
  closing_many (suc n) h e = let q : suc n - 1 ≡ n = omega arith in rw (e, q)

  pub closing_extra : (left : ℕ) → 1 ≤ left → is_closing_number r ≡ true → extra_closing (r ∷ rs) left ≡ suc (extra_closing rs (left - 1))
  unfolding extra_closing
  closing_extra zero h e = absurd (omega arith)
  closing_extra (suc n) h e = let q : suc n - 1 ≡ n = omega arith in rw (e, q)

  -- the one too many
  pub closing_over : is_closing_number r ≡ true → (too_many_closings (r ∷ rs) 0 ≡ true) × (extra_closing (r ∷ rs) 0 ≡ 0)
  unfolding too_many_closings extra_closing
  closing_over e = (rw e, rw e)

none_many : (left : ℕ) → too_many_closings [] left ≡ false
unfolding too_many_closings
none_many left = refl

module _ (rs : List ℕ) (allowed : ℕ) where
  pub open_none : PassedOpen rs allowed 0 allowed
  open_none = record { within = omega arith; many = refl; place = omega arith }

  module _ (i left : ℕ) (h : i < length rs) (p : PassedOpen rs allowed i left) where
    open_here : drop i rs ≡ get_or rs i 0 ∷ drop (i + 1) rs
    open_here = rw add-one (drop-cons rs i 0 h)

    many_here : too_many_closings (get_or rs i 0 ∷ drop (i + 1) rs) left ≡ too_many_closings rs allowed
    many_here = ap (λ (l : List ℕ). too_many_closings l left) (sym open_here) ∙ p.many

    extra_here : i + extra_closing (get_or rs i 0 ∷ drop (i + 1) rs) left ≡ extra_closing rs allowed
    extra_here = ap (λ (l : List ℕ). i + extra_closing l left) (sym open_here) ∙ p.place

    pub open_event : is_closing_number (get_or rs i 0) ≡ false → PassedOpen rs allowed (i + 1) left
    open_event e =
        let q = event_extra (get_or rs i 0) (drop (i + 1) rs) left e in
        record {
          within = omega arith;
          many = sym (event_many (get_or rs i 0) (drop (i + 1) rs) left e) ∙ many_here;
          place = omega (arith, extra_here);
        }

    pub open_closing : is_closing_number (get_or rs i 0) ≡ true → left ≢ 0 → PassedOpen rs allowed (i + 1) (left - 1)
    open_closing e n =
        let some : 1 ≤ left = omega (arith, n) in
        let q = closing_extra (get_or rs i 0) (drop (i + 1) rs) left some e in
        record {
          within = omega arith;
          many = sym (closing_many (get_or rs i 0) (drop (i + 1) rs) left some e) ∙ many_here;
          place = omega (arith, extra_here);
        }

    -- no more closing is allowed
    module _ (e : is_closing_number (get_or rs i 0) ≡ true) (none : left ≡ 0) where
      pub many_at : too_many_closings rs allowed ≡ true
      many_at = sym many_here ∙ ap (too_many_closings (get_or rs i 0 ∷ drop (i + 1) rs)) none ∙ (closing_over (get_or rs i 0) (drop (i + 1) rs) e).0

      pub place_at : i ≡ extra_closing rs allowed
      place_at =
          let o = ap (extra_closing (get_or rs i 0 ∷ drop (i + 1) rs)) none ∙ (closing_over (get_or rs i 0) (drop (i + 1) rs) e).1 in
          omega (arith, extra_here)

  -- all records are passed
  pub open_over : (i left : ℕ) → length rs ≤ i → PassedOpen rs allowed i left → too_many_closings rs allowed ≡ false
  open_over i left h p = sym p.many ∙ ap (λ (l : List ℕ). too_many_closings l left) (drop_of_length-le rs h) ∙ none_many left

---- The check ----

-- by whether the closings are wrong
module _ (extent : Extent) (ns rs : List ℕ) where
  closings_pass : wrong_closings extent ns rs ≡ false → closings_check extent ns rs ≡ Ok tt
  unfolding closings_check
  closings_pass = single_passed 13 (closings_place extent ns rs) (wrong_closings extent ns rs)

  closings_refuse : (place : ℕ) → wrong_closings extent ns rs ≡ true → place ≡ closings_place extent ns rs → closings_check extent ns rs ≡ refused 13 place
  unfolding closings_check
  closings_refuse place e q = single_held 13 (closings_place extent ns rs) (wrong_closings extent ns rs) e ∙ ap (refused 13) (sym q)

module _ (ns rs : List ℕ) where
  pub closings_fine : closed rs (closings_wanted ns) ≡ true → closings_check Whole ns rs ≡ Ok tt
  unfolding wrong_closings
  closings_fine e = closings_pass Whole ns rs (ap not e)

  pub closings_refused : (place : ℕ) → closed rs (closings_wanted ns) ≡ false → place ≡ after_closings rs (closings_wanted ns) → closings_check Whole ns rs ≡ refused 13 place
  unfolding wrong_closings closings_place
  closings_refused place e q = closings_refuse Whole ns rs place (ap not e) q

  pub open_fine : too_many_closings rs (closings_allowed ns) ≡ false → closings_check Beginning ns rs ≡ Ok tt
  unfolding wrong_closings
  open_fine e = closings_pass Beginning ns rs e

  pub open_refused : (place : ℕ) → too_many_closings rs (closings_allowed ns) ≡ true → place ≡ extra_closing rs (closings_allowed ns) → closings_check Beginning ns rs ≡ refused 13 place
  unfolding wrong_closings closings_place
  open_refused place e q = closings_refuse Beginning ns rs place e q
