-- Names compared byte by byte from a place on, and what was found or refused of an item, as it is and held to its range. Assumes nothing.
use Rattle.std.specs.Prelude.{ℕ, ◌+◌, ◌≤◌, ◌<◌, true, false, Result, Ok, Err, List, ◌≡◌, length, get_or, drop}
use Rattle.std.specs.Result.{IsErrAnd}
use Rattle.std.proofs.Math.Path.{refl, ap, sym}
use Rattle.std.proofs.Common.{◌∙◌, add-one, drop_of_length-le}
use Rattle.std.proofs.Math.Seq.{drop-cons}
use borrow.Author.Tests.{eq-eqb, ne_eqb}
use Rattle.flow.specs.declared.Refusal.{Refusal}
use Rattle.flow.specs.FirstRefusal.{refusal_handed}
use Rattle.format.specs.declared.Got.{Got}
use Rattle.format.specs.declared.Range.{Range}
use Rattle.format.specs.Plan.{Plan, Ran, got, bad, run}
use Rattle.format.specs.Sections.{same_bytes, ranged}
use Rattle.format.specs.Items.{as_item, item_in_range}
use Rattle.format.specs.ItemLaws.{Found, has_found, bad_found, item_bad, ranged_bad, value_ranged}

---- Names from a place on ----

module _ (a b : List ℕ) (i : ℕ) (ha : i < length a) (hb : i < length b) where
  pub same_here : get_or a i 0 ≡ get_or b i 0 → same_bytes (drop i a) (drop i b) ≡ same_bytes (drop (i + 1) a) (drop (i + 1) b)
  unfolding same_bytes
  same_here e = rw (add-one i, drop-cons a i 0 ha, drop-cons b i 0 hb, eq-eqb (get_or a i 0) (get_or b i 0) e)

  pub same_not : (get_or a i 0 ≡ get_or b i 0 → ⊥) → same_bytes (drop i a) (drop i b) ≡ false
  unfolding same_bytes
  same_not n = rw (drop-cons a i 0 ha, drop-cons b i 0 hb, ne_eqb (get_or a i 0) (get_or b i 0) n)

pub same_end : (a b : List ℕ) (i : ℕ) → length a ≤ i → length b ≤ i → same_bytes (drop i a) (drop i b) ≡ true
unfolding same_bytes
same_end a b i ha hb = rw (drop_of_length-le a ha, drop_of_length-le b hb)

---- What was found or refused ----

module _ {A : Type 0} (g : A → ℕ) (x : Ran A) {i : Result Got Refusal} (e : i ≡ as_item g x) where
  pub item_found : {h : Got} → i ≡ Ok h → Found g x h
  item_found h = has_found g x (sym h ∙ e)

  -- the refusal that is in an item
  pub item_refusal : {r : Refusal} → IsErrAnd i (λ q. q ≡ r) → x ≡ bad r.number r.place
  item_refusal h = bad_found g x (sym (refusal_handed i h) ∙ e)

-- an item at an offset, if it was found and its value is in its range
abbrev pub item_held : Range → ℕ → Result Got Refusal → Result Got Refusal
item_held g at (Err r) = Err r
item_held g at (Ok h) = item_in_range g at h

pub item_stays_bad : (g : Range) (at : ℕ) {i : Result Got Refusal} {r : Refusal} → i ≡ Err r → i ≡ item_held g at i
item_stays_bad g at e = e ∙ sym (ap (item_held g at) e)

-- the item is held to its range as the plan is
pub item_ranged : (s : List ℕ) (at : ℕ) (g : Range) (p : Plan ℕ) {i : Result Got Refusal} → i ≡ as_item (λ n. n) (run s at p)
    → item_held g at i ≡ as_item (λ n. n) (run s at (ranged g p))
unfolding as_item
item_ranged s at g p {i} h = ap (item_held g at) h ∙ by (run s at p) refl
  where
    by : (x : Ran ℕ) → run s at p ≡ x → item_held g at (as_item (λ n. n) x) ≡ as_item (λ n. n) (run s at (ranged g p))
    by (got w last) a = value_ranged s at g p (sym (ap (as_item (λ n. n)) a))
    by (bad k q) a = item_bad (λ n. n) _ refl (ranged_bad s at g p a)
