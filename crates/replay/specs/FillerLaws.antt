-- What is kept, of bytes and numbers alike: that `kept` means what it says, and that what is written at the front leaves the rest so.
-- Assumes nothing.
use Rattle.std.specs.Prelude.{ℕ, zero, suc, ◌+◌, ◌-◌, List, [], ◌∷◌, ◌↔◌, ◌≡◌, refl, eqb, leb, length}
use Rattle.std.proofs.Common.{arith, sym, ap₂, ◌∙◌, length-append, drop_at}
use Rattle.std.proofs.Math.Bool.{true}
use Rattle.std.proofs.Math.Path.{ap}
use borrow.Author.Tests.{eq-eqb, eqb-true, le-leb, leb-true}
use Rattle.std.proofs.Math.ListN.{drop, replicate, length-drop}
use Rattle.std.proofs.lemmas.List.{length-replicate}
use Rattle.flow.specs.Tests.{both_true}
use Rattle.format.specs.Told.{at_front}
use Rattle.replay.specs.Filler.{all_are, kept, Kept}

---- Every number ----

pub all_replicate : (b n : ℕ) → all_are b (replicate n b) ≡ true
unfolding all_are
all_replicate b zero = refl
all_replicate b (suc n) = rw (eq-eqb b b refl) (all_replicate b n)

pub all_is : (b : ℕ) (xs : List ℕ) → all_are b xs ≡ true → xs ≡ replicate (length xs) b
unfolding all_are
all_is b [] e = refl
all_is b (x ∷ xs) e =
    let h = both_true (eqb x b) (all_are b xs) e in
    ap₂ ◌∷◌ (eqb-true x b h.0) (all_is b xs h.1)

---- What is kept ----

module _ (b n : ℕ) (xs : List ℕ) where
  pub kept_exactly : (kept b n xs ≡ true) ↔ Kept b n xs
  unfolding kept
  kept_exactly = (λ e. to e, λ k. from k)
    where
      to : kept b n xs ≡ true → Kept b n xs
      to e =
          let h = both_true (leb n (length xs)) (all_are b (drop n xs)) e in
          record { there = leb-true n (length xs) h.0; unchanged = all_is b (drop n xs) h.1 ∙ ap (λ (k : ℕ). replicate k b) (length-drop n xs) }

      from : Kept b n xs → kept b n xs ≡ true
      from k = rw (le-leb n (length xs) k.there, k.unchanged, all_replicate b (length xs - n))

pub replicate_rest : (b n k : ℕ) → drop k (replicate n b) ≡ replicate (n - k) b
replicate_rest b n zero = let e : n ≡ n - 0 = omega arith in ap (λ (m : ℕ). replicate m b) e
replicate_rest b zero (suc k) = let e : 0 ≡ 0 - suc k = omega arith in ap (λ (m : ℕ). replicate m b) e
replicate_rest b (suc n) (suc k) = let e : n - k ≡ suc n - suc k = omega arith in replicate_rest b n k ∙ ap (λ (m : ℕ). replicate m b) e

-- what is written at the front of filler leaves the rest
pub kept_front : (b k : ℕ) (xs : List ℕ) {n : ℕ} {given after : List ℕ} → given ≡ replicate k b → after ≡ at_front xs given → n ≡ length xs → kept b n after ≡ true
kept_front b k xs {n} {given} {after} f e m =
    let rest : drop (length xs) given ≡ replicate (k - length xs) b = ap (drop (length xs)) f ∙ replicate_rest b k (length xs) in
    let l : length after ≡ length xs + (k - length xs) =
    ap length e ∙ length-append xs (drop (length xs) given) ∙ ap (λ (r : List ℕ). length xs + length r) rest ∙ ap (λ (r : ℕ). length xs + r) (length-replicate (k - length xs) b) in
    let d : k - length xs ≡ length after - n = omega arith in
    (kept_exactly b n after).1 (record {
      there = omega arith;
      unchanged = ap (drop n) e ∙ drop_at xs (drop (length xs) given) n (sym m) ∙ rest ∙ ap (λ (r : ℕ). replicate r b) d;
    })
