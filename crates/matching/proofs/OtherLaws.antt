-- The nodes that take a record are those of its own event and of the other one: where no two entries are the same, at most one of them has
-- no machine and a given step name (`section_other_takes`). No node takes the record of an event without an entry, since no step name is
-- empty (`section_beyond`); so it holds of all events (`section_takes`). The other event of an event is one too (`other_some`,
-- `other_small`). Assumes nothing.
use Prim.Native.Nat.{ℕ, zero, suc, ◌+◌, ◌<◌, ◌≤◌}
use Rattle.std.specs.Prelude.{Bool, ◌&&◌, ◌||◌, ◌⊎◌, ◌≡◌, ltb, length, get_or}
use Rattle.std.proofs.Math.Bool.{true, false, cond}
use Rattle.std.proofs.lemmas.Bool.{false≢true}
use mathlib.Core.List.{List, [], ◌∷◌}
use Rattle.std.proofs.Common.{inl, inr, ap, ap₂, ◌∙◌}
use Rattle.std.proofs.Math.Path.{refl, sym}
use native.Mathlib.Omega.{arith}
use borrow.Author.Tests.{eqb-true, eqb-false, eq-eqb, ne_eqb, lt-ltb, le-ltb}
use Rattle.std.proofs.Math.Dec.{eqb}
use Rattle.std.proofs.Math.ListN.{get_or-eq_default}
use Rattle.flow.specs.Tests.{both_true}
use Rattle.format.specs.Format.{Entry}
use Rattle.format.specs.Matching.{same_bytes, same_step, nobody, entry_of, no_machine, matches}
use Rattle.format.specs.Plan.{got}
use Rattle.format.specs.Sections.{same_entry}
use Rattle.format.specs.ListChecks.{section_alone}
use Rattle.format.specs.ItemLaws.{le_or_lt}
use Rattle.format.specs.NameLaws.{same_refl, same_length, same_step_both}
use Rattle.format.specs.EntryLaws.{Apart, Stepped, alone_there}
use Rattle.matching.specs.Others.{takes_step, first_taking, other}

---- Two entries that take a step name ----

empty : (xs : List ℕ) → eqb (length xs) 0 ≡ true → xs ≡ []
empty [] e = refl
empty (x ∷ xs) e = let z : length (x ∷ xs) ≡ 0 = eqb-true (length (x ∷ xs)) 0 e in absurd (omega arith)

pub taking_same : (step : List ℕ) (e g : Entry) → takes_step step e ≡ true → takes_step step g ≡ true → same_entry e g ≡ true
unfolding takes_step no_machine same_entry
taking_same step e g p q =
    let a = both_true (no_machine e) (same_step e.step step) p in
    let b = both_true (no_machine g) (same_step g.step step) q in
    rw (same_step_both e.step g.step step a.1 b.1) (ap₂ same_bytes (empty e.machine a.0) (empty g.machine b.0) ∙ same_refl [])

---- The first of them ----

module _ (step : List ℕ) (own : ℕ) where
  -- none before the entries that are looked at
  taking_not_before : (es : List Entry) (k m : ℕ) → m < k → (own ≡ m → ⊥) → eqb (first_taking step own es k) m ≡ false
  unfolding first_taking
  taking_not_before [] k m h n = ne_eqb own m n
  taking_not_before (e ∷ es) k m h n = by (takes_step step e) (taking_not_before es (k + 1) m (omega arith) n)
    where
      by : (b : Bool) → eqb (first_taking step own es (k + 1)) m ≡ false → eqb (cond b k (first_taking step own es (k + 1))) m ≡ false
      by true rec = ne_eqb k m (λ d. omega arith)
      by false rec = rec

  -- where no two are the same it is the only one
  taking_there : (es : List Entry) → Apart es → (k i : ℕ) → i < length es → (own ≡ k + i → ⊥)
      → takes_step step (get_or es i nobody) ≡ eqb (first_taking step own es k) (k + i)
  unfolding first_taking
  taking_there [] a k i h n = absurd (omega arith)
  taking_there (e ∷ es) a k zero h n = by (takes_step step e)
    where
      by : (b : Bool) → b ≡ eqb (cond b k (first_taking step own es (k + 1))) (k + 0)
      by true = sym (eq-eqb k (k + 0) (omega arith))
      by false = sym (taking_not_before es (k + 1) (k + 0) (omega arith) n)
  taking_there (e ∷ es) a k (suc j) h n = by (takes_step step e) refl (taking_there es (λ x y l m. a (suc x) (suc y) (omega arith) (omega arith)) (k + 1) j (omega arith) (λ d. n (omega arith)))
    where
      only : takes_step step e ≡ true → (b : Bool) → takes_step step (get_or es j nobody) ≡ b → b ≡ false
      only p true q = absurd (false≢true (sym (a 0 (suc j) (omega arith) h) ∙ taking_same step e (get_or es j nobody) p q))
      only p false q = refl

      by : (b : Bool) → takes_step step e ≡ b → takes_step step (get_or es j nobody) ≡ eqb (first_taking step own es (k + 1)) (k + 1 + j)
          → takes_step step (get_or es j nobody) ≡ eqb (cond b k (first_taking step own es (k + 1))) (k + suc j)
      by true p rec = only p (takes_step step (get_or es j nobody)) refl ∙ sym (ne_eqb k (k + suc j) (λ d. omega arith))
      by false p rec = let d : k + 1 + j ≡ k + suc j = omega arith in rec ∙ ap (eqb (first_taking step own es (k + 1))) d

  taking_small : (es : List Entry) (k most : ℕ) → own ≤ most → k + length es ≤ most + 1 → first_taking step own es k ≤ most
  unfolding first_taking
  taking_small [] k most l h = l
  taking_small (e ∷ es) k most l h = by (takes_step step e) (taking_small es (k + 1) most l (omega arith))
    where
      by : (b : Bool) → first_taking step own es (k + 1) ≤ most → cond b k (first_taking step own es (k + 1)) ≤ most
      by true rec = omega arith
      by false rec = rec

  taking_some : (es : List Entry) (k : ℕ) → 1 ≤ own → 1 ≤ k → 1 ≤ first_taking step own es k
  unfolding first_taking
  taking_some [] k l h = l
  taking_some (e ∷ es) k l h = by (takes_step step e) (taking_some es (k + 1) l (omega arith))
    where
      by : (b : Bool) → 1 ≤ first_taking step own es (k + 1) → 1 ≤ cond b k (first_taking step own es (k + 1))
      by true rec = h
      by false rec = rec

---- The other event ----

pub other_some : (es : List Entry) (r : ℕ) → 1 ≤ r → 1 ≤ other es r
unfolding other
other_some es r h = by (ltb r 1 || ltb (length es) r)
  where
    by : (b : Bool) → 1 ≤ cond b r (first_taking (entry_of es r).step r es 1)
    by true = h
    by false = taking_some (entry_of es r).step r es 1 h (omega arith)

pub other_small : (es : List Entry) (r most : ℕ) → r ≤ most → length es ≤ most → other es r ≤ most
unfolding other
other_small es r most h l = by (ltb r 1 || ltb (length es) r)
  where
    by : (b : Bool) → cond b r (first_taking (entry_of es r).step r es 1) ≤ most
    by true = h
    by false = taking_small (entry_of es r).step r es 1 most h (omega arith)

module _ (es : List Entry) where
  -- of an event with an entry
  pub other_first : (r : ℕ) → 1 ≤ r → r ≤ length es → other es r ≡ first_taking (entry_of es r).step r es 1
  unfolding other
  other_first r low high = rw (le-ltb r 1 low, le-ltb (length es) r high)

  pub other_takes : Apart es → (n r : ℕ) → 1 ≤ n → n ≤ length es → 1 ≤ r → r ≤ length es → matches es n r ≡ (eqb r n || eqb (other es r) n)
  unfolding matches takes_step
  other_takes a zero r ln hn lr hr = absurd (omega arith)
  other_takes a (suc i) r ln hn lr hr = by (eqb r (suc i)) refl
    where
      step : List ℕ
      step = (entry_of es r).step

      by : (b : Bool) → eqb r (suc i) ≡ b → (b || takes_step step (entry_of es (suc i))) ≡ (b || eqb (other es r) (suc i))
      by true q = refl
      by false q =
          let d : 1 + i ≡ suc i = omega arith in
          taking_there step r es a 1 i (omega arith) (λ p. eqb-false r (suc i) q (p ∙ d)) ∙ ap₂ eqb (sym (other_first r lr hr)) d

  ---- An event without an entry ----

  -- it has no other event
  pub other_beyond : (r : ℕ) → length es < r → other es r ≡ r
  unfolding other
  other_beyond r h = rw (le-ltb r 1 (omega arith), lt-ltb (length es) r h)

  -- nor is there a node that takes it
  pub beyond_takes : Stepped es → (n r : ℕ) → 1 ≤ n → n ≤ length es → length es < r → matches es n r ≡ (eqb r n || eqb (other es r) n)
  unfolding matches same_step
  beyond_takes k zero r ln hn h = absurd (omega arith)
  beyond_takes k (suc i) r ln hn h =
      let not_own = ne_eqb r (suc i) (λ d. omega arith) in
      let none : entry_of es r ≡ nobody = get_or-eq_default (nobody ∷ es) nobody {n = r} (omega arith) in
      let not_same : same_bytes (entry_of es (suc i)).step [] ≡ false = same_length (entry_of es (suc i)).step [] (λ d. omega (arith, k i (omega arith))) in
      rw (other_beyond r h, not_own, none, not_same) (by (no_machine (entry_of es (suc i))))
    where
      by : (b : Bool) → (b && false) ≡ false
      by true = refl
      by false = refl

---- By the bytes of a names section ----

module _ (s : List ℕ) {es : List Entry} {at : ℕ} (e : section_alone s ≡ got es at) where
  pub section_other_takes : (n r : ℕ) → 1 ≤ n → n ≤ length es → 1 ≤ r → r ≤ length es → matches es n r ≡ (eqb r n || eqb (other es r) n)
  section_other_takes = other_takes es (alone_there s e).apart

  pub section_beyond : (n r : ℕ) → 1 ≤ n → n ≤ length es → length es < r → matches es n r ≡ (eqb r n || eqb (other es r) n)
  section_beyond = beyond_takes es (alone_there s e).stepped

  -- of all events, with an entry or without
  pub section_takes : (n r : ℕ) → 1 ≤ n → n ≤ length es → 1 ≤ r → matches es n r ≡ (eqb r n || eqb (other es r) n)
  section_takes n r ln hn lr = by (le_or_lt r (length es))
    where
      by : (r ≤ length es) ⊎ (length es < r) → matches es n r ≡ (eqb r n || eqb (other es r) n)
      by (inl h) = section_other_takes n r ln hn lr h
      by (inr h) = section_beyond n r ln hn h

  pub section_other_small : (r : ℕ) → r ≤ 256 → other es r ≤ 256
  section_other_small r h = other_small es r 256 h (alone_there s e).few
