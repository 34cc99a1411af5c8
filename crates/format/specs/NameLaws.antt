-- Names compared byte by byte, from the front, which is for equality, and an entry looked for among earlier ones. Assumes nothing.
use Rattle.std.specs.Prelude.{ℕ, suc, ◌+◌, ◌-◌, ◌≤◌, ◌<◌, Bool, true, false, ◌&&◌, List, [], ◌∷◌, ◌≡◌, refl, eqb, length, get_or, take, drop}
use lib.Pointwise.{pointwise}
use Rattle.std.proofs.lemmas.Bool.{false≢true}
use Rattle.std.proofs.Math.Path.{ap}
use Rattle.std.proofs.Common.{ap₂, sym, ◌∙◌, arith}
use borrow.Author.Tests.{eq-eqb, eqb-true}
use Rattle.flow.specs.Tests.{both_true}
use Rattle.format.specs.Format.{Entry}
use Rattle.format.specs.Sections.{same_bytes, same_step, same_entry, met}
use Rattle.format.specs.Items.{name_at, name_end, entry_at, entry_end, entries_at, entries_end}
use Rattle.format.specs.SectionLaws.{entries_end_le}

---- Tests ----

and-false : (s t : Bool) → t ≡ false → (s && t) ≡ false
and-false true t e = e
and-false false t e = refl

---- From the front ----

pub same_length : (a b : List ℕ) → (length a ≡ length b → ⊥) → same_bytes a b ≡ false
unfolding same_bytes
same_length [] [] n = absurd (n refl)
same_length [] (y ∷ b) n = refl
same_length (x ∷ a) [] n = refl
same_length (x ∷ a) (y ∷ b) n = and-false (eqb x y) (same_bytes a b) (same_length a b (λ e. n (ap suc e)))

-- slices are compared so
same_pointwise : (a b : List ℕ) → pointwise eqb a b ≡ same_bytes a b
unfolding same_bytes
same_pointwise [] [] = refl
same_pointwise [] (y ∷ b) = refl
same_pointwise (x ∷ a) [] = refl
same_pointwise (x ∷ a) (y ∷ b) = ap (λ (t : Bool). eqb x y && t) (same_pointwise a b)

-- the bytes of two names, each from behind its length byte to where it ends
pub same_names : (s : List ℕ) (a b : ℕ) {m n : ℕ} → m ≡ name_end s a → n ≡ name_end s b
    → pointwise eqb (take (m - (a + 1)) (drop (a + 1) s)) (take (n - (b + 1)) (drop (b + 1) s)) ≡ same_bytes (name_at s a) (name_at s b)
same_names s a b {m} {n} d e =
    let k : m - (a + 1) ≡ get_or s a 0 = omega arith in
    let l : n - (b + 1) ≡ get_or s b 0 = omega arith in
    ap₂ (λ (i j : ℕ). pointwise eqb (take i (drop (a + 1) s)) (take j (drop (b + 1) s))) k l ∙ same_pointwise (name_at s a) (name_at s b)

---- Equality ----

pub same_refl : (a : List ℕ) → same_bytes a a ≡ true
unfolding same_bytes
same_refl [] = refl
same_refl (x ∷ a) = rw (eq-eqb x x refl, same_refl a)

pub same_eq : (a b : List ℕ) → same_bytes a b ≡ true → a ≡ b
unfolding same_bytes
same_eq [] [] e = refl
same_eq [] (y ∷ b) e = absurd (false≢true e)
same_eq (x ∷ a) [] e = absurd (false≢true e)
same_eq (x ∷ a) (y ∷ b) e =
    ap₂ ◌∷◌ (eqb-true x y (both_true (eqb x y) (same_bytes a b) e).0) (same_eq a b (both_true (eqb x y) (same_bytes a b) e).1)

-- two step names that are the same as a third are the same
pub same_step_both : (a b c : List ℕ) → same_step a c ≡ true → same_step b c ≡ true → same_step a b ≡ true
unfolding same_step
same_step_both a b c p q = ap (λ (x : List ℕ). same_bytes a x) (same_eq b c q ∙ sym (same_eq a c p)) ∙ same_refl a

---- Entries met before ----

-- one of so many entries from an offset, the first of them being looked at; `k - i` are left
module _ (s : List ℕ) (e : Entry) (k i a : ℕ) (h : i < k) where
  left : k - i ≡ suc (k - (i + 1))
  left = omega arith

  pub met_hit : same_entry (entry_at s a) e ≡ true → met e (entries_at s (k - i) a) ≡ true
  unfolding met entries_at
  met_hit t = ap (λ (n : ℕ). met e (entries_at s n a)) left ∙ rw t

  pub met_miss : same_entry (entry_at s a) e ≡ false → met e (entries_at s (k - i) a) ≡ met e (entries_at s (k - (i + 1)) (entry_end s a))
  unfolding met entries_at
  met_miss t = ap (λ (n : ℕ). met e (entries_at s n a)) left ∙ rw t

  pub end_step : entries_end s (k - i) a ≡ entries_end s (k - (i + 1)) (entry_end s a)
  unfolding entries_end
  end_step = ap (λ (n : ℕ). entries_end s n a) left

  pub end_inside : entry_end s a ≤ entries_end s (k - i) a
  end_inside = rw end_step (entries_end_le s (k - (i + 1)) (entry_end s a))

pub met_none : (s : List ℕ) (e : Entry) (k i a : ℕ) → k ≤ i → met e (entries_at s (k - i) a) ≡ false
unfolding met entries_at
met_none s e k i a h = let z : k - i ≡ 0 = omega arith in ap (λ (n : ℕ). met e (entries_at s n a)) z
