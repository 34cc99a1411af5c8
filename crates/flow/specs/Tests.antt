-- What a test that passed or failed tells of its parts. Assumes nothing.
use Rattle.std.specs.Prelude.{◌≡◌, refl, Bool, true, false, not, ◌&&◌, ◌||◌, T}
use Rattle.std.proofs.Common.{sym, subst}
use Rattle.std.proofs.Math.Bool.{xor}
use Rattle.std.proofs.lemmas.Bool.{false≢true}

pub is_true : (b : Bool) → T b → b ≡ true
is_true true t = refl
is_true false t = absurd t

pub is_false : (b : Bool) → T (not b) → b ≡ false
is_false true t = absurd t
is_false false t = refl

pub not_not : (b : Bool) → not (not b) ≡ b
not_not true = refl
not_not false = refl

pub not_both : {b : Bool} → b ≡ false → T b → ⊥
not_both e t = subst T e t

pub both_true : (a b : Bool) → (a && b) ≡ true → (a ≡ true) × (b ≡ true)
both_true true b e = (refl, e)
both_true false b e = absurd (false≢true e)

pub neither_one : (a b : Bool) → (a || b) ≡ false → a ≡ false
neither_one true b e = e
neither_one false b e = refl

pub neither_two : (a b : Bool) → (a || b) ≡ false → b ≡ false
neither_two true b e = absurd (subst (λ (x : Bool). T (not x)) (sym e) tt)
neither_two false b e = e

pub then_false : (a b : Bool) → (a && b) ≡ false → T a → b ≡ false
then_false true b e t = e
then_false false b e t = absurd t

-- only where the first holds does the second matter
pub then_same : (a b c : Bool) → (T a → b ≡ c) → (a && b) ≡ (a && c)
then_same true b c e = e tt
then_same false b c e = refl

pub same_of_xor : (a b : Bool) → xor a b ≡ false → a ≡ b
unfolding xor
same_of_xor true true e = refl
same_of_xor true false e = e
same_of_xor false true e = sym e
same_of_xor false false e = refl
