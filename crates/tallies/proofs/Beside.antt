-- The tally of parallel sides from what the code computes one after the other, where neither list is empty. Assumes nothing.
use Prim.Native.Nat.{ℕ, ◌*◌}
use mathlib.Core.Path.{◌≡◌, sym, ◌∙◌, ap₂}
use mathlib.Core.Bool.{Bool, false, cond}
use lib.Dec.{eqb}
use Rattle.calculus.specs.Term.{withdrawn, failed}
use Rattle.tallies.specs.Capped.{cap}
use Rattle.tallies.specs.Formulas.{both_v, tallied, none_t, any_v, sides_t, par_t}
use Rattle.tallies.specs.declared.View.{View}
use Rattle.tallies.specs.declared.Tally.{Tally}

unguarded : {b c : Bool} (t : Tally) → b ≡ false → c ≡ false → cond b none_t (cond c none_t t) ≡ t
unguarded t e d = ap₂ (λ b c. cond b none_t (cond c none_t t)) e d

module _ (j : Bool) (x y : Tally) {p q : View} {n m s : ℕ} {w f : Bool} {z : Tally} where
  pub beside : eqb x.many 0 ≡ false → eqb y.many 0 ≡ false → p ≡ any_v x → q ≡ any_v y
      → n ≡ cap (x.many * y.many) → m ≡ cap (x.able * y.able)
      → s ≡ sides_t j x y
      → w ≡ both_v p q withdrawn → f ≡ both_v p q failed → z ≡ tallied n m s w f → z ≡ par_t j x y
  unfolding par_t
  beside ex ey ep eq en em es ew ef ez =
      ez
      ∙ (λ i. tallied (en i) (em i) (es i) ((ew ∙ ap₂ (λ p q. both_v p q withdrawn) ep eq) i) ((ef ∙ ap₂ (λ p q. both_v p q failed) ep eq) i))
      ∙ sym (unguarded _ ex ey)
