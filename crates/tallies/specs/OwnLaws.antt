-- Weights that count compensations alone: what all of a tally weigh is a product, and how many go with an ending is a sum. Assumes nothing.
use Rattle.std.specs.Prelude.{ℕ, ◌+◌, ◌*◌, ◌≤◌, ◌≡◌, Bool, ◌&&◌, ◌||◌, eqb}
use Rattle.std.proofs.Math.Path.{refl, sym, ap}
use Rattle.std.proofs.Common.{◌∙◌, eqb-true}
use Rattle.std.proofs.Math.Bool.{true, false, cond}
use native.Mathlib.Omega.{arith}
use Rattle.calculus.specs.Term.{Closing, done, withdrawn, failed}
use Rattle.tallies.specs.Capped.{most, cap}
use Rattle.tallies.specs.declared.Tally.{Tally}
use Rattle.tallies.specs.declared.Word.{Word}
use Rattle.tallies.specs.declared.Weight.{Weight}
use Rattle.tallies.specs.Formulas.{tallied, weighs, is_own, total, beside_g, within_g, plus_t, fitting_t, partners_t}

pub both_true : (a b : Bool) → (a && b) ≡ true → (a ≡ true) × (b ≡ true)
both_true true b e = (refl, e)
both_true false b e = absurd (let z : ◌≡◌ {A = ℕ} 0 1 = cc e in omega arith)

module _ (g : Weight) (own : is_own g ≡ true) where
  no_moves : g.moves ≡ 0
  no_moves = eqb-true g.moves 0 (both_true (eqb g.moves 0) (eqb g.able 0) own).0

  no_able : g.able ≡ 0
  no_able = eqb-true g.able 0 (both_true (eqb g.moves 0) (eqb g.able 0) own).1

  pub own_total : (t : Tally) → total t g ≡ cap (g.own * t.many)
  unfolding total
  own_total t =
      ap (λ z. cap (cap (cap (g.own * t.many) + cap (z * t.moves)) + cap (g.able * t.able))) no_moves
      ∙ ap (λ z. cap (cap (cap (g.own * t.many) + cap (0 * t.moves)) + cap (z * t.able))) no_able
      ∙ omega arith

  no_more : (n : ℕ) → cap (g.moves * n) ≡ 0
  no_more n = ap (λ z. cap (z * n)) no_moves ∙ omega arith

  no_ending : (n : ℕ) → cap (g.able * n) ≡ 0
  no_ending n = ap (λ z. cap (z * n)) no_able ∙ omega arith

  -- joint or not, since what is joint is a step
  pub own_beside : (b : Bool) (t : Tally) → beside_g b t g ≡ weighs (cap (g.own * t.many)) 0 0
  unfolding beside_g
  own_beside true t = λ i. weighs (cap (g.own * t.many)) (no_more t.moves i) (no_ending t.able i)
  own_beside false t =
      let e : cap (cap (g.own * t.many) + cap (g.moves * t.moves)) ≡ cap (g.own * t.many) = omega (arith, no_more t.moves) in
      λ i. weighs (e i) (no_more t.many i) (no_ending t.able i)

  pub own_within : g.own ≤ most → (b : Bool) (n : ℕ) (c : Bool) → within_g b g n c ≡ g
  unfolding within_g
  own_within h b n c = by b
    where
      either : (c : Bool) → cond c g.able 0 ≡ g.able
      either true = refl
      either false = sym no_able

      by : (b : Bool) → cond b (weighs g.own (cap (g.moves * n)) (cond c g.able 0)) (weighs (cap (g.own + cap (g.moves * n))) g.moves (cond c g.able 0)) ≡ g
      by true = λ i. weighs g.own ((no_more n ∙ sym no_moves) i) (either c i)
      by false =
          let e : cap (g.own + cap (g.moves * n)) ≡ g.own = omega (arith, no_more n) in
          λ i. weighs (e i) g.moves (either c i)

-- how many two lists have together
plus_many : (x y : Tally) → x.many ≤ most → y.many ≤ most → (plus_t x y).many ≡ cap (x.many + y.many)
unfolding plus_t
plus_many x y h k = by (eqb x.many 0) refl (eqb y.many 0) refl (tallied (cap (x.many + y.many)) (cap (x.able + y.able)) (cap (x.moves + y.moves)) (x.withdraws || y.withdraws) (x.fails || y.fails)) refl
  where
    by : (b : Bool) → eqb x.many 0 ≡ b → (c : Bool) → eqb y.many 0 ≡ c → (z : Tally) → z.many ≡ cap (x.many + y.many) → (cond b y (cond c x z)).many ≡ cap (x.many + y.many)
    by true e c f z q = let r = eqb-true x.many 0 e in omega arith
    by false e true f z q = let r = eqb-true y.many 0 f in omega arith
    by false e false f z q = q

-- how many go with an ending
pub partners_many : (q : Word) (u x : Closing) → ((y : Closing) → (fitting_t q u x y).many ≤ most)
    → (partners_t q u x).many ≡ cap (cap ((fitting_t q u x done).many + (fitting_t q u x withdrawn).many) + (fitting_t q u x failed).many)
unfolding partners_t
partners_many q u x h =
    let e = plus_many (fitting_t q u x done) (fitting_t q u x withdrawn) (h done) (h withdrawn) in
    plus_many (plus_t (fitting_t q u x done) (fitting_t q u x withdrawn)) (fitting_t q u x failed) (omega (arith, e)) (h failed)
    ∙ ap (λ z. cap (z + (fitting_t q u x failed).many)) e
