-- What two sides come to by each closing, without going through the nine pairs of closings: by the laws of join (JoinLaws). First what
-- they can end by, then their compensations; a list that is empty adds nothing. Assumes nothing.
use Prim.Native.Nat.{ℕ, ◌+◌, ◌*◌, ◌<◌}
use mathlib.Core.Path.{◌≡◌, refl, sym, ◌∙◌, ap, ap₂}
use mathlib.Core.Bool.{Bool, true, false, ◌&&◌, ◌||◌, cond}
use native.Mathlib.Omega.{arith}
use native.Mathlib.Nat.{mul-pos}
use borrow.Author.Tests.{eqb-true, eqb-false}
use lib.Dec.{eqb}
use Rattle.calculus.specs.Term.{Closing, done, withdrawn, failed}
use Rattle.tallies.specs.Capped.{cap}
use Rattle.tallies.specs.Formulas.{ends_v, meet_v, both_v, none_t, when_t, plus_t, par_t, over_t, by_w, fitting_t, partners_t, both_t}
use Rattle.tallies.specs.JoinLaws.{join_done, join_withdrawn, join_failed, by_law, ends_both_done, ends_both_withdrawn, ends_both_failed}
use Rattle.tallies.specs.declared.View.{View}
use Rattle.tallies.specs.declared.Tally.{Tally}
use Rattle.tallies.specs.declared.Word.{Word}

-- Views -----------------------------------------------------------------------------------------------------------------

module _ (p q : View) where
  pub both_v_done : both_v p q done ≡ (p.done && q.done)
  unfolding both_v meet_v
  both_v_done = ends_both_done (ends_v p) (ends_v q)

  pub both_v_withdrawn : both_v p q withdrawn ≡ ((p.done && q.withdraws) || (p.withdraws && (q.done || q.withdraws)))
  unfolding both_v meet_v
  both_v_withdrawn = ends_both_withdrawn (ends_v p) (ends_v q)

  pub both_v_failed : both_v p q failed ≡ (((p.done || p.withdraws) && q.fails) || (p.fails && (q.done || (q.withdraws || q.fails))))
  unfolding both_v meet_v
  both_v_failed = ends_both_failed (ends_v p) (ends_v q)

-- Tallies ---------------------------------------------------------------------------------------------------------------

-- of an empty list it is none
abbrev Settled : Tally → Type 0
Settled t = eqb t.many 0 ≡ true → t ≡ none_t

some_many : (n : ℕ) → eqb n 0 ≡ false → 0 < n
some_many n e = omega (arith, eqb-false n 0 e)

settled_some : (t : Tally) → 0 < t.many → Settled t
settled_some t h e = absurd (omega (arith, h, eqb-true t.many 0 e))

none_right : (x : Tally) → Settled x → plus_t x none_t ≡ x
unfolding plus_t
none_right x s = by (eqb x.many 0) refl
  where
    by : (b : Bool) → eqb x.many 0 ≡ b → cond b none_t x ≡ x
    by true e = sym (s e)
    by false e = refl

plus_settled : (x y : Tally) → Settled x → Settled y → Settled (plus_t x y)
unfolding plus_t
plus_settled x y sx sy = by (eqb x.many 0) refl (eqb y.many 0) refl _ refl
  where
    by : (b : Bool) → eqb x.many 0 ≡ b → (c : Bool) → eqb y.many 0 ≡ c → (t : Tally) → t.many ≡ cap (x.many + y.many) → Settled (cond b y (cond c x t))
    by true e c d t q = sy
    by false e true d t q = sx
    by false e false d t q = let h = some_many x.many e in settled_some t (omega (arith, h, q))

module _ (j : Bool) where
  par_settled : (x y : Tally) → Settled (par_t j x y)
  unfolding par_t
  par_settled x y = by (eqb x.many 0) refl (eqb y.many 0) refl _ refl
    where
      by : (b : Bool) → eqb x.many 0 ≡ b → (c : Bool) → eqb y.many 0 ≡ c → (t : Tally) → t.many ≡ cap (x.many * y.many) → Settled (cond b none_t (cond c none_t t))
      by true e c d t q = λ h. refl
      by false e true d t q = λ h. refl
      by false e false d t q =
          let h = mul-pos (some_many x.many e) (some_many y.many d) in
          settled_some t (omega (arith, h, q))

  -- beside an empty list is nothing
  par_first_empty : (x y : Tally) → eqb x.many 0 ≡ true → par_t j x y ≡ none_t
  unfolding par_t
  par_first_empty x y e = empty e _
    where
      empty : {b : Bool} → b ≡ true → (t : Tally) → cond b none_t t ≡ none_t
      empty e t = ap (λ b. cond b none_t t) e

  par_empty : (x y : Tally) → eqb y.many 0 ≡ true → par_t j x y ≡ none_t
  unfolding par_t
  par_empty x y e = empty (eqb x.many 0) _ e
    where
      empty : (b : Bool) {c : Bool} (t : Tally) → c ≡ true → cond b none_t (cond c none_t t) ≡ none_t
      empty true t e = refl
      empty false t e = ap (λ c. cond c none_t t) e

  par_none_right : (x y : Tally) → par_t j x (plus_t y none_t) ≡ par_t j x y
  unfolding plus_t
  par_none_right x y = by (eqb y.many 0) refl
    where
      by : (b : Bool) → eqb y.many 0 ≡ b → par_t j x (cond b none_t y) ≡ par_t j x y
      by true e = par_empty x none_t refl ∙ sym (par_empty x y e)
      by false e = refl

-- Words -----------------------------------------------------------------------------------------------------------------

module _ (j : Bool) (p q : Word) where
  -- all k beside l, for each two closings of which h holds
  abbrev over_pairs : (Closing → Closing → Bool) → Tally
  over_pairs h = over_t (λ x. par_t j (by_w p x) (over_t (λ y. when_t (h x y) (by_w q y))))

  pub both_t_done : both_t j p q done ≡ par_t j p.done q.done
  unfolding plus_t both_t partners_t fitting_t
  both_t_done =
      by_law over_pairs done join_done
      ∙ (λ i. plus_t (plus_t ((par_none_right j p.done (plus_t q.done none_t) ∙ par_none_right j p.done q.done) i) (par_empty j p.withdrawn none_t refl i)) (par_empty j p.failed none_t refl i))
      ∙ ap (λ z. plus_t z none_t) (none_right _ (par_settled j p.done q.done))
      ∙ none_right _ (par_settled j p.done q.done)

  pub both_t_withdrawn : both_t j p q withdrawn ≡ plus_t (par_t j p.done q.withdrawn) (par_t j p.withdrawn (plus_t q.done q.withdrawn))
  unfolding plus_t both_t partners_t fitting_t
  both_t_withdrawn =
      by_law over_pairs withdrawn join_withdrawn
      ∙ (λ i. plus_t (plus_t (par_none_right j p.done q.withdrawn i) (par_none_right j p.withdrawn (plus_t q.done q.withdrawn) i)) (par_empty j p.failed none_t refl i))
      ∙ none_right _ (plus_settled _ _ (par_settled j p.done q.withdrawn) (par_settled j p.withdrawn (plus_t q.done q.withdrawn)))

  pub both_t_failed : both_t j p q failed ≡ plus_t (plus_t (par_t j p.done q.failed) (par_t j p.withdrawn q.failed)) (par_t j p.failed (plus_t (plus_t q.done q.withdrawn) q.failed))
  unfolding plus_t both_t partners_t fitting_t
  both_t_failed = by_law over_pairs failed join_failed

  -- where the first side can only fail, and where no side can
  module _ (d : eqb p.done.many 0 ≡ true) (w : eqb p.withdrawn.many 0 ≡ true) where
    pub fails_done : both_t j p q done ≡ none_t
    fails_done = both_t_done ∙ par_first_empty j _ _ d

    pub fails_withdrawn : both_t j p q withdrawn ≡ none_t
    unfolding plus_t
    fails_withdrawn = both_t_withdrawn ∙ ap₂ plus_t (par_first_empty j _ _ d) (par_first_empty j _ _ w)

    pub fails_failed : both_t j p q failed ≡ par_t j p.failed (over_t (by_w q))
    unfolding plus_t
    fails_failed = both_t_failed ∙ ap₂ (λ x y. plus_t (plus_t x y) (par_t j p.failed (over_t (by_w q)))) (par_first_empty j _ _ d) (par_first_empty j _ _ w)

  pub none_fails : eqb p.failed.many 0 ≡ true → eqb q.failed.many 0 ≡ true → both_t j p q failed ≡ none_t
  unfolding plus_t
  none_fails x y = both_t_failed ∙ (λ i. plus_t (plus_t (par_empty j p.done q.failed y i) (par_empty j p.withdrawn q.failed y i)) (par_first_empty j p.failed (over_t (by_w q)) x i))
