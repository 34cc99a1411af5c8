-- The lists hold exactly what the rules allow: `ends_exact`, `steps_exact`, `comps_exact`, `csteps_exact`. First of a behaviour and
-- of the parts that are put together, a kind at a time; ; and ▷ are one (`Onward`). Assumes nothing.
use Rattle.std.specs.Prelude.{ℕ, ◌≡◌, refl, ◌≢◌, ◌⊎◌, ◌↔◌, Bool, not, ◌&&◌, ◌||◌}
use Rattle.std.proofs.Common.{sym, ap}
use Rattle.std.proofs.Math.Path.{subst}
use Rattle.std.proofs.Math.Logic.{inl, inr}
use Rattle.std.proofs.Math.Bool.{cond}
use mathlib.Core.List.Memᴰ
use mathlib.Core.List.{List, [], ◌∷◌, ◌++◌, map, Memᴰ}
use Rattle.std.proofs.Math.Dec.{T}
use Rattle.calculus.specs.Term.{Closing, done, withdrawn, failed, eqc, Leaf, Joint, Std, Cmp, skip, throw, yield, ev, seq, alt, par, hnd, blk, pair, cseq, calt, cpar, held, join}
use Rattle.calculus.specs.Rules.{End, CEnd, Step, CStep, skip_ends, throw_ends, yield_ends, yield_yields, alt_left, alt_right, par_joins, blk_ends, blk_undoes, pair_ends, pair_stops, cseq_stops, cseq_on, held_ends, calt_left, calt_right, cpar_joins, ev_step, alt_first, alt_second, par_first, par_second, par_both, blk_first, blk_second, pair_step, cseq_first, cseq_second, held_step, calt_first, calt_second, cpar_first, cpar_second, cpar_both}
use Rattle.calculus.specs.Successors.{Beh, closings, only, some_of, each, any_at_all, beside, ends_on, ends_both, does, skip_b, seq_b, par_b, ends, left_by, steps, csteps, comps}
use Rattle.calculus.proofs.Equations.{beh}
use Rattle.calculus.proofs.Members.{or_in_left, or_in_right, or_cases, and_in, and_left, and_right, same, same_in, other, other_in, in_closings, in_only, of_only, in_some, of_some, in_any, of_any, in_each, of_each, map_by, append_by, beside_by, in_beside_first, in_beside_second, in_beside_both}
use Rattle.calculus.proofs.Onward.{Onward, seq_onward, hnd_onward}

-- k lists what the rules allow its term
pub record Good (k : Beh) : Type 0 where
  pub ends_only : (w : Closing) → T (k.ends w) → End k.term w
  pub ends_all : (w : Closing) → End k.term w → T (k.ends w)
  pub steps_only : (a : ℕ) (r : Std) → Memᴰ r (k.steps a) → Step k.term a r
  pub steps_all : (a : ℕ) (r : Std) → Step k.term a r → Memᴰ r (k.steps a)

-- the compensations and steps of PP are what the rules allow, and so is what each compensation does
pub record CGood (pp : Cmp) : Type 0 where
  pub left_only : (w : Closing) (k : Beh) → Memᴰ k (left_by pp w) → Good k × CEnd pp w k.term
  pub left_all : (w : Closing) (p : Std) → CEnd pp w p → (k : Beh) × Memᴰ k (left_by pp w) × (k.term ≡ p)
  pub csteps_only : (a : ℕ) (r : Cmp) → Memᴰ r (csteps pp a) → CStep pp a r
  pub csteps_all : (a : ℕ) (r : Cmp) → CStep pp a r → Memᴰ r (csteps pp a)

-- Standard parts ----------------------------------------------------------------------------------------------------------

-- a part that only ends
still_good : {p : Std} {f : Closing → Bool} → ((w : Closing) → T (f w) → End p w) → ((w : Closing) → End p w → T (f w)) → ((a : ℕ) (r : Std) → Step p a r → ⊥) → Good (does p f (λ a. []))
still_good eo ea no_step = record { ends_only = eo; ends_all = ea; steps_only = λ a r m. absurd (Memᴰ.not-nil m); steps_all = λ a r h. absurd (no_step a r h) }

skip_good : Good skip_b
skip_good = still_good (λ w h. subst (End skip) (sym (same w done h)) skip_ends) (λ w. ea) (λ a r h. elim h [ ])
  where
    ea : {w : Closing} → End skip w → T (eqc w done)
    ea skip_ends = tt

throw_good : Good (beh throw)
unfolding ends
throw_good = still_good (λ w h. subst (End throw) (sym (same w failed h)) throw_ends) (λ w. ea) (λ a r h. elim h [ ])
  where
    ea : {w : Closing} → End throw w → T (eqc w failed)
    ea throw_ends = tt

yield_good : Good (beh yield)
unfolding ends
yield_good = still_good eo (λ w. ea) (λ a r h. elim h [ ])
  where
    eo : (w : Closing) → T (not (eqc w failed)) → End yield w
    eo failed h = absurd h
    eo withdrawn h = yield_yields
    eo done h = yield_ends

    ea : {w : Closing} → End yield w → T (not (eqc w failed))
    ea yield_ends = tt
    ea yield_yields = tt

ev_good : (l : Leaf) → Good (beh (ev l))
unfolding ends
ev_good l = record { ends_only = λ w h. absurd h; ends_all = λ w h. elim h [ ]; steps_only = so; steps_all = sa }
  where
    so : (a : ℕ) (r : Std) → Memᴰ r (only (l.takes a) (skip ∷ [])) → Step (ev l) a r
    so a r m = let h = of_only (l.takes a) m in
        let f : r ≡ skip = Memᴰ.eq_of_singleton h.1 in
        rw f (ev_step h.0)

    sa : (a : ℕ) (r : Std) → Step (ev l) a r → Memᴰ r (only (l.takes a) (skip ∷ []))
    sa a r (ev_step h) = in_only (l.takes a) h (Memᴰ.head refl)

module _ (x y : Beh) (gx : Good x) (gy : Good y) where
  -- ; and ▷
  on_good : {op : Std → Std → Std} {u : Closing} → Onward op u → Good (does (op x.term y.term) (ends_on u x.ends y.ends) (λ a. map (λ p. op p y.term) (x.steps a) ++ only (x.ends u) (y.steps a)))
  on_good {op} {u} o = record { ends_only = eo; ends_all = λ w e. ea w (o.ends_as e); steps_only = so; steps_all = λ a r h. sa a r (o.steps_as h) }
    where
      eo : (w : Closing) → T (ends_on u x.ends y.ends w) → End (op x.term y.term) w
      eo w h = by (or_cases (not (eqc w u) && x.ends w) (x.ends u && y.ends w) h)
        where
          by : T (not (eqc w u) && x.ends w) ⊎ T (x.ends u && y.ends w) → End (op x.term y.term) w
          by (inl g) = o.stops (gx.ends_only w (and_right (not (eqc w u)) (x.ends w) g)) (other w u (and_left (not (eqc w u)) (x.ends w) g))
          by (inr g) = o.on (gx.ends_only u (and_left (x.ends u) (y.ends w) g)) (gy.ends_only w (and_right (x.ends u) (y.ends w) g))

      ea : (w : Closing) → (End x.term w × (w ≢ u)) ⊎ (End x.term u × End y.term w) → T (ends_on u x.ends y.ends w)
      ea w (inl e) = or_in_left (not (eqc w u) && x.ends w) (x.ends u && y.ends w) (and_in (not (eqc w u)) (x.ends w) (other_in w u e.1) (gx.ends_all w e.0))
      ea w (inr e) = or_in_right (not (eqc w u) && x.ends w) (x.ends u && y.ends w) (and_in (x.ends u) (y.ends w) (gx.ends_all u e.0) (gy.ends_all w e.1))

      so : (a : ℕ) (r : Std) → Memᴰ r (map (λ p. op p y.term) (x.steps a) ++ only (x.ends u) (y.steps a)) → Step (op x.term y.term) a r
      so a r =
          append_by (map (λ p. op p y.term) (x.steps a))
          (map_by (λ p. op p y.term) (Step (op x.term y.term) a) (x.steps a) (λ p m. o.first (gx.steps_only a p m)) r)
          (λ m. let h = of_only (x.ends u) m in o.second (gx.ends_only u h.0) (gy.steps_only a r h.1))

      sa : (a : ℕ) (r : Std) → ((p : Std) × Step x.term a p × (op p y.term ≡ r)) ⊎ (End x.term u × Step y.term a r) → Memᴰ r (map (λ p. op p y.term) (x.steps a) ++ only (x.ends u) (y.steps a))
      sa a r (inl h) = subst (λ r. Memᴰ r (map (λ p. op p y.term) (x.steps a) ++ only (x.ends u) (y.steps a))) h.2 (Memᴰ.append_left _ (Memᴰ.map (λ p. op p y.term) (gx.steps_all a h.0 h.1)))
      sa a r (inr h) = Memᴰ.append_right (map (λ p. op p y.term) (x.steps a)) (in_only (x.ends u) (gx.ends_all u h.0) (gy.steps_all a r h.1))

  par_good : (j : Joint) → Good (par_b j x y)
  par_good j = record { ends_only = eo; ends_all = ea; steps_only = so; steps_all = sa }
    where
      eo : (u : Closing) → T (ends_both x.ends y.ends u) → End (par j x.term y.term) u
      eo u h =
          let f = of_some (λ w. some_of (λ v. eqc u (join w v) && (x.ends w && y.ends v)) closings) closings h in
          let w : Closing = f.0 in
          let g = of_some (λ v. eqc u (join w v) && (x.ends w && y.ends v)) closings f.2 in
          let v : Closing = g.0 in
          let e = and_right (eqc u (join w v)) (x.ends w && y.ends v) g.2 in
          par_joins (gx.ends_only w (and_left (x.ends w) (y.ends v) e)) (gy.ends_only v (and_right (x.ends w) (y.ends v) e)) (same u (join w v) (and_left (eqc u (join w v)) (x.ends w && y.ends v) g.2))

      ea : (u : Closing) → End (par j x.term y.term) u → T (ends_both x.ends y.ends u)
      ea u (par_joins {w} {v} e f q) =
          in_some (λ w. some_of (λ v. eqc u (join w v) && (x.ends w && y.ends v)) closings) (in_closings w)
          (in_some (λ v. eqc u (join w v) && (x.ends w && y.ends v)) (in_closings v)
          (and_in (eqc u (join w v)) (x.ends w && y.ends v) (same_in u (join w v) q) (and_in (x.ends w) (y.ends v) (gx.ends_all w e) (gy.ends_all v f))))

      so : (a : ℕ) (r : Std) → Memᴰ r (beside (j a) (par j) x.term y.term (x.steps a) (y.steps a)) → Step (par j x.term y.term) a r
      so a =
          beside_by (par j) x.term y.term (x.steps a) (y.steps a) (Step (par j x.term y.term) a) (j a)
          (λ e p m. par_first e (gx.steps_only a p m))
          (λ e q m. par_second e (gy.steps_only a q m))
          (λ e p q m n. par_both e (gx.steps_only a p m) (gy.steps_only a q n))

      sa : (a : ℕ) (r : Std) → Step (par j x.term y.term) a r → Memᴰ r (beside (j a) (par j) x.term y.term (x.steps a) (y.steps a))
      sa a r (par_first e h) = in_beside_first (par j) x.term y.term (x.steps a) (y.steps a) e (gx.steps_all a _ h)
      sa a r (par_second e h) = in_beside_second (par j) x.term y.term (x.steps a) (y.steps a) e (gy.steps_all a _ h)
      sa a r (par_both e h k) = in_beside_both (par j) x.term y.term (x.steps a) (y.steps a) e (gx.steps_all a _ h) (gy.steps_all a _ k)

module _ (p q : Std) (gp : Good (beh p)) (gq : Good (beh q)) where
  alt_good : Good (beh (alt p q))
  unfolding ends
  alt_good = record { ends_only = eo; ends_all = ea; steps_only = so; steps_all = sa }
    where
      eo : (w : Closing) → T (ends p w || ends q w) → End (alt p q) w
      eo w h = elim (or_cases (ends p w) (ends q w) h) [ inl g ↦ alt_left (gp.ends_only w g) | inr g ↦ alt_right (gq.ends_only w g) ]

      ea : (w : Closing) → End (alt p q) w → T (ends p w || ends q w)
      ea w (alt_left e) = or_in_left (ends p w) (ends q w) (gp.ends_all w e)
      ea w (alt_right e) = or_in_right (ends p w) (ends q w) (gq.ends_all w e)

      so : (a : ℕ) (r : Std) → Memᴰ r (steps p a ++ steps q a) → Step (alt p q) a r
      so a r = append_by (steps p a) (λ m. alt_first (gp.steps_only a r m)) (λ m. alt_second (gq.steps_only a r m))

      sa : (a : ℕ) (r : Std) → Step (alt p q) a r → Memᴰ r (steps p a ++ steps q a)
      sa a r (alt_first h) = Memᴰ.append_left (steps q a) (gp.steps_all a r h)
      sa a r (alt_second h) = Memᴰ.append_right (steps p a) (gq.steps_all a r h)

  pair_good : CGood (pair p q)
  unfolding ends
  pair_good = record { left_only = lo; left_all = la; csteps_only = so; csteps_all = sa }
    where
      left : Closing → List Beh
      left w = cond (eqc w done) (beh q) skip_b ∷ []

      of_left : (w : Closing) → End p w → Good (cond (eqc w done) (beh q) skip_b) × CEnd (pair p q) w (cond (eqc w done) (beh q) skip_b).term
      of_left done e = (gq, pair_ends e)
      of_left withdrawn e = (skip_good, pair_stops e (other withdrawn done tt))
      of_left failed e = (skip_good, pair_stops e (other failed done tt))

      lo : (w : Closing) (k : Beh) → Memᴰ k (only (ends p w) (left w)) → Good k × CEnd (pair p q) w k.term
      lo w k m =
          let h = of_only (ends p w) m in
          subst (λ (k : Beh). Good k × CEnd (pair p q) w k.term) (sym (Memᴰ.eq_of_singleton h.1)) (of_left w (gp.ends_only w h.0))

      skip_left : (w : Closing) → w ≢ done → Memᴰ skip_b (left w)
      skip_left done n = absurd (n refl)
      skip_left withdrawn n = Memᴰ.head refl
      skip_left failed n = Memᴰ.head refl

      la : (w : Closing) (r : Std) → CEnd (pair p q) w r → (k : Beh) × Memᴰ k (only (ends p w) (left w)) × (k.term ≡ r)
      la w r (pair_ends e) = (beh q, in_only (ends p done) (gp.ends_all done e) (Memᴰ.head refl), refl)
      la w r (pair_stops e n) = (skip_b, in_only (ends p w) (gp.ends_all w e) (skip_left w n), refl)

      so : (a : ℕ) (r : Cmp) → Memᴰ r (map (λ r. pair r q) (steps p a)) → CStep (pair p q) a r
      so a r = map_by (λ r. pair r q) (CStep (pair p q) a) (steps p a) (λ r m. pair_step (gp.steps_only a r m)) r

      sa : (a : ℕ) (r : Cmp) → CStep (pair p q) a r → Memᴰ r (map (λ r. pair r q) (steps p a))
      sa a r (pair_step h) = Memᴰ.map (λ r. pair r q) (gp.steps_all a _ h)

-- Parts that have a compensable first part ----------------------------------------------------------------------------------

module _ (pp : Cmp) (gp : CGood pp) where
  blk_good : Good (beh (blk pp))
  unfolding ends
  blk_good = record { ends_only = eo; ends_all = ea; steps_only = so; steps_all = sa }
    where
      eo : (w : Closing) → T ((eqc w done && any_at_all (left_by pp done)) || some_of (λ k. k.ends w) (left_by pp failed)) → End (blk pp) w
      eo w h = by (or_cases (eqc w done && any_at_all (left_by pp done)) (some_of (λ (k : Beh). k.ends w) (left_by pp failed)) h)
        where
          by : T (eqc w done && any_at_all (left_by pp done)) ⊎ T (some_of (λ (k : Beh). k.ends w) (left_by pp failed)) → End (blk pp) w
          by (inl g) =
              let k = of_any (left_by pp done) (and_right (eqc w done) (any_at_all (left_by pp done)) g) in
              subst (End (blk pp)) (sym (same w done (and_left (eqc w done) (any_at_all (left_by pp done)) g))) (blk_ends (gp.left_only done k.0 k.1).1)
          by (inr g) =
              let k = of_some (λ (k : Beh). k.ends w) (left_by pp failed) g in
              let l = gp.left_only failed k.0 k.1 in
              blk_undoes l.1 (l.0.ends_only w k.2)

      ea : (w : Closing) → End (blk pp) w → T ((eqc w done && any_at_all (left_by pp done)) || some_of (λ k. k.ends w) (left_by pp failed))
      ea w (blk_ends e) = let k = gp.left_all done _ e in or_in_left (any_at_all (left_by pp done)) (some_of (λ k. k.ends done) (left_by pp failed)) (in_any k.1)
      ea w (blk_undoes e f) =
          let k = gp.left_all failed _ e in
          let g : End k.0.term w = subst (λ p. End p w) (sym k.2) f in
          or_in_right (eqc w done && any_at_all (left_by pp done)) (some_of (λ k. k.ends w) (left_by pp failed)) (in_some (λ (k : Beh). k.ends w) k.1 ((gp.left_only failed k.0 k.1).0.ends_all w g))

      so : (a : ℕ) (r : Std) → Memᴰ r (map blk (csteps pp a) ++ each (left_by pp failed) (λ k. k.steps a)) → Step (blk pp) a r
      so a r =
          append_by (map blk (csteps pp a))
          (map_by blk (Step (blk pp) a) (csteps pp a) (λ r m. blk_first (gp.csteps_only a r m)) r)
          (λ m. let k = of_each (left_by pp failed) (λ (k : Beh). k.steps a) m in
          let l = gp.left_only failed k.0 k.1 in
          blk_second l.1 (l.0.steps_only a r k.2))

      sa : (a : ℕ) (r : Std) → Step (blk pp) a r → Memᴰ r (map blk (csteps pp a) ++ each (left_by pp failed) (λ k. k.steps a))
      sa a r (blk_first h) = Memᴰ.append_left (each (left_by pp failed) (λ k. k.steps a)) (Memᴰ.map blk (gp.csteps_all a _ h))
      sa a r (blk_second e h) =
          let k = gp.left_all failed _ e in
          let g : Step k.0.term a r = subst (λ p. Step p a r) (sym k.2) h in
          Memᴰ.append_right (map blk (csteps pp a)) (in_each (λ (k : Beh). k.steps a) k.1 ((gp.left_only failed k.0 k.1).0.steps_all a r g))

  held_good : (q : Std) → Good (beh q) → CGood (held pp q)
  unfolding ends
  held_good q gq = record { left_only = lo; left_all = la; csteps_only = so; csteps_all = sa }
    where
      lo : (w : Closing) (k : Beh) → Memᴰ k (map (λ l. seq_b l (beh q)) (left_by pp w)) → Good k × CEnd (held pp q) w k.term
      lo w =
          map_by (λ l. seq_b l (beh q)) (λ k. Good k × CEnd (held pp q) w k.term) (left_by pp w)
          (λ l m. let h = gp.left_only w l m in (on_good l (beh q) h.0 gq seq_onward, held_ends h.1))

      la : (w : Closing) (r : Std) → CEnd (held pp q) w r → (k : Beh) × Memᴰ k (map (λ l. seq_b l (beh q)) (left_by pp w)) × (k.term ≡ r)
      la w r (held_ends e) = let k = gp.left_all w _ e in (seq_b k.0 (beh q), Memᴰ.map (λ l. seq_b l (beh q)) k.1, ap (λ p. seq p q) k.2)

      so : (a : ℕ) (r : Cmp) → Memᴰ r (map (λ r. held r q) (csteps pp a)) → CStep (held pp q) a r
      so a = map_by (λ r. held r q) (CStep (held pp q) a) (csteps pp a) (λ r m. held_step (gp.csteps_only a r m))

      sa : (a : ℕ) (r : Cmp) → CStep (held pp q) a r → Memᴰ r (map (λ r. held r q) (csteps pp a))
      sa a r (held_step h) = Memᴰ.map (λ r. held r q) (gp.csteps_all a _ h)

module _ (pp qq : Cmp) (gp : CGood pp) (gq : CGood qq) where
  calt_good : CGood (calt pp qq)
  unfolding ends
  calt_good = record { left_only = lo; left_all = la; csteps_only = so; csteps_all = sa }
    where
      lo : (w : Closing) (k : Beh) → Memᴰ k (left_by pp w ++ left_by qq w) → Good k × CEnd (calt pp qq) w k.term
      lo w k =
          append_by (left_by pp w)
          (λ m. let h = gp.left_only w k m in (h.0, calt_left h.1))
          (λ m. let h = gq.left_only w k m in (h.0, calt_right h.1))

      la : (w : Closing) (p : Std) → CEnd (calt pp qq) w p → (k : Beh) × Memᴰ k (left_by pp w ++ left_by qq w) × (k.term ≡ p)
      la w p (calt_left e) = let k = gp.left_all w p e in (k.0, Memᴰ.append_left (left_by qq w) k.1, k.2)
      la w p (calt_right e) = let k = gq.left_all w p e in (k.0, Memᴰ.append_right (left_by pp w) k.1, k.2)

      so : (a : ℕ) (r : Cmp) → Memᴰ r (csteps pp a ++ csteps qq a) → CStep (calt pp qq) a r
      so a r = append_by (csteps pp a) (λ m. calt_first (gp.csteps_only a r m)) (λ m. calt_second (gq.csteps_only a r m))

      sa : (a : ℕ) (r : Cmp) → CStep (calt pp qq) a r → Memᴰ r (csteps pp a ++ csteps qq a)
      sa a r (calt_first h) = Memᴰ.append_left (csteps qq a) (gp.csteps_all a r h)
      sa a r (calt_second h) = Memᴰ.append_right (csteps pp a) (gq.csteps_all a r h)

  cseq_good : CGood (cseq pp qq)
  unfolding ends
  cseq_good = record { left_only = lo; left_all = la; csteps_only = so; csteps_all = sa }
    where
      after : Closing → Beh → List Beh
      after w k = map (λ l. seq_b l k) (left_by qq w)

      lo : (w : Closing) (k : Beh) → Memᴰ k (only (not (eqc w done)) (left_by pp w) ++ each (left_by pp done) (after w)) → Good k × CEnd (cseq pp qq) w k.term
      lo w k =
          append_by (only (not (eqc w done)) (left_by pp w))
          (λ m. let h = of_only (not (eqc w done)) m in
          let g = gp.left_only w k h.1 in
          (g.0, cseq_stops g.1 (other w done h.0)))
          (λ m. let f = of_each (left_by pp done) (after w) m in
          let h = gp.left_only done f.0 f.1 in
          map_by (λ l. seq_b l f.0) (λ k. Good k × CEnd (cseq pp qq) w k.term) (left_by qq w)
          (λ l n. let g = gq.left_only w l n in (on_good l f.0 g.0 h.0 seq_onward, cseq_on h.1 g.1)) k f.2)

      la : (w : Closing) (p : Std) → CEnd (cseq pp qq) w p → (k : Beh) × Memᴰ k (only (not (eqc w done)) (left_by pp w) ++ each (left_by pp done) (after w)) × (k.term ≡ p)
      la w p (cseq_stops e n) = let k = gp.left_all w p e in (k.0, Memᴰ.append_left (each (left_by pp done) (after w)) (in_only (not (eqc w done)) (other_in w done n) k.1), k.2)
      la w p (cseq_on e f) =
          let k = gp.left_all done _ e in
          let l = gq.left_all w _ f in
          (seq_b l.0 k.0, Memᴰ.append_right (only (not (eqc w done)) (left_by pp w)) (in_each (after w) k.1 (Memᴰ.map (λ z. seq_b z k.0) l.1)), λ i. seq (l.2 i) (k.2 i))

      holding : ℕ → Beh → List Cmp
      holding a k = map (λ r. held r k.term) (csteps qq a)

      so : (a : ℕ) (r : Cmp) → Memᴰ r (map (λ r. cseq r qq) (csteps pp a) ++ each (left_by pp done) (holding a)) → CStep (cseq pp qq) a r
      so a r =
          append_by (map (λ r. cseq r qq) (csteps pp a))
          (map_by (λ r. cseq r qq) (CStep (cseq pp qq) a) (csteps pp a) (λ r m. cseq_first (gp.csteps_only a r m)) r)
          (λ m. let f = of_each (left_by pp done) (holding a) m in
          map_by (λ r. held r f.0.term) (CStep (cseq pp qq) a) (csteps qq a) (λ r n. cseq_second (gp.left_only done f.0 f.1).1 (gq.csteps_only a r n)) r f.2)

      sa : (a : ℕ) (r : Cmp) → CStep (cseq pp qq) a r → Memᴰ r (map (λ r. cseq r qq) (csteps pp a) ++ each (left_by pp done) (holding a))
      sa a r (cseq_first h) = Memᴰ.append_left (each (left_by pp done) (holding a)) (Memᴰ.map (λ r. cseq r qq) (gp.csteps_all a _ h))
      sa a r (cseq_second {qq'} {k = p} e h) =
          let k = gp.left_all done p e in
          Memᴰ.append_right (map (λ r. cseq r qq) (csteps pp a))
          (in_each (holding a) k.1
          (subst (λ z. Memᴰ (held qq' z) (map (λ r. held r k.0.term) (csteps qq a))) k.2 (Memᴰ.map (λ r. held r k.0.term) (gq.csteps_all a qq' h))))

  cpar_good : (j : Joint) → CGood (cpar j pp qq)
  unfolding ends
  cpar_good j = record { left_only = lo; left_all = la; csteps_only = so; csteps_all = sa }
    where
      in₃ : Closing → Closing → Beh → Closing → List Beh
      in₃ u w k v = only (eqc u (join w v)) (map (λ l. par_b j k l) (left_by qq v))

      in₂ : Closing → Closing → Beh → List Beh
      in₂ u w k = each closings (in₃ u w k)

      in₁ : Closing → Closing → List Beh
      in₁ u w = each (left_by pp w) (in₂ u w)

      lo : (u : Closing) (k : Beh) → Memᴰ k (each closings (in₁ u)) → Good k × CEnd (cpar j pp qq) u k.term
      lo u k m =
          let f = of_each closings (in₁ u) m in
          let g = of_each (left_by pp f.0) (in₂ u f.0) f.2 in
          let h = of_each closings (in₃ u f.0 g.0) g.2 in
          let i = of_only (eqc u (join f.0 h.0)) h.2 in
          let x = gp.left_only f.0 g.0 g.1 in
          map_by (λ l. par_b j g.0 l) (λ k. Good k × CEnd (cpar j pp qq) u k.term) (left_by qq h.0)
          (λ l n. let y = gq.left_only h.0 l n in (par_good g.0 l x.0 y.0 j, cpar_joins x.1 y.1 (same u (join f.0 h.0) i.0))) k i.1

      la : (u : Closing) (p : Std) → CEnd (cpar j pp qq) u p → (k : Beh) × Memᴰ k (each closings (in₁ u)) × (k.term ≡ p)
      la u p (cpar_joins {w} {v} e f q) =
          let k = gp.left_all w _ e in
          let l = gq.left_all v _ f in (
            par_b j k.0 l.0,
            in_each (in₁ u) (in_closings w) (in_each (in₂ u w) k.1 (in_each (in₃ u w k.0) (in_closings v) (in_only (eqc u (join w v)) (same_in u (join w v) q) (Memᴰ.map (λ z. par_b j k.0 z) l.1)))),
            λ i. par j (k.2 i) (l.2 i),
          )

      so : (a : ℕ) (r : Cmp) → Memᴰ r (beside (j a) (cpar j) pp qq (csteps pp a) (csteps qq a)) → CStep (cpar j pp qq) a r
      so a =
          beside_by (cpar j) pp qq (csteps pp a) (csteps qq a) (CStep (cpar j pp qq) a) (j a)
          (λ e r m. cpar_first e (gp.csteps_only a r m))
          (λ e r m. cpar_second e (gq.csteps_only a r m))
          (λ e r s m n. cpar_both e (gp.csteps_only a r m) (gq.csteps_only a s n))

      sa : (a : ℕ) (r : Cmp) → CStep (cpar j pp qq) a r → Memᴰ r (beside (j a) (cpar j) pp qq (csteps pp a) (csteps qq a))
      sa a r (cpar_first e h) = in_beside_first (cpar j) pp qq (csteps pp a) (csteps qq a) e (gp.csteps_all a _ h)
      sa a r (cpar_second e h) = in_beside_second (cpar j) pp qq (csteps pp a) (csteps qq a) e (gq.csteps_all a _ h)
      sa a r (cpar_both e h k) = in_beside_both (cpar j) pp qq (csteps pp a) (csteps qq a) e (gp.csteps_all a _ h) (gq.csteps_all a _ k)

mutual
  unfolding ends

  pub beh_good : (p : Std) → Good (beh p)
  beh_good skip = skip_good
  beh_good throw = throw_good
  beh_good yield = yield_good
  beh_good (ev l) = ev_good l
  beh_good (seq p q) = on_good (beh p) (beh q) (beh_good p) (beh_good q) seq_onward
  beh_good (alt p q) = alt_good p q (beh_good p) (beh_good q)
  beh_good (par j p q) = par_good (beh p) (beh q) (beh_good p) (beh_good q) j
  beh_good (hnd p q) = on_good (beh p) (beh q) (beh_good p) (beh_good q) hnd_onward
  beh_good (blk pp) = blk_good pp (cmp_good pp)

  pub cmp_good : (pp : Cmp) → CGood pp
  cmp_good (pair p q) = pair_good p q (beh_good p) (beh_good q)
  cmp_good (cseq pp qq) = cseq_good pp qq (cmp_good pp) (cmp_good qq)
  cmp_good (calt pp qq) = calt_good pp qq (cmp_good pp) (cmp_good qq)
  cmp_good (cpar j pp qq) = cpar_good pp qq (cmp_good pp) (cmp_good qq) j
  cmp_good (held qq r) = held_good qq (cmp_good qq) r (beh_good r)

-- What is listed is what the rules allow --------------------------------------------------------------------------------------

pub ends_exact : (p : Std) (w : Closing) → T (ends p w) ↔ End p w
ends_exact p w = ((beh_good p).ends_only w, (beh_good p).ends_all w)

pub steps_exact : (p : Std) (a : ℕ) (r : Std) → Memᴰ r (steps p a) ↔ Step p a r
steps_exact p a r = ((beh_good p).steps_only a r, (beh_good p).steps_all a r)

pub csteps_exact : (pp : Cmp) (a : ℕ) (r : Cmp) → Memᴰ r (csteps pp a) ↔ CStep pp a r
csteps_exact pp a r = ((cmp_good pp).csteps_only a r, (cmp_good pp).csteps_all a r)

pub comps_exact : (pp : Cmp) (w : Closing) (k : Std) → Memᴰ k (comps pp w) ↔ CEnd pp w k
unfolding comps
comps_exact pp w k = (
  map_by (λ (x : Beh). x.term) (CEnd pp w) (left_by pp w) (λ x m. ((cmp_good pp).left_only w x m).1) k,
  λ h. let f = (cmp_good pp).left_all w k h in subst (λ z. Memᴰ z (map (λ (x : Beh). x.term) (left_by pp w))) f.2 (Memᴰ.map (λ (x : Beh). x.term) f.1),
)
