-- What weighs is in the three numbers of a tally: weights of bare tallies and words are those of the whole ones. Assumes nothing.
use Rattle.std.specs.Prelude.{◌+◌, ◌≡◌, refl, Bool, true, false, ◌&&◌, ◌||◌, cond, T, eqb}
use Rattle.std.proofs.Common.{sym, ◌∙◌, ap, subst, arith, eqb→eq}
use Rattle.calculus.proofs.Members.{and_left, and_right}
use Rattle.calculus.specs.Term.{Closing, done, withdrawn, failed, join}
use Rattle.calculus.specs.Successors.{eqc}
use Rattle.tallies.specs.declared.Tally.{Tally}
use Rattle.tallies.specs.declared.Word.{Word}
use Rattle.tallies.specs.declared.Weight.{Weight}
use Rattle.tallies.specs.Formulas.{tallied, when_t, plus_t, by_w, fitting_t, partners_t, total, after_g, beside_g}
use Rattle.tallies.specs.Capped.{cap}
use Rattle.tallies.specs.Bare.{bare_t, bare_w}

-- Tallies ---------------------------------------------------------------------------------------------------------------

pub bare_when : (b : Bool) (x : Tally) → when_t b (bare_t x) ≡ bare_t (when_t b x)
bare_when true x = refl
bare_when false x = refl

-- of two lists that have something
abbrev plain : Tally → Tally → Tally
plain x y = tallied (cap (x.many + y.many)) (cap (x.able + y.able)) (cap (x.moves + y.moves)) (x.withdraws || y.withdraws) (x.fails || y.fails)

pub bare_plus : (x y : Tally) → plus_t (bare_t x) (bare_t y) ≡ bare_t (plus_t x y)
unfolding plus_t
bare_plus x y = by (eqb x.many 0) (eqb y.many 0)
  where
    by : (b c : Bool) → cond b (bare_t y) (cond c (bare_t x) (bare_t (plain x y))) ≡ bare_t (cond b y (cond c x (plain x y)))
    by true c = refl
    by false true = refl
    by false false = refl

-- Words -----------------------------------------------------------------------------------------------------------------

pub bare_by : (x : Word) (w : Closing) → by_w (bare_w x) w ≡ bare_t (by_w x w)
bare_by x done = refl
bare_by x withdrawn = refl
bare_by x failed = refl

pub bare_fitting : (q : Word) (u x y : Closing) → fitting_t (bare_w q) u x y ≡ bare_t (fitting_t q u x y)
unfolding fitting_t
bare_fitting q u x y = ap (when_t (eqc u (join x y))) (bare_by q y) ∙ bare_when (eqc u (join x y)) (by_w q y)

pub bare_partners : (q : Word) (u x : Closing) → partners_t (bare_w q) u x ≡ bare_t (partners_t q u x)
unfolding partners_t
bare_partners q u x =
    (λ z. plus_t (plus_t (bare_fitting q u x done z) (bare_fitting q u x withdrawn z)) (bare_fitting q u x failed z))
    ∙ ap (λ t. plus_t t (bare_t (fitting_t q u x failed))) (bare_plus (fitting_t q u x done) (fitting_t q u x withdrawn))
    ∙ bare_plus (plus_t (fitting_t q u x done) (fitting_t q u x withdrawn)) (fitting_t q u x failed)

-- Weights ---------------------------------------------------------------------------------------------------------------

pub bare_total : (x : Tally) (g : Weight) → total (bare_t x) g ≡ total x g
unfolding total
bare_total x g = refl

pub bare_after : (x : Tally) (g : Weight) → after_g (bare_t x) g ≡ after_g x g
unfolding after_g
bare_after x g = refl

pub bare_beside : (b : Bool) (x : Tally) (g : Weight) → beside_g b (bare_t x) g ≡ beside_g b x g
unfolding beside_g
bare_beside b x g = refl

pub total_by_bare : (p : Word) (x : Closing) (g : Weight) → total (by_w (bare_w p) x) g ≡ total (by_w p x) g
total_by_bare p x g = ap (λ t. total t g) (bare_by p x) ∙ bare_total (by_w p x) g

pub after_by_bare : (p : Word) (x : Closing) (g : Weight) → after_g (by_w (bare_w p) x) g ≡ after_g (by_w p x) g
after_by_bare p x g = ap (λ t. after_g t g) (bare_by p x) ∙ bare_after (by_w p x) g

pub beside_partners_bare : (b : Bool) (q : Word) (u x : Closing) (g : Weight) → beside_g b (partners_t (bare_w q) u x) g ≡ beside_g b (partners_t q u x) g
beside_partners_bare b q u x g = ap (λ t. beside_g b t g) (bare_partners q u x) ∙ bare_beside b (partners_t q u x) g

pub total_when_bare : (p : Word) (x : Closing) (g : Weight) (b : Bool) → total (when_t b (by_w (bare_w p) x)) g ≡ total (when_t b (by_w p x)) g
total_when_bare p x g b = ap (λ t. total t g) (ap (when_t b) (bare_by p x) ∙ bare_when b (by_w p x)) ∙ bare_total (when_t b (by_w p x)) g

-- all compensations of the first side by x, with all that go with them
pub side_bare : (b : Bool) (p q : Word) (u x : Closing) (g : Weight) → total (by_w (bare_w p) x) (beside_g b (partners_t (bare_w q) u x) g) ≡ total (by_w p x) (beside_g b (partners_t q u x) g)
side_bare b p q u x g = ap (total (by_w (bare_w p) x)) (beside_partners_bare b q u x g) ∙ total_by_bare p x (beside_g b (partners_t q u x) g)

pub fitting_bare : (q : Word) (u x y : Closing) (g : Weight) → total (fitting_t (bare_w q) u x y) g ≡ total (fitting_t q u x y) g
fitting_bare q u x y g = ap (λ t. total t g) (bare_fitting q u x y) ∙ bare_total (fitting_t q u x y) g

-- nothing weighs nothing
pub nothing_weighs : (x : Tally) (g : Weight) → ((eqb x.many 0 && eqb x.able 0) && eqb x.moves 0) ≡ true → 0 ≡ total x g
unfolding total
nothing_weighs x g h =
    let t : T ((eqb x.many 0 && eqb x.able 0) && eqb x.moves 0) = subst T (sym h) tt in
    let u = and_left (eqb x.many 0 && eqb x.able 0) (eqb x.moves 0) t in
    let m = eqb→eq x.many 0 (and_left (eqb x.many 0) (eqb x.able 0) u) in
    let n = eqb→eq x.able 0 (and_right (eqb x.many 0) (eqb x.able 0) u) in
    let o = eqb→eq x.moves 0 (and_right (eqb x.many 0 && eqb x.able 0) (eqb x.moves 0) t) in
    rw (m, n, o) (omega arith)
