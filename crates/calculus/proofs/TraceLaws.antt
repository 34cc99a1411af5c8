-- Laws of traces: of single ones (putting events before a trace, the join of closings, what two traces make side by side), and of the
-- operations on sets of them, whatever the sets are: sequence associates and has units, parallel commutes and associates with any set
-- of joint events. What they come to for sets of pairs is in PairLaws. Assumes nothing.
use Rattle.std.specs.Prelude.{ℕ, ◌≡◌, refl, ◌≢◌, Bool, List, [], ◌∷◌, ◌++◌}
use Rattle.std.proofs.Common.{sym, ◌∙◌, ap, subst, subst₂, true≢false, append_assoc, append-nil}
use Rattle.calculus.specs.Term.{Closing, done, withdrawn, failed, Joint, none, join}
use Rattle.calculus.specs.Traces.{Trace, tr, Traces, onto, only, Then, stays, enters, Mix, mix_none, mix_left, mix_right, mix_both, ParT, mixed, Beside, beside}
use Rattle.calculus.proofs.Members.{Compared, alike, differ, compared}
use Rattle.calculus.proofs.SetLaws.{SameSets}

-- Events before a trace -------------------------------------------------------------------------------------------------------

abbrev pub events_of : Trace → List ℕ
events_of (tr s w) = s

abbrev pub closing_of : Trace → Closing
closing_of (tr s w) = w

pub onto_none : (y : Trace) → onto [] y ≡ y
onto_none (tr t v) = refl

pub onto_nothing : (s : List ℕ) (w : Closing) → onto s (tr [] w) ≡ tr s w
onto_nothing s w = ap (λ l. tr l w) (append-nil s)

pub onto_onto : (s t : List ℕ) (y : Trace) → onto (s ++ t) y ≡ onto s (onto t y)
onto_onto s t (tr r u) = ap (λ l. tr l u) (append_assoc s t r)

-- The join of closings --------------------------------------------------------------------------------------------------------

pub join_comm : (w v : Closing) → join w v ≡ join v w
join_comm done done = refl
join_comm done withdrawn = refl
join_comm done failed = refl
join_comm withdrawn done = refl
join_comm withdrawn withdrawn = refl
join_comm withdrawn failed = refl
join_comm failed done = refl
join_comm failed withdrawn = refl
join_comm failed failed = refl

pub join_assoc : (w v u : Closing) → join (join w v) u ≡ join w (join v u)
join_assoc done v u = refl
join_assoc withdrawn done u = refl
join_assoc withdrawn withdrawn done = refl
join_assoc withdrawn withdrawn withdrawn = refl
join_assoc withdrawn withdrawn failed = refl
join_assoc withdrawn failed u = refl
join_assoc failed v u = refl

-- Two traces side by side -----------------------------------------------------------------------------------------------------

module _ {j : Joint} where
  mix_comm : {s t r : List ℕ} → Mix j s t r → Mix j t s r
  mix_comm mix_none = mix_none
  mix_comm (mix_left e m) = mix_right e (mix_comm m)
  mix_comm (mix_right e m) = mix_left e (mix_comm m)
  mix_comm (mix_both e m) = mix_both e (mix_comm m)

  -- an event is joint or not, in both mixtures alike
  mix_assoc : {s t r t' r' : List ℕ} → Mix j r t' r' → Mix j s t r → (q : List ℕ) × Mix j t t' q × Mix j s q r'
  mix_assoc mix_none mix_none = ([], mix_none, mix_none)
  mix_assoc (mix_right {a} e n) m = let q = mix_assoc n m in (a ∷ q.0, mix_right e q.1, mix_right e q.2)
  mix_assoc (mix_left e n) (mix_left f m) = let q = mix_assoc n m in (q.0, q.1, mix_left f q.2)
  mix_assoc (mix_left {a} e n) (mix_right f m) = let q = mix_assoc n m in (a ∷ q.0, mix_left e q.1, mix_right f q.2)
  mix_assoc (mix_left e n) (mix_both f m) = absurd (true≢false (sym f ∙ e))
  mix_assoc (mix_both e n) (mix_left f m) = absurd (true≢false (sym e ∙ f))
  mix_assoc (mix_both e n) (mix_right f m) = absurd (true≢false (sym e ∙ f))
  mix_assoc (mix_both {a} e n) (mix_both f m) = let q = mix_assoc n m in (a ∷ q.0, mix_both e q.1, mix_both f q.2)

  pub par_comm_traces : {x y z : Trace} → ParT j x y z → ParT j y x z
  par_comm_traces (mixed {w} {v} m e) = mixed (mix_comm m) (e ∙ join_comm w v)

  pub par_assoc_right : {x y w u z : Trace} → ParT j x y u → ParT j u w z → (v : Trace) × ParT j y w v × ParT j x v z
  par_assoc_right (mixed {w} {v} m e) (mixed {v = u} n f) =
      let q = mix_assoc n m in
      (tr q.0 (join v u), mixed q.1 refl, mixed q.2 (f ∙ ap (λ x. join x u) e ∙ join_assoc w v u))

  pub par_assoc_left : {x y w v z : Trace} → ParT j y w v → ParT j x v z → (u : Trace) × ParT j x y u × ParT j u w z
  par_assoc_left m n =
      let q = par_assoc_right (par_comm_traces m) (par_comm_traces n) in
      (q.0, par_comm_traces q.1, par_comm_traces q.2)

-- beside nothing, where nothing is joint

mix_unit : {t r : List ℕ} → Mix none [] t r → r ≡ t
mix_unit mix_none = refl
mix_unit (mix_right {a} e m) = ap (λ l. a ∷ l) (mix_unit m)

mix_unit_in : (t : List ℕ) → Mix none [] t t
mix_unit_in [] = mix_none
mix_unit_in (a ∷ t) = mix_right refl (mix_unit_in t)

pub par_unit_traces : {y z : Trace} → ParT none (tr [] done) y z → z ≡ y
par_unit_traces (mixed {v} m e) = λ i. tr (mix_unit m i) (e i)

pub par_unit_in : (y : Trace) → ParT none (tr [] done) y y
par_unit_in (tr t v) = mixed (mix_unit_in t) refl

-- Sets of traces in sequence --------------------------------------------------------------------------------------------------

-- what is entered after events that come of two parts is entered after the one and then the other
pub after_both : (s t : List ℕ) {s' : List ℕ} {w v : Closing} (y : Trace) {z : Trace} → z ≡ onto s' y → tr s' w ≡ tr (s ++ t) v → z ≡ onto s (onto t y)
after_both s t y f e = f ∙ ap (λ x. onto (events_of x) y) e ∙ onto_onto s t y

module _ {u : Closing} where
  module _ {P Q R : Traces} where
    then_assoc_right : {z : Trace} → Then u (Then u P Q) R z → Then u P (Then u Q R) z
    then_assoc_right (stays (stays h n) m) = stays h n
    then_assoc_right (stays (enters {y = tr t v} h k e) m) = enters h (stays k (λ d. m (ap closing_of e ∙ d))) e
    then_assoc_right (enters (stays h n) l f) = absurd (n refl)
    then_assoc_right (enters {y} (enters {s} {y = tr t v} h k e) l f) = enters h (enters (subst (λ c. Q (tr t c)) (sym (ap closing_of e)) k) l refl) (after_both s t y f e)

    then_assoc_left : {z : Trace} → Then u P (Then u Q R) z → Then u (Then u P Q) R z
    then_assoc_left (stays h n) = stays (stays h n) n
    then_assoc_left (enters {z = tr r x} h (stays k n) e) = stays (enters h k e) (λ d. n (sym (ap closing_of e) ∙ d))
    then_assoc_left (enters {s} h (enters {s = t} {y} k l f) e) = enters (enters h k refl) l (e ∙ ap (onto s) f ∙ sym (onto_onto s t y))

    pub then_assoc : SameSets (Then u (Then u P Q) R) (Then u P (Then u Q R))
    then_assoc z = (then_assoc_right, then_assoc_left)

  module _ {P : Traces} where
    unit_of : {z : Trace} → Then u P (only (tr [] u)) z → P z
    unit_of (stays h n) = h
    unit_of (enters {s} h k e) = subst P (sym (e ∙ ap (onto s) k ∙ onto_nothing s u)) h

    unit_in : {s : List ℕ} {w : Closing} {b : Bool} → P (tr s w) → Compared w u b → Then u P (only (tr [] u)) (tr s w)
    unit_in h (differ n) = stays h n
    unit_in {s} h (alike e) = enters (subst (λ c. P (tr s c)) e h) refl (ap (tr s) e ∙ sym (onto_nothing s u))

    pub then_unit_right : SameSets (Then u P (only (tr [] u))) P
    then_unit_right (tr s w) = (unit_of, λ h. unit_in h (compared w u))

    first_in : {z : Trace} → Then u (only (tr [] u)) P z → P z
    first_in (stays h n) = absurd (n (ap closing_of h))
    first_in (enters {y} h k e) = subst P (sym (e ∙ ap (λ x. onto (events_of x) y) h ∙ onto_none y)) k

    pub then_unit_left : SameSets (Then u (only (tr [] u)) P) P
    then_unit_left z = (first_in, λ h. enters refl h (sym (onto_none z)))

    module _ {w : Closing} (n : w ≢ u) where
      stopped : {z : Trace} → Then u (only (tr [] w)) P z → z ≡ tr [] w
      stopped (stays h m) = h
      stopped (enters h k e) = absurd (n (sym (ap closing_of h)))

      -- nothing follows what stops
      pub then_stop : SameSets (Then u (only (tr [] w)) P) (only (tr [] w))
      then_stop z = (stopped, λ e. subst (Then u (only (tr [] w)) P) (sym e) (stays refl n))

-- Sets of traces side by side --------------------------------------------------------------------------------------------------

module _ {j : Joint} where
  beside_swap : {P Q : Traces} {z : Trace} → Beside j P Q z → Beside j Q P z
  beside_swap (beside h k m) = beside k h (par_comm_traces m)

  pub beside_comm : {P Q : Traces} → SameSets (Beside j P Q) (Beside j Q P)
  beside_comm z = (beside_swap, beside_swap)

  module _ {P Q R : Traces} where
    beside_assoc_right : {z : Trace} → Beside j (Beside j P Q) R z → Beside j P (Beside j Q R) z
    beside_assoc_right (beside (beside h k m) l n) = let q = par_assoc_right m n in beside h (beside k l q.1) q.2

    beside_assoc_left : {z : Trace} → Beside j P (Beside j Q R) z → Beside j (Beside j P Q) R z
    beside_assoc_left (beside h (beside k l m) n) = let q = par_assoc_left m n in beside (beside h k q.1) l q.2

    pub beside_assoc : SameSets (Beside j (Beside j P Q) R) (Beside j P (Beside j Q R))
    beside_assoc z = (beside_assoc_right, beside_assoc_left)

beside_none : {P : Traces} {z : Trace} → Beside none (only (tr [] done)) P z → P z
beside_none {P} (beside {y} {z} h k m) = subst P (sym (par_unit_traces (subst (λ x. ParT none x y z) h m))) k

pub beside_unit : {P : Traces} → SameSets (Beside none (only (tr [] done)) P) P
beside_unit z = (beside_none, λ h. beside refl h (par_unit_in z))

par_still : {j : Joint} {z : Trace} → ParT j (tr [] done) (tr [] done) z → z ≡ tr [] done
par_still (mixed mix_none e) = ap (tr []) e

beside_still : {j : Joint} {z : Trace} → Beside j (only (tr [] done)) (only (tr [] done)) z → z ≡ tr [] done
beside_still {j} (beside {z} h k m) = par_still (subst₂ (λ x y. ParT j x y z) h k m)

-- nothing beside nothing is nothing, with any set
pub beside_nothing : {j : Joint} → SameSets (Beside j (only (tr [] done)) (only (tr [] done))) (only (tr [] done))
beside_nothing {j} z = (beside_still, λ e. beside refl refl (subst (ParT j (tr [] done) (tr [] done)) (sym e) (mixed mix_none refl)))
