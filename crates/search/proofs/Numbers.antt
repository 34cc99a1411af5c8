-- What the cues of records are: an event's or a closing's, and, where the closings are no more than a state can take, that of a record that
-- does not end the search, and of one that does. Assumes nothing.
use Prim.Native.Nat.{ℕ, ◌≤◌, ◌<◌}
use mathlib.Core.Path.{◌≡◌, refl, sym, subst}
use mathlib.Core.Bool.{Bool, true, false, cond}
use mathlib.Core.List.{List, [], ◌∷◌}
use native.Mathlib.Omega.{arith}
use native.Mathlib.Decide.{dec_le}
use lib.Dec.{eqb}
use borrow.Author.Tests.{ne_eqb, leb-true, leb-false}
use Rattle.calculus.specs.Term.{Closing, done, withdrawn, failed}
use Rattle.calculus.specs.Records.{Record, event, close, std, Closed, last, ClosedTwice, turn, Fits}
use Rattle.calculus.specs.Within.{WithinOne, Within}
use Rattle.flow.specs.Cues.{done_cue, withdrawn_cue, failed_cue, cue_record, cue_records}
use Rattle.flow.specs.Refusals.{root}
use Rattle.states.specs.declared.Role.{Role}
use Rattle.states.specs.declared.Role.TheVariants.{Plain, Running}
use Rattle.states.specs.State.{part, modes}
use Rattle.search.specs.Visits.{state, closing_of, Settled, Inner, ends}
use Rattle.search.proofs.Asks.{ended_settled}

module _ (r : ℕ) where
  pub record_event : r < done_cue → cue_record r ≡ event r
  unfolding cue_record
  record_event h = simp (ne_eqb r done_cue (λ e. omega arith), ne_eqb r withdrawn_cue (λ e. omega arith), ne_eqb r failed_cue (λ e. omega arith))

  pub record_close : done_cue ≤ r → r ≤ failed_cue → cue_record r ≡ close (closing_of r)
  unfolding cue_record
  record_close h k = elim (dec_le r done_cue) [
    | yes l ↦ let e : r ≡ done_cue = omega arith in rw e
    | no l ↦ elim (dec_le r withdrawn_cue) [
      | yes m ↦ let e : r ≡ withdrawn_cue = omega (arith, l) in rw e
      | no m ↦ let e : r ≡ failed_cue = omega (arith, m) in rw e
    ]
  ]

  single : (a : ℕ) → Closed (event a ∷ []) → ⊥
  single a (Closed.more h) = elim h [ ]

  -- the last record is a closing
  pub last_close : Closed (cue_record r ∷ []) → cue_record r ≡ close (closing_of r)
  unfolding cue_record
  last_close f = by (eqb r done_cue) (eqb r withdrawn_cue) (eqb r failed_cue) f
    where
      by : (a b c : Bool) → Closed (cond a (close done) (cond b (close withdrawn) (cond c (close failed) (event r))) ∷ [])
          → cond a (close done) (cond b (close withdrawn) (cond c (close failed) (event r))) ≡ close (cond a done (cond b withdrawn failed))
      by true b c f = refl
      by false true c f = refl
      by false false true f = refl
      by false false false f = absurd (single r f)

pub not_twice : {x : Record} → ClosedTwice (x ∷ []) → ⊥
not_twice (turn h) = elim h [ ]
not_twice (ClosedTwice.more h) = elim h [ ]

-- a record that does not end the search
pub first_inner : (role : Role) (r : ℕ) → r ≤ failed_cue → ends role r ≡ false → Inner role r
unfolding ends
first_inner (Plain s) r l e = leb-false done_cue r e
first_inner Running r l e = l

-- and one that ends it: a standard part's closing, with nothing behind it
closed_last : {w : Closing} (xs : List ℕ) → WithinOne (close w ∷ cue_records xs) → xs ≡ []
closed_last [] f = refl
closed_last (x ∷ xs) f = elim f [ ]

module _ (ns t : List ℕ) (r : ℕ) (low : r ≤ failed_cue) where
  pub ends_alone : (role : Role) (xs : List ℕ) → ends role r ≡ true → Within (state ns role t) (cue_records (r ∷ xs)) → xs ≡ []
  unfolding state ends
  ends_alone (Plain s) xs e f = closed_last xs (subst (λ y. WithinOne (y ∷ cue_records xs)) (record_close r (leb-true done_cue r e) low) f)
  ends_alone Running xs e f = absurd (let z : ◌≡◌ {A = ℕ} 0 1 = cc e in omega arith)

  pub ends_fits : (role : Role) → ends role r ≡ true → Fits (state ns role t) (cue_records (r ∷ []))
  unfolding state ends
  ends_fits (Plain s) e = subst (λ y. Closed (y ∷ [])) (sym (record_close r (leb-true done_cue r e) low)) last
  ends_fits Running e = absurd (let z : ◌≡◌ {A = ℕ} 0 1 = cc e in omega arith)

  -- nothing follows nothing left
  pub ends_settled : (role : Role) → ends role r ≡ true → (qs : List ℕ) → Settled (state ns role t) (cue_records (r ∷ [])) qs
  unfolding state ends
  ends_settled (Plain s) e qs = subst (λ y. Settled (std ((part ns (modes t) (root ns)).std s)) (y ∷ []) qs) (sym (record_close r (leb-true done_cue r e) low)) (ended_settled ((part ns (modes t) (root ns)).std s) (closing_of r) qs)
  ends_settled Running e qs = absurd (let z : ◌≡◌ {A = ℕ} 0 1 = cc e in omega arith)
