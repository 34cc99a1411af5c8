-- Laws of the operations on sets of pairs, whatever the sets are: sequence associates and has units, choice commutes, associates and goes
-- in and out of sequence and parallel, parallel commutes and associates with any set of joint events. A set of traces is a set of pairs
-- that keep nothing (`Alone`), and the operations are the same there. Assumes nothing.
use Rattle.std.specs.Prelude.{◌≡◌, refl, Bool, ◌⊎◌, []}
use Rattle.std.proofs.Common.{sym, ◌∙◌, ap, subst, inl, inr}
use Rattle.calculus.specs.Term.{Closing, done, withdrawn, failed, Joint, none}
use Rattle.calculus.specs.Traces.{Trace, tr, Traces, Pairs, onto, only, Then, stays, enters, ParT, Beside, beside, kept_by, Paired, CThen, CEither, CBeside, Within, SamePairs}
use Rattle.calculus.proofs.Members.{Compared, alike, differ, compared, other}
use Rattle.calculus.proofs.SetLaws.{SameSets, sets_self, sets_flip, sets_then, then_cong, beside_cong, paired_cong, ceither_cong, pairs_then}
use Rattle.calculus.proofs.TraceLaws.{events_of, closing_of, onto_none, onto_nothing, onto_onto, after_both, par_comm_traces, par_assoc_right, par_assoc_left, par_unit_traces, par_unit_in, then_assoc, then_unit_left, then_unit_right, beside_comm, beside_assoc, beside_unit, beside_nothing}

-- a way of the same trace, written otherwise, keeps the same
moved : (P : Pairs) {x x' : Trace} → x ≡ x' → (h : P.way x) → (k : P.way x') × SameSets (P.undo x h) (P.undo x' k)
moved P {x} e h = subst (λ z. (k : P.way z) × SameSets (P.undo x h) (P.undo z k)) e (h, sets_self (P.undo x h))

-- Sequence --------------------------------------------------------------------------------------------------------------------

module _ (P Q R : Pairs) where
  cthen_assoc_right : Within (CThen (CThen P Q) R) (CThen P (CThen Q R))
  cthen_assoc_right z (stays (stays h n) m) = (stays h n, sets_self _)
  cthen_assoc_right z (stays (enters {y = tr t v} h k e) m) = (enters h (stays k (λ d. m (ap closing_of e ∙ d))) e, sets_self _)
  cthen_assoc_right z (enters (stays h n) l f) = absurd (n refl)
  cthen_assoc_right z (enters {y} (enters {s} {y = tr t v} h k e) l f) =
      let m = moved Q (ap (tr t) (sym (ap closing_of e))) k in
      (enters h (enters m.0 l refl) (after_both s t y f e), sets_then (then_cong (sets_self _) (then_cong m.1 (sets_self _))) (sets_flip then_assoc))

  cthen_assoc_left : Within (CThen P (CThen Q R)) (CThen (CThen P Q) R)
  cthen_assoc_left z (stays h n) = (stays (stays h n) n, sets_self _)
  cthen_assoc_left (tr r x) (enters h (stays k n) e) = (stays (enters h k e) (λ d. n (sym (ap closing_of e) ∙ d)), sets_self _)
  cthen_assoc_left z (enters {s} h (enters {s = t} {y} k l f) e) = (enters (enters h k refl) l (e ∙ ap (onto s) f ∙ sym (onto_onto s t y)), then_assoc)

  pub cthen_assoc : SamePairs (CThen (CThen P Q) R) (CThen P (CThen Q R))
  cthen_assoc = (cthen_assoc_right, cthen_assoc_left)

-- A set of traces as a set of pairs -----------------------------------------------------------------------------------------------

-- nothing is kept
abbrev pub Alone : Traces → Pairs
Alone P = Paired P (only (tr [] done))

pub kept_none : (x : Trace) → SameSets (kept_by (only (tr [] done)) x) (only (tr [] done))
kept_none (tr s done) = sets_self _
kept_none (tr s withdrawn) = sets_self _
kept_none (tr s failed) = sets_self _

pub alone_cong : {P Q : Traces} → SameSets P Q → SamePairs (Alone P) (Alone Q)
alone_cong f = paired_cong f (sets_self _)

pub alone_same : {P Q : Traces} → SamePairs (Alone P) (Alone Q) → SameSets P Q
alone_same f z = (λ h. (f.0 z h).0, λ h. (f.1 z h).0)

then_none : (x y z : Trace) → SameSets (kept_by (only (tr [] done)) z) (Then done (kept_by (only (tr [] done)) y) (kept_by (only (tr [] done)) x))
then_none x y z = sets_then (kept_none z) (sets_flip (sets_then (then_cong (kept_none y) (kept_none x)) then_unit_left))

beside_kept : (j : Joint) (x y z : Trace) → SameSets (kept_by (only (tr [] done)) z) (Beside j (kept_by (only (tr [] done)) x) (kept_by (only (tr [] done)) y))
beside_kept j x y z = sets_then (kept_none z) (sets_flip (sets_then (beside_cong (kept_none x) (kept_none y)) beside_nothing))

module _ (P Q : Traces) where
  pub alone_then : SamePairs (Alone (Then done P Q)) (CThen (Alone P) (Alone Q))
  alone_then = (to, of)
    where
      to : Within (Alone (Then done P Q)) (CThen (Alone P) (Alone Q))
      to z (stays h n) = (stays h n, sets_self _)
      to z (enters {s} {y} h k e) = (enters h k e, then_none (tr s done) y z)

      of : Within (CThen (Alone P) (Alone Q)) (Alone (Then done P Q))
      of z (stays h n) = (stays h n, sets_self _)
      of z (enters {s} {y} h k e) = (enters h k e, sets_flip (then_none (tr s done) y z))

  pub alone_either : SamePairs (Alone (λ z. P z ⊎ Q z)) (CEither (Alone P) (Alone Q))
  alone_either = (to, of)
    where
      to : Within (Alone (λ z. P z ⊎ Q z)) (CEither (Alone P) (Alone Q))
      to z (inl h) = (inl h, sets_self _)
      to z (inr h) = (inr h, sets_self _)

      of : Within (CEither (Alone P) (Alone Q)) (Alone (λ z. P z ⊎ Q z))
      of z (inl h) = (inl h, sets_self _)
      of z (inr h) = (inr h, sets_self _)

  pub alone_beside : (j : Joint) → SamePairs (Alone (Beside j P Q)) (CBeside j (Alone P) (Alone Q))
  alone_beside j = (to, of)
    where
      to : Within (Alone (Beside j P Q)) (CBeside j (Alone P) (Alone Q))
      to z (beside {x} {y} h k m) = (beside h k m, beside_kept j x y z)

      of : Within (CBeside j (Alone P) (Alone Q)) (Alone (Beside j P Q))
      of z (beside {x} {y} h k m) = (beside h k m, sets_flip (beside_kept j x y z))

-- Units ---------------------------------------------------------------------------------------------------------------------------

abbrev pub nothing : Pairs
nothing = Alone (only (tr [] done))

abbrev pub stopping : Pairs
stopping = Alone (only (tr [] failed))

module _ (P : Pairs) where
  pub cthen_unit_left : SamePairs (CThen nothing P) P
  cthen_unit_left = (to, λ z h. (enters refl h (sym (onto_none z)), sets_flip then_unit_right))
    where
      to : Within (CThen nothing P) P
      to z (stays h n) = absurd (n (ap closing_of h))
      to z (enters {y} h k e) = let m = moved P (sym (e ∙ ap (λ x. onto (events_of x) y) h ∙ onto_none y)) k in (m.0, sets_then then_unit_right m.1)

  pub cthen_unit_right : SamePairs (CThen P nothing) P
  cthen_unit_right = (to, of)
    where
      to : Within (CThen P nothing) P
      to z (stays h n) = (h, sets_self _)
      to z (enters {s} {y} h k e) =
          let m = moved P (sym (e ∙ ap (onto s) k ∙ onto_nothing s done)) h in
          (m.0, sets_then (then_cong (kept_none y) m.1) then_unit_left)

      at : {s : _} {w : Closing} {b : Bool} → Compared w done b → (h : P.way (tr s w)) → (k : (CThen P nothing).way (tr s w)) × SameSets (P.undo (tr s w) h) ((CThen P nothing).undo (tr s w) k)
      at (differ n) h = (stays h n, sets_self _)
      at {s} (alike e) h = let m = moved P (ap (tr s) e) h in (enters m.0 refl (ap (tr s) e ∙ sym (onto_nothing s done)), sets_then m.1 (sets_flip then_unit_left))

      of : Within P (CThen P nothing)
      of (tr s w) h = at (compared w done) h

  -- nothing follows what stops
  pub cthen_stop : SamePairs (CThen stopping P) stopping
  cthen_stop = (to, of)
    where
      to : Within (CThen stopping P) stopping
      to z (stays h n) = (h, sets_self _)
      to z (enters h k e) = absurd (other done failed tt (ap closing_of h))

      of : Within stopping (CThen stopping P)
      of (tr s w) h = (stays h (λ d. other failed done tt (sym (ap closing_of h) ∙ d)), sets_self _)

  pub cbeside_unit : SamePairs (CBeside none nothing P) P
  cbeside_unit = (to, λ z h. (beside refl h (par_unit_in z), sets_flip beside_unit))
    where
      to : Within (CBeside none nothing P) P
      to z (beside {x} {y} h k m) =
          let n = moved P (sym (par_unit_traces (subst (λ x. ParT none x y z) h m))) k in
          (n.0, sets_then (beside_cong (kept_none x) n.1) beside_unit)

-- Choice --------------------------------------------------------------------------------------------------------------------------

pub ceither_comm : (P Q : Pairs) → SamePairs (CEither P Q) (CEither Q P)
ceither_comm P Q = (swap P Q, swap Q P)
  where
    swap : (P Q : Pairs) → Within (CEither P Q) (CEither Q P)
    swap P Q z (inl h) = (inr h, sets_self _)
    swap P Q z (inr h) = (inl h, sets_self _)

pub ceither_self : (P : Pairs) → SamePairs (CEither P P) P
ceither_self P = (one, λ z h. (inl h, sets_self _))
  where
    one : Within (CEither P P) P
    one z (inl h) = (h, sets_self _)
    one z (inr h) = (h, sets_self _)

module _ (P Q R : Pairs) where
  pub ceither_assoc : SamePairs (CEither (CEither P Q) R) (CEither P (CEither Q R))
  ceither_assoc = (right, left)
    where
      right : Within (CEither (CEither P Q) R) (CEither P (CEither Q R))
      right z (inl (inl h)) = (inl h, sets_self _)
      right z (inl (inr h)) = (inr (inl h), sets_self _)
      right z (inr h) = (inr (inr h), sets_self _)

      left : Within (CEither P (CEither Q R)) (CEither (CEither P Q) R)
      left z (inl h) = (inl (inl h), sets_self _)
      left z (inr (inl h)) = (inl (inr h), sets_self _)
      left z (inr (inr h)) = (inr h, sets_self _)

  pub cthen_either_left : SamePairs (CThen (CEither P Q) R) (CEither (CThen P R) (CThen Q R))
  cthen_either_left = (out, back)
    where
      out : Within (CThen (CEither P Q) R) (CEither (CThen P R) (CThen Q R))
      out z (stays (inl h) n) = (inl (stays h n), sets_self _)
      out z (stays (inr h) n) = (inr (stays h n), sets_self _)
      out z (enters (inl h) k e) = (inl (enters h k e), sets_self _)
      out z (enters (inr h) k e) = (inr (enters h k e), sets_self _)

      back : Within (CEither (CThen P R) (CThen Q R)) (CThen (CEither P Q) R)
      back z (inl (stays h n)) = (stays (inl h) n, sets_self _)
      back z (inl (enters h k e)) = (enters (inl h) k e, sets_self _)
      back z (inr (stays h n)) = (stays (inr h) n, sets_self _)
      back z (inr (enters h k e)) = (enters (inr h) k e, sets_self _)

  pub cthen_either_right : SamePairs (CThen P (CEither Q R)) (CEither (CThen P Q) (CThen P R))
  cthen_either_right = (out, back)
    where
      out : Within (CThen P (CEither Q R)) (CEither (CThen P Q) (CThen P R))
      out z (stays h n) = (inl (stays h n), sets_self _)
      out z (enters h (inl k) e) = (inl (enters h k e), sets_self _)
      out z (enters h (inr k) e) = (inr (enters h k e), sets_self _)

      back : Within (CEither (CThen P Q) (CThen P R)) (CThen P (CEither Q R))
      back z (inl (stays h n)) = (stays h n, sets_self _)
      back z (inl (enters h k e)) = (enters h (inl k) e, sets_self _)
      back z (inr (stays h n)) = (stays h n, sets_self _)
      back z (inr (enters h k e)) = (enters h (inr k) e, sets_self _)

-- Parallel ------------------------------------------------------------------------------------------------------------------------

module _ (j : Joint) where
  cbeside_swap : (P Q : Pairs) → Within (CBeside j P Q) (CBeside j Q P)
  cbeside_swap P Q z (beside h k m) = (beside k h (par_comm_traces m), beside_comm)

  pub cbeside_comm : (P Q : Pairs) → SamePairs (CBeside j P Q) (CBeside j Q P)
  cbeside_comm P Q = (cbeside_swap P Q, cbeside_swap Q P)

  pub cbeside_assoc : (P Q R : Pairs) → SamePairs (CBeside j (CBeside j P Q) R) (CBeside j P (CBeside j Q R))
  cbeside_assoc P Q R = (right, left)
    where
      right : Within (CBeside j (CBeside j P Q) R) (CBeside j P (CBeside j Q R))
      right z (beside (beside h k m) l n) = let q = par_assoc_right m n in (beside h (beside k l q.1) q.2, beside_assoc)

      left : Within (CBeside j P (CBeside j Q R)) (CBeside j (CBeside j P Q) R)
      left z (beside h (beside k l m) n) = let q = par_assoc_left m n in (beside (beside h k q.1) l q.2, sets_flip beside_assoc)

  pub cbeside_either_left : (P Q R : Pairs) → SamePairs (CBeside j (CEither P Q) R) (CEither (CBeside j P R) (CBeside j Q R))
  cbeside_either_left P Q R = (out, back)
    where
      out : Within (CBeside j (CEither P Q) R) (CEither (CBeside j P R) (CBeside j Q R))
      out z (beside (inl h) k m) = (inl (beside h k m), sets_self _)
      out z (beside (inr h) k m) = (inr (beside h k m), sets_self _)

      back : Within (CEither (CBeside j P R) (CBeside j Q R)) (CBeside j (CEither P Q) R)
      back z (inl (beside h k m)) = (beside (inl h) k m, sets_self _)
      back z (inr (beside h k m)) = (beside (inr h) k m, sets_self _)

  pub cbeside_either_right : (P Q R : Pairs) → SamePairs (CBeside j P (CEither Q R)) (CEither (CBeside j P Q) (CBeside j P R))
  cbeside_either_right P Q R = pairs_then (cbeside_comm P (CEither Q R)) (pairs_then (cbeside_either_left Q R P) (ceither_cong (cbeside_comm Q P) (cbeside_comm R P)))
