-- The laws of demand 3 keep the traces, for all flows and with any sets of joint events: `same_traces` and `csame_pairs`. What both sorts
-- have is proved once, over sets of pairs (`law_pairs`): a standard part's traces are pairs that keep nothing. Assumes nothing.
use Rattle.std.specs.Prelude.{◌≡◌, refl, ◌⊎◌, ◌↔◌, []}
use Rattle.std.proofs.Common.{sym, ◌∙◌, ap, subst, inl, inr}
use Rattle.calculus.specs.Term.{done, withdrawn, failed, Joint, Std, Cmp, skip, throw, ev, seq, alt, par, cseq, calt, cpar, skipp, throww, yieldd}
use Rattle.calculus.specs.Traces.{Trace, tr, Traces, Pairs, onto, only, Then, stays, enters, Paired, CThen, CEither, CBeside, Blocked, closed, undone, SamePairs, Tr, CTr}
use Rattle.calculus.proofs.Members.{other}
use Rattle.calculus.proofs.SetLaws.{SameSets, sets_self, sets_flip, sets_then, pairs_self, pairs_flip, pairs_then, then_cong, beside_cong, either_cong, blocked_cong, paired_cong, cthen_cong, ceither_cong, cbeside_cong}
use Rattle.calculus.proofs.TraceLaws.{events_of, closing_of, onto_nothing, then_assoc, then_unit_left, then_unit_right, then_stop}
use Rattle.calculus.proofs.PairLaws.{Alone, nothing, stopping, kept_none, alone_same, alone_then, alone_either, alone_beside, cthen_assoc, cthen_unit_left, cthen_unit_right, cthen_stop, ceither_comm, ceither_assoc, ceither_self, cbeside_comm, cbeside_assoc, cbeside_unit, cthen_either_left, cthen_either_right, cbeside_either_left, cbeside_either_right}
use Rattle.calculus.specs.Laws.{Law, Same, CSame, seq_assoc, seq_unit_left, seq_unit_right, seq_throw, alt_comm, alt_assoc, alt_self, par_comm, par_assoc, par_unit, seq_alt_left, seq_alt_right, par_alt_left, par_alt_right, same, flip, then, in_seq, in_alt, in_par, in_hnd, in_blk, law, hnd_assoc, hnd_throw_right, hnd_throw_left, hnd_skip, blk_skipp, blk_throww, blk_yieldd, blk_calt, blk_throws, csame, cflip, cthen, in_pair, in_cseq, in_calt, in_cpar, claw}

-- The laws that both sorts have ---------------------------------------------------------------------------------------------------

-- how a sort's parts mean sets of pairs: each of its operations means the one on sets
record Meaning {P : Type 0} (skip throw : P) (seq alt : P → P → P) (par : Joint → P → P → P) (In : P → Pairs) : Type 0 where
  skip_in : SamePairs (In skip) nothing
  throw_in : SamePairs (In throw) stopping
  seq_in : (p q : P) → SamePairs (In (seq p q)) (CThen (In p) (In q))
  alt_in : (p q : P) → SamePairs (In (alt p q)) (CEither (In p) (In q))
  par_in : (j : Joint) (p q : P) → SamePairs (In (par j p q)) (CBeside j (In p) (In q))

std_meaning : Meaning skip throw seq alt par (λ p. Alone (λ z. Tr p z))
std_meaning = record {
  skip_in = pairs_self nothing;
  throw_in = pairs_self stopping;
  seq_in = λ p q. alone_then (λ z. Tr p z) (λ z. Tr q z);
  alt_in = λ p q. alone_either (λ z. Tr p z) (λ z. Tr q z);
  par_in = λ j p q. alone_beside (λ z. Tr p z) (λ z. Tr q z) j;
}

cmp_meaning : Meaning skipp throww cseq calt cpar CTr
cmp_meaning = record {
  skip_in = pairs_self nothing;
  throw_in = pairs_self stopping;
  seq_in = λ p q. pairs_self (CThen (CTr p) (CTr q));
  alt_in = λ p q. pairs_self (CEither (CTr p) (CTr q));
  par_in = λ j p q. pairs_self (CBeside j (CTr p) (CTr q));
}

-- the same by what each of the two is the same as
between : {P P' Q Q' : Pairs} → SamePairs P P' → SamePairs Q Q' → SamePairs P' Q' → SamePairs P Q
between f g h = pairs_then f (pairs_then h (pairs_flip g))

module _ {P : Type 0} {skip throw : P} {seq alt : P → P → P} {par : Joint → P → P → P} {In : P → Pairs} (m : Meaning skip throw seq alt par In) where
  self : (p : P) → SamePairs (In p) (In p)
  self p = pairs_self (In p)

  made_seq : {p q : P} {S U : Pairs} → SamePairs (In p) S → SamePairs (In q) U → SamePairs (In (seq p q)) (CThen S U)
  made_seq {p} {q} f g = pairs_then (m.seq_in p q) (cthen_cong f g)

  made_alt : {p q : P} {S U : Pairs} → SamePairs (In p) S → SamePairs (In q) U → SamePairs (In (alt p q)) (CEither S U)
  made_alt {p} {q} f g = pairs_then (m.alt_in p q) (ceither_cong f g)

  made_par : {j : Joint} {p q : P} {S U : Pairs} → SamePairs (In p) S → SamePairs (In q) U → SamePairs (In (par j p q)) (CBeside j S U)
  made_par {j} {p} {q} f g = pairs_then (m.par_in j p q) (cbeside_cong f g)

  law_pairs : {p q : P} → Law skip throw seq alt par p q → SamePairs (In p) (In q)
  law_pairs (seq_assoc {p} {q} {r}) = between (made_seq (m.seq_in p q) (self r)) (made_seq (self p) (m.seq_in q r)) (cthen_assoc (In p) (In q) (In r))
  law_pairs (seq_unit_left {p}) = pairs_then (made_seq m.skip_in (self p)) (cthen_unit_left (In p))
  law_pairs (seq_unit_right {p}) = pairs_then (made_seq (self p) m.skip_in) (cthen_unit_right (In p))
  law_pairs (seq_throw {p}) = between (made_seq m.throw_in (self p)) m.throw_in (cthen_stop (In p))
  law_pairs (alt_comm {p} {q}) = between (m.alt_in p q) (m.alt_in q p) (ceither_comm (In p) (In q))
  law_pairs (alt_assoc {p} {q} {r}) = between (made_alt (m.alt_in p q) (self r)) (made_alt (self p) (m.alt_in q r)) (ceither_assoc (In p) (In q) (In r))
  law_pairs (alt_self {p}) = pairs_then (m.alt_in p p) (ceither_self (In p))
  law_pairs (par_comm {j} {p} {q}) = between (m.par_in j p q) (m.par_in j q p) (cbeside_comm j (In p) (In q))
  law_pairs (par_assoc {j} {p} {q} {r}) = between (made_par (m.par_in j p q) (self r)) (made_par (self p) (m.par_in j q r)) (cbeside_assoc j (In p) (In q) (In r))
  law_pairs (par_unit {p}) = pairs_then (made_par m.skip_in (self p)) (cbeside_unit (In p))
  law_pairs (seq_alt_left {p} {q} {r}) = between (made_seq (m.alt_in p q) (self r)) (made_alt (m.seq_in p r) (m.seq_in q r)) (cthen_either_left (In p) (In q) (In r))
  law_pairs (seq_alt_right {p} {q} {r}) = between (made_seq (self p) (m.alt_in q r)) (made_alt (m.seq_in p q) (m.seq_in p r)) (cthen_either_right (In p) (In q) (In r))
  law_pairs (par_alt_left {j} {p} {q} {r}) = between (made_par (m.alt_in p q) (self r)) (made_alt (m.par_in j p r) (m.par_in j q r)) (cbeside_either_left j (In p) (In q) (In r))
  law_pairs (par_alt_right {j} {p} {q} {r}) = between (made_par (self p) (m.alt_in q r)) (made_alt (m.par_in j p q) (m.par_in j p r)) (cbeside_either_right j (In p) (In q) (In r))

-- Blocks ----------------------------------------------------------------------------------------------------------------------------

skipp_block : SameSets (Blocked nothing) (only (tr [] done))
skipp_block z = (one, λ e. subst (Blocked nothing) (sym e) (closed refl))
  where
    one : {z : Trace} → Blocked nothing z → z ≡ tr [] done
    one (closed h) = h
    one (undone h k e) = absurd (other failed done tt (ap closing_of h))

throww_block : SameSets (Blocked stopping) (only (tr [] done))
throww_block z = (one, λ e. undone refl refl e)
  where
    one : {z : Trace} → Blocked stopping z → z ≡ tr [] done
    one (closed h) = absurd (other done failed tt (ap closing_of h))
    one (undone {s} h k e) = e ∙ ap (onto s) k ∙ ap (λ x. onto (events_of x) (tr [] done)) h

yieldd_block : SameSets (Blocked (CTr yieldd)) (only (tr [] done))
yieldd_block z = (one, λ e. subst (Blocked (CTr yieldd)) (sym e) (closed (inr refl)))
  where
    one : {z : Trace} → Blocked (CTr yieldd) z → z ≡ tr [] done
    one (closed (inl h)) = absurd (other done withdrawn tt (ap closing_of h))
    one (closed (inr h)) = h
    one (undone (inl h) k e) = absurd (other failed withdrawn tt (ap closing_of h))
    one (undone (inr h) k e) = absurd (other failed done tt (ap closing_of h))

either_block : (P Q : Pairs) → SameSets (Blocked (CEither P Q)) (λ z. Blocked P z ⊎ Blocked Q z)
either_block P Q z = (out, back)
  where
    out : {z : Trace} → Blocked (CEither P Q) z → Blocked P z ⊎ Blocked Q z
    out (closed (inl h)) = inl (closed h)
    out (closed (inr h)) = inr (closed h)
    out (undone (inl h) k e) = inl (undone h k e)
    out (undone (inr h) k e) = inr (undone h k e)

    back : {z : Trace} → Blocked P z ⊎ Blocked Q z → Blocked (CEither P Q) z
    back (inl (closed h)) = closed (inl h)
    back (inl (undone h k e)) = undone (inl h) k e
    back (inr (closed h)) = closed (inr h)
    back (inr (undone h k e)) = undone (inr h) k e

-- what always ends done and is then undone is followed by its compensation
throws_block : (P Q : Traces) → ((x : Trace) → P x → closing_of x ≡ done) → SameSets (Blocked (CThen (Paired P Q) stopping)) (Then done P Q)
throws_block P Q ends z = (one, two)
  where
    one : {z : Trace} → Blocked (CThen (Paired P Q) stopping) z → Then done P Q z
    one (closed (stays h n)) = absurd (n refl)
    one (closed (enters {s} h k e)) = absurd (other done failed tt (ap closing_of (e ∙ ap (onto s) k)))
    one (undone {s} (stays h n) u e) = absurd (other failed done tt (ends (tr s failed) h))
    one (undone {y} (enters {s} {y = x} h k f) u e) =
        let back : Q y = (sets_then (then_cong (kept_none x) (sets_self Q)) then_unit_left y).0 u in
        enters h back (e ∙ ap (λ x. onto (events_of x) y) (f ∙ ap (onto s) k ∙ onto_nothing s failed))

    two : {z : Trace} → Then done P Q z → Blocked (CThen (Paired P Q) stopping) z
    two (stays {s} {w} h n) = absurd (n (ends (tr s w) h))
    two (enters {s} {y} h k e) = undone (enters h refl (sym (onto_nothing s failed))) ((then_unit_left y).1 k) e

-- Every law -----------------------------------------------------------------------------------------------------------------------

mutual
  pub same_traces : {p q : Std} → Same p q → (z : Trace) → Tr p z ↔ Tr q z
  same_traces (same {p}) z = sets_self (λ x. Tr p x) z
  same_traces (flip h) z = sets_flip (λ x. same_traces h x) z
  same_traces (then h k) z = sets_then (λ x. same_traces h x) (λ x. same_traces k x) z
  same_traces (in_seq h k) z = then_cong (λ x. same_traces h x) (λ y. same_traces k y) z
  same_traces (in_alt h k) z = either_cong (λ x. same_traces h x) (λ y. same_traces k y) z
  same_traces (in_par h k) z = beside_cong (λ x. same_traces h x) (λ y. same_traces k y) z
  same_traces (in_hnd h k) z = then_cong (λ x. same_traces h x) (λ y. same_traces k y) z
  same_traces (in_blk h) z = blocked_cong (csame_pairs h) z
  same_traces (law h) z = alone_same (law_pairs std_meaning h) z
  same_traces hnd_assoc z = then_assoc z
  same_traces hnd_throw_right z = then_unit_right z
  same_traces hnd_throw_left z = then_unit_left z
  same_traces hnd_skip z = then_stop (other done failed tt) z
  same_traces blk_skipp z = skipp_block z
  same_traces blk_throww z = throww_block z
  same_traces blk_yieldd z = yieldd_block z
  same_traces (blk_calt {pp} {qq}) z = either_block (CTr pp) (CTr qq) z
  same_traces (blk_throws {l} {q}) z = throws_block (λ x. Tr (ev l) x) (λ y. Tr q y) (λ x h. ap closing_of h.2) z

  pub csame_pairs : {p q : Cmp} → CSame p q → SamePairs (CTr p) (CTr q)
  csame_pairs (csame {pp}) = pairs_self (CTr pp)
  csame_pairs (cflip h) = pairs_flip (csame_pairs h)
  csame_pairs (cthen h k) = pairs_then (csame_pairs h) (csame_pairs k)
  csame_pairs (in_pair h k) = paired_cong (λ x. same_traces h x) (λ y. same_traces k y)
  csame_pairs (in_cseq h k) = cthen_cong (csame_pairs h) (csame_pairs k)
  csame_pairs (in_calt h k) = ceither_cong (csame_pairs h) (csame_pairs k)
  csame_pairs (in_cpar h k) = cbeside_cong (csame_pairs h) (csame_pairs k)
  csame_pairs (claw h) = law_pairs cmp_meaning h
