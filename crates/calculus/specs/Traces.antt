-- The trace semantics, for flows that may get stuck. 02, Four: "a trace of a second part is asked for only where the run enters it, and
-- a compensation is kept as the set of its traces, perhaps empty". Standard parts after Fig. 1 of 000, compensable ones after Fig. 3 of
-- 001, without 001's partial behaviours and without its extra pair trace (01, "What is built"). A part's set is made of its parts' sets
-- by an operation on sets. Definitions only; that these are the traces as the figures print them, where nothing is joint, is in
-- PrintedTraces. Assumes nothing.
use Rattle.std.specs.Prelude.{ℕ, ◌≡◌, ◌≢◌, ◌⊎◌, ◌↔◌, true, false, List, [], ◌∷◌, ◌++◌, T}
use Rattle.std.proofs.Common.{inl, inr}
use Rattle.calculus.specs.Term.{Closing, done, withdrawn, failed, Joint, Std, Cmp, skip, throw, yield, ev, seq, alt, par, hnd, blk, pair, cseq, calt, cpar, held, join}

-- Traces and sets of them -----------------------------------------------------------------------------------------------

-- events and a closing
pub data Trace : Type 0 where
  tr : List ℕ → Closing → Trace

abbrev pub Traces : Type 1
Traces = Trace → Type 0

-- A set of pairs, a forward trace and the set of compensation traces that is kept then, perhaps empty: for each forward trace the ways
-- in which it comes about, and for each of them what is kept.
pub record Pairs : Type 1 where
  pub way : Traces
  pub undo : (x : Trace) → way x → Traces

-- events put before a trace
abbrev pub onto : List ℕ → Trace → Trace
onto s (tr t v) = tr (s ++ t) v

-- Operations on sets ----------------------------------------------------------------------------------------------------

-- the one trace x
abbrev pub only : Trace → Traces
only x z = z ≡ x

-- P ; Q goes on by Q after ✓, P ▷ Q after !: u is that closing
pub data Then (u : Closing) (P Q : Traces) : Trace → Type 0 where
  stays : {s : List ℕ} {w : Closing} → P (tr s w) → w ≢ u → Then u P Q (tr s w)
  enters : {s : List ℕ} {y z : Trace} → P (tr s u) → Q y → z ≡ onto s y → Then u P Q z

-- r is made of s and t: joint events are the same in both and stand once, all others interleave (001, "Extended trace semantics")
pub data Mix (j : Joint) : List ℕ → List ℕ → List ℕ → Type 0 where
  mix_none : Mix j [] [] []
  mix_left : {a : ℕ} {s t r : List ℕ} → j a ≡ false → Mix j s t r → Mix j (a ∷ s) t (a ∷ r)
  mix_right : {a : ℕ} {s t r : List ℕ} → j a ≡ false → Mix j s t r → Mix j s (a ∷ t) (a ∷ r)
  mix_both : {a : ℕ} {s t r : List ℕ} → j a ≡ true → Mix j s t r → Mix j (a ∷ s) (a ∷ t) (a ∷ r)

-- z ∈ (x ∥ y): the events are mixed and the closings join
pub data ParT (j : Joint) : Trace → Trace → Trace → Type 0 where
  mixed : {s t r : List ℕ} {w v u : Closing} → Mix j s t r → u ≡ join w v → ParT j (tr s w) (tr t v) (tr r u)

-- P ∥ Q
pub data Beside (j : Joint) (P Q : Traces) : Trace → Type 0 where
  beside : {x y z : Trace} → P x → Q y → ParT j x y z → Beside j P Q z

-- Operations on sets of pairs -------------------------------------------------------------------------------------------

-- P ÷ Q keeps Q after ✓, and after ! or ? nothing is to be done
abbrev pub kept_by : Traces → Trace → Traces
kept_by Q (tr s done) = Q
kept_by Q (tr s withdrawn) = only (tr [] done)
kept_by Q (tr s failed) = only (tr [] done)

abbrev pub Paired : Traces → Traces → Pairs
Paired P Q = record { way = P; undo = λ x h. kept_by Q x }

-- PP ; QQ that ends within PP keeps PP's; else QQ's first and then PP's
abbrev pub then_undo : (P Q : Pairs) (z : Trace) → Then done P.way Q.way z → Traces
then_undo P Q z (stays {s} {w} h n) = P.undo (tr s w) h
then_undo P Q z (enters {s} {y} h k e) = Then done (Q.undo y k) (P.undo (tr s done) h)

abbrev pub CThen : Pairs → Pairs → Pairs
CThen P Q = record { way = Then done P.way Q.way; undo = then_undo P Q }

-- a choice keeps what the taken side does
abbrev pub either_undo : (P Q : Pairs) (z : Trace) → P.way z ⊎ Q.way z → Traces
either_undo P Q z (inl h) = P.undo z h
either_undo P Q z (inr h) = Q.undo z h

abbrev pub CEither : Pairs → Pairs → Pairs
CEither P Q = record { way = λ z. P.way z ⊎ Q.way z; undo = either_undo P Q }

-- PP ∥ QQ: forward traces with forward ones, and what is kept with what is kept, with the same set
abbrev pub beside_undo : (j : Joint) (P Q : Pairs) (z : Trace) → Beside j P.way Q.way z → Traces
beside_undo j P Q z (beside {x} {y} h k m) = Beside j (P.undo x h) (Q.undo y k)

abbrev pub CBeside : Joint → Pairs → Pairs → Pairs
CBeside j P Q = record { way = Beside j P.way Q.way; undo = beside_undo j P Q }

-- ⟨QQ, R⟩, for 002's auxiliary term
abbrev pub Holding : Pairs → Traces → Pairs
Holding Q R = record { way = Q.way; undo = λ x h. Then done (Q.undo x h) R }

-- [PP]: a failed forward trace is followed by a trace that is kept, a done one forgets them, a withdrawn one gives nothing
pub data Blocked (P : Pairs) : Trace → Type 0 where
  closed : {s : List ℕ} → P.way (tr s done) → Blocked P (tr s done)
  undone : {s : List ℕ} {y z : Trace} (h : P.way (tr s failed)) → P.undo (tr s failed) h y → z ≡ onto s y → Blocked P z

-- The traces of a part --------------------------------------------------------------------------------------------------

abbrev mutual
  pub Tr : Std → Traces
  Tr skip z = z ≡ tr [] done
  Tr throw z = z ≡ tr [] failed
  Tr yield z = (z ≡ tr [] withdrawn) ⊎ (z ≡ tr [] done)
  Tr (ev l) z = (a : ℕ) × T (l.takes a) × (z ≡ tr (a ∷ []) done)
  Tr (seq p q) z = Then done (λ x. Tr p x) (λ y. Tr q y) z
  Tr (alt p q) z = Tr p z ⊎ Tr q z
  Tr (par j p q) z = Beside j (λ x. Tr p x) (λ y. Tr q y) z
  Tr (hnd p q) z = Then failed (λ x. Tr p x) (λ y. Tr q y) z
  Tr (blk pp) z = Blocked (CTr pp) z

  pub CTr : Cmp → Pairs
  CTr (pair p q) = Paired (λ x. Tr p x) (λ y. Tr q y)
  CTr (cseq pp qq) = CThen (CTr pp) (CTr qq)
  CTr (calt pp qq) = CEither (CTr pp) (CTr qq)
  CTr (cpar j pp qq) = CBeside j (CTr pp) (CTr qq)
  CTr (held qq r) = Holding (CTr qq) (λ y. Tr r y)

-- Two sets of pairs are the same -----------------------------------------------------------------------------------------

-- each pair of P has one of Q with the same forward trace and the same set, member by member
abbrev pub Within : Pairs → Pairs → Type 0
Within P Q = (x : Trace) (h : P.way x) → (k : Q.way x) × ((y : Trace) → P.undo x h y ↔ Q.undo x k y)

abbrev pub SamePairs : Pairs → Pairs → Type 0
SamePairs P Q = Within P Q × Within Q P
