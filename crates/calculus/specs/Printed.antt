-- The trace semantics as the figures print it: Fig. 1 of 000 for standard parts, Fig. 3 of 001 for compensable ones, without 001's
-- partial behaviours and without its extra pair trace (01, "What is built"). A trace of the second part is always drawn, also where the
-- run does not enter it, and a compensable trace is a pair of two traces. What two traces make together is a function or a relation on
-- single traces; a part means the set that `lift` makes of its parts' sets. Definitions only; PrintedTraces proves that for flows free
-- of joint events these are the traces. Assumes nothing.
use Rattle.std.specs.Prelude.{ℕ, ◌≡◌, ◌⊎◌, cond, List, [], ◌∷◌, T}
use Rattle.calculus.specs.Term.{Closing, done, withdrawn, failed, eqc, Joint, Std, Cmp, skip, throw, yield, ev, seq, alt, par, hnd, blk, pair, cseq, calt, cpar, held}
use Rattle.calculus.specs.Traces.{Trace, tr, onto, ParT}
use Rattle.calculus.specs.Records.{Record, State, over, std, cmp, standard, compensable}

-- What single traces make together -------------------------------------------------------------------------------------------

-- a compensable trace: a forward trace and a compensation trace
pub data CTrace : Type 0 where
  ct : Trace → Trace → CTrace

-- p ; q goes on by q after ✓, p ▷ q after !: u is that closing
abbrev pub on_t : Closing → Trace → Trace → Trace
on_t u (tr s w) y = cond (eqc w u) (onto s y) (tr s w)

-- p ÷ q
abbrev pub pair_t : Trace → Trace → CTrace
pair_t (tr s w) y = ct (tr s w) (cond (eqc w done) y (tr [] done))

-- (p, p') ; (q, q')
abbrev pub cthen_t : CTrace → CTrace → CTrace
cthen_t (ct (tr s w) x) (ct y z) = cond (eqc w done) (ct (onto s y) (on_t done z x)) (ct (tr s w) x)

-- ⟨(q, q'), r⟩, for 002's auxiliary term
abbrev pub held_t : CTrace → Trace → CTrace
held_t (ct y z) x = ct y (on_t done z x)

-- after the figure in 001: forward traces combine with forward ones, compensation traces with compensation ones
pub data CParT (j : Joint) : CTrace → CTrace → CTrace → Type 0 where
  both : {x x' y y' z z' : Trace} → ParT j x y z → ParT j x' y' z' → CParT j (ct x x') (ct y y') (ct z z')

-- [PP]: a failed forward trace is followed by its compensation, a done one forgets it, a withdrawn one gives nothing
pub data BlkT : CTrace → Trace → Type 0 where
  undoes : {s : List ℕ} {y z : Trace} → z ≡ onto s y → BlkT (ct (tr s failed) y) z
  forgets : {s : List ℕ} {y : Trace} → BlkT (ct (tr s done) y) (tr s done)

-- The traces of a part -------------------------------------------------------------------------------------------------------

-- a set of A and one of B, put together by R
module _ {A B C : Type 0} where
  abbrev pub lift : (A → B → C → Type 0) → (A → Type 0) → (B → Type 0) → C → Type 0
  lift R P Q z = (x : A) × (y : B) × P x × Q y × R x y z

  -- the same for a function
  abbrev pub by : (A → B → C) → A → B → C → Type 0
  by f x y z = z ≡ f x y

abbrev mutual
  pub Prints : Std → Trace → Type 0
  Prints skip z = z ≡ tr [] done
  Prints throw z = z ≡ tr [] failed
  Prints yield z = (z ≡ tr [] withdrawn) ⊎ (z ≡ tr [] done)
  Prints (ev l) z = (a : ℕ) × T (l.takes a) × (z ≡ tr (a ∷ []) done)
  Prints (seq p q) z = lift (by (on_t done)) (λ x. Prints p x) (λ y. Prints q y) z
  Prints (alt p q) z = Prints p z ⊎ Prints q z
  Prints (par j p q) z = lift (ParT j) (λ x. Prints p x) (λ y. Prints q y) z
  Prints (hnd p q) z = lift (by (on_t failed)) (λ x. Prints p x) (λ y. Prints q y) z
  Prints (blk pp) z = (x : CTrace) × CPrints pp x × BlkT x z

  pub CPrints : Cmp → CTrace → Type 0
  CPrints (pair p q) z = lift (by pair_t) (λ x. Prints p x) (λ y. Prints q y) z
  CPrints (cseq pp qq) z = lift (by cthen_t) (λ x. CPrints pp x) (λ y. CPrints qq y) z
  CPrints (calt pp qq) z = CPrints pp z ⊎ CPrints qq z
  CPrints (cpar j pp qq) z = lift (CParT j) (λ x. CPrints pp x) (λ y. CPrints qq y) z
  CPrints (held qq r) z = lift (by held_t) (λ x. CPrints qq x) (λ y. Prints r y) z

-- the records are a trace of the figures
abbrev pub InPrinted : State → List Record → Type 0
InPrinted over rs = rs ≡ []
InPrinted (std p) rs = (s : List ℕ) × (w : Closing) × (rs ≡ standard s w) × Prints p (tr s w)
InPrinted (cmp pp) rs = (s : List ℕ) × (w : Closing) × (t : List ℕ) × (v : Closing) × (rs ≡ compensable s w t v) × CPrints pp (ct (tr s w) (tr t v))
