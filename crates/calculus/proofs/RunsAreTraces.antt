-- The runs of a term are its traces (`runs_are_traces`, `cruns_are_traces`), for all flows, also those that get stuck. For each way of
-- making a part of parts the runs of the whole are what the operation of Traces makes of the runs of the parts (`then_runs` .. for
-- standard parts, `cthen_runs` .. for compensable ones); the rest is recursion on terms. Assumes nothing.
use Rattle.std.specs.Prelude.{ℕ, ◌≡◌, refl, ◌≢◌, ◌⊎◌, ◌↔◌, true, false, List, [], ◌∷◌, ◌++◌}
use Rattle.std.proofs.Common.{sym, ◌∙◌, ap, subst, inl, inr}
use Rattle.calculus.specs.Term.{Closing, done, withdrawn, failed, Leaf, Joint, Std, Cmp, skip, throw, yield, ev, seq, alt, par, hnd, blk, pair, cseq, calt, cpar, held, join}
use Rattle.calculus.specs.Rules.{End, Step, CStep, Run, closes, goes, Fwd, ccloses, cgoes, CRun, skip_ends, throw_ends, yield_ends, yield_yields, alt_left, alt_right, par_joins, blk_ends, blk_undoes, pair_ends, pair_stops, cseq_stops, cseq_on, held_ends, calt_left, calt_right, cpar_joins, ev_step, alt_first, alt_second, par_first, par_second, par_both, blk_first, blk_second, pair_step, cseq_first, cseq_second, held_step, calt_first, calt_second, cpar_first, cpar_second, cpar_both}
use Rattle.calculus.proofs.Members.{other}
use Rattle.calculus.proofs.Onward.{Onward, seq_onward, hnd_onward}
use Rattle.calculus.specs.Traces.{Trace, tr, Traces, Pairs, onto, only, Then, stays, enters, Mix, mix_none, mix_left, mix_right, mix_both, ParT, mixed, Beside, beside, kept_by, Paired, then_undo, CThen, CEither, CBeside, Holding, Blocked, closed, undone, Tr, CTr, Within, SamePairs}
use Rattle.calculus.proofs.SetLaws.{SameSets, sets_self, sets_flip, sets_then, pairs_flip, pairs_then, then_cong, beside_cong, either_cong, blocked_cong, paired_cong, cthen_cong, ceither_cong, cbeside_cong, holding_cong}

-- Runs as sets ------------------------------------------------------------------------------------------------------------

abbrev pub Runs : Std → Traces
Runs p (tr s w) = Run p s w

-- a forward run, and the compensation that it leaves
abbrev pub Ways : Cmp → Traces
Ways pp (tr s w) = (k : Std) × Fwd pp s w k

abbrev pub left_by : (pp : Cmp) (x : Trace) → Ways pp x → Std
left_by pp (tr s w) h = h.0

-- what is left stands for the set of its runs
abbrev pub CRuns : Cmp → Pairs
CRuns pp = record { way = Ways pp; undo = λ x h. Runs (left_by pp x h) }

-- the set of pairs has one with the forward trace x and the set R
abbrev Has : Pairs → Trace → Traces → Type 0
Has P x R = (h : P.way x) × SameSets R (P.undo x h)

-- one event before a trace
abbrev pre : ℕ → Trace → Trace
pre a (tr s w) = tr (a ∷ s) w

pre_onto : (a : ℕ) (s : List ℕ) (y : Trace) → pre a (onto s y) ≡ onto (a ∷ s) y
pre_onto a s (tr t v) = refl

-- P may begin with a and go on as P'
abbrev Begins : ℕ → Traces → Traces → Type 0
Begins a P P' = (x : Trace) → P' x → P (pre a x)

begins : {p p' : Std} {a : ℕ} → Step p a p' → Begins a (Runs p) (Runs p')
begins h (tr s w) r = goes h r

-- ; and ▷ -----------------------------------------------------------------------------------------------------------------

module _ {op : Std → Std → Std} {u : Closing} (o : Onward op u) where
  run_on : {p q : Std} {s t : List ℕ} {v : Closing} → Run p s u → Run q t v → Run (op p q) (s ++ t) v
  run_on (closes e) (closes f) = closes (o.on e f)
  run_on (closes e) (goes h r) = goes (o.second e h) r
  run_on (goes h r) k = goes (o.first h) (run_on r k)

  run_stop : {p q : Std} {s : List ℕ} {w : Closing} → w ≢ u → Run p s w → Run (op p q) s w
  run_stop n (closes e) = closes (o.stops e n)
  run_stop n (goes h r) = goes (o.first h) (run_stop n r)

  then_run : {p q : Std} {z : Trace} → Then u (Runs p) (Runs q) z → Runs (op p q) z
  then_run (stays r n) = run_stop n r
  then_run {p} {q} (enters {s} {y} r k e) = subst (Runs (op p q)) (sym e) (at y k)
    where
      at : (y : Trace) → Runs q y → Runs (op p q) (onto s y)
      at (tr t v) k = run_on r k

  -- a step of the first part before a run
  then_pre : {p p' q : Std} {a : ℕ} → Step p a p' → Begins a (Then u (Runs p) (Runs q)) (Then u (Runs p') (Runs q))
  then_pre h z (stays r n) = stays (goes h r) n
  then_pre {a} h z (enters {s} {y} r k e) = enters {y = y} (goes h r) k (ap (pre a) e ∙ pre_onto a s y)

  run_then : {p q r : Std} {s : List ℕ} {w : Closing} → r ≡ op p q → Run r s w → Then u (Runs p) (Runs q) (tr s w)
  run_then {p} {q} i (closes {w} e) = by (o.ends_as (subst (λ r. End r w) i e))
    where
      by : (End p w × (w ≢ u)) ⊎ (End p u × End q w) → Then u (Runs p) (Runs q) (tr [] w)
      by (inl c) = stays (closes c.0) c.1
      by (inr c) = enters {y = tr [] w} (closes c.0) (closes c.1) refl
  run_then {p} {q} i (goes {p' = r'} {a} {s} {w} h r) = by (λ p' k. run_then k r) (o.steps_as (subst (λ r. Step r a r') i h))
    where
      by : ((p' : Std) → r' ≡ op p' q → Then u (Runs p') (Runs q) (tr s w)) → ((p' : Std) × Step p a p' × (op p' q ≡ r')) ⊎ (End p u × Step q a r') → Then u (Runs p) (Runs q) (tr (a ∷ s) w)
      by below (inl c) = then_pre c.1 (tr s w) (below c.0 (sym c.2))
      by below (inr c) = enters {y = tr (a ∷ s) w} (closes c.0) (goes c.1 r) refl

  pub then_runs : (p q : Std) → SameSets (Then u (Runs p) (Runs q)) (Runs (op p q))
  then_runs p q (tr s w) = (λ h. then_run h, λ r. run_then refl r)

-- A choice ----------------------------------------------------------------------------------------------------------------

pub either_runs : (p q : Std) (z : Trace) → (Runs p z ⊎ Runs q z) ↔ Runs (alt p q) z
either_runs p q (tr s w) = (λ h. make h, λ r. take r)
  where
    make : {s : List ℕ} {w : Closing} → Run p s w ⊎ Run q s w → Run (alt p q) s w
    make (inl (closes e)) = closes (alt_left e)
    make (inl (goes h r)) = goes (alt_first h) r
    make (inr (closes e)) = closes (alt_right e)
    make (inr (goes h r)) = goes (alt_second h) r

    take : {s : List ℕ} {w : Closing} → Run (alt p q) s w → Run p s w ⊎ Run q s w
    take (closes (alt_left e)) = inl (closes e)
    take (closes (alt_right e)) = inr (closes e)
    take (goes (alt_first h) r) = inl (goes h r)
    take (goes (alt_second h) r) = inr (goes h r)

-- Parallel ----------------------------------------------------------------------------------------------------------------

-- an event of one side, or of both, before mixed traces
module _ (j : Joint) (a : ℕ) where
  beside_left : {P P' Q : Traces} → j a ≡ false → Begins a P P' → Begins a (Beside j P Q) (Beside j P' Q)
  beside_left n f z (beside {x} h k m) = beside (f x h) k (by m)
    where
      by : {x y z : Trace} → ParT j x y z → ParT j (pre a x) y (pre a z)
      by (mixed m e) = mixed (mix_left n m) e

  beside_right : {P Q Q' : Traces} → j a ≡ false → Begins a Q Q' → Begins a (Beside j P Q) (Beside j P Q')
  beside_right n g z (beside {y} h k m) = beside h (g y k) (by m)
    where
      by : {x y z : Trace} → ParT j x y z → ParT j x (pre a y) (pre a z)
      by (mixed m e) = mixed (mix_right n m) e

  beside_joint : {P P' Q Q' : Traces} → j a ≡ true → Begins a P P' → Begins a Q Q' → Begins a (Beside j P Q) (Beside j P' Q')
  beside_joint n f g z (beside {x} {y} h k m) = beside (f x h) (g y k) (by m)
    where
      by : {x y z : Trace} → ParT j x y z → ParT j (pre a x) (pre a y) (pre a z)
      by (mixed m e) = mixed (mix_both n m) e

run_par : {j : Joint} {p q : Std} {s t r : List ℕ} {w v u : Closing} → Mix j s t r → Run p s w → Run q t v → u ≡ join w v → Run (par j p q) r u
run_par mix_none (closes e) (closes f) i = closes (par_joins e f i)
run_par (mix_left n m) (goes h r) k i = goes (par_first n h) (run_par m r k i)
run_par (mix_right n m) r (goes h k) i = goes (par_second n h) (run_par m r k i)
run_par (mix_both n m) (goes g r) (goes h k) i = goes (par_both n g h) (run_par m r k i)

par_run : {j : Joint} {p q : Std} {s : List ℕ} {w : Closing} → Run (par j p q) s w → Beside j (Runs p) (Runs q) (tr s w)
par_run (closes (par_joins {w} {v} e f i)) = beside {x = tr [] w} {y = tr [] v} (closes e) (closes f) (mixed mix_none i)
par_run (goes {s} {w} (par_first {j} {a} n h) r) = beside_left j a n (begins h) (tr s w) (par_run r)
par_run (goes {s} {w} (par_second {j} {a} n h) r) = beside_right j a n (begins h) (tr s w) (par_run r)
par_run (goes {s} {w} (par_both {j} {a} n g h) r) = beside_joint j a n (begins g) (begins h) (tr s w) (par_run r)

pub beside_runs : (j : Joint) (p q : Std) → SameSets (Beside j (Runs p) (Runs q)) (Runs (par j p q))
beside_runs j p q (tr r u) = (λ h. by h, λ r. par_run r)
  where
    by : {z : Trace} → Beside j (Runs p) (Runs q) z → Runs (par j p q) z
    by (beside r k (mixed m i)) = run_par m r k i

-- A block -----------------------------------------------------------------------------------------------------------------

run_undo : {pp : Cmp} {k : Std} {s t : List ℕ} {v : Closing} → Fwd pp s failed k → Run k t v → Run (blk pp) (s ++ t) v
run_undo (ccloses e) (closes f) = closes (blk_undoes e f)
run_undo (ccloses e) (goes h r) = goes (blk_second e h) r
run_undo (cgoes h f) r = goes (blk_first h) (run_undo f r)

run_done : {pp : Cmp} {k : Std} {s : List ℕ} → Fwd pp s done k → Run (blk pp) s done
run_done (ccloses e) = closes (blk_ends e)
run_done (cgoes h f) = goes (blk_first h) (run_done f)

blocked_pre : {pp pp' : Cmp} {a : ℕ} → CStep pp a pp' → Begins a (Blocked (CRuns pp)) (Blocked (CRuns pp'))
blocked_pre h z (closed f) = closed (f.0, cgoes h f.1)
blocked_pre {a} h z (undone {s} {y} f r e) = undone {y = y} (f.0, cgoes h f.1) r (ap (pre a) e ∙ pre_onto a s y)

blk_run : {pp : Cmp} {s : List ℕ} {w : Closing} → Run (blk pp) s w → Blocked (CRuns pp) (tr s w)
blk_run (closes (blk_ends {k} e)) = closed (k, ccloses e)
blk_run (closes (blk_undoes {k} {w} e f)) = undone {y = tr [] w} (k, ccloses e) (closes f) refl
blk_run (goes {s} {w} (blk_first h) r) = blocked_pre h (tr s w) (blk_run r)
blk_run (goes {a} {s} {w} (blk_second {k} e h) r) = undone {y = tr (a ∷ s) w} (k, ccloses e) (goes h r) refl

pub blocked_runs : (pp : Cmp) → SameSets (Blocked (CRuns pp)) (Runs (blk pp))
blocked_runs pp (tr s w) = (λ h. by h, λ r. blk_run r)
  where
    by : {z : Trace} → Blocked (CRuns pp) z → Runs (blk pp) z
    by (closed f) = run_done f.1
    by (undone {s} {y} f r e) = subst (Runs (blk pp)) (sym e) (at y r)
      where
        at : (y : Trace) → Runs f.0 y → Runs (blk pp) (onto s y)
        at (tr t v) r = run_undo f.1 r

-- A pair ------------------------------------------------------------------------------------------------------------------

skip_run : {s : List ℕ} {w : Closing} → Run skip s w → tr s w ≡ tr [] done
skip_run (closes skip_ends) = refl
skip_run (goes step _) = elim step [ ]

skip_runs : SameSets (only (tr [] done)) (Runs skip)
skip_runs (tr s w) = (λ e. subst (Runs skip) (sym e) (closes skip_ends), λ r. skip_run r)

fwd_pair : {p q : Std} {s : List ℕ} → Run p s done → Fwd (pair p q) s done q
fwd_pair (closes e) = ccloses (pair_ends e)
fwd_pair (goes h r) = cgoes (pair_step h) (fwd_pair r)

fwd_pair_stop : {p q : Std} {s : List ℕ} {w : Closing} → w ≢ done → Run p s w → Fwd (pair p q) s w skip
fwd_pair_stop n (closes e) = ccloses (pair_stops e n)
fwd_pair_stop n (goes h r) = cgoes (pair_step h) (fwd_pair_stop n r)

pair_fwd : {p q m : Std} {s : List ℕ} {w : Closing} → Fwd (pair p q) s w m → Run p s w
pair_fwd (ccloses (pair_ends e)) = closes e
pair_fwd (ccloses (pair_stops e n)) = closes e
pair_fwd (cgoes (pair_step h) r) = goes h (pair_fwd r)

pair_keeps : {p q m : Std} {s : List ℕ} {w : Closing} → Fwd (pair p q) s w m → SameSets (Runs m) (kept_by (Runs q) (tr s w))
pair_keeps (ccloses (pair_ends {q} e)) = sets_self (Runs q)
pair_keeps (ccloses (pair_stops {q} {w} e n)) = by w n
  where
    by : (w : Closing) → w ≢ done → SameSets (Runs skip) (kept_by (Runs q) (tr [] w))
    by done n = absurd (n refl)
    by withdrawn n = sets_flip skip_runs
    by failed n = sets_flip skip_runs
pair_keeps (cgoes (pair_step h) r) = pair_keeps r

pub paired_runs : (p q : Std) → SamePairs (Paired (Runs p) (Runs q)) (CRuns (pair p q))
paired_runs p q = (λ x. make x, λ x. take x)
  where
    make : Within (Paired (Runs p) (Runs q)) (CRuns (pair p q))
    make (tr s done) r = ((q, fwd_pair r), sets_self (Runs q))
    make (tr s withdrawn) r = ((skip, fwd_pair_stop (other withdrawn done tt) r), skip_runs)
    make (tr s failed) r = ((skip, fwd_pair_stop (other failed done tt) r), skip_runs)

    take : Within (CRuns (pair p q)) (Paired (Runs p) (Runs q))
    take (tr s w) f = (pair_fwd f.1, pair_keeps f.1)

-- What holds a compensation, and ; -----------------------------------------------------------------------------------------

-- a compensation of two, the later first
then_left : {k l m : Std} → m ≡ seq l k → SameSets (Runs m) (Then done (Runs l) (Runs k))
then_left {k} {l} e = subst (λ m. SameSets (Runs m) (Then done (Runs l) (Runs k))) (sym e) (sets_flip (then_runs seq_onward l k))

fwd_held : {qq : Cmp} {k l : Std} {s : List ℕ} {w : Closing} → Fwd qq s w l → Fwd (held qq k) s w (seq l k)
fwd_held (ccloses e) = ccloses (held_ends e)
fwd_held (cgoes h f) = cgoes (held_step h) (fwd_held f)

held_fwd : {qq : Cmp} {k m : Std} {s : List ℕ} {w : Closing} → Fwd (held qq k) s w m → (l : Std) × Fwd qq s w l × (m ≡ seq l k)
held_fwd (ccloses (held_ends {l} e)) = (l, ccloses e, refl)
held_fwd (cgoes (held_step h) f) = let c = held_fwd f in (c.0, cgoes h c.1, c.2)

pub holding_runs : (qq : Cmp) (r : Std) → SamePairs (Holding (CRuns qq) (Runs r)) (CRuns (held qq r))
holding_runs qq r = (λ x. make x, λ x. take x)
  where
    make : Within (Holding (CRuns qq) (Runs r)) (CRuns (held qq r))
    make (tr s w) f = ((seq f.0 r, fwd_held f.1), then_runs seq_onward f.0 r)

    take : Within (CRuns (held qq r)) (Holding (CRuns qq) (Runs r))
    take (tr s w) f = let c = held_fwd f.1 in ((c.0, c.1), then_left c.2)

fwd_stop : {pp qq : Cmp} {k : Std} {s : List ℕ} {w : Closing} → w ≢ done → Fwd pp s w k → Fwd (cseq pp qq) s w k
fwd_stop n (ccloses e) = ccloses (cseq_stops e n)
fwd_stop n (cgoes h f) = cgoes (cseq_first h) (fwd_stop n f)

fwd_on : {pp qq : Cmp} {k l : Std} {s t : List ℕ} {w : Closing} → Fwd pp s done k → Fwd qq t w l → Fwd (cseq pp qq) (s ++ t) w (seq l k)
fwd_on (ccloses e) (ccloses f) = ccloses (cseq_on e f)
fwd_on (ccloses e) (cgoes h f) = cgoes (cseq_second e h) (fwd_held f)
fwd_on (cgoes h f) g = cgoes (cseq_first h) (fwd_on f g)

cthen_pre : {pp pp' qq : Cmp} {a : ℕ} → CStep pp a pp' → (z : Trace) (c : Then done (CRuns pp').way (CRuns qq).way z) → Has (CThen (CRuns pp) (CRuns qq)) (pre a z) (then_undo (CRuns pp') (CRuns qq) z c)
cthen_pre h z (stays f n) = (stays (f.0, cgoes h f.1) n, sets_self (Runs f.0))
cthen_pre {qq} {a} h z (enters {s} {y} f g e) = (enters {y = y} (f.0, cgoes h f.1) g (ap (pre a) e ∙ pre_onto a s y), sets_self (Then done (Runs (left_by qq y g)) (Runs f.0)))

cseq_fwd : {pp qq : Cmp} {m : Std} {s : List ℕ} {w : Closing} → Fwd (cseq pp qq) s w m → Has (CThen (CRuns pp) (CRuns qq)) (tr s w) (Runs m)
cseq_fwd (ccloses (cseq_stops {k} e n)) = (stays (k, ccloses e) n, sets_self (Runs k))
cseq_fwd (ccloses (cseq_on {w} {k} {l} e f)) = (enters {y = tr [] w} (k, ccloses e) (l, ccloses f) refl, then_left refl)
cseq_fwd (cgoes {s} {w} (cseq_first h) r) = let c = cseq_fwd r in let d = cthen_pre h (tr s w) c.0 in (d.0, sets_then c.1 d.1)
cseq_fwd (cgoes {a} {s} {w} (cseq_second {k} e h) r) = let c = held_fwd r in (enters {y = tr (a ∷ s) w} (k, ccloses e) (c.0, cgoes h c.1) refl, then_left c.2)

pub cthen_runs : (pp qq : Cmp) → SamePairs (CThen (CRuns pp) (CRuns qq)) (CRuns (cseq pp qq))
cthen_runs pp qq = (make, λ x. take x)
  where
    make : Within (CThen (CRuns pp) (CRuns qq)) (CRuns (cseq pp qq))
    make z (stays f n) = ((f.0, fwd_stop n f.1), sets_self (Runs f.0))
    make z (enters {s} {y} f g e) = subst (λ z. Has (CRuns (cseq pp qq)) z (Then done (Runs (left_by qq y g)) (Runs f.0))) (sym e) (at y g)
      where
        at : (y : Trace) (g : Ways qq y) → Has (CRuns (cseq pp qq)) (onto s y) (Then done (Runs (left_by qq y g)) (Runs f.0))
        at (tr t v) g = ((seq g.0 f.0, fwd_on f.1 g.1), then_runs seq_onward g.0 f.0)

    take : Within (CRuns (cseq pp qq)) (CThen (CRuns pp) (CRuns qq))
    take (tr s w) f = cseq_fwd f.1

-- A choice of compensable parts ---------------------------------------------------------------------------------------------

pub ceither_runs : (pp qq : Cmp) → SamePairs (CEither (CRuns pp) (CRuns qq)) (CRuns (calt pp qq))
ceither_runs pp qq = (λ x. make x, λ x. take x)
  where
    left : {k : Std} {s : List ℕ} {w : Closing} → Fwd pp s w k → Fwd (calt pp qq) s w k
    left (ccloses e) = ccloses (calt_left e)
    left (cgoes h f) = cgoes (calt_first h) f

    right : {k : Std} {s : List ℕ} {w : Closing} → Fwd qq s w k → Fwd (calt pp qq) s w k
    right (ccloses e) = ccloses (calt_right e)
    right (cgoes h f) = cgoes (calt_second h) f

    make : Within (CEither (CRuns pp) (CRuns qq)) (CRuns (calt pp qq))
    make (tr s w) (inl f) = ((f.0, left f.1), sets_self (Runs f.0))
    make (tr s w) (inr f) = ((f.0, right f.1), sets_self (Runs f.0))

    of : {k : Std} {s : List ℕ} {w : Closing} → Fwd (calt pp qq) s w k → Has (CEither (CRuns pp) (CRuns qq)) (tr s w) (Runs k)
    of (ccloses (calt_left {k} e)) = (inl (k, ccloses e), sets_self (Runs k))
    of (ccloses (calt_right {k} e)) = (inr (k, ccloses e), sets_self (Runs k))
    of (cgoes {k} (calt_first h) f) = (inl (k, cgoes h f), sets_self (Runs k))
    of (cgoes {k} (calt_second h) f) = (inr (k, cgoes h f), sets_self (Runs k))

    take : Within (CRuns (calt pp qq)) (CEither (CRuns pp) (CRuns qq))
    take (tr s w) f = of f.1

-- Compensable parts in parallel ---------------------------------------------------------------------------------------------

-- the forward runs that leave k
abbrev Leaving : Cmp → Std → Traces
Leaving pp k (tr s w) = Fwd pp s w k

cbegins : {pp pp' : Cmp} {a : ℕ} → CStep pp a pp' → (k : Std) → Begins a (Leaving pp k) (Leaving pp' k)
cbegins h k (tr s w) f = cgoes h f

fwd_par : {j : Joint} {pp qq : Cmp} {k l : Std} {s t r : List ℕ} {w v u : Closing} → Mix j s t r → Fwd pp s w k → Fwd qq t v l → u ≡ join w v → Fwd (cpar j pp qq) r u (par j k l)
fwd_par mix_none (ccloses e) (ccloses f) i = ccloses (cpar_joins e f i)
fwd_par (mix_left n m) (cgoes h f) g i = cgoes (cpar_first n h) (fwd_par m f g i)
fwd_par (mix_right n m) f (cgoes h g) i = cgoes (cpar_second n h) (fwd_par m f g i)
fwd_par (mix_both n m) (cgoes h f) (cgoes k g) i = cgoes (cpar_both n h k) (fwd_par m f g i)

cpar_fwd : {j : Joint} {pp qq : Cmp} {m : Std} {s : List ℕ} {w : Closing} → Fwd (cpar j pp qq) s w m → (k : Std) × (l : Std) × (m ≡ par j k l) × Beside j (Leaving pp k) (Leaving qq l) (tr s w)
cpar_fwd (ccloses (cpar_joins {w} {v} {k} {l} e f i)) = (k, l, refl, beside {x = tr [] w} {y = tr [] v} (ccloses e) (ccloses f) (mixed mix_none i))
cpar_fwd (cgoes {s} {w} (cpar_first {j} {a} n h) f) = let c = cpar_fwd f in (c.0, c.1, c.2, beside_left j a n (cbegins h c.0) (tr s w) c.3)
cpar_fwd (cgoes {s} {w} (cpar_second {j} {a} n h) f) = let c = cpar_fwd f in (c.0, c.1, c.2, beside_right j a n (cbegins h c.1) (tr s w) c.3)
cpar_fwd (cgoes {s} {w} (cpar_both {j} {a} n g h) f) = let c = cpar_fwd f in (c.0, c.1, c.2, beside_joint j a n (cbegins g c.0) (cbegins h c.1) (tr s w) c.3)

pub cbeside_runs : (j : Joint) (pp qq : Cmp) → SamePairs (CBeside j (CRuns pp) (CRuns qq)) (CRuns (cpar j pp qq))
cbeside_runs j pp qq = (make, λ x. take x)
  where
    make : Within (CBeside j (CRuns pp) (CRuns qq)) (CRuns (cpar j pp qq))
    make z (beside f g (mixed m i)) = ((par j f.0 g.0, fwd_par m f.1 g.1 i), beside_runs j f.0 g.0)

    of : {k l m : Std} → m ≡ par j k l → (z : Trace) → Beside j (Leaving pp k) (Leaving qq l) z → Has (CBeside j (CRuns pp) (CRuns qq)) z (Runs m)
    of {k} {l} {m} e z (beside f g (mixed {s} {t} {w} {v} c i)) = (
      beside {x = tr s w} {y = tr t v} (k, f) (l, g) (mixed c i),
      subst (λ m. SameSets (Runs m) (Beside j (Runs k) (Runs l))) (sym e) (sets_flip (beside_runs j k l)),
    )

    take : Within (CRuns (cpar j pp qq)) (CBeside j (CRuns pp) (CRuns qq))
    take (tr s w) f = let c = cpar_fwd f.1 in of c.2 (tr s w) c.3

-- The two semantics agree ---------------------------------------------------------------------------------------------------

throw_runs : SameSets (Runs throw) (Tr throw)
throw_runs (tr s w) = (λ r. by r, λ e. subst (Runs throw) (sym e) (closes throw_ends))
  where
    by : {s : List ℕ} {w : Closing} → Run throw s w → tr s w ≡ tr [] failed
    by (closes throw_ends) = refl
    by (goes step _) = elim step [ ]

yield_runs : SameSets (Runs yield) (Tr yield)
yield_runs (tr s w) = (λ r. by r, λ h. of h)
  where
    by : {s : List ℕ} {w : Closing} → Run yield s w → Tr yield (tr s w)
    by (closes yield_ends) = inr refl
    by (closes yield_yields) = inl refl
    by (goes step _) = elim step [ ]

    of : {z : Trace} → Tr yield z → Runs yield z
    of (inl e) = subst (Runs yield) (sym e) (closes yield_yields)
    of (inr e) = subst (Runs yield) (sym e) (closes yield_ends)

ev_runs : (l : Leaf) → SameSets (Runs (ev l)) (Tr (ev l))
ev_runs l (tr s w) = (λ r. by r, λ h. subst (Runs (ev l)) (sym h.2) (goes (ev_step h.1) (closes skip_ends)))
  where
    by : {s : List ℕ} {w : Closing} → Run (ev l) s w → Tr (ev l) (tr s w)
    by (closes ending) = elim ending [ ]
    by (goes (ev_step {a} h) r) = (a, h, ap (pre a) (skip_run r))

-- in the words of sets
mutual
  pub runs_same : (p : Std) → SameSets (Runs p) (Tr p)
  runs_same skip = sets_flip skip_runs
  runs_same throw = throw_runs
  runs_same yield = yield_runs
  runs_same (ev l) = ev_runs l
  runs_same (seq p q) = sets_then (sets_flip (then_runs seq_onward p q)) (then_cong (runs_same p) (runs_same q))
  runs_same (alt p q) = sets_then (sets_flip (either_runs p q)) (either_cong (runs_same p) (runs_same q))
  runs_same (par j p q) = sets_then (sets_flip (beside_runs j p q)) (beside_cong (runs_same p) (runs_same q))
  runs_same (hnd p q) = sets_then (sets_flip (then_runs hnd_onward p q)) (then_cong (runs_same p) (runs_same q))
  runs_same (blk pp) = sets_then (sets_flip (blocked_runs pp)) (blocked_cong (cruns_are_pairs pp))

  pub cruns_are_pairs : (pp : Cmp) → SamePairs (CRuns pp) (CTr pp)
  cruns_are_pairs (pair p q) = pairs_then (pairs_flip (paired_runs p q)) (paired_cong (runs_same p) (runs_same q))
  cruns_are_pairs (cseq pp qq) = pairs_then (pairs_flip (cthen_runs pp qq)) (cthen_cong (cruns_are_pairs pp) (cruns_are_pairs qq))
  cruns_are_pairs (calt pp qq) = pairs_then (pairs_flip (ceither_runs pp qq)) (ceither_cong (cruns_are_pairs pp) (cruns_are_pairs qq))
  cruns_are_pairs (cpar j pp qq) = pairs_then (pairs_flip (cbeside_runs j pp qq)) (cbeside_cong (cruns_are_pairs pp) (cruns_are_pairs qq))
  cruns_are_pairs (held qq r) = pairs_then (pairs_flip (holding_runs qq r)) (holding_cong (cruns_are_pairs qq) (runs_same r))

-- and trace by trace
pub runs_are_traces : (p : Std) (s : List ℕ) (w : Closing) → Run p s w ↔ Tr p (tr s w)
runs_are_traces p s w = runs_same p (tr s w)

pub cruns_are_traces : (pp : Cmp) (s : List ℕ) (w : Closing) (t : List ℕ) (v : Closing) → CRun pp s w t v ↔ ((h : (CTr pp).way (tr s w)) × (CTr pp).undo (tr s w) h (tr t v))
cruns_are_traces pp s w t v = (
  λ r. let c = (cruns_are_pairs pp).0 (tr s w) (r.left, r.forward) in (c.0, (c.1 (tr t v)).0 r.back),
  λ h. let c = (cruns_are_pairs pp).1 (tr s w) h.0 in record { left = c.0.0; forward = c.0.1; back = (c.1 (tr t v)).0 h.1 },
)
