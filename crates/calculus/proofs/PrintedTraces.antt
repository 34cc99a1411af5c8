-- For flows free of joint events the printed traces are the traces: `printed_traces`, `cprinted_traces`, over record lists
-- `printed_in_traces`. Such a flow has a trace that ends done or failed (`some`, `csome`), and so has whatever it may keep as a
-- compensation (`kept_some`); hence a trace can be drawn also where the run does not enter the part. Each operation is treated once,
-- over sets. Assumes nothing.
use Rattle.std.specs.Prelude.{ℕ, ◌≡◌, refl, ◌≢◌, ◌⊎◌, ◌↔◌, Bool, cond, List, [], ◌∷◌, ◌++◌}
use Rattle.std.proofs.Common.{sym, ◌∙◌, ap, subst, inl, inr}
use Rattle.calculus.specs.Term.{Closing, done, withdrawn, failed, Joint, Std, Cmp, skip, throw, yield, ev, seq, alt, par, hnd, blk, pair, cseq, calt, cpar, held, join}
use Rattle.calculus.specs.Traces.{Trace, tr, Traces, Pairs, onto, only, Then, stays, enters, Mix, mix_none, mix_left, mix_right, ParT, mixed, Beside, beside, kept_by, Paired, then_undo, CThen, either_undo, CEither, beside_undo, CBeside, Holding, Blocked, closed, undone, Tr, CTr}
use Rattle.calculus.specs.Records.{Record, State, over, std, cmp, InTraces}
use Rattle.calculus.specs.Printed.{CTrace, ct, on_t, pair_t, cthen_t, held_t, CParT, both, BlkT, undoes, forgets, lift, by, Prints, CPrints, InPrinted}
use Rattle.calculus.specs.Leaves.{Empty, Free, CFree, FreeState}
use Rattle.calculus.proofs.Members.{other, Compared, alike, differ, compared, cond_other}
use Rattle.calculus.proofs.SetLaws.{sets_self}

-- A trace that ends done or failed -------------------------------------------------------------------------------------------

abbrev pub Firm : Trace → Type 0
Firm (tr s w) = w ≢ withdrawn

-- the set has such a trace
abbrev pub Some : Traces → Type 0
Some P = (z : Trace) × P z × Firm z

onto_firm : (s : List ℕ) (y : Trace) → Firm y → Firm (onto s y)
onto_firm s (tr t v) f = f

done_some : Some (only (tr [] done))
done_some = (tr [] done, refl, other done withdrawn tt)

failed_some : Some (only (tr [] failed))
failed_some = (tr [] failed, refl, other failed withdrawn tt)

then_some : (u : Closing) {P Q : Traces} → Some P → Some Q → Some (Then u P Q)
then_some u {P} {Q} a b = of a.0 a.1 a.2
  where
    at : (s : List ℕ) (w : Closing) → P (tr s w) → w ≢ withdrawn → {c : Bool} → Compared w u c → Some (Then u P Q)
    at s w h f (alike e) = (onto s b.0, enters (subst (λ w. P (tr s w)) e h) b.1 refl, onto_firm s b.0 b.2)
    at s w h f (differ n) = (tr s w, stays h n, f)

    of : (x : Trace) → P x → Firm x → Some (Then u P Q)
    of (tr s w) h f = at s w h f (compared w u)

mix_any : (j : Joint) → Empty j → (s t : List ℕ) → Mix j s t (s ++ t)
mix_any j o [] [] = mix_none
mix_any j o [] (a ∷ t) = mix_right (o a) (mix_any j o [] t)
mix_any j o (a ∷ s) t = mix_left (o a) (mix_any j o s t)

join_firm : (w v : Closing) → w ≢ withdrawn → v ≢ withdrawn → join w v ≢ withdrawn
join_firm done v f g = g
join_firm withdrawn v f g = absurd (f refl)
join_firm failed v f g = f

par_firm : (j : Joint) → Empty j → (x y : Trace) → Firm x → Firm y → (z : Trace) × ParT j x y z × Firm z
par_firm j o (tr s w) (tr t v) f g = (tr (s ++ t) (join w v), mixed (mix_any j o s t) refl, join_firm w v f g)

beside_some : (j : Joint) → Empty j → {P Q : Traces} → Some P → Some Q → Some (Beside j P Q)
beside_some j o a b = let c = par_firm j o a.0 b.0 a.2 b.2 in (c.0, beside a.1 b.1 c.1, c.2)

-- The same for sets of pairs ---------------------------------------------------------------------------------------------------

-- whatever is kept has such a trace
abbrev pub Keeps : Pairs → Type 0
Keeps P = (x : Trace) (h : P.way x) → Some (P.undo x h)

kept_by_some : {Q : Traces} → Some Q → (x : Trace) → Some (kept_by Q x)
kept_by_some b (tr s done) = b
kept_by_some b (tr s withdrawn) = done_some
kept_by_some b (tr s failed) = done_some

module _ {P Q : Pairs} where
  cthen_keeps : Keeps P → Keeps Q → Keeps (CThen P Q)
  cthen_keeps f g z (stays {s} {w} h n) = f (tr s w) h
  cthen_keeps f g z (enters {s} {y} h k e) = then_some done (g y k) (f (tr s done) h)

  ceither_keeps : Keeps P → Keeps Q → Keeps (CEither P Q)
  ceither_keeps f g z (inl h) = f z h
  ceither_keeps f g z (inr h) = g z h

  cbeside_keeps : (j : Joint) → Empty j → Keeps P → Keeps Q → Keeps (CBeside j P Q)
  cbeside_keeps j o f g z (beside {x} {y} h k m) = beside_some j o (f x h) (g y k)

blocked_some : {P : Pairs} → Some P.way → Keeps P → Some (Blocked P)
blocked_some {P} a g = at a.0 a.1 a.2
  where
    at : (x : Trace) → P.way x → Firm x → Some (Blocked P)
    at (tr s done) h f = (tr s done, closed h, f)
    at (tr s withdrawn) h f = absurd (f refl)
    at (tr s failed) h f = let b = g (tr s failed) h in (onto s b.0, undone h b.1 refl, onto_firm s b.0 b.2)

-- Every flow free of joint events has one --------------------------------------------------------------------------------------

mutual
  pub some : (p : Std) → Free p → Some (Tr p)
  some skip o = done_some
  some throw o = failed_some
  some yield o = (tr [] done, inr refl, other done withdrawn tt)
  some (ev l) o = (tr (l.names ∷ []) done, (l.names, l.own, refl), other done withdrawn tt)
  some (seq p q) o = then_some done (some p o.0) (some q o.1)
  some (alt p q) o = let x = some p o.0 in (x.0, inl x.1, x.2)
  some (par j p q) o = beside_some j o.0 (some p o.1) (some q o.2)
  some (hnd p q) o = then_some failed (some p o.0) (some q o.1)
  some (blk pp) o = blocked_some (way_some pp o) (kept_some pp o)

  way_some : (pp : Cmp) → CFree pp → Some (CTr pp).way
  way_some (pair p q) o = some p o.0
  way_some (cseq pp qq) o = then_some done (way_some pp o.0) (way_some qq o.1)
  way_some (calt pp qq) o = let x = way_some pp o.0 in (x.0, inl x.1, x.2)
  way_some (cpar j pp qq) o = beside_some j o.0 (way_some pp o.1) (way_some qq o.2)
  way_some (held qq r) o = way_some qq o.0

  pub kept_some : (pp : Cmp) → CFree pp → Keeps (CTr pp)
  kept_some (pair p q) o = λ x h. kept_by_some (some q o.1) x
  kept_some (cseq pp qq) o = cthen_keeps (kept_some pp o.0) (kept_some qq o.1)
  kept_some (calt pp qq) o = ceither_keeps (kept_some pp o.0) (kept_some qq o.1)
  kept_some (cpar j pp qq) o = cbeside_keeps j o.0 (kept_some pp o.1) (kept_some qq o.2)
  kept_some (held qq r) o = λ x h. then_some done (kept_some qq o.0 x h) (some r o.1)

pub csome : (pp : Cmp) → CFree pp → (x : Trace) × (h : (CTr pp).way x) × Firm x × Some ((CTr pp).undo x h)
csome pp o = let a = way_some pp o in (a.0, a.1, a.2, kept_some pp o a.0 a.1)

-- Each operation, printed ------------------------------------------------------------------------------------------------------

-- the same sets for parts
module _ {A B C : Type 0} (R : A → B → C → Type 0) {P P' : A → Type 0} {Q Q' : B → Type 0} where
  lift_cong : ((x : A) → P x ↔ P' x) → ((y : B) → Q y ↔ Q' y) → (z : C) → lift R P Q z ↔ lift R P' Q' z
  lift_cong f g z = (
    λ h. (h.0, h.1, (f h.0).0 h.2, (g h.1).0 h.3, h.4),
    λ h. (h.0, h.1, (f h.0).1 h.2, (g h.1).1 h.3, h.4),
  )

on_stays : (u : Closing) (s : List ℕ) (w : Closing) (y : Trace) → w ≢ u → tr s w ≡ on_t u (tr s w) y
on_stays u s w y n = sym (cond_other (onto s y) (tr s w) n)

on_enters : (u : Closing) (s : List ℕ) (y : Trace) → onto s y ≡ on_t u (tr s u) y
on_enters done s y = refl
on_enters withdrawn s y = refl
on_enters failed s y = refl

module _ (u : Closing) {P Q : Traces} where
  then_of : (x y : Trace) → P x → Q y → Then u P Q (on_t u x y)
  then_of (tr s w) y h k = at (compared w u)
    where
      at : {b : Bool} → Compared w u b → Then u P Q (cond b (onto s y) (tr s w))
      at (alike e) = enters (subst (λ w. P (tr s w)) e h) k refl
      at (differ n) = stays h n

  of_then : Some Q → (z : Trace) → Then u P Q z → lift (by (on_t u)) P Q z
  of_then b z (stays {s} {w} h n) = (tr s w, b.0, h, b.1, on_stays u s w b.0 n)
  of_then b z (enters {s} {y} h k e) = (tr s u, y, h, k, e ∙ on_enters u s y)

  then_printed : Some Q → (z : Trace) → lift (by (on_t u)) P Q z ↔ Then u P Q z
  then_printed b z = (λ c. subst (Then u P Q) (sym c.4) (then_of c.0 c.1 c.2 c.3), of_then b z)

beside_printed : (j : Joint) {P Q : Traces} (z : Trace) → lift (ParT j) P Q z ↔ Beside j P Q z
beside_printed j z = (λ c. beside c.2 c.3 c.4, λ h. of h)
  where
    of : {P Q : Traces} {z : Trace} → Beside j P Q z → lift (ParT j) P Q z
    of (beside {x} {y} h k m) = (x, y, h, k, m)

-- the pairs of two traces that a set of pairs has
abbrev pub Flat : Pairs → CTrace → Type 0
Flat P (ct x y) = (h : P.way x) × P.undo x h y

ceither_printed : (P Q : Pairs) (z : CTrace) → (Flat P z ⊎ Flat Q z) ↔ Flat (CEither P Q) z
ceither_printed P Q (ct x y) = (make, λ c. of x y c.0 c.1)
  where
    make : Flat P (ct x y) ⊎ Flat Q (ct x y) → Flat (CEither P Q) (ct x y)
    make (inl h) = (inl h.0, h.1)
    make (inr h) = (inr h.0, h.1)

    of : (x y : Trace) (h : P.way x ⊎ Q.way x) → either_undo P Q x h y → Flat P (ct x y) ⊎ Flat Q (ct x y)
    of x y (inl h) k = inl (h, k)
    of x y (inr h) k = inr (h, k)

paired_printed : {P Q : Traces} → Some Q → (z : CTrace) → lift (by pair_t) P Q z ↔ Flat (Paired P Q) z
paired_printed {P} {Q} b (ct x y) = (λ c. subst (Flat (Paired P Q)) (sym c.4) (make c.0 c.1 c.2 c.3), λ c. of x c.0 c.1)
  where
    make : (x y : Trace) → P x → Q y → Flat (Paired P Q) (pair_t x y)
    make (tr s done) y h k = (h, k)
    make (tr s withdrawn) y h k = (h, refl)
    make (tr s failed) y h k = (h, refl)

    of : (x : Trace) → P x → kept_by Q x y → lift (by pair_t) P Q (ct x y)
    of (tr s done) h k = (tr s done, y, h, k, refl)
    of (tr s withdrawn) h e = (tr s withdrawn, b.0, h, b.1, ap (ct (tr s withdrawn)) e)
    of (tr s failed) h e = (tr s failed, b.0, h, b.1, ap (ct (tr s failed)) e)

cthen_stays : (s : List ℕ) (w : Closing) (x : Trace) (y : CTrace) → w ≢ done → ct (tr s w) x ≡ cthen_t (ct (tr s w) x) y
cthen_stays s w x (ct y z) n = sym (cond_other (ct (onto s y) (on_t done z x)) (ct (tr s w) x) n)

cthen_printed : {P Q : Pairs} → Keeps P → Some Q.way → Keeps Q → (z : CTrace) → lift (by cthen_t) (Flat P) (Flat Q) z ↔ Flat (CThen P Q) z
cthen_printed {P} {Q} f b g (ct z y) = (λ c. subst (Flat (CThen P Q)) (sym c.4) (make c.0 c.1 c.2 c.3), λ c. of z y c.0 c.1)
  where
    make : (x y : CTrace) → Flat P x → Flat Q y → Flat (CThen P Q) (cthen_t x y)
    make (ct (tr s done) x) (ct y z) h k = (enters h.0 k.0 refl, then_of done z x k.1 h.1)
    make (ct (tr s withdrawn) x) (ct y z) h k = (stays h.0 (other withdrawn done tt), h.1)
    make (ct (tr s failed) x) (ct y z) h k = (stays h.0 (other failed done tt), h.1)

    of : (z y : Trace) (h : Then done P.way Q.way z) → then_undo P Q z h y → lift (by cthen_t) (Flat P) (Flat Q) (ct z y)
    of z y (stays {s} {w} h n) k =
        let l = g b.0 b.1 in
        (ct (tr s w) y, ct b.0 l.0, (h, k), (b.1, l.1), cthen_stays s w y (ct b.0 l.0) n)
    of z y (enters {s} {y = x} h l e) k =
        let c = of_then done (f (tr s done) h) y k in
        (ct (tr s done) c.1, ct x c.0, (h, c.3), (l, c.2), λ i. ct (e i) (c.4 i))

cbeside_printed : (j : Joint) {P Q : Pairs} (z : CTrace) → lift (CParT j) (Flat P) (Flat Q) z ↔ Flat (CBeside j P Q) z
cbeside_printed j {P} {Q} (ct z y) = (λ c. make c.4 c.2 c.3, λ c. of z y c.0 c.1)
  where
    make : {x y z : CTrace} → CParT j x y z → Flat P x → Flat Q y → Flat (CBeside j P Q) z
    make (both m n) h k = (beside h.0 k.0 m, beside h.1 k.1 n)

    of : (z y : Trace) (h : Beside j P.way Q.way z) → beside_undo j P Q z h y → lift (CParT j) (Flat P) (Flat Q) (ct z y)
    of z y (beside {x} {y = x'} h l m) k =
        let c = (beside_printed j y).1 k in
        (ct x c.0, ct x' c.1, (h, c.2), (l, c.3), both m c.4)

holding_printed : {Q : Pairs} {R : Traces} → Some R → (z : CTrace) → lift (by held_t) (Flat Q) R z ↔ Flat (Holding Q R) z
holding_printed {Q} {R} b (ct x y) = (λ c. subst (Flat (Holding Q R)) (sym c.4) (make c.0 c.1 c.2 c.3), of)
  where
    make : (y : CTrace) (x : Trace) → Flat Q y → R x → Flat (Holding Q R) (held_t y x)
    make (ct y z) x h k = (h.0, then_of done z x h.1 k)

    of : Flat (Holding Q R) (ct x y) → lift (by held_t) (Flat Q) R (ct x y)
    of h = let c = of_then done b y h.1 in (ct x c.0, c.1, (h.0, c.2), c.3, ap (ct x) c.4)

blocked_printed : {P : Pairs} → Keeps P → (z : Trace) → ((x : CTrace) × Flat P x × BlkT x z) ↔ Blocked P z
blocked_printed {P} g z = (λ c. make c.2 c.1, λ h. of h)
  where
    make : {x : CTrace} {z : Trace} → BlkT x z → Flat P x → Blocked P z
    make (undoes e) h = undone h.0 h.1 e
    make forgets h = closed h.0

    of : {z : Trace} → Blocked P z → (x : CTrace) × Flat P x × BlkT x z
    of (closed {s} h) = let b = g (tr s done) h in (ct (tr s done) b.0, (h, b.1), forgets)
    of (undone {s} {y} h k e) = (ct (tr s failed) y, (h, k), undoes e)

-- The printed traces are the traces --------------------------------------------------------------------------------------------

module _ {A : Type 0} where
  after : {P Q R : A → Type 0} → ((x : A) → P x ↔ Q x) → ((x : A) → Q x ↔ R x) → (x : A) → P x ↔ R x
  after f g x = (λ a. (g x).0 ((f x).0 a), λ c. (f x).1 ((g x).1 c))

  either_same : {P P' Q Q' : A → Type 0} → ((x : A) → P x ↔ P' x) → ((x : A) → Q x ↔ Q' x) → (x : A) → (P x ⊎ Q x) ↔ (P' x ⊎ Q' x)
  either_same f g x = (λ h. elim h [ inl a ↦ inl ((f x).0 a) | inr b ↦ inr ((g x).0 b) ], λ h. elim h [ inl a ↦ inl ((f x).1 a) | inr b ↦ inr ((g x).1 b) ])

inside_same : {P P' : CTrace → Type 0} → ((x : CTrace) → P x ↔ P' x) → (z : Trace) → ((x : CTrace) × P x × BlkT x z) ↔ ((x : CTrace) × P' x × BlkT x z)
inside_same f z = (λ c. (c.0, (f c.0).0 c.1, c.2), λ c. (c.0, (f c.0).1 c.1, c.2))

mutual
  pub printed_traces : (p : Std) → Free p → (z : Trace) → Prints p z ↔ Tr p z
  printed_traces skip o = sets_self (Tr skip)
  printed_traces throw o = sets_self (Tr throw)
  printed_traces yield o = sets_self (Tr yield)
  printed_traces (ev l) o = sets_self (Tr (ev l))
  printed_traces (seq p q) o = after (lift_cong (by (on_t done)) (printed_traces p o.0) (printed_traces q o.1)) (then_printed done (some q o.1))
  printed_traces (alt p q) o = either_same (printed_traces p o.0) (printed_traces q o.1)
  printed_traces (par j p q) o = after (lift_cong (ParT j) (printed_traces p o.1) (printed_traces q o.2)) (beside_printed j)
  printed_traces (hnd p q) o = after (lift_cong (by (on_t failed)) (printed_traces p o.0) (printed_traces q o.1)) (then_printed failed (some q o.1))
  printed_traces (blk pp) o = after (inside_same (flat_traces pp o)) (blocked_printed (kept_some pp o))

  flat_traces : (pp : Cmp) → CFree pp → (z : CTrace) → CPrints pp z ↔ Flat (CTr pp) z
  flat_traces (pair p q) o = after (lift_cong (by pair_t) (printed_traces p o.0) (printed_traces q o.1)) (paired_printed (some q o.1))
  flat_traces (cseq pp qq) o = after (lift_cong (by cthen_t) (flat_traces pp o.0) (flat_traces qq o.1)) (cthen_printed (kept_some pp o.0) (way_some qq o.1) (kept_some qq o.1))
  flat_traces (calt pp qq) o = after (either_same (flat_traces pp o.0) (flat_traces qq o.1)) (ceither_printed (CTr pp) (CTr qq))
  flat_traces (cpar j pp qq) o = after (lift_cong (CParT j) (flat_traces pp o.1) (flat_traces qq o.2)) (cbeside_printed j)
  flat_traces (held qq r) o = after (lift_cong (by held_t) (flat_traces qq o.0) (printed_traces r o.1)) (holding_printed (some r o.1))

pub cprinted_traces : (pp : Cmp) → CFree pp → (x y : Trace) → CPrints pp (ct x y) ↔ ((h : (CTr pp).way x) × (CTr pp).undo x h y)
cprinted_traces pp o x y = flat_traces pp o (ct x y)

pub printed_in_traces : (s : State) → FreeState s → (rs : List Record) → InPrinted s rs ↔ InTraces s rs
printed_in_traces over o rs = (λ e. e, λ e. e)
printed_in_traces (std p) o rs = (
  λ c. (c.0, c.1, c.2, (printed_traces p o (tr c.0 c.1)).0 c.3),
  λ c. (c.0, c.1, c.2, (printed_traces p o (tr c.0 c.1)).1 c.3),
)
printed_in_traces (cmp pp) o rs = (
  λ c. let h = (cprinted_traces pp o (tr c.0 c.1) (tr c.2 c.3)).0 c.5 in (c.0, c.1, c.2, c.3, c.4, h.0, h.1),
  λ c. (c.0, c.1, c.2, c.3, c.4, (cprinted_traces pp o (tr c.0 c.1) (tr c.2 c.3)).1 (c.5, c.6)),
)
