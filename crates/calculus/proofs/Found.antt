-- What the search finds: an end exactly if the records are a complete run (`found_complete`), and, if there is none, the longest
-- beginning of the records that some run follows (`place_follows`, `place_longest`). Where the closings are as the root needs,
-- "no records left" and "nothing left" coincide on every path (`fits_over`, `fits_moves`). Assumes nothing.
use Rattle.std.specs.Prelude.{ℕ, suc, max, ◌≤◌, ◌≡◌, refl, ◌⊎◌, ◌↔◌, Bool, true, false, T}
use Rattle.std.proofs.Common.{sym, ◌∙◌, ap, subst, inl, inr, arith}
use mathlib.Core.List.Memᴰ
use mathlib.Core.List.{List, [], ◌∷◌, Memᴰ}
use Rattle.std.proofs.Math.Decide.{dec_le}
use Rattle.calculus.specs.Term.{Closing, Std, Cmp}
use Rattle.calculus.specs.Rules.{Run, closes, goes, Fwd, ccloses, cgoes}
use Rattle.calculus.specs.Successors.{ends, steps, comps, csteps}
use Rattle.calculus.specs.Records.{Record, event, close, State, over, std, cmp, standard, compensable, Complete, Moves, by_step, by_end, by_cstep, by_cend, Follows, stays, Closed, last, ClosedTwice, turn, Fits}
use Rattle.calculus.specs.Records
use Rattle.calculus.specs.Search.{next, Seen, or_else, tries, visit}
use Rattle.calculus.proofs.Members.{in_only, of_only}
use Rattle.calculus.proofs.Exact.{ends_exact, steps_exact, csteps_exact, comps_exact}

-- One record: the list of successors holds exactly the moves ---------------------------------------------------------------

pub next_moves : (s : State) (r : Record) (t : State) → Memᴰ t (next s r) → Moves s r t
unfolding next
next_moves over r t m = absurd (Memᴰ.not-nil m)
next_moves (std p) (event a) t m = let f = Memᴰ.of_map std (steps p a) m in subst (Moves (std p) (event a)) f.2 (by_step ((steps_exact p a f.0).0 f.1))
next_moves (std p) (close w) t m = let f = of_only (ends p w) m in subst (Moves (std p) (close w)) (sym (Memᴰ.eq_of_singleton f.1)) (by_end ((ends_exact p w).0 f.0))
next_moves (cmp pp) (event a) t m = let f = Memᴰ.of_map cmp (csteps pp a) m in subst (Moves (cmp pp) (event a)) f.2 (by_cstep ((csteps_exact pp a f.0).0 f.1))
next_moves (cmp pp) (close w) t m = let f = Memᴰ.of_map std (comps pp w) m in subst (Moves (cmp pp) (close w)) f.2 (by_cend ((comps_exact pp w f.0).0 f.1))

pub moves_next : {s t : State} {r : Record} → Moves s r t → Memᴰ t (next s r)
unfolding next
moves_next (by_step {p} {p'} {a} h) = Memᴰ.map std ((steps_exact p a p').1 h)
moves_next (by_end {p} {w} h) = in_only (ends p w) ((ends_exact p w).1 h) (Memᴰ.head refl)
moves_next (by_cstep {pp} {pp'} {a} h) = Memᴰ.map cmp ((csteps_exact pp a pp').1 h)
moves_next (by_cend {pp} {w} {k} h) = Memᴰ.map std ((comps_exact pp w k).1 h)

-- The search finds what the moves lead to ---------------------------------------------------------------------------------

-- a way along the records to nothing left
pub data Ends : State → List Record → Type 0 where
  at_end : Ends over []
  moves : {s t : State} {r : Record} {rs : List Record} → Moves s r t → Ends t rs → Ends s (r ∷ rs)

tries_only : (f : State → Seen) (ss : List State) → T (tries f ss).found → (t : State) × Memᴰ t ss × T (f t).found
unfolding tries
tries_only f [] h = absurd h
tries_only f (s ∷ ss) h = by (f s).found refl (tries_only f ss) h
  where
    by : (b : Bool) → (f s).found ≡ b → (T (tries f ss).found → (t : State) × Memᴰ t ss × T (f t).found) → T (or_else b (f s) (λ u. tries f ss)).found → (t : State) × Memᴰ t (s ∷ ss) × T (f t).found
    by true e below h = (s, Memᴰ.head refl, subst T (sym e) tt)
    by false e below h = let r = below h in (r.0, Memᴰ.tail r.1, r.2)

tries_all : (f : State → Seen) {t : State} {ss : List State} → Memᴰ t ss → T (f t).found → T (tries f ss).found
unfolding tries
tries_all f {t} (Memᴰ.head {x} {xs} e) h = by (f x).found (subst (λ y. T (f y).found) e h)
  where
    by : (b : Bool) → T b → T (or_else b (f x) (λ u. tries f xs)).found
    by true k = tt
    by false k = absurd k
tries_all f {t} (Memᴰ.tail {x} {xs} m) h = by (f x).found (tries_all f m h)
  where
    by : (b : Bool) → T (tries f xs).found → T (or_else b (f x) (λ u. tries f xs)).found
    by true k = tt
    by false k = k

pub found_only : (rs : List Record) (s : State) → T (visit rs s).found → Ends s rs
unfolding visit
found_only [] over h = at_end
found_only [] (std p) h = absurd h
found_only [] (cmp pp) h = absurd h
found_only (r ∷ rs) s h = let f = tries_only (λ t. visit rs t) (next s r) h in Ends.moves (next_moves s r f.0 f.1) (found_only rs f.0 f.2)

pub found_all : {rs : List Record} {s : State} → Ends s rs → T (visit rs s).found
unfolding visit
found_all at_end = tt
found_all (Ends.moves {rs} m e) = tries_all (λ t. visit rs t) (moves_next m) (found_all e)

-- The place -----------------------------------------------------------------------------------------------------------

tries_reach_all : (f : State → Seen) {t : State} {ss : List State} → Memᴰ t ss → (T (tries f ss).found → ⊥) → suc (f t).reached ≤ (tries f ss).reached
unfolding tries
tries_reach_all f {t} (Memᴰ.head {x} {xs} e) h = subst (λ y. suc (f y).reached ≤ (tries f (x ∷ xs)).reached) (sym e) (by (f x).found h)
  where
    by : (b : Bool) → (T (or_else b (f x) (λ u. tries f xs)).found → ⊥) → suc (f x).reached ≤ (or_else b (f x) (λ u. tries f xs)).reached
    by true k = absurd (k tt)
    by false k = omega arith
tries_reach_all f {t} (Memᴰ.tail {x} {xs} m) h = by (f x).found (tries_reach_all f m) h
  where
    by : (b : Bool) → ((T (tries f xs).found → ⊥) → suc (f t).reached ≤ (tries f xs).reached) → (T (or_else b (f x) (λ u. tries f xs)).found → ⊥) → suc (f t).reached ≤ (or_else b (f x) (λ u. tries f xs)).reached
    by true below k = absurd (k tt)
    by false below k = let q = below k in omega arith

pub place_longest : {rs : List Record} {s : State} {n : ℕ} → Follows s rs n → (T (visit rs s).found → ⊥) → n ≤ (visit rs s).reached
unfolding visit
place_longest stays h = omega arith
place_longest (Follows.moves {s} {r = r} {rs} m a) h =
    let in_next = moves_next m in
    let below = place_longest a (λ k. h (tries_all (λ t. visit rs t) in_next k)) in
    let here = tries_reach_all (λ t. visit rs t) in_next h in
    omega arith

tries_reach_only : (f : State → Seen) (ss : List State) → (T (tries f ss).found → ⊥) → ((tries f ss).reached ≡ 0) ⊎ ((t : State) × Memᴰ t ss × ((tries f ss).reached ≡ suc (f t).reached))
unfolding tries
tries_reach_only f [] h = inl refl
tries_reach_only f (s ∷ ss) h = by (f s).found (tries_reach_only f ss) h
  where
    or : (a b : ℕ) → (max a b ≡ a) ⊎ (max a b ≡ b)
    or a b = elim (dec_le a b) [ yes h ↦ inr (omega arith) | no n ↦ inl (omega arith) ]

    by : (b : Bool) → ((T (tries f ss).found → ⊥) → ((tries f ss).reached ≡ 0) ⊎ ((t : State) × Memᴰ t ss × ((tries f ss).reached ≡ suc (f t).reached)))
        → (T (or_else b (f s) (λ u. tries f ss)).found → ⊥)
        → ((or_else b (f s) (λ u. tries f ss)).reached ≡ 0) ⊎ ((t : State) × Memᴰ t (s ∷ ss) × ((or_else b (f s) (λ u. tries f ss)).reached ≡ suc (f t).reached))
    by true below k = absurd (k tt)
    by false below k = pick (or (suc (f s).reached) (tries f ss).reached) (below k)
      where
        pick : (max (suc (f s).reached) (tries f ss).reached ≡ suc (f s).reached) ⊎ (max (suc (f s).reached) (tries f ss).reached ≡ (tries f ss).reached)
            → ((tries f ss).reached ≡ 0) ⊎ ((t : State) × Memᴰ t ss × ((tries f ss).reached ≡ suc (f t).reached))
            → (max (suc (f s).reached) (tries f ss).reached ≡ 0) ⊎ ((t : State) × Memᴰ t (s ∷ ss) × (max (suc (f s).reached) (tries f ss).reached ≡ suc (f t).reached))
        pick (inl e) q = inr (s, Memᴰ.head refl, e)
        pick (inr e) (inl z) = inl (e ∙ z)
        pick (inr e) (inr z) = inr (z.0, Memᴰ.tail z.1, e ∙ z.2)

pub place_follows : (rs : List Record) (s : State) → (T (visit rs s).found → ⊥) → Follows s rs (visit rs s).reached
unfolding visit
place_follows [] s h = stays
place_follows (r ∷ rs) s h = by (λ t. place_follows rs t) (tries_reach_only (λ t. visit rs t) (next s r) h)
  where
    by : ((t : State) → (T (visit rs t).found → ⊥) → Follows t rs (visit rs t).reached)
        → ((tries (λ t. visit rs t) (next s r)).reached ≡ 0) ⊎ ((t : State) × Memᴰ t (next s r) × ((tries (λ t. visit rs t) (next s r)).reached ≡ suc (visit rs t).reached))
        → Follows s (r ∷ rs) (tries (λ t. visit rs t) (next s r)).reached
    by below (inl z) = subst (λ n. Follows s (r ∷ rs) n) (sym z) stays
    by below (inr z) = subst (λ n. Follows s (r ∷ rs) n) (sym z.2) (Follows.moves (next_moves s r z.0 z.1) (below z.0 (λ k. h (tries_all (λ t. visit rs t) z.1 k))))

-- Ways along the records are complete runs --------------------------------------------------------------------------------

over_ends : {rs : List Record} → Ends over rs → rs ≡ []
over_ends at_end = refl
over_ends (Ends.moves m e) = elim m [ ]

std_complete : {p : Std} {rs : List Record} → Ends (std p) rs → Complete (std p) rs
std_complete (Ends.moves (by_step {a} h) e) = let f = std_complete e in (a ∷ f.0, f.1, ap (λ l. event a ∷ l) f.2, goes h f.3)
std_complete (Ends.moves (by_end {w} h) e) = ([], w, ap (λ l. close w ∷ l) (over_ends e), closes h)

cmp_complete : {pp : Cmp} {rs : List Record} → Ends (cmp pp) rs → Complete (cmp pp) rs
cmp_complete (Ends.moves (by_cstep {a} h) e) =
    let f = cmp_complete e in
    let r = f.5 in
    (a ∷ f.0, f.1, f.2, f.3, ap (λ l. event a ∷ l) f.4, record { left = r.left; forward = cgoes h r.forward; back = r.back })
cmp_complete (Ends.moves (by_cend {w} {k} h) e) =
    let f = std_complete e in
    ([], w, f.0, f.1, ap (λ l. close w ∷ l) f.2, record { left = k; forward = ccloses h; back = f.3 })

run_ends : {p : Std} {s : List ℕ} {w : Closing} → Run p s w → Ends (std p) (standard s w)
run_ends (closes e) = Ends.moves (by_end e) at_end
run_ends (goes h r) = Ends.moves (by_step h) (run_ends r)

fwd_ends : {pp : Cmp} {s : List ℕ} {w : Closing} {k : Std} (t : List ℕ) (v : Closing) → Fwd pp s w k → Run k t v → Ends (cmp pp) (compensable s w t v)
fwd_ends t v (ccloses e) r = Ends.moves (by_cend e) (run_ends r)
fwd_ends t v (cgoes h f) r = Ends.moves (by_cstep h) (fwd_ends t v f r)

pub ends_complete : (s : State) (rs : List Record) → Ends s rs → Complete s rs
ends_complete over rs e = over_ends e
ends_complete (std p) rs e = std_complete e
ends_complete (cmp pp) rs e = cmp_complete e

pub complete_ends : (s : State) (rs : List Record) → Complete s rs → Ends s rs
complete_ends over rs c = subst (Ends over) (sym c) at_end
complete_ends (std p) rs c = subst (Ends (std p)) (sym c.2) (run_ends c.3)
complete_ends (cmp pp) rs c = let r = c.5 in subst (Ends (cmp pp)) (sym c.4) (fwd_ends c.2 c.3 r.forward r.back)

-- the search finds an end exactly if the records are a complete run
pub found_complete : (s : State) (rs : List Record) → T (visit rs s).found ↔ Complete s rs
found_complete s rs = (λ f. ends_complete s rs (found_only rs s f), λ c. found_all (complete_ends s rs c))

-- After check 13, "no records left" and "nothing left" coincide --------------------------------------------------------------

not_closed : Closed [] → ⊥
not_closed h = elim h [ ]

not_closed_twice : ClosedTwice [] → ⊥
not_closed_twice h = elim h [ ]

abbrev LeftOver : State → Type 0
LeftOver over = ⊥
LeftOver (std p) = Unit {0}
LeftOver (cmp pp) = Unit {0}

pub fits_over : (s : State) (rs : List Record) → Fits s rs → (s ≡ over) ↔ (rs ≡ [])
fits_over over rs f = (λ e. f, λ e. refl)
fits_over (std p) rs f = (λ e. absurd (subst LeftOver e tt), λ e. absurd (not_closed (subst Closed e f)))
fits_over (cmp pp) rs f = (λ e. absurd (subst LeftOver e tt), λ e. absurd (not_closed_twice (subst ClosedTwice e f)))

pub closed_event : {a : ℕ} {rs : List Record} → Closed (event a ∷ rs) → Closed rs
closed_event (Closed.more f) = f

pub closed_close : {w : Closing} {rs : List Record} → Closed (close w ∷ rs) → rs ≡ []
closed_close last = refl

pub twice_event : {a : ℕ} {rs : List Record} → ClosedTwice (event a ∷ rs) → ClosedTwice rs
twice_event (ClosedTwice.more f) = f

pub twice_close : {w : Closing} {rs : List Record} → ClosedTwice (close w ∷ rs) → Closed rs
twice_close (turn f) = f

pub fits_moves : {s t : State} {r : Record} (rs : List Record) → Moves s r t → Fits s (r ∷ rs) → Fits t rs
fits_moves rs (by_step h) f = closed_event f
fits_moves rs (by_end h) f = closed_close f
fits_moves rs (by_cstep h) f = twice_event f
fits_moves rs (by_cend h) f = twice_close f
