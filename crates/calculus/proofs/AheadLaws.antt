-- What may come next, over the rules, the traces and the judge's search (02, Three). `passes` is that some run follows all the records
-- (`passes_follows`; for one record more `may_follow_follows`). Where no joint events are, so that no flow gets stuck, they begin a complete
-- run and a trace (AheadRuns).
-- The judge's search of a beginning finds no end and stops nowhere early: it enters all that is counted (`begins_found`, `begins_entered`).
-- A search that finds no end has gone as far as some run follows, and no further (`place_passes`, `place_stops`, `place_not_followed`), and
-- has entered what the search of the records before that place enters (`place_entered`); where the closings are as the root needs, that
-- place is a record's (`place_inside`). One that finds an end could go on at each record (`found_passes`, `found_may_follow`). What
-- stands before a record of a list whose closings are as the root needs is a beginning (`fits_begins`). Assumes nothing.
use Prim.Native.Nat.{ℕ, zero, suc, ◌+◌, ◌≤◌, ◌<◌}
use Rattle.std.specs.Prelude.{◌≡◌, ◌↔◌, Bool, T, length, take}
use Rattle.std.proofs.Math.Path.{refl, ap₂}
use Rattle.std.proofs.Common.{sym, ◌∙◌, ap, subst, arith, length-append, length-take-le}
use Rattle.std.proofs.Math.Bool.{true, false}
use mathlib.Core.List.{List, [], ◌∷◌, ◌++◌}
use Rattle.std.proofs.Math.Decide.{dec_le}
use Rattle.std.proofs.Math.Seq.{take-length}
use Rattle.calculus.specs.Records.{Record, event, close, State, over, std, cmp, Complete, InTraces, Follows, stays, Closed, ClosedTwice, Fits}
use Rattle.calculus.specs.Records
use Rattle.calculus.specs.Search.{next, Seen, or_else, tries, visit}
use Rattle.calculus.specs.Ahead.{passes, may_follow, total, entered, Open, OpenTwice, Begins}
use Rattle.calculus.proofs.Members.{is_true, is_false, not_so, in_some, of_some}
use Rattle.calculus.proofs.Found.{next_moves, moves_next, Ends, at_end, found_only, found_all, ends_complete, complete_ends, place_follows, place_longest, fits_over, fits_moves, closed_event, closed_close, twice_event, twice_close}
use Rattle.calculus.proofs.Found
use Rattle.calculus.proofs.WithinLaws.{begins_moves}

-- Some run follows --------------------------------------------------------------------------------------------------------------

-- the first k records, and any after them
pub first_follows : (rs : List Record) (s : State) (k : ℕ) → k ≤ length rs → T (passes (take k rs) s) → Follows s rs k
unfolding passes
first_follows rs s zero l h = stays
first_follows [] s (suc k) l h = absurd (omega arith)
first_follows (r ∷ rs) s (suc k) l h =
    let f = of_some (λ t. passes (take k rs) t) (next s r) h in
    Follows.moves (next_moves s r f.0 f.1) (first_follows rs f.0 k (omega arith) f.2)

pub follows_first : {rs : List Record} {s : State} {k : ℕ} → Follows s rs k → T (passes (take k rs) s)
unfolding passes
follows_first stays = tt
follows_first (Follows.moves {rs} {n} m f) = in_some (λ t. passes (take n rs) t) (moves_next m) (follows_first f)

pub passes_follows : (rs : List Record) (s : State) → T (passes rs s) ↔ Follows s rs (length rs)
passes_follows rs s = (
  λ h. first_follows rs s (length rs) (omega arith) (subst (λ xs. T (passes xs s)) (sym (take-length rs)) h),
  λ f. subst (λ xs. T (passes xs s)) (take-length rs) (follows_first f),
)

-- one record more than the first
take_one_more : (xs : List Record) (r : Record) (rest : List Record) → take (suc (length xs)) (xs ++ (r ∷ rest)) ≡ xs ++ (r ∷ [])
take_one_more [] r rest = refl
take_one_more (x ∷ xs) r rest = ap (λ l. x ∷ l) (take_one_more xs r rest)

module _ (xs : List Record) (s : State) (r : Record) {rs : List Record} (rest : List Record) (split : rs ≡ xs ++ (r ∷ rest)) where
  split_first : take (suc (length xs)) rs ≡ xs ++ (r ∷ [])
  split_first = ap (take (suc (length xs))) split ∙ take_one_more xs r rest

  split_longer : suc (length xs) ≤ length rs
  split_longer = omega (arith, length-append xs (r ∷ rest), ap length split)

  pub may_follow_follows : T (may_follow xs s r) ↔ Follows s rs (suc (length xs))
  may_follow_follows = (
    λ h. first_follows rs s (suc (length xs)) split_longer (subst (λ l. T (passes l s)) (sym split_first) h),
    λ f. subst (λ l. T (passes l s)) split_first (follows_first f),
  )

pub follows_length : {rs : List Record} {s : State} {k : ℕ} → Follows s rs k → k ≤ length rs
follows_length stays = omega arith
follows_length (Follows.moves m f) = let l = follows_length f in omega arith

-- What a search enters that finds no end ------------------------------------------------------------------------------------------

tries_none : (f : State → Seen) (ss : List State) → (tries f ss).found ≡ false → (tries f ss).reached ≤ 0 → (tries f ss).entered ≡ 0
unfolding tries
tries_none f [] h l = refl
tries_none f (s ∷ ss) h l = by (f s).found h l
  where
    by : (b : Bool) → (or_else b (f s) (λ u. tries f ss)).found ≡ false → (or_else b (f s) (λ u. tries f ss)).reached ≤ 0 → (or_else b (f s) (λ u. tries f ss)).entered ≡ 0
    by true k l = absurd (not_so k tt)
    by false k l = absurd (omega arith)

module _ (f : State → Seen) (g : State → ℕ) (q : ℕ) (same_count : (t : State) → (f t).found ≡ false → (f t).reached ≤ q → g t ≡ (f t).entered) where
  tries_total : (ss : List State) → (tries f ss).found ≡ false → (tries f ss).reached ≤ suc q → total g ss ≡ (tries f ss).entered
  unfolding tries total
  tries_total [] h l = refl
  tries_total (s ∷ ss) h l = by (f s).found refl (tries_total ss) h l
    where
      by : (b : Bool) → (f s).found ≡ b → ((tries f ss).found ≡ false → (tries f ss).reached ≤ suc q → total g ss ≡ (tries f ss).entered)
          → (or_else b (f s) (λ u. tries f ss)).found ≡ false → (or_else b (f s) (λ u. tries f ss)).reached ≤ suc q → g s + total g ss ≡ (or_else b (f s) (λ u. tries f ss)).entered
      by true e below k l = absurd (not_so k tt)
      by false e below k l = ap₂ ◌+◌ (same_count s e (omega arith)) (below k (omega arith))

-- the records beyond the place add nothing
visit_entered : (rs : List Record) (s : State) (q : ℕ) → (visit rs s).found ≡ false → (visit rs s).reached ≤ q → entered (take q rs) s ≡ (visit rs s).entered
unfolding visit entered
visit_entered [] s zero h l = refl
visit_entered [] s (suc q) h l = refl
visit_entered (r ∷ rs) s zero h l = ap suc (sym (tries_none (λ t. visit rs t) (next s r) h l))
visit_entered (r ∷ rs) s (suc q) h l = ap suc (tries_total (λ t. visit rs t) (λ t. entered (take q rs) t) q (λ t. visit_entered rs t q) (next s r) h l)

-- where the closings are as the root needs, a run that follows them all is at its end
fits_ends : (rs : List Record) {s : State} → Fits s rs → Follows s rs (length rs) → Ends s rs
fits_ends [] {s} f g = subst (λ t. Ends t []) (sym ((fits_over s [] f).1 refl)) at_end
fits_ends (r ∷ rs) f (Follows.moves m g) = Ends.moves m (fits_ends rs (fits_moves rs m f) g)

-- The place -------------------------------------------------------------------------------------------------------------------------

module _ (rs : List Record) (s : State) (no_end : (visit rs s).found ≡ false) where
  place : Follows s rs (visit rs s).reached
  place = place_follows rs s (not_so no_end)

  pub place_entered : entered (take (visit rs s).reached rs) s ≡ (visit rs s).entered
  place_entered = visit_entered rs s (visit rs s).reached no_end (omega arith)

  pub place_passes : passes (take (visit rs s).reached rs) s ≡ true
  place_passes = is_true (passes (take (visit rs s).reached rs) s) (follows_first place)

  pub place_stops : (visit rs s).reached < length rs → passes (take (suc (visit rs s).reached) rs) s ≡ false
  place_stops l =
      is_false (passes (take (suc (visit rs s).reached) rs) s)
      (λ h. let q = place_longest (first_follows rs s (suc (visit rs s).reached) (omega arith) h) (not_so no_end) in omega arith)

  pub place_not_followed : (r : Record) (rest : List Record) → rs ≡ take (visit rs s).reached rs ++ (r ∷ rest) → may_follow (take (visit rs s).reached rs) s r ≡ false
  place_not_followed r rest split =
      let xs : List Record = take (visit rs s).reached rs in
      is_false (may_follow xs s r)
      (λ h. let q = place_longest ((may_follow_follows xs s r rest split).0 h) (not_so no_end) in omega (arith, length-take-le (visit rs s).reached rs (follows_length place)))

  pub place_inside : Fits s rs → (visit rs s).reached < length rs
  place_inside fits = elim (dec_le (suc (visit rs s).reached) (length rs)) [ yes l ↦ l | no n ↦ absurd (not_so no_end (found_all (fits_ends rs fits (at_last n)))) ]
    where
      at_last : (suc (visit rs s).reached ≤ length rs → ⊥) → Follows s rs (length rs)
      at_last n = let e : (visit rs s).reached ≡ length rs = omega (arith, follows_length place) in subst (Follows s rs) e place

-- A search that finds an end ----------------------------------------------------------------------------------------------------------

along_ends : {rs : List Record} {s : State} → Ends s rs → (k : ℕ) → k ≤ length rs → Follows s rs k
along_ends e zero l = stays
along_ends at_end (suc k) l = absurd (omega arith)
along_ends (Ends.moves m e) (suc k) l = Follows.moves m (along_ends e k (omega arith))

module _ (rs : List Record) (s : State) (has_end : T (visit rs s).found) where
  pub found_passes : (k : ℕ) → k ≤ length rs → T (passes (take k rs) s)
  found_passes k l = follows_first (along_ends (found_only rs s has_end) k l)

  pub found_may_follow : (xs : List Record) (r : Record) (rest : List Record) → rs ≡ xs ++ (r ∷ rest) → T (may_follow xs s r)
  found_may_follow xs r rest split = (may_follow_follows xs s r rest split).1 (along_ends (found_only rs s has_end) (suc (length xs)) (split_longer xs s r rest split))

-- Beginnings ----------------------------------------------------------------------------------------------------------------------------

begins_no_end : {rs : List Record} {s : State} → Begins s rs → Ends s rs → ⊥
begins_no_end b at_end = b
begins_no_end b (Ends.moves {rs} m e) = begins_no_end (begins_moves rs m b) e

pub begins_found : (s : State) (rs : List Record) → Begins s rs → (visit rs s).found ≡ false
begins_found s rs b = is_false (visit rs s).found (λ h. begins_no_end b (found_only rs s h))

pub begins_entered : (s : State) (rs : List Record) → Begins s rs → (visit rs s).entered ≡ entered rs s
begins_entered s rs b =
    let no_end = begins_found s rs b in
    sym (visit_entered rs s (length rs) no_end (follows_length (place rs s no_end))) ∙ ap (λ xs. entered xs s) (take-length rs)

append_not_empty : (xs : List Record) (r : Record) (rest : List Record) → xs ++ (r ∷ rest) ≡ [] → ⊥
append_not_empty xs r rest e = omega (arith, length-append xs (r ∷ rest), ap length e)

closed_open : (xs : List Record) (r : Record) (rest : List Record) → Closed (xs ++ (r ∷ rest)) → Open xs
closed_open [] r rest c = Open.none
closed_open (event a ∷ xs) r rest c = Open.more (closed_open xs r rest (closed_event c))
closed_open (close w ∷ xs) r rest c = absurd (append_not_empty xs r rest (closed_close c))

twice_open : (xs : List Record) (r : Record) (rest : List Record) → ClosedTwice (xs ++ (r ∷ rest)) → OpenTwice xs
twice_open [] r rest c = OpenTwice.none
twice_open (event a ∷ xs) r rest c = OpenTwice.more (twice_open xs r rest (twice_event c))
twice_open (close w ∷ xs) r rest c = OpenTwice.turn (closed_open xs r rest (twice_close c))

pub fits_begins : (s : State) (rs : List Record) → Fits s rs → (xs : List Record) (r : Record) (rest : List Record) → rs ≡ xs ++ (r ∷ rest) → Begins s xs
fits_begins over rs f xs r rest split = append_not_empty xs r rest (sym split ∙ f)
fits_begins (std p) rs f xs r rest split = closed_open xs r rest (subst Closed split f)
fits_begins (cmp pp) rs f xs r rest split = twice_open xs r rest (subst ClosedTwice split f)
