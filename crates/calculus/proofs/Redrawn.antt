-- Terms that are equal by the laws are judged alike: complete runs of the one are those of the other (`redrawn_complete`), so that they
-- are accepted together (`redrawn_found`). They also follow the same records, where they get stuck too (`redrawn_follows`,
-- `redrawn_passes`), and so are rejected at the same place (`redrawn_place`; together `redrawn_alike`), unless either is undecided.
-- Assumes nothing.
use Rattle.std.specs.Prelude.{ℕ, suc, ◌≡◌, ◌↔◌, Bool, List, ◌∷◌, leb, length, take}
use Rattle.std.proofs.Common.{sym, subst, arith}
use Rattle.std.proofs.Math.Bool.{true, false}
use Rattle.std.proofs.Math.Dec.{T}
use Rattle.calculus.specs.Records.{Record, State, Complete, InTraces, Follows, stays}
use Rattle.calculus.specs.Search.{visit, settle, judge}
use Rattle.calculus.specs.Ahead.{passes}
use Rattle.calculus.specs.Leaves.{EachState}
use Rattle.calculus.specs.Remade.{loose, Passable, Apart}
use Rattle.calculus.specs.Alike.{Alike, both_accepted, both_rejected, first_undecided, second_undecided}
use Rattle.calculus.specs.Laws.{Same, CSame, Redrawn}
use Rattle.calculus.proofs.LawsHold.{same_traces, csame_pairs}
use Rattle.calculus.proofs.Completes.{complete_traces, std_traces, cmp_traces}
use Rattle.calculus.proofs.Found.{Ends, ends_complete, complete_ends, found_complete, place_follows, place_longest}
use Rattle.calculus.proofs.DeafLaws.{each_moves}
use Rattle.calculus.proofs.AheadLaws.{first_follows, follows_first, follows_length, passes_follows}
use Rattle.calculus.proofs.RemadeLaws.{loosely, loose_passes, loose_passable, redrawn_loose, passed_over}

-- Redrawing keeps the complete runs ------------------------------------------------------------------------------------------

pub redrawn_flip : {s t : State} → Redrawn s t → Redrawn t s
redrawn_flip (Redrawn.standard h) = Redrawn.standard (Same.flip h)
redrawn_flip (Redrawn.compensable h) = Redrawn.compensable (CSame.cflip h)

pub redrawn_traces : {s t : State} → Redrawn s t → (rs : List Record) → InTraces s rs → InTraces t rs
redrawn_traces (Redrawn.standard {p} {q} h) rs c = (std_traces p q (same_traces h) rs).0 c
redrawn_traces (Redrawn.compensable {pp} {qq} h) rs c = (cmp_traces pp qq (csame_pairs h) rs).0 c

pub redrawn_complete : {s t : State} → Redrawn s t → (rs : List Record) → Complete s rs → Complete t rs
redrawn_complete {s} {t} h rs c = (complete_traces t rs).1 (redrawn_traces h rs ((complete_traces s rs).0 c))

-- Found alike ------------------------------------------------------------------------------------------------------------------

module _ {s t : State} (h : Redrawn s t) (rs : List Record) where
  pub redrawn_found : T (visit rs s).found ↔ T (visit rs t).found
  redrawn_found = (
    λ f. (found_complete t rs).1 (redrawn_complete h rs ((found_complete s rs).0 f)),
    λ f. (found_complete s rs).1 (redrawn_complete (redrawn_flip h) rs ((found_complete t rs).0 f)),
  )

-- Followed alike ---------------------------------------------------------------------------------------------------------------

-- A flow that gets stuck follows records that begin no complete run. But its loose form, in which each leaf can be passed over, follows them
-- too, and there they do.

-- the first n records are the same
data Shared : ℕ → List Record → List Record → Type 0 where
  none : {rs rs' : List Record} → Shared 0 rs rs'
  also : {r : Record} {rs rs' : List Record} {n : ℕ} → Shared n rs rs' → Shared (suc n) (r ∷ rs) (r ∷ rs')

follows_ends : {s : State} {rs : List Record} {n : ℕ} → Follows s rs n → EachState Passable Apart s → (rs' : List Record) × Shared n rs rs' × Ends s rs'
follows_ends (stays {s}) o = let c = passed_over s o in (c.0, none, complete_ends s c.0 c.1)
follows_ends (Follows.moves {r} m a) o = let e = follows_ends a (each_moves Passable Apart o m) in (r ∷ e.0, also e.1, Ends.moves m e.2)

ends_follows : {s : State} {rs rs' : List Record} {n : ℕ} → Shared n rs rs' → Ends s rs' → Follows s rs n
ends_follows none e = stays
ends_follows (also k) (Ends.moves m e) = Follows.moves m (ends_follows k e)

loose_follows : {s t : State} → Redrawn s t → {rs : List Record} {n : ℕ} → Follows (loose s) rs n → Follows (loose t) rs n
loose_follows {s} {t} h f =
    let e = follows_ends f (loose_passable s) in
    ends_follows e.1 (complete_ends (loose t) e.0 (redrawn_complete (redrawn_loose h) e.0 (ends_complete (loose s) e.0 e.2)))

pub redrawn_passes : {s t : State} → Redrawn s t → (rs : List Record) → T (passes rs s) → T (passes rs t)
redrawn_passes {s} {t} h rs k =
    let f = (passes_follows (loosely rs) (loose s)).0 (subst T (loose_passes rs s) k) in
    subst T (sym (loose_passes rs t)) ((passes_follows (loosely rs) (loose t)).1 (loose_follows h f))

pub redrawn_follows : {s t : State} → Redrawn s t → {rs : List Record} {n : ℕ} → Follows s rs n → Follows t rs n
redrawn_follows {t = t} h {rs} {n} f = first_follows rs t n (follows_length f) (redrawn_passes h (take n rs) (follows_first f))

pub redrawn_place : {s t : State} → Redrawn s t → (rs : List Record) → (T (visit rs s).found → ⊥) → (visit rs s).reached ≡ (visit rs t).reached
redrawn_place {s} {t} h rs f =
    let g : T (visit rs t).found → ⊥ = λ k. f ((redrawn_found h rs).1 k) in
    let one = place_longest (redrawn_follows h (place_follows rs s f)) g in
    let two = place_longest (redrawn_follows (redrawn_flip h) (place_follows rs t g)) f in
    omega arith

-- Judged alike -------------------------------------------------------------------------------------------------------------------

module _ {s t : State} (h : Redrawn s t) (rs : List Record) where
  pub redrawn_alike : (n m : ℕ) → Alike (judge s rs n) (judge t rs m)
  unfolding judge settle
  redrawn_alike n m = by (leb (visit rs s).entered n) (leb (visit rs t).entered m) (visit rs s).found (visit rs t).found (redrawn_found h rs) (redrawn_place h rs)
    where
      by : (e d f g : Bool) → T f ↔ T g → ((T f → ⊥) → (visit rs s).reached ≡ (visit rs t).reached) → Alike (settle e f (length rs) n (visit rs s)) (settle d g (length rs) m (visit rs t))
      by false d f g k p = first_undecided
      by true false f g k p = second_undecided
      by true true true true k p = both_accepted
      by true true true false k p = absurd (k.0 tt)
      by true true false true k p = absurd (k.1 tt)
      by true true false false k p = both_rejected (p (λ x. x))
