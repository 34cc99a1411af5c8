-- `search::gather` meets its contract: the first asks are answered and the others as they were. Assumes nothing.
use Prim.Native.Nat.{ℕ, zero, suc, ◌+◌, ◌<◌, ◌≤◌}
use mathlib.Core.Path.{◌≡◌, refl, sym, ap, ap₂, ◌∙◌, subst}
use mathlib.Core.List.{List, [], ◌∷◌, map}
use native.Mathlib.Omega.{arith}
use native.Mathlib.Numerals.{add-one}
use lib.ListN.{length, get_or, set}
use Rattle.flow.specs.Cues.{failed_cue}
use Rattle.search.specs.Visits.{state}
use Rattle.search.specs.Searches.{answered}
use Rattle.search.proofs.gather.Invariants.{changed}
use Rattle.search.proofs.gather.Goals as goal

module _ (f : ℕ → ℕ) where
  -- the next one is as it was
  changed-at : (d : List ℕ) (i : ℕ) → get_or (changed f i d) i 0 ≡ get_or d i 0
  changed-at [] zero = refl
  changed-at [] (suc i) = refl
  changed-at (x ∷ d) zero = refl
  changed-at (x ∷ d) (suc i) = changed-at d i

  changed-next : (d : List ℕ) (i : ℕ) → i < length d → set (changed f i d) i (f (get_or d i 0)) ≡ changed f (suc i) d
  changed-next [] i h = absurd (omega arith)
  changed-next (x ∷ d) zero h = refl
  changed-next (x ∷ d) (suc i) h = ap (λ l. f x ∷ l) (changed-next d i (omega arith))

  changed-all : (d : List ℕ) → changed f (length d) d ≡ map f d
  changed-all [] = refl
  changed-all (x ∷ d) = ap (λ l. f x ∷ l) (changed-all d)

-- the next ask, as it was and answered
module _ (f : ℕ → ℕ) (d l : List ℕ) (i r : ℕ) (e : l ≡ changed f i d) where
  pub ask_was : get_or l i 0 ≡ get_or d i 0
  ask_was = ap (λ x. get_or x i 0) e ∙ changed-at f d i

  ask_done : i < length d → r ≡ f (get_or l i 0) → set l i r ≡ changed f (i + 1) d
  ask_done h a = ap₂ (λ x v. set x i v) e (a ∙ ap f ask_was) ∙ changed-next f d i h ∙ ap (λ j. changed f j d) (sym (add-one i))

pub answer-requires : goal.answer-requires
answer-requires c =
    let a = c.args in
    let was = ask_was (answered (state a.here.ns.now a.here.role a.here.t.now) []) a.asks.now c.loop-ask.asks c.loop-ask.ask-index 0 c.loop-ask.invariant in
    subst (λ x. x ≤ failed_cue) (sym was) (c.requires c.loop-ask.ask-index)

pub loop-ask-preserved : goal.loop-ask-preserved
loop-ask-preserved c =
    let a = c.args in
    ask_done (answered (state a.here.ns.now a.here.role a.here.t.now) []) a.asks.now c.loop-ask.asks c.loop-ask.ask-index c.answer.result c.loop-ask.invariant c.loop-ask-test.true c.answer.ensures

pub returns : goal.returns
returns c =
    let a = c.args in
    let f : ℕ → ℕ = answered (state a.here.ns.now a.here.role a.here.t.now) [] in
    let e : c.loop-ask.ask-index ≡ length a.asks.now = omega arith in
    c.loop-ask.invariant ∙ ap (λ i. changed f i a.asks.now) e ∙ changed-all f a.asks.now
