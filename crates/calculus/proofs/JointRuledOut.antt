-- Errors about sets of joint events that look right (02, Four), each refuted by a flow that shows the difference: that SKIP is the unit of a
-- set that is not empty, and that parallel associates with two sets; that one side takes a joint event alone, that compensations lose the
-- set, that a joint step goes by the right side's order first. And a flow that strands. Assumes nothing.
use Rattle.std.specs.Prelude.{ℕ, ◌≡◌, refl, true, false, ◌↔◌, [], ◌∷◌, eqb}
use Rattle.std.proofs.Common.{sym, ◌∙◌, ap, subst₂, true≢false, eqb→eq}
use Rattle.std.proofs.Math.Dec.{eqb_refl}
use Rattle.calculus.specs.Term.{done, leaf, Joint, Std, skip, ev, seq, alt, par, blk, pair, cseq, cpar, throww}
use Rattle.calculus.specs.Records.{event, close, State, std}
use Rattle.calculus.specs.Successors.{steps}
use Rattle.calculus.specs.Search.{visit, accepted, rejected, judge}
use Rattle.calculus.specs.Traces.{Trace, tr, mix_none, mix_left, mix_right, mix_both, ParT, mixed, beside, Tr}

-- the event a, once
abbrev once : ℕ → Std
once a = ev (leaf a)

once_in : (a : ℕ) → Tr (once a) (tr (a ∷ []) done)
once_in a = (a, eqb_refl a, refl)

not_alone : {j : Joint} {a : ℕ} {z : Trace} → j a ≡ true → ParT j (tr [] done) (tr (a ∷ []) done) z → ⊥
not_alone h (mixed (mix_right e m) f) = true≢false (sym h ∙ e)

-- "SKIP isn't its unit": a joint event waits for the other side, and beside SKIP it waits forever
pub waits : (j : Joint) (a : ℕ) → j a ≡ true → (z : Trace) → Tr (par j skip (once a)) z → ⊥
waits j a h z (beside e k m) = not_alone h (subst₂ (λ x y. ParT j x y z) e (k.2 ∙ ap (λ b. tr (b ∷ []) done) (eqb→eq k.0 a k.1)) m)

pub skip_no_unit : (j : Joint) (a : ℕ) → j a ≡ true → ((z : Trace) → Tr (par j skip (once a)) z ↔ Tr (once a) z) → ⊥
skip_no_unit j a h same = waits j a h (tr (a ∷ []) done) ((same (tr (a ∷ []) done)).1 (once_in a))

-- "its associativity with one set throughout": where the sets differ at an event, that event is asked of the middle on one side only
pub sets_no_assoc : (j k : Joint) (a : ℕ) → j a ≡ true → k a ≡ false → ((z : Trace) → Tr (par j (par k (once a) skip) (once a)) z ↔ Tr (par k (once a) (par j skip (once a))) z) → ⊥
sets_no_assoc j k a h n same = stuck ((same (tr (a ∷ []) done)).0 both)
  where
    both : Tr (par j (par k (once a) skip) (once a)) (tr (a ∷ []) done)
    both = beside (beside (once_in a) refl (mixed (mix_left n mix_none) refl)) (once_in a) (mixed (mix_both h mix_none) refl)

    stuck : Tr (par k (once a) (par j skip (once a))) (tr (a ∷ []) done) → ⊥
    stuck (beside {y} x w m) = waits j a h y w

-- Judged by hand ----------------------------------------------------------------------------------------------------------------------

abbrev only_event : ℕ → Joint
only_event a b = eqb b a

-- (a;b) with {b} beside c: after a and c each side waits for what the other does not do
pub strands : judge (std (par (only_event 2) (seq (once 1) (once 2)) (once 3))) (event 1 ∷ event 3 ∷ close done ∷ []) 1000000 ≡ rejected 2 3
unfolding judge visit
strands = refl

-- "an event in the set is one step of both sides": a beside a with {a} takes one a, and not two
pub taken_together : judge (std (par (only_event 1) (once 1) (once 1))) (event 1 ∷ close done ∷ []) 1000000 ≡ accepted 2 3
unfolding judge visit
taken_together = refl

pub not_taken_twice : judge (std (par (only_event 1) (once 1) (once 1))) (event 1 ∷ event 1 ∷ close done ∷ []) 1000000 ≡ rejected 1 2
unfolding judge visit
not_taken_twice = refl

-- compensations keep the set: c undoes both sides, once
abbrev undone_together : State
undone_together = std (blk (cseq (cpar (only_event 3) (pair (once 1) (once 3)) (pair (once 2) (once 3))) throww))

pub undone_once : judge undone_together (event 1 ∷ event 2 ∷ event 3 ∷ close done ∷ []) 1000000 ≡ accepted 4 5
unfolding judge visit
undone_once = refl

pub not_undone_twice : judge undone_together (event 1 ∷ event 2 ∷ event 3 ∷ event 3 ∷ close done ∷ []) 1000000 ≡ rejected 3 4
unfolding judge visit
not_undone_twice = refl

-- "by the left's order, then the right's": with each of the left's successors all of the right's
pub left_first : (p p' q q' : Std) → steps (par (only_event 1) (alt (seq (once 1) p) (seq (once 1) p')) (alt (seq (once 1) q) (seq (once 1) q'))) 1
    ≡ (par (only_event 1) (seq skip p) (seq skip q) ∷ par (only_event 1) (seq skip p) (seq skip q') ∷ par (only_event 1) (seq skip p') (seq skip q) ∷ par (only_event 1) (seq skip p') (seq skip q') ∷ [])
unfolding steps
left_first p p' q q' = refl
