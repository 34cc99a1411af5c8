-- All pairs of two lists, and the lists of compensations that are made so. Definitions only; their laws are in SumsLaws and
-- CountsLaws. Assumes nothing.
use Rattle.std.specs.Prelude.{List, map}
use Rattle.calculus.specs.Term.{Closing, Joint, Std, seq, par, join}
use Rattle.calculus.specs.Successors.{eqc, closings, only, each}

abbrev pub grid : {A B C : Type 0} → (A → B → C) → List A → List B → List C
grid h k l = each k (λ x. map (h x) l)

-- all l;k, k from ks and l from ls
abbrev pub afters : List Std → List Std → List Std
afters = grid (λ k l. seq l k)

-- all k beside l, k from ks and l from ls
abbrev pub besides : Joint → List Std → List Std → List Std
besides j = grid (par j)

-- the compensations of the second of two parallel sides, ls by closing, that go with an ending w of the first where both end by u
unfoldable pub partners : (Closing → List Std) → Closing → Closing → List Std
unfolding only each
partners ls u w = each closings (λ v. only (eqc u (join w v)) (ls v))
