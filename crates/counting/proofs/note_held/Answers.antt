-- `counting::note_held` meets its contract: the row is that of a pair of SKIP and what is held. Assumes nothing.
use Prim.Native.Nat.{ℕ}
use mathlib.Core.List.{List}
use Rattle.tallies.specs.declared.Word.{Word}
use mathlib.Core.Path.{◌≡◌, ◌∙◌, ap, subst}
use Rattle.tallies.specs.Formulas.{pair_w}
use Rattle.states.specs.Rows.{Written}
use Rattle.counting.proofs.note_held.Goals as goal

kept-as : {d d' : List ℕ} {i : ℕ} {x y : Word} → x ≡ y → Written d i x d' → Written d i y d'
kept-as {d} {d'} {i} e h = subst (λ x. Written d i x d') e h

pub returns : goal.returns
returns c = kept-as (c.pair.ensures ∙ ap (λ v. pair_w v c.args.v) c.skip.ensures) c.keep.ensures
