-- `tallies::Word::parallel` meets its contract: by the closed forms, which leave nothing of what is empty. Assumes nothing.
use mathlib.Core.Path.{sym, ◌∙◌}
use Rattle.tallies.specs.Formulas.{cpar_w}
use Rattle.tallies.specs.OwnLaws.{both_true}
use Rattle.tallies.proofs.ClosedForms.{both_t_done, fails_done, fails_withdrawn, fails_failed, none_fails}
use Rattle.tallies.proofs.WordKnown.parallel.Goals as goal

pub returns-then-both_empty : goal.returns-then-both_empty
unfolding cpar_w
returns-then-both_empty c =
    let a = c.args in
    let e = both_true _ _ (sym c.both_empty.ensures ∙ c.if-both_empty.true) in
    simp (
      c.beside_any.ensures,
      c.none-then-both_empty.ensures,
      c.none.ensures,
      c.sides-moves.ensures,
      fails_done a.joint a.x a.y e.0 e.1,
      fails_withdrawn a.joint a.x a.y e.0 e.1,
      fails_failed a.joint a.x a.y e.0 e.1,
    )

pub returns-then-both_empty-2 : goal.returns-then-both_empty-2
unfolding cpar_w
returns-then-both_empty-2 c =
    let a = c.args in
    let e = both_true _ _ (sym c.both_empty-2.ensures ∙ c.if-both_empty-2.true) in
    simp (
      c.none-then-both_empty-2.ensures,
      c.withdrawn_tally-w.ensures,
      c.parallel-d.ensures,
      c.sides-moves.ensures,
      both_t_done,
      none_fails a.joint a.x a.y e.0 e.1,
    )

pub returns : goal.returns
unfolding cpar_w
returns c =
    simp (
      c.failed_tally.ensures,
      c.withdrawn_tally-w.ensures,
      c.parallel-d.ensures,
      c.sides-moves.ensures,
      both_t_done,
    )
