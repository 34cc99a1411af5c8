-- `seek::seek_pair` meets its contract: P is redrawn; by the closing, the node gets the mode that leaves Q, of which the pair's row tells, or
-- nothing. Assumes nothing.
use mathlib.Core.Path.{ap}
use mathlib.Core.Logic.{inl, inr}
use Rattle.tallies.specs.Formulas.{closing}
use Rattle.seek.specs.Asked.{to_second, to_nothing}
use Rattle.seek.specs.Branches.{pair_first}
use Rattle.seek.proofs.seek_pair.Goals as goal

pub redraw-requires : goal.redraw-requires
redraw-requires c = pair_first c.requires.spot c.requires.stands

pub lone_at-requires : goal.lone_at-requires
lone_at-requires c = c.requires.i_in_bounds

pub returns-in-Done : goal.returns-in-Done
returns-in-Done c = rw c.lone_at.ensures (to_second (ap closing c.in-Done.is) c.redraw.ensures c.set_mode.ensures)

pub returns-in-Withdrawn : goal.returns-in-Withdrawn
returns-in-Withdrawn c = to_nothing (elim c.in-Withdrawn.is [ inl e ↦ rw e tt | inr e ↦ rw e tt ]) c.redraw.ensures c.set_mode-in-Withdrawn.ensures
