-- `steps::turn_out` meets its contract: a compensation is chosen by what is left of the place, and the tables are right for it. Assumes nothing.
use mathlib.Core.Path.{refl, ◌∙◌}
use native.Mathlib.Omega.{arith}
use Rattle.states.specs.ChildLaws.{set_sets}
use Rattle.steps.specs.TurnLaws.{block_small, block_kept, out_spot, out_weighed, out_room, out_turned}
use Rattle.steps.proofs.turn_out.Goals as goal

pub count_at-n-requires : goal.count_at-n-requires
count_at-n-requires c = block_small c.requires.ready c.requires.stands

pub set_mode-requires : goal.set_mode-requires
set_mode-requires c = c.requires.ready.spot.room

pub choose-x-requires : goal.choose-x-requires
choose-x-requires c =
    let h = c.requires.ready in
    let e = c.requires.stands in
    let g = c.requires.child_bound in
    let w = set_sets h.spot.room c.set_mode.ensures in record {
      spot = out_spot h e g w;
      weighed = out_weighed h e g w;
      j_bound = rw c.count_at-n.ensures (out_room h e g w);
    }

pub returns : goal.returns
returns c =
    let h = c.requires.ready in
    let e = c.requires.stands in
    let g = c.requires.child_bound in
    let w = set_sets h.spot.room c.set_mode.ensures in
    let x = rw c.count_at-n.ensures at c.choose-x.ensures.chosen in
    let y = c.choose-x.ensures.counted in record {
      turned = out_turned h e g w x c.choose-x.ensures.lent.long refl y;
      noted = block_kept h e y.kept;
      lent = record { name = c.choose-x.ensures.lent.name; long = c.choose-x.ensures.lent.long ∙ c.set_mode.auto.t };
    }
