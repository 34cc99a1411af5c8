-- `steps::turn_run` meets its contract: each operator by its law; where PP;QQ goes on, one of PP's compensations is held. Assumes nothing.
use Rattle.steps.specs.TurnLaws.{run_small, into_first, apart_turned, held_spot, held_weighed, held_number, first_kept, sequence_turned}
use mathlib.Core.Logic.{inl, inr}
use mathlib.Core.Path.{refl}
use Rattle.states.specs.StageLaws.{still_lent}
use Rattle.steps.proofs.turn_run.Goals as goal

pub turn_two-x-requires : goal.turn_two-x-requires
turn_two-x-requires c =
    record {
      i_in_bounds = c.requires.ready.spot.room;
      first_bound = (run_small c.requires.ready c.requires.stands).0;
    }

pub hold-held-requires : goal.hold-held-requires
hold-held-requires c =
    let h = c.requires.ready in let d = c.in-Sequence.is in let e = rw d at c.requires.stands in let f = rw d at c.turn_two-x.ensures in let b = c.if-x.true in record {
      spot = held_spot h e f b;
      second_bound = (run_small h e).1;
      weighed = held_weighed h e f b;
      j_bound = held_number h e f b;
    }

pub returns-then-x : goal.returns-then-x
returns-then-x c =
    let h = c.requires.ready in
    let d = c.in-Sequence.is in
    let e = rw d at c.requires.stands in
    let f = rw d at c.turn_two-x.ensures in
    let kept = c.hold-held.ensures.noted in record {
      turned = sequence_turned h e f c.if-x.true c.hold-held.ensures.chosen kept refl c.hold-held.ensures.lent.long;
      noted = first_kept h e kept;
      lent = still_lent (record { name = refl; long = c.turn_two-x.auto.t }) c.hold-held.ensures.lent;
    }

pub returns-else-x : goal.returns-else-x
returns-else-x c =
    record {
      turned = into_first c.requires.ready c.requires.apart c.requires.stands c.turn_two-x.ensures c.if-x.false;
      noted = λ j n. refl;
      lent = record { name = refl; long = c.turn_two-x.auto.t };
    }

pub returns-in-Choice : goal.returns-in-Choice
returns-in-Choice c =
    let h = c.requires.ready in record {
      turned =
          elim c.in-Choice.is [
            | inl d ↦ apart_turned h tt (rw d at c.requires.apart) (rw d at c.requires.stands) (rw d at c.turn_two-x.ensures)
            | inr d ↦ apart_turned h tt (rw d.1 at c.requires.apart) (rw d.1 at c.requires.stands) (rw d.1 at c.turn_two-x.ensures)
          ];
      noted = λ j n. refl;
      lent = record { name = refl; long = c.turn_two-x.auto.t };
    }
