-- `steps::step_std`, `step_block`, `step_run`, `step` and `meet` meet their contracts: a node hands its step down, the child makes
-- it, or both do, and so the node has made it. The measure is four times the node's number, and more for a node that may be a block or a
-- parallel whose sides meet. The loop's invariant: the step has come down to the node where it is (Reached). Assumes nothing.
use Rattle.steps.specs.TurnLaws.{both_small, both_first_spot, both_first_turned, both_second_turned, handler_small, handler_first_spot, handler_first_turned, handler_second_turned, pair_turned, held_turned, only_turned, as_turned, block_small, block_ready, block_stands, block_stepped, inside_turned, event_stepped, no_step, no_run_step}
use Rattle.steps.specs.MeetLaws.{stand_meets, run_meets, met_lower, met_within, met_some, first_ready, second_ready, met_kept, met_stepped}
use native.Mathlib.Omega.{arith}
use mathlib.Core.Path.{refl, sym, ◌∙◌}
use Rattle.states.specs.StageLaws.{still_lent}
use Rattle.steps.specs.NodeLaws.{kept_under, same_tables, reached_self, reached_on}
use Rattle.steps.proofs.+stepping.Goals as goal

pub meet-count_at-n-requires : goal.meet-count_at-n-requires
meet-count_at-n-requires t c = met_within c.requires.ready c.requires.meets

pub meet-nonzero_div-k : goal.meet-nonzero_div-k
meet-nonzero_div-k t c = omega (arith, c.count_at-n.ensures, met_some c.requires.ready c.requires.meets)

pub meet-step-requires : goal.meet-step-requires
meet-step-requires t c = (omega (arith, c.decreases, (met_lower c.requires.ready c.requires.meets).0), rw c.count_at-n.ensures (first_ready c.requires.ready c.requires.meets))

pub meet-nonzero_rem-k : goal.meet-nonzero_rem-k
meet-nonzero_rem-k t c = omega (arith, c.count_at-n.ensures, met_some c.requires.ready c.requires.meets)

pub meet-step-requires-2 : goal.meet-step-requires-2
meet-step-requires-2 t c =
    let h = c.requires.ready in
    let m = c.requires.meets in
    let n = c.count_at-n.ensures in
    let x = rw n at c.step.ensures.stepped in
    (omega (arith, c.decreases, (met_lower h m).1), rw n (second_ready h m x c.step.ensures.noted refl c.step.ensures.lent.long))

pub meet-returns : goal.meet-returns
meet-returns t c =
    let h = c.requires.ready in
    let m = c.requires.meets in
    let n = c.count_at-n.ensures in record {
      stepped = met_stepped h m (rw n at c.step.ensures.stepped) (rw n at c.step-2.ensures.stepped);
      noted = met_kept h m c.step.ensures.noted c.step-2.ensures.noted;
      lent = still_lent c.step.ensures.lent c.step-2.ensures.lent;
    }

pub step_block-count_at-requires : goal.step_block-count_at-requires
step_block-count_at-requires t c = block_small c.requires.ready c.requires.stands

pub step_block-step_run-requires : goal.step_block-step_run-requires
step_block-step_run-requires t c =
    let n = c.count_at.ensures in
    let x = inside_turned c.requires.ready c.requires.stands (omega (arith, c.if-k-count_at.true)) in
    (omega (arith, x.lower, c.decreases), x.ready)

pub step_block-turn_out-at-requires : goal.step_block-turn_out-at-requires
step_block-turn_out-at-requires t c =
    let n = c.count_at.ensures in record {
      ready = c.requires.ready;
      stands = c.requires.stands;
      child_bound = omega (arith, c.if-k-count_at.false);
    }

pub step_block-step_std-requires : goal.step_block-step_std-requires
step_block-step_std-requires t c =
    let x = c.turn_out-at.ensures.turned in
    (omega (arith, x.lower, c.decreases), x.ready)

pub step_block-returns-then-k-count_at : goal.step_block-returns-then-k-count_at
step_block-returns-then-k-count_at t c =
    let n = c.count_at.ensures in
    let x = inside_turned c.requires.ready c.requires.stands (omega (arith, c.if-k-count_at.true)) in record {
      stepped = x.back _ c.step_run.ensures.stepped;
      noted = kept_under c.args.by.now.ns.now x.under c.step_run.ensures.noted;
      lent = c.step_run.ensures.lent;
    }

pub step_block-returns-else-k-count_at : goal.step_block-returns-else-k-count_at
step_block-returns-else-k-count_at t c =
    record {
      stepped = c.turn_out-at.ensures.turned.back _ c.step_std.ensures.stepped;
      noted = λ j n. kept_under c.args.by.now.ns.now c.turn_out-at.ensures.turned.under c.step_std.ensures.noted j n ∙ c.turn_out-at.ensures.noted j n;
      lent = still_lent c.turn_out-at.ensures.lent c.step_std.ensures.lent;
    }

pub step_run-course_at-runs-requires : goal.step_run-course_at-runs-requires
step_run-course_at-runs-requires t c = c.requires.spot

pub step_run-step_std-requires : goal.step_run-step_std-requires
step_run-step_std-requires t c =
    let x = pair_turned c.requires (sym c.course_at-runs.ensures ∙ c.in-Pair.is) in
    (omega (arith, x.lower, c.decreases), x.ready)

pub step_run-meet-requires : goal.step_run-meet-requires
step_run-meet-requires t c = (omega (arith, c.decreases), (c.requires, run_meets (sym c.joint_by.ensures ∙ c.if-joint_by.true) (sym c.course_at-runs.ensures ∙ c.in-Both.is)))

pub step_run-returns-then-joint_by : goal.step_run-returns-then-joint_by
step_run-returns-then-joint_by t c =
    record {
      stepped = c.meet.ensures.stepped;
      noted = c.meet.ensures.noted;
      lent = c.meet.ensures.lent;
    }

pub step_run-turn_run-x-requires : goal.step_run-turn_run-x-requires
step_run-turn_run-x-requires t c =
    record {
      ready = c.requires;
      stands = sym c.course_at-runs.ensures ∙ c.in-Both.is;
      apart = (sym c.joint_by.ensures ∙ c.if-joint_by.false);
    }

pub step_run-step_run-requires : goal.step_run-step_run-requires
step_run-step_run-requires t c =
    let x = c.turn_run-x.ensures.turned in
    (omega (arith, x.lower, c.decreases), x.ready)

pub step_run-step_run-requires-in-Held : goal.step_run-step_run-requires-in-Held
step_run-step_run-requires-in-Held t c =
    let x = held_turned c.requires (sym c.course_at-runs.ensures ∙ c.in-Held.is) in
    (omega (arith, x.lower, c.decreases), x.ready)

pub step_run-step_run-requires-in-As : goal.step_run-step_run-requires-in-As
step_run-step_run-requires-in-As t c =
    let x = as_turned c.requires (sym c.course_at-runs.ensures ∙ c.in-As.is) in
    (omega (arith, x.lower, c.decreases), x.ready)

pub step_run-returns-in-Basic : goal.step_run-returns-in-Basic
step_run-returns-in-Basic t c = absurd (no_run_step c.requires (sym c.course_at-runs.ensures ∙ c.in-Basic.is))

pub step_run-returns-in-Pair : goal.step_run-returns-in-Pair
step_run-returns-in-Pair t c =
    let x = pair_turned c.requires (sym c.course_at-runs.ensures ∙ c.in-Pair.is) in record {
      stepped = x.back _ c.step_std.ensures.stepped;
      noted = kept_under c.args.by.now.ns.now x.under c.step_std.ensures.noted;
      lent = c.step_std.ensures.lent;
    }

pub step_run-returns-else-joint_by : goal.step_run-returns-else-joint_by
step_run-returns-else-joint_by t c =
    record {
      stepped = c.turn_run-x.ensures.turned.back _ c.step_run.ensures.stepped;
      noted = λ j n. kept_under c.args.by.now.ns.now c.turn_run-x.ensures.turned.under c.step_run.ensures.noted j n ∙ c.turn_run-x.ensures.noted j n;
      lent = still_lent c.turn_run-x.ensures.lent c.step_run.ensures.lent;
    }

pub step_run-returns-in-Held : goal.step_run-returns-in-Held
step_run-returns-in-Held t c =
    let x = held_turned c.requires (sym c.course_at-runs.ensures ∙ c.in-Held.is) in record {
      stepped = x.back _ c.step_run-in-Held.ensures.stepped;
      noted = kept_under c.args.by.now.ns.now x.under c.step_run-in-Held.ensures.noted;
      lent = c.step_run-in-Held.ensures.lent;
    }

pub step_run-returns-in-As : goal.step_run-returns-in-As
step_run-returns-in-As t c =
    let x = as_turned c.requires (sym c.course_at-runs.ensures ∙ c.in-As.is) in record {
      stepped = x.back _ c.step_run-in-As.ensures.stepped;
      noted = kept_under c.args.by.now.ns.now x.under c.step_run-in-As.ensures.noted;
      lent = c.step_run-in-As.ensures.lent;
    }

pub step_std-loop-s-init : goal.step_std-loop-s-init
step_std-loop-s-init t c = (refl, (record { name = refl; long = refl }, reached_self c.requires))

pub step_std-stand_at-stands-requires : goal.step_std-stand_at-stands-requires
step_std-stand_at-stands-requires t c = c.loop-s.invariant.1.1.ready.spot

pub step_std-set_mode-requires : goal.step_std-set_mode-requires
step_std-set_mode-requires t c = c.loop-s.invariant.1.1.ready.spot.room

pub step_std-returns-in-Event : goal.step_std-returns-in-Event
step_std-returns-in-Event t c =
    let down = c.loop-s.invariant.1.1 in record {
      stepped = down.back _ (event_stepped down.ready (sym c.stand_at-stands.ensures ∙ c.in-Event.is) c.set_mode.ensures);
      noted = λ j n. same_tables _ c.loop-s.invariant.0 j;
      lent = record { name = c.loop-s.invariant.1.0.name; long = c.set_mode.auto.t ∙ c.loop-s.invariant.1.0.long };
    }

pub step_std-returns-in-Basic : goal.step_std-returns-in-Basic
step_std-returns-in-Basic t c = absurd (no_step c.loop-s.invariant.1.1.ready (sym c.stand_at-stands.ensures ∙ c.in-Basic.is))

pub step_std-meet-requires : goal.step_std-meet-requires
step_std-meet-requires t c =
    let down = c.loop-s.invariant.1.1 in
    (omega (arith, c.decreases, down.low), (down.ready, stand_meets (sym c.joint_by.ensures ∙ c.if-joint_by.true) (sym c.stand_at-stands.ensures ∙ c.in-Both.is)))

pub step_std-returns-then-joint_by : goal.step_std-returns-then-joint_by
step_std-returns-then-joint_by t c =
    let down = c.loop-s.invariant.1.1 in record {
      stepped = down.back _ c.meet.ensures.stepped;
      noted = λ j n. (kept_under c.args.by.now.ns.now down.under c.meet.ensures.noted) j n ∙ same_tables _ c.loop-s.invariant.0 j;
      lent = still_lent c.loop-s.invariant.1.0 c.meet.ensures.lent;
    }

pub step_std-turn_two-x-requires : goal.step_std-turn_two-x-requires
step_std-turn_two-x-requires t c =
    let down = c.loop-s.invariant.1.1 in record {
      i_in_bounds = down.ready.spot.room;
      first_bound = both_small down.ready (sym c.stand_at-stands.ensures ∙ c.in-Both.is);
    }

pub step_std-pass-requires : goal.step_std-pass-requires
step_std-pass-requires t c = both_first_spot c.loop-s.invariant.1.1.ready (sym c.stand_at-stands.ensures ∙ c.in-Both.is) c.turn_two-x.auto.t

pub step_std-loop-s-smaller-then-x : goal.step_std-loop-s-smaller-then-x
step_std-loop-s-smaller-then-x t c =
    let down = c.loop-s.invariant.1.1 in
    let x = both_second_turned down.ready (sym c.joint_by.ensures ∙ c.if-joint_by.false) (sym c.stand_at-stands.ensures ∙ c.in-Both.is) (rw c.gone_on.ensures at c.turn_two-x.ensures) c.if-x.true c.pass.ensures in
    x.lower

pub step_std-loop-s-preserved-then-x : goal.step_std-loop-s-preserved-then-x
step_std-loop-s-preserved-then-x t c =
    let down = c.loop-s.invariant.1.1 in
    let x = both_second_turned down.ready (sym c.joint_by.ensures ∙ c.if-joint_by.false) (sym c.stand_at-stands.ensures ∙ c.in-Both.is) (rw c.gone_on.ensures at c.turn_two-x.ensures) c.if-x.true c.pass.ensures in
    (c.loop-s.invariant.0, (record { name = c.loop-s.invariant.1.0.name; long = (c.pass.auto.t ∙ c.turn_two-x.auto.t) ∙ c.loop-s.invariant.1.0.long }, reached_on down x ((c.pass.auto.t ∙ c.turn_two-x.auto.t))))

pub step_std-loop-s-smaller-else-x : goal.step_std-loop-s-smaller-else-x
step_std-loop-s-smaller-else-x t c =
    let down = c.loop-s.invariant.1.1 in
    let x = both_first_turned down.ready (sym c.joint_by.ensures ∙ c.if-joint_by.false) (sym c.stand_at-stands.ensures ∙ c.in-Both.is) (rw c.gone_on.ensures at c.turn_two-x.ensures) c.if-x.false in
    x.lower

pub step_std-loop-s-preserved-else-x : goal.step_std-loop-s-preserved-else-x
step_std-loop-s-preserved-else-x t c =
    let down = c.loop-s.invariant.1.1 in
    let x = both_first_turned down.ready (sym c.joint_by.ensures ∙ c.if-joint_by.false) (sym c.stand_at-stands.ensures ∙ c.in-Both.is) (rw c.gone_on.ensures at c.turn_two-x.ensures) c.if-x.false in
    (c.loop-s.invariant.0, (record { name = c.loop-s.invariant.1.0.name; long = c.turn_two-x.auto.t ∙ c.loop-s.invariant.1.0.long }, reached_on down x (c.turn_two-x.auto.t)))

pub step_std-turn_two-x-requires-in-Handler : goal.step_std-turn_two-x-requires-in-Handler
step_std-turn_two-x-requires-in-Handler t c =
    let down = c.loop-s.invariant.1.1 in record {
      i_in_bounds = down.ready.spot.room;
      first_bound = handler_small down.ready (sym c.stand_at-stands.ensures ∙ c.in-Handler.is);
    }

pub step_std-redraw-requires : goal.step_std-redraw-requires
step_std-redraw-requires t c = handler_first_spot c.loop-s.invariant.1.1.ready (sym c.stand_at-stands.ensures ∙ c.in-Handler.is) c.turn_two-x-in-Handler.auto.t

pub step_std-loop-s-smaller-then-x-2 : goal.step_std-loop-s-smaller-then-x-2
step_std-loop-s-smaller-then-x-2 t c =
    let down = c.loop-s.invariant.1.1 in
    let x = handler_second_turned down.ready (sym c.stand_at-stands.ensures ∙ c.in-Handler.is) c.turn_two-x-in-Handler.ensures c.if-x-2.true c.redraw.ensures in
    x.lower

pub step_std-loop-s-preserved-then-x-2 : goal.step_std-loop-s-preserved-then-x-2
step_std-loop-s-preserved-then-x-2 t c =
    let down = c.loop-s.invariant.1.1 in
    let x = handler_second_turned down.ready (sym c.stand_at-stands.ensures ∙ c.in-Handler.is) c.turn_two-x-in-Handler.ensures c.if-x-2.true c.redraw.ensures in
    (c.loop-s.invariant.0, (record { name = c.loop-s.invariant.1.0.name; long = (c.redraw.auto.t ∙ c.turn_two-x-in-Handler.auto.t) ∙ c.loop-s.invariant.1.0.long }, reached_on down x ((c.redraw.auto.t ∙ c.turn_two-x-in-Handler.auto.t))))

pub step_std-loop-s-smaller-else-x-2 : goal.step_std-loop-s-smaller-else-x-2
step_std-loop-s-smaller-else-x-2 t c =
    let down = c.loop-s.invariant.1.1 in
    let x = handler_first_turned down.ready (sym c.stand_at-stands.ensures ∙ c.in-Handler.is) c.turn_two-x-in-Handler.ensures c.if-x-2.false in
    x.lower

pub step_std-loop-s-preserved-else-x-2 : goal.step_std-loop-s-preserved-else-x-2
step_std-loop-s-preserved-else-x-2 t c =
    let down = c.loop-s.invariant.1.1 in
    let x = handler_first_turned down.ready (sym c.stand_at-stands.ensures ∙ c.in-Handler.is) c.turn_two-x-in-Handler.ensures c.if-x-2.false in
    (c.loop-s.invariant.0, (record { name = c.loop-s.invariant.1.0.name; long = c.turn_two-x-in-Handler.auto.t ∙ c.loop-s.invariant.1.0.long }, reached_on down x (c.turn_two-x-in-Handler.auto.t)))

pub step_std-step_block-requires : goal.step_std-step_block-requires
step_std-step_block-requires t c =
    let down = c.loop-s.invariant.1.1 in
    let stands = sym c.stand_at-stands.ensures ∙ c.in-Block.is in
    (omega (arith, c.decreases, down.low), (block_ready down.ready stands, block_stands down.ready stands))

pub step_std-returns-in-Block : goal.step_std-returns-in-Block
step_std-returns-in-Block t c =
    let down = c.loop-s.invariant.1.1 in record {
      stepped = down.back _ (block_stepped down.ready (sym c.stand_at-stands.ensures ∙ c.in-Block.is) c.step_block.ensures.stepped);
      noted = λ j n. (kept_under c.args.by.now.ns.now down.under c.step_block.ensures.noted) j n ∙ same_tables _ c.loop-s.invariant.0 j;
      lent = still_lent c.loop-s.invariant.1.0 c.step_block.ensures.lent;
    }

pub step_std-loop-s-smaller : goal.step_std-loop-s-smaller
step_std-loop-s-smaller t c =
    let down = c.loop-s.invariant.1.1 in
    let x = only_turned down.ready (sym c.stand_at-stands.ensures ∙ c.in-As.is) in
    x.lower

pub step_std-loop-s-preserved : goal.step_std-loop-s-preserved
step_std-loop-s-preserved t c =
    let down = c.loop-s.invariant.1.1 in
    let x = only_turned down.ready (sym c.stand_at-stands.ensures ∙ c.in-As.is) in
    (c.loop-s.invariant.0, (c.loop-s.invariant.1.0, reached_on down x (refl)))
