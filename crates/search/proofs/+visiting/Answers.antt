-- The counted search meets its contract: `visit` recalls a state or enters it, `visit_each` counts its successors,
-- `try_each` goes through them and `follow` into one. The recursion's measure is six for each record that is left. The loop's invariant
-- is `Going`: what is kept, what was learned, and that what comes of all successors is what comes of those still to be tried. Assumes
-- nothing.
use Prim.Native.Nat.{suc, ◌+◌}
use mathlib.Core.Path.{refl, sym, subst, ◌∙◌}
use native.Mathlib.Omega.{arith}
use lib.ListN.{length, drop, get_or, length-drop}
use Rattle.flow.specs.Cues.{cue_records}
use Rattle.search.specs.SearchLaws.{visit_within}
use Rattle.search.specs.Visits.{Truthful, state}
use Rattle.flow.specs.Refusals.{count}
use Rattle.search.proofs.Deeper.{own_length, modes_room, modes_few, visited_known, visited_kept, ready_spot, first_low, visited_spent, visited_arrived, visited_last, visited_tried, ready_still, right_still, count_still, goes_still, tried_none, tried_spent, tried_found, tried_on, tried_over, two_stretches, copied_room, apply_asked, back_room, visit_asked, followed, rest_is, rest_length}
use Rattle.search.proofs.Numbers.{first_inner, ends_fits}
use Rattle.search.proofs.Stretches.{copied, used_same, used_trans}
use Rattle.search.proofs.Turns.{greater, turn_none, turn_over, turn_spent, turn_cost, turn_found, turn_on, turn_all}
use Rattle.search.proofs.Asks.{strikes_same}
use Rattle.search.proofs.Memories.{learned_same, learned_trans, truthful_still, truthful_rest}
use Rattle.search.proofs.+visiting.Goals as goal

pub enter-returns-then-left-eq0 : goal.enter-returns-then-left-eq0
enter-returns-then-left-eq0 t c =
    let a = c.args in
    visited_spent a.ns.now a.cues.now a.work.now a.role a.asks.now a.left a.slots.now c.if-left-eq0.true

pub enter-overflow_sub-left : goal.enter-overflow_sub-left
enter-overflow_sub-left t c = omega (arith, c.if-left-eq0.false)

pub enter-invariant_of-arrive : goal.enter-invariant_of-arrive
enter-invariant_of-arrive t c = record { some = c.requires.visit_ready.some; spot = ready_spot c.requires.visit_ready }

pub enter-arrive-requires : goal.enter-arrive-requires
enter-arrive-requires t c =
    c.requires.truthful.asking

pub enter-returns-then-cues-eq0 : goal.enter-returns-then-cues-eq0
enter-returns-then-cues-eq0 t c =
    let a = c.args in
    visited_arrived a.ns.now a.cues.now a.work.now a.role a.asks.now a.left a.slots.now c.if-left-eq0.false c.arrive.result c.if-cues-eq0.true c.arrive.ensures.value c.arrive.ensures.asked

pub enter-bounds-cues-0 : goal.enter-bounds-cues-0
enter-bounds-cues-0 t c = omega (arith, c.if-cues-eq0.false)

pub enter-bounds-cues-0-then-ends : goal.enter-bounds-cues-0-then-ends
enter-bounds-cues-0-then-ends t c = omega (arith, c.if-cues-eq0.false)

pub enter-overflow_sub-left-then-ends : goal.enter-overflow_sub-left-then-ends
enter-overflow_sub-left-then-ends t c = omega (arith, c.if-left-eq0.false)

pub enter-invariant_of-finish : goal.enter-invariant_of-finish
enter-invariant_of-finish t c = record { some = c.requires.visit_ready.some; spot = ready_spot c.requires.visit_ready }

pub enter-finish-requires : goal.enter-finish-requires
enter-finish-requires t c =
    let r = c.requires.visit_ready in
    ends_fits c.args.ns.now c.args.work.now (get_or c.args.cues.now 0 0) (first_low r (omega (arith, c.if-cues-eq0.false))) c.args.role (sym c.ends.ensures ∙ c.if-ends.true)

pub enter-overflow_sub-left-else-ends : goal.enter-overflow_sub-left-else-ends
enter-overflow_sub-left-else-ends t c = omega (arith, c.if-left-eq0.false)

pub enter-visit_each-requires : goal.enter-visit_each-requires
enter-visit_each-requires t c =
    let r = c.requires.visit_ready in
    (omega (arith, c.decreases), (r, (c.requires.truthful, ((omega (arith, c.if-cues-eq0.false), omega (arith, c.ranges.left, c.if-left-eq0.false)), sym c.ends.ensures ∙ c.if-ends.false))))

pub enter-returns-then-ends : goal.enter-returns-then-ends
enter-returns-then-ends t c =
    let a = c.args in
    visited_last a.ns.now a.cues.now a.work.now a.role a.asks.now a.left a.slots.now c.if-left-eq0.false c.requires.visit_ready (omega (arith, c.if-cues-eq0.false)) c.finish.result (sym c.ends.ensures ∙ c.if-ends.true) c.finish.ensures

pub enter-returns-else-ends : goal.enter-returns-else-ends
enter-returns-else-ends t c =
    let a = c.args in
    visited_tried a.ns.now a.cues.now a.work.now a.role a.asks.now a.left a.slots.now c.if-left-eq0.false c.requires.visit_ready (omega (arith, c.if-cues-eq0.false)) c.visit_each.result c.visit_each.new.work c.visit_each.new.asks c.visit_each.new.slots c.visit_each.ensures

pub follow-copy_within-requires : goal.follow-copy_within-requires
follow-copy_within-requires t c =
    let o = two_stretches c.requires.visit_ready c.requires.in_bounds in
    omega arith

pub follow-slice_bounds-apply-count : goal.follow-slice_bounds-apply-count
follow-slice_bounds-apply-count t c =
    let o = copied_room c.requires.visit_ready c.requires.in_bounds c.copy_within.new.self (copied c.args.work.now c.copy_within.new.self (count c.args.ns.now) c.copy_within.ensures.after) in
    omega arith

pub follow-slice_bounds-apply-start : goal.follow-slice_bounds-apply-start
follow-slice_bounds-apply-start t c =
    let o = copied_room c.requires.visit_ready c.requires.in_bounds c.copy_within.new.self (copied c.args.work.now c.copy_within.new.self (count c.args.ns.now) c.copy_within.ensures.after) in
    omega arith

pub follow-bounds-cues-0 : goal.follow-bounds-cues-0
follow-bounds-cues-0 t c =
    let q = c.requires.in_bounds in
    omega arith

pub follow-apply-requires : goal.follow-apply-requires
follow-apply-requires t c =
    let whole = apply_asked c.requires.visit_ready c.requires.in_bounds c.copy_within.new.self (copied c.args.work.now c.copy_within.new.self (count c.args.ns.now) c.copy_within.ensures.after) c.requires.not_an_ending c.args.noted.now.c c.args.noted.now.d c.args.k c.requires.right_counts c.requires.k_bound in record {
      spot = whole.0;
      in_bounds = whole.1.0;
      right_counts = whole.1.1.0;
      k_bound = whole.1.1.1;
    }

pub follow-bounds-cues-0-2 : goal.follow-bounds-cues-0-2
follow-bounds-cues-0-2 t c =
    let q = c.requires.in_bounds in
    omega arith

pub follow-slice_bounds-visit-count : goal.follow-slice_bounds-visit-count
follow-slice_bounds-visit-count t c =
    let q = c.requires.in_bounds in
    omega arith

pub follow-slice_bounds-visit-start : goal.follow-slice_bounds-visit-start
follow-slice_bounds-visit-start t c =
    let q = c.requires.in_bounds in
    omega arith

pub follow-slice_bounds-visit-count-2 : goal.follow-slice_bounds-visit-count-2
follow-slice_bounds-visit-count-2 t c =
    let o = back_room c.requires.visit_ready c.requires.in_bounds c.copy_within.new.self (copied c.args.work.now c.copy_within.new.self (count c.args.ns.now) c.copy_within.ensures.after) c.args.k c.apply.new.t c.apply.auto.t c.apply.ensures in
    omega arith

pub follow-slice_bounds-visit-start-2 : goal.follow-slice_bounds-visit-start-2
follow-slice_bounds-visit-start-2 t c =
    let o = back_room c.requires.visit_ready c.requires.in_bounds c.copy_within.new.self (copied c.args.work.now c.copy_within.new.self (count c.args.ns.now) c.copy_within.ensures.after) c.args.k c.apply.new.t c.apply.auto.t c.apply.ensures in
    omega arith

pub follow-visit-requires : goal.follow-visit-requires
follow-visit-requires t c =
    let l = rest_length c.args.cues.now in
    let one = c.requires.in_bounds in (
      omega (arith, c.decreases),
      (
        visit_asked c.requires.visit_ready one c.copy_within.new.self (copied c.args.work.now c.copy_within.new.self (count c.args.ns.now) c.copy_within.ensures.after) c.args.k c.apply.new.t c.apply.auto.t c.apply.ensures _ (rest_is c.args.cues.now) _ c.role_after-after.ensures,
        subst (λ l. Truthful c.args.ns.now l c.args.asks.now c.args.slots.now) (sym (rest_is c.args.cues.now)) (truthful_rest c.args.ns.now c.args.cues.now (omega arith) c.requires.truthful),
      ),
    )

pub follow-returns : goal.follow-returns
follow-returns t c = followed c.requires.visit_ready c.requires.in_bounds c.copy_within.new.self (copied c.args.work.now c.copy_within.new.self (count c.args.ns.now) c.copy_within.ensures.after) c.args.k c.apply.new.t c.apply.auto.t c.apply.ensures _ (rest_is c.args.cues.now) _ c.role_after-after.ensures c.args.asks.now c.args.left c.visit.result c.visit.new.work c.visit.new.asks c.args.slots.now c.visit.new.slots c.visit.ensures

pub try_each-loop-k-init : goal.try_each-loop-k-init
try_each-loop-k-init t c =
    let a = c.args in
    record {
      long = refl;
      used = used_same (count a.ns.now) (suc (length a.cues.now)) a.work.now;
      learned = learned_same a.ns.now a.cues.now a.asks.now a.slots.now;
      turn = turn_none (state a.ns.now a.role a.work.now) (get_or a.cues.now 0 0) (drop 1 a.cues.now) a.left;
      struck = strikes_same a.asks.now;
      tried = tried_none (state a.ns.now a.role a.work.now) a.cues.now a.asks.now;
    }

pub try_each-follow-requires : goal.try_each-follow-requires
try_each-follow-requires t c =
    let a = c.args in
    let v = c.loop-k.invariant in (
      omega (arith, c.decreases),
      (
        ready_still c.requires.visit_ready c.loop-k.work v.used v.long,
        (
          truthful_still a.ns.now a.cues.now c.requires.truthful v.struck v.learned,
          (
            c.requires.in_bounds.0,
            (
              c.requires.not_an_ending,
              (
                right_still c.requires.visit_ready c.loop-k.work v.used (get_or a.cues.now 0 0) a.noted.now.c a.noted.now.d c.requires.right_counts,
                count_still c.requires.visit_ready c.loop-k.work v.used c.loop-k.k (get_or a.cues.now 0 0) a.many c.loop-k-test.true c.requires.many_is,
              ),
            ),
          ),
        ),
      ),
    )

pub try_each-returns-in_err-trip : goal.try_each-returns-in_err-trip
try_each-returns-in_err-trip t c =
    let r = c.requires.visit_ready in
    let a = c.args in
    let v = c.loop-k.invariant in
    rw c.from_residual.ensures (record {
      out = turn_spent (state a.ns.now a.role a.work.now) (get_or a.cues.now 0 0) (drop 1 a.cues.now) a.left v.turn c.follow.result (goes_still r c.loop-k.work v.used (get_or a.cues.now 0 0) c.loop-k.k c.follow.ensures.goes) c.follow.ensures.out c.in_err-trip.was;
      used = used_trans v.used c.follow.ensures.used;
      asked = tried_spent (state a.ns.now a.role a.work.now) a.cues.now c.requires.in_bounds.0 v.struck (goes_still r c.loop-k.work v.used (get_or a.cues.now 0 0) c.loop-k.k c.follow.ensures.goes) c.follow.result c.follow.ensures.asked c.in_err-trip.was;
      learned = learned_trans a.ns.now a.cues.now c.follow.ensures.asked.strikes v.learned c.follow.ensures.learned;
    })

pub try_each-overflow_add-trip : goal.try_each-overflow_add-trip
try_each-overflow_add-trip t c =
    let r = c.requires.visit_ready in
    let a = c.args in
    let v = c.loop-k.invariant in
    let z = turn_cost (state a.ns.now a.role a.work.now) (get_or a.cues.now 0 0) (drop 1 a.cues.now) a.left v.turn c.follow.result (goes_still r c.loop-k.work v.used (get_or a.cues.now 0 0) c.loop-k.k c.follow.ensures.goes) c.follow.ensures.out c.in_ok-trip.trip c.in_ok-trip.was in
    let d = length-drop 1 a.cues.now in
    let q = r.known.few in
    omega (arith, z.far)

pub try_each-returns-then-trip : goal.try_each-returns-then-trip
try_each-returns-then-trip t c =
    let r = c.requires.visit_ready in
    let a = c.args in
    let v = c.loop-k.invariant in
    record {
      out = turn_found (state a.ns.now a.role a.work.now) (get_or a.cues.now 0 0) (drop 1 a.cues.now) a.left v.turn c.follow.result (goes_still r c.loop-k.work v.used (get_or a.cues.now 0 0) c.loop-k.k c.follow.ensures.goes) c.follow.ensures.out c.in_ok-trip.trip c.in_ok-trip.was c.max-far.result (c.max-far.ensures ∙ greater c.loop-k.far (c.in_ok-trip.trip.far + 1)) c.if-trip.true;
      used = used_trans v.used c.follow.ensures.used;
      asked = tried_found (state a.ns.now a.role a.work.now) a.cues.now c.requires.in_bounds.0 v.struck (goes_still r c.loop-k.work v.used (get_or a.cues.now 0 0) c.loop-k.k c.follow.ensures.goes) c.follow.result c.follow.ensures.asked c.max-far.result c.in_ok-trip.trip.left;
      learned = learned_trans a.ns.now a.cues.now c.follow.ensures.asked.strikes v.learned c.follow.ensures.learned;
    }

pub try_each-loop-k-preserved : goal.try_each-loop-k-preserved
try_each-loop-k-preserved t c =
    let r = c.requires.visit_ready in
    let a = c.args in
    let v = c.loop-k.invariant in
    let g = tried_on (state a.ns.now a.role a.work.now) a.cues.now c.requires.in_bounds.0 v.struck (goes_still r c.loop-k.work v.used (get_or a.cues.now 0 0) c.loop-k.k c.follow.ensures.goes) c.follow.result c.follow.ensures.asked v.tried c.in_ok-trip.trip c.in_ok-trip.was c.if-trip.false in
    record {
      long = c.follow.auto.work ∙ v.long;
      used = used_trans v.used c.follow.ensures.used;
      learned = learned_trans a.ns.now a.cues.now c.follow.ensures.asked.strikes v.learned c.follow.ensures.learned;
      turn = turn_on (state a.ns.now a.role a.work.now) (get_or a.cues.now 0 0) (drop 1 a.cues.now) a.left v.turn c.follow.result (goes_still r c.loop-k.work v.used (get_or a.cues.now 0 0) c.loop-k.k c.follow.ensures.goes) c.follow.ensures.out c.in_ok-trip.trip c.in_ok-trip.was c.max-far.result (c.max-far.ensures ∙ greater c.loop-k.far (c.in_ok-trip.trip.far + 1)) c.if-trip.false;
      struck = g.0;
      tried = g.1;
    }

pub try_each-returns : goal.try_each-returns
try_each-returns t c =
    let a = c.args in
    let v = c.loop-k.invariant in
    record {
      out = turn_over (state a.ns.now a.role a.work.now) (get_or a.cues.now 0 0) (drop 1 a.cues.now) a.left v.turn (omega (arith, c.loop-k-test.false, c.requires.many_is)) c.requires.in_bounds.1;
      used = v.used;
      asked = tried_over (state a.ns.now a.role a.work.now) a.cues.now c.requires.in_bounds.0 v.struck v.tried (turn_all (state a.ns.now a.role a.work.now) (get_or a.cues.now 0 0) (drop 1 a.cues.now) a.left v.turn (omega (arith, c.loop-k-test.false, c.requires.many_is)) c.requires.in_bounds.1) _;
      learned = v.learned;
    }

pub visit-key_of-key-requires : goal.visit-key_of-key-requires
visit-key_of-key-requires t c = c.requires.visit_ready.known.few

pub visit-slice_bounds-recall-end : goal.visit-slice_bounds-recall-end
visit-slice_bounds-recall-end t c = modes_room c.requires.visit_ready c.key_of-key.ensures c.args.work.now refl

pub visit-slice_bounds-recall-end-2 : goal.visit-slice_bounds-recall-end-2
visit-slice_bounds-recall-end-2 t c = sym (own_length c.args.ns.now c.args.work.now (modes_room c.requires.visit_ready c.key_of-key.ensures c.args.work.now refl))

pub visit-slice_bounds-keep-end : goal.visit-slice_bounds-keep-end
visit-slice_bounds-keep-end t c = modes_room c.requires.visit_ready c.key_of-key.ensures c.enter-out.new.work c.enter-out.auto.work

pub visit-slice_bounds-keep-end-in-Err : goal.visit-slice_bounds-keep-end-in-Err
visit-slice_bounds-keep-end-in-Err t c = sym (own_length c.args.ns.now c.enter-out.new.work (modes_room c.requires.visit_ready c.key_of-key.ensures c.enter-out.new.work c.enter-out.auto.work))

pub visit-recall-requires : goal.visit-recall-requires
visit-recall-requires t c = modes_few c.requires.visit_ready c.key_of-key.ensures c.args.work.now refl

pub visit-enter-out-requires : goal.visit-enter-out-requires
visit-enter-out-requires t c = (omega (arith, c.decreases), (c.requires.visit_ready, c.requires.truthful))

pub visit-keep-requires : goal.visit-keep-requires
visit-keep-requires t c =
    let a = c.args in
    record {
      few = modes_few c.requires.visit_ready c.key_of-key.ensures c.enter-out.new.work c.enter-out.auto.work;
      left_within = visit_within (cue_records a.cues.now) (state a.ns.now a.role a.work.now) a.left c.enter-out.result c.enter-out.ensures.out;
    }

pub visit-returns-in-Ok : goal.visit-returns-in-Ok
visit-returns-in-Ok t c =
    let a = c.args in
    visited_known c.requires.visit_ready c.key_of-key.ensures a.work.now refl (λ j h. refl) c.requires.truthful a.left c.known.result (sym c.recall.ensures ∙ c.in-Ok.is) c.known.ensures

pub visit-returns-in-Err : goal.visit-returns-in-Err
visit-returns-in-Err t c = visited_kept c.requires.visit_ready c.key_of-key.ensures c.enter-out.new.work c.enter-out.auto.work c.enter-out.ensures c.keep.ensures

pub visit_each-bounds-cues-0 : goal.visit_each-bounds-cues-0
visit_each-bounds-cues-0 t c =
    let q = c.requires.in_bounds.0 in
    omega arith

pub visit_each-invariant_of-successors : goal.visit_each-invariant_of-successors
visit_each-invariant_of-successors t c = record { some = c.requires.visit_ready.some; spot = ready_spot c.requires.visit_ready }

pub visit_each-successors-many-requires : goal.visit_each-successors-many-requires
visit_each-successors-many-requires t c =
    let a = c.args in record {
      inner = first_inner a.role (get_or a.cues.now 0 0) (first_low c.requires.visit_ready c.requires.in_bounds.0) c.requires.not_an_ending;
      d_len = refl;
    }

pub visit_each-try_each-requires : goal.visit_each-try_each-requires
visit_each-try_each-requires t c =
    let k = c.successors-many.ensures in
    (omega (arith, c.decreases), (c.requires.visit_ready, (c.requires.truthful, (c.requires.in_bounds, (c.requires.not_an_ending, (k.right, k.many))))))

pub visit_each-returns : goal.visit_each-returns
visit_each-returns t c = c.try_each.ensures
