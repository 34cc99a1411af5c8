-- `flow::nth_closing` meets its contract: how many closings are still passed over is kept with what was passed (Closings). Assumes nothing.
use Prim.Native.Nat.{◌<◌}
use mathlib.Core.Bool.{true}
use mathlib.Core.Path.{◌≡◌, sym, ◌∙◌}
use lib.ListN.{get_or, length}
use Rattle.flow.specs.Closings.{open_none, open_event, open_closing, many_at, place_at, open_over}
use Rattle.flow.proofs.NthClosing.{nth_found, nth_none}
use Rattle.flow.specs.Records.{is_closing_number}
use Rattle.flow.proofs.nth_closing.Goals as goal
use Rattle.flow.proofs.nth_closing.Goals.{then-is_closing+else-left-eq0, else-is_closing}

pub loop-i-init : goal.loop-i-init
loop-i-init c = open_none _ _

pub returns-then-left-eq0 : goal.returns-then-left-eq0
returns-then-left-eq0 c =
    let l = c.loop-i in
    let rs = c.args.records.now in
    let h : l.i < length rs = c.loop-i-test.true in
    let e : is_closing_number (get_or rs l.i 0) ≡ true = sym c.is_closing.ensures ∙ c.if-is_closing.true in
    let z = c.if-left-eq0.true in
    let found = nth_found rs c.args.n l.i (many_at rs c.args.n l.i l.left h l.invariant e z) (place_at rs c.args.n l.i l.left h l.invariant e z) in record {
      value = found;
      within = h;
    }

pub loop-i-preserved : goal.loop-i-preserved
loop-i-preserved c =
    let l = c.loop-i in
    let rs = c.args.records.now in
    let h : l.i < length rs = c.loop-i-test.true in
    let e = sym c.is_closing.ensures in
    elim c.if-is_closing.branch [ then-is_closing+else-left-eq0 w ↦ rw w.left-is (open_closing rs c.args.n l.i l.left h l.invariant (e ∙ w.if-is_closing.true) w.if-left-eq0.false) | else-is_closing w ↦ rw w.left-is (open_event rs c.args.n l.i l.left h l.invariant (e ∙ w.if-is_closing.false)) ]

pub returns : goal.returns
returns c =
    let l = c.loop-i in
    record {
      value = nth_none c.args.records.now c.args.n (open_over c.args.records.now c.args.n l.i l.left c.loop-i-test.false l.invariant);
      within = tt;
    }
