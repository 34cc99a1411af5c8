-- `ahead::write_listed` meets its contract: the loop's invariant: the numbers among the first places whose asks are answered stand in front, and
-- are n. Assumes nothing.
use native.Mathlib.Omega.{arith}
use Rattle.ahead.proofs.PickedLaws.{listed_none, listed_yes, listed_no, listed_many, listed_all}
use Rattle.ahead.proofs.write_listed.Goals as goal
use Rattle.ahead.proofs.write_listed.Goals.{then-ask-eq-FOLLOWS, else-ask-eq-FOLLOWS}

pub loop-place-init : goal.loop-place-init
loop-place-init c = listed_none _ _

pub bounds-list-n : goal.bounds-list-n
bounds-list-n c = omega (arith, c.loop-place.invariant.size)

pub loop-place-preserved : goal.loop-place-preserved
loop-place-preserved c =
    let qs = c.args.asks.now in
    let list = c.args.list.now in
    elim c.if-ask-eq-FOLLOWS.branch [
      | then-ask-eq-FOLLOWS w ↦ rw (w.list-is, w.n-is) (listed_yes qs list c.requires.0 c.loop-place.invariant c.requires.1 (omega arith) w.if-ask-eq-FOLLOWS.true w.nth_number.ensures)
      | else-ask-eq-FOLLOWS w ↦ rw (w.list-is, w.n-is) (listed_no qs list c.requires.0 c.loop-place.invariant (omega arith) w.if-ask-eq-FOLLOWS.false)
    ]

pub shape_of-list : goal.shape_of-list
shape_of-list c = c.loop-place.invariant.size

pub returns : goal.returns
returns c =
    let a = c.args in
    let all = c.requires.0 in record {
      value = listed_many a.asks.now a.list.now all c.loop-place.invariant (omega arith);
      written = listed_all a.asks.now a.list.now all c.loop-place.invariant (omega arith);
    }
