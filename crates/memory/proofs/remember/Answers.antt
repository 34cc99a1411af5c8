-- `memory::remember` meets its contract: a pair that is there takes what fits, and else nothing is changed. Assumes nothing.
use mathlib.Core.Path.{refl}
use lib.ListN.{length}
use borrow.Author.Tests.{lt-ltb, le-ltb}
use Rattle.memory.specs.MemoryLaws.{remembered_put, remembered_far, remembered_not}
use Rattle.memory.proofs.remember.Goals as goal
use Rattle.memory.proofs.remember.Goals.{else-pair-slots-via-then-pair-slots+else-fits, else-pair-slots-via-else-pair-slots}

pub returns-in-Ok : goal.returns-in-Ok
returns-in-Ok c =
    let a = c.args in
    let r = c.in-Ok.ensures in
    remembered_put a.slots.now a.pair a.state.now (length a.state.now) a.key a.seen c.fits.ensures (rw (lt-ltb _ _ c.if-pair-slots.true) c.if-fits.true) r.0 c.lesser-s.ensures.0
    (λ i. record { low = c.pack.ensures i; high = c.pack-in-Ok.ensures i; entered = a.seen.entered; reached = r.1 i; key = a.key })

pub returns-in_default : goal.returns-in_default
returns-in_default c =
    let a = c.args in
    remembered_far a.slots.now a.pair a.state.now (length a.state.now) a.key a.seen c.fits.ensures (rw (lt-ltb _ _ c.if-pair-slots.true) c.if-fits.true) c.in_default.ensures

pub returns-else-pair-slots : goal.returns-else-pair-slots
returns-else-pair-slots c =
    let a = c.args in
    elim c.else-pair-slots.branch [
      | else-pair-slots-via-then-pair-slots+else-fits w ↦ remembered_not a.slots.now a.pair a.state.now (length a.state.now) a.key a.seen w.fits.ensures (rw (lt-ltb _ _ w.if-pair-slots.true) w.if-fits.false)
      | else-pair-slots-via-else-pair-slots w ↦ remembered_not a.slots.now a.pair a.state.now (length a.state.now) a.key a.seen refl (rw (le-ltb _ _ w.if-pair-slots.false) refl)
    ]
