-- The counting pass meets its contract: a cycle of two functions, on falling node numbers. What a live part is asked follows from its
-- number being lower (`std_below`, `run_below`), and each return is a lemma of CountLaws, given what the code has learnt on its way
-- there. The loop's invariant: the node that it has come to is live in place of the one that was asked for (StandIn), and nothing is
-- counted yet. Assumes nothing.
use mathlib.Core.Path.{ap, refl, sym, ◌∙◌}
use Rattle.states.specs.declared.Noted.{Noted}
use native.Mathlib.Omega.{arith}
use borrow.Author.Tests.{not-true}
use Rattle.states.specs.ChildLaws.{lower_spot}
use Rattle.counting.specs.CountLaws.{std_below, run_below, event_counted, basic_counted, both_counted, handler_counted, block_counted, stands_for, stand_in_self, stand_in_low, still_spot, begun, paired_counted, pair_counted, pair_stops, runs_both_counted, held_counted, runs_as_counted}
use Rattle.counting.proofs.+counting.Goals as goal

-- src/lib.rt:124:9
pub count_run-course_at-runs-requires : goal.count_run-course_at-runs-requires
count_run-course_at-runs-requires t c = c.requires

-- src/lib.rt:126:34
pub count_run-note_word-requires : goal.count_run-note_word-requires
count_run-note_word-requires t c = let spot = c.requires in omega (arith, spot.node.inside, spot.node.sound.few)

-- src/lib.rt:128:17
pub count_run-count_std-p-requires : goal.count_run-count_std-p-requires
count_run-count_std-p-requires t c = let spot = c.requires in let low = (run_below spot c.args.a c.course_at-runs.ensures c.in-Pair.is).0 in (omega (arith, c.decreases, low), lower_spot spot low)

-- src/lib.rt:131:17
pub count_run-note_word-requires-then-not-p : goal.count_run-note_word-requires-then-not-p
count_run-note_word-requires-then-not-p t c = let spot = c.requires in omega (arith, spot.node.inside, spot.node.sound.few)

-- src/lib.rt:131:17
pub count_run-returns-then-not-p : goal.count_run-returns-then-not-p
count_run-returns-then-not-p t c = pair_stops c.requires c.args.a (sym c.course_at-runs.ensures ∙ c.in-Pair.is) c.count_std-p.ensures (not-true _ c.if-not-p.true) c.skip.ensures c.pair.ensures (c.note_word-then-not-p.ensures.value, (c.note_word-then-not-p.ensures.noted, c.note_word-then-not-p.ensures.kept))

-- src/lib.rt:133:17
pub count_run-count_std-q-requires : goal.count_run-count_std-q-requires
count_run-count_std-q-requires t c = let spot = c.requires in let low = (run_below spot c.args.a c.course_at-runs.ensures c.in-Pair.is).1 in (omega (arith, c.decreases, low), lower_spot spot low)

-- src/lib.rt:134:13
pub count_run-note_word-requires-in-Pair : goal.count_run-note_word-requires-in-Pair
count_run-note_word-requires-in-Pair t c = let spot = c.requires in omega (arith, spot.node.inside, spot.node.sound.few)

-- src/lib.rt:137:17
pub count_run-count_run-p-requires : goal.count_run-count_run-p-requires
count_run-count_run-p-requires t c = let spot = c.requires in let low = (run_below spot c.args.a c.course_at-runs.ensures c.in-Both.is).0 in (omega (arith, c.decreases, low), lower_spot spot low)

-- src/lib.rt:138:17
pub count_run-count_run-q-requires : goal.count_run-count_run-q-requires
count_run-count_run-q-requires t c = let spot = c.requires in let low = (run_below spot c.args.a c.course_at-runs.ensures c.in-Both.is).1 in (omega (arith, c.decreases, low), lower_spot spot low)

-- src/lib.rt:139:13
pub count_run-note_word-requires-in-Both : goal.count_run-note_word-requires-in-Both
count_run-note_word-requires-in-Both t c = let spot = c.requires in omega (arith, spot.node.inside, spot.node.sound.few)

-- src/lib.rt:142:17
pub count_run-count_std-k-requires : goal.count_run-count_std-k-requires
count_run-count_std-k-requires t c = let spot = c.requires in let low = (run_below spot c.args.a c.course_at-runs.ensures c.in-Held.is).0 in (omega (arith, c.decreases, low), lower_spot spot low)

-- src/lib.rt:143:17
pub count_run-note_held-requires : goal.count_run-note_held-requires
count_run-note_held-requires t c =
    let low = (run_below c.requires c.args.a c.course_at-runs.ensures c.in-Held.is).0 in
    omega (arith, c.requires.node.inside, c.requires.node.sound.few, low)

pub count_run-count_run-q-requires-in-Held : goal.count_run-count_run-q-requires-in-Held
count_run-count_run-q-requires-in-Held t c = let spot = c.requires in let low = (run_below spot c.args.a c.course_at-runs.ensures c.in-Held.is).1 in (omega (arith, c.decreases, low), lower_spot spot low)

-- src/lib.rt:144:13
pub count_run-note_word-requires-in-Held : goal.count_run-note_word-requires-in-Held
count_run-note_word-requires-in-Held t c = let spot = c.requires in omega (arith, spot.node.inside, spot.node.sound.few)

-- src/lib.rt:147:17
pub count_run-count_run-w-requires : goal.count_run-count_run-w-requires
count_run-count_run-w-requires t c = let spot = c.requires in let low = run_below spot c.args.a c.course_at-runs.ensures c.in-As.is in (omega (arith, c.decreases, low), lower_spot spot low)

-- src/lib.rt:148:13
pub count_run-note_word-requires-in-As : goal.count_run-note_word-requires-in-As
count_run-note_word-requires-in-As t c = let spot = c.requires in omega (arith, spot.node.inside, spot.node.sound.few)

-- src/lib.rt:120:1
pub count_run-returns-in-Basic : goal.count_run-returns-in-Basic
count_run-returns-in-Basic t c = paired_counted c.requires c.args.a (sym c.course_at-runs.ensures ∙ c.in-Basic.is) c.basic.ensures (c.note_word.ensures.value, (c.note_word.ensures.noted, c.note_word.ensures.kept))

-- src/lib.rt:120:1
pub count_run-returns-else-not-p : goal.count_run-returns-else-not-p
count_run-returns-else-not-p t c = pair_counted c.requires c.args.a (sym c.course_at-runs.ensures ∙ c.in-Pair.is) c.count_std-p.ensures c.count_std-q.ensures c.pair-in-Pair.ensures (c.note_word-in-Pair.ensures.value, (c.note_word-in-Pair.ensures.noted, c.note_word-in-Pair.ensures.kept))

-- src/lib.rt:120:1
pub count_run-returns-in-Both : goal.count_run-returns-in-Both
count_run-returns-in-Both t c = runs_both_counted c.requires c.args.a (sym c.course_at-runs.ensures ∙ c.in-Both.is) c.count_run-p.ensures c.count_run-q.ensures c.both.ensures (c.note_word-in-Both.ensures.value, (c.note_word-in-Both.ensures.noted, c.note_word-in-Both.ensures.kept))

-- src/lib.rt:120:1
pub count_run-returns-in-Held : goal.count_run-returns-in-Held
count_run-returns-in-Held t c = held_counted c.requires c.args.a (sym c.course_at-runs.ensures ∙ c.in-Held.is) c.count_std-k.ensures c.note_held.ensures c.count_run-q-in-Held.ensures c.held.ensures (c.note_word-in-Held.ensures.value, (c.note_word-in-Held.ensures.noted, c.note_word-in-Held.ensures.kept))

-- src/lib.rt:120:1
pub count_run-returns-in-As : goal.count_run-returns-in-As
count_run-returns-in-As t c = runs_as_counted c.requires c.args.a (sym c.course_at-runs.ensures ∙ c.in-As.is) c.count_run-w.ensures (c.note_word-in-As.ensures.value, (c.note_word-in-As.ensures.noted, c.note_word-in-As.ensures.kept))

-- src/lib.rt:92:5
pub count_std-loop-event-init : goal.count_std-loop-event-init
count_std-loop-event-init t c = (refl, stand_in_self c.requires c.args.a)

-- src/lib.rt:93:13
pub count_std-stand_at-stands-requires : goal.count_std-stand_at-stands-requires
count_std-stand_at-stands-requires t c =
    let spot = c.requires in
    still_spot spot c.args.a c.loop-event.invariant.1

-- src/lib.rt:95:39
pub count_std-note-requires : goal.count_std-note-requires
count_std-note-requires t c = let spot = c.requires in omega (arith, spot.node.inside, spot.node.sound.few)

-- src/lib.rt:95:39
pub count_std-returns-in-Event : goal.count_std-returns-in-Event
count_std-returns-in-Event t c =
    let loop = c.loop-event in
    let stands = sym c.stand_at-stands.ensures ∙ c.in-Event.is in
    begun (ap (λ (n : Noted). n.c) loop.invariant.0) (ap (λ (n : Noted). n.d) loop.invariant.0) (event_counted c.requires c.args.a loop.invariant.1 stands c.event_view.ensures (c.note.ensures.value, c.note.ensures.noted))

-- src/lib.rt:96:40
pub count_std-note-requires-in-Basic : goal.count_std-note-requires-in-Basic
count_std-note-requires-in-Basic t c = let spot = c.requires in omega (arith, spot.node.inside, spot.node.sound.few)

-- src/lib.rt:96:40
pub count_std-returns-in-Basic : goal.count_std-returns-in-Basic
count_std-returns-in-Basic t c =
    let loop = c.loop-event in
    let stands = sym c.stand_at-stands.ensures ∙ c.in-Basic.is in
    begun (ap (λ (n : Noted). n.c) loop.invariant.0) (ap (λ (n : Noted). n.d) loop.invariant.0) (basic_counted c.requires c.args.a loop.invariant.1 stands c.basic.ensures (c.note-in-Basic.ensures.value, c.note-in-Basic.ensures.noted))

-- src/lib.rt:98:21
pub count_std-count_std-p-requires : goal.count_std-count_std-p-requires
count_std-count_std-p-requires t c =
    let stand_in = c.loop-event.invariant.1 in
    let low = (std_below c.requires c.args.a stand_in c.stand_at-stands.ensures c.in-Both.is).0 in
    let top = stand_in_low c.requires c.args.a stand_in in
    (omega (arith, c.decreases, low, top), lower_spot c.requires (omega (arith, low, top)))

-- src/lib.rt:99:21
pub count_std-count_std-q-requires : goal.count_std-count_std-q-requires
count_std-count_std-q-requires t c =
    let stand_in = c.loop-event.invariant.1 in
    let low = (std_below c.requires c.args.a stand_in c.stand_at-stands.ensures c.in-Both.is).1 in
    let top = stand_in_low c.requires c.args.a stand_in in
    (omega (arith, c.decreases, low, top), lower_spot c.requires (omega (arith, low, top)))

-- src/lib.rt:100:17
pub count_std-note-requires-in-Both : goal.count_std-note-requires-in-Both
count_std-note-requires-in-Both t c = let spot = c.requires in omega (arith, spot.node.inside, spot.node.sound.few)

-- src/lib.rt:100:17
pub count_std-returns-in-Both : goal.count_std-returns-in-Both
count_std-returns-in-Both t c =
    let loop = c.loop-event in
    let stands = sym c.stand_at-stands.ensures ∙ c.in-Both.is in
    begun (ap (λ (n : Noted). n.c) loop.invariant.0) (ap (λ (n : Noted). n.d) loop.invariant.0) (both_counted c.requires c.args.a loop.invariant.1 stands c.count_std-p.ensures c.count_std-q.ensures c.both.ensures (c.note-in-Both.ensures.value, c.note-in-Both.ensures.noted))

-- src/lib.rt:103:21
pub count_std-count_std-p-requires-in-Handler : goal.count_std-count_std-p-requires-in-Handler
count_std-count_std-p-requires-in-Handler t c =
    let stand_in = c.loop-event.invariant.1 in
    let low = (std_below c.requires c.args.a stand_in c.stand_at-stands.ensures c.in-Handler.is).0 in
    let top = stand_in_low c.requires c.args.a stand_in in
    (omega (arith, c.decreases, low, top), lower_spot c.requires (omega (arith, low, top)))

-- src/lib.rt:104:21
pub count_std-count_std-q-requires-in-Handler : goal.count_std-count_std-q-requires-in-Handler
count_std-count_std-q-requires-in-Handler t c =
    let stand_in = c.loop-event.invariant.1 in
    let low = (std_below c.requires c.args.a stand_in c.stand_at-stands.ensures c.in-Handler.is).1 in
    let top = stand_in_low c.requires c.args.a stand_in in
    (omega (arith, c.decreases, low, top), lower_spot c.requires (omega (arith, low, top)))

-- src/lib.rt:105:17
pub count_std-note-requires-in-Handler : goal.count_std-note-requires-in-Handler
count_std-note-requires-in-Handler t c = let spot = c.requires in omega (arith, spot.node.inside, spot.node.sound.few)

-- src/lib.rt:105:17
pub count_std-returns-in-Handler : goal.count_std-returns-in-Handler
count_std-returns-in-Handler t c =
    let loop = c.loop-event in
    let stands = sym c.stand_at-stands.ensures ∙ c.in-Handler.is in
    begun (ap (λ (n : Noted). n.c) loop.invariant.0) (ap (λ (n : Noted). n.d) loop.invariant.0) (handler_counted c.requires c.args.a loop.invariant.1 stands c.count_std-p-in-Handler.ensures c.count_std-q-in-Handler.ensures c.handler.ensures (c.note-in-Handler.ensures.value, c.note-in-Handler.ensures.noted))

-- src/lib.rt:108:21
pub count_std-count_run-w-requires : goal.count_std-count_run-w-requires
count_std-count_run-w-requires t c =
    let stand_in = c.loop-event.invariant.1 in
    let low = std_below c.requires c.args.a stand_in c.stand_at-stands.ensures c.in-Block.is in
    let top = stand_in_low c.requires c.args.a stand_in in
    (omega (arith, c.decreases, low, top), lower_spot c.requires (omega (arith, low, top)))

-- src/lib.rt:109:17
pub count_std-note-requires-in-Block : goal.count_std-note-requires-in-Block
count_std-note-requires-in-Block t c = let spot = c.requires in omega (arith, spot.node.inside, spot.node.sound.few)

-- src/lib.rt:109:17
pub count_std-returns-in-Block : goal.count_std-returns-in-Block
count_std-returns-in-Block t c =
    let loop = c.loop-event in
    let stands = sym c.stand_at-stands.ensures ∙ c.in-Block.is in
    begun (ap (λ (n : Noted). n.c) loop.invariant.0) (ap (λ (n : Noted). n.d) loop.invariant.0) (block_counted c.requires c.args.a loop.invariant.1 stands c.count_run-w.ensures c.block.ensures (c.note-in-Block.ensures.value, c.note-in-Block.ensures.noted))

-- src/lib.rt:92:5
pub count_std-loop-event-smaller : goal.count_std-loop-event-smaller
count_std-loop-event-smaller t c = std_below c.requires c.args.a c.loop-event.invariant.1 c.stand_at-stands.ensures c.in-As.is

-- src/lib.rt:92:5
pub count_std-loop-event-preserved : goal.count_std-loop-event-preserved
count_std-loop-event-preserved t c =
    let loop = c.loop-event in
    (loop.invariant.0, stands_for c.requires c.args.a loop.invariant.1 (sym c.stand_at-stands.ensures ∙ c.in-As.is))
