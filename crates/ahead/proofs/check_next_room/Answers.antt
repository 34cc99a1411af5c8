-- `ahead::check_next_room` meets its contract: 14, or nothing. Assumes nothing.
use Rattle.ahead.specs.CheckLaws.{next_room_refuses, next_room_passes}
use Rattle.ahead.proofs.check_next_room.Goals as goal

pub returns-then-numbers-room : goal.returns-then-numbers-room
returns-then-numbers-room c =
    let a = c.args in
    next_room_refuses a.nodes.now a.beginning.now a.numbers a.room c.room_wanted.ensures c.if-numbers-room.true

pub returns : goal.returns
returns c =
    let a = c.args in
    next_room_passes a.nodes.now a.beginning.now a.numbers a.room c.room_wanted.ensures c.if-numbers-room.false
