-- `judge::check_room` meets its contract: 14, or nothing. Assumes nothing.
use Prim.Native.Nat.{ℕ, ◌<◌, ◌≤◌}
use mathlib.Core.Path.{sym, subst}
use Rattle.judge.specs.JudgedLaws.{room_refuses, room_passes}
use Rattle.judge.proofs.check_room.Goals as goal

pub returns-then-room-room_wanted : goal.returns-then-room-room_wanted
returns-then-room-room_wanted c =
    let a = c.args in
    room_refuses a.nodes.now a.records.now a.room (subst (λ (n : ℕ). a.room < n) c.room_wanted.ensures c.if-room-room_wanted.true)

pub returns : goal.returns
returns c =
    let a = c.args in
    sym (room_passes a.nodes.now a.records.now a.room (subst (λ (n : ℕ). n ≤ a.room) c.room_wanted.ensures c.if-room-room_wanted.false))
