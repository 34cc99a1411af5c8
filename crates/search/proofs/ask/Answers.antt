-- `search::ask` meets its contract: the drawn flow is where the search begins, the work bytes are cleared behind it, and the asks are as
-- it left them, or forgotten. Assumes nothing.
use native.Mathlib.Omega.{arith}
use mathlib.Core.Path.{sym, ◌∙◌}
use lib.Seq.{length-take-le}
use Rattle.search.specs.SearchLaws.{some_nodes, few_nodes, nodes_within, room_within, cleared_by, visit_ready, asked_all, asked_nothing}
use Rattle.search.proofs.ask.Goals as goal

pub room_wanted-room-requires : goal.room_wanted-room-requires
room_wanted-room-requires c = (omega (arith, few_nodes c.requires.0), c.requires.0.few)

pub slice_bounds-fill-end : goal.slice_bounds-fill-end
slice_bounds-fill-end c = nodes_within c.requires.0

pub role_of-role-requires : goal.role_of-role-requires
role_of-role-requires c = some_nodes c.requires.0

pub search_twice-out-requires : goal.search_twice-out-requires
search_twice-out-requires c =
    let drawn = cleared_by _ c.args.work.now _ (nodes_within c.requires.0) (c.fill.ensures.after (λ y e. e)) in
    (visit_ready c.requires.0 drawn c.role_of-role.ensures, c.requires.1)

pub slice_bounds-fill-end-2 : goal.slice_bounds-fill-end-2
slice_bounds-fill-end-2 c = sym (length-take-le _ c.args.work.now (nodes_within c.requires.0))

pub returns-then-not-went_through : goal.returns-then-not-went_through
returns-then-not-went_through c =
    let drawn = cleared_by _ c.args.work.now _ (nodes_within c.requires.0) (c.fill.ensures.after (λ y e. e)) in
    let after = cleared_by c.room_wanted-room.result c.search_twice-out.new.work _ (room_within c.requires.0 c.search_twice-out.new.work drawn c.search_twice-out.auto.work c.room_wanted-room.ensures) (c.fill-2.ensures.after (λ y e. e)) in
    asked_nothing c.requires.0 drawn c.role_of-role.ensures c.search_twice-out.ensures c.room_wanted-room.ensures after
    (sym c.went_through.ensures ∙ c.if-not-went_through.true) (c.fill-then-not-went_through.ensures.after (λ y e. e))

pub returns-else-not-went_through : goal.returns-else-not-went_through
returns-else-not-went_through c =
    let drawn = cleared_by _ c.args.work.now _ (nodes_within c.requires.0) (c.fill.ensures.after (λ y e. e)) in
    let after = cleared_by c.room_wanted-room.result c.search_twice-out.new.work _ (room_within c.requires.0 c.search_twice-out.new.work drawn c.search_twice-out.auto.work c.room_wanted-room.ensures) (c.fill-2.ensures.after (λ y e. e)) in
    asked_all c.requires.0 drawn c.role_of-role.ensures c.search_twice-out.ensures c.room_wanted-room.ensures after
    (sym c.went_through.ensures ∙ c.if-not-went_through.false)
