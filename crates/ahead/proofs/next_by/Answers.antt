-- `ahead::next_by` meets its contract: what the search brings back of a beginning, and the numbers whose asks it answered. Assumes nothing.
use mathlib.Core.Path.{refl, ◌∙◌}
use Rattle.ahead.proofs.ByAsks.{left_within, undecided_by, listed_by}
use Rattle.ahead.proofs.next_by.Goals as goal

pub ask-requires : goal.ask-requires
ask-requires c = let p = c.requires in (p.search, p.asking)

pub write_listed-length-requires : goal.write_listed-length-requires
write_listed-length-requires c =
    let p = c.requires in
    (c.ask.auto.asks ∙ p.all, p.room)

pub overflow_sub-result : goal.overflow_sub-result
overflow_sub-result c =
    let p = c.requires in
    left_within p c.ask.ensures c.in-Some.is

pub returns-in-None : goal.returns-in-None
returns-in-None c =
    let p = c.requires in
    undecided_by p c.ask.ensures c.in-None.is

pub returns-in-Some : goal.returns-in-Some
returns-in-Some c =
    let p = c.requires in
    listed_by p c.ask.ensures c.in-Some.is c.write_listed-length.ensures.value c.write_listed-length.ensures.written refl
