-- `memory::eight` meets its contract: by how many of the eight are there. Assumes nothing.
use lib.ListN.{length}
use Rattle.memory.specs.MemoryLaws.{part_none, eight_is, eight_fours}
use Rattle.memory.proofs.eight.Goals as goal

pub returns-then-at-state : goal.returns-then-at-state
returns-then-at-state c =
    let t = c.args.state.now in
    eight_fours t (length t) c.args.at c.requires.two_bits_each c.four.ensures.0 c.four-then-at-state.ensures.0

pub returns-then-state-at : goal.returns-then-state-at
returns-then-state-at c =
    let t = c.args.state.now in
    eight_is t (length t) c.args.at c.requires.two_bits_each (part_none t (length t) c.args.at 8 c.if-state-at.true)

pub returns : goal.returns
returns c = eight_is c.args.state.now (length c.args.state.now) c.args.at c.requires.two_bits_each c.part.ensures
