-- `memory::recall_in` meets its contract: by what the first slot of the pair has, and then the second. Assumes nothing.
use mathlib.Core.Path.{sym, ◌∙◌, ap}
use native.Mathlib.Omega.{arith}
use Rattle.std.specs.Prelude.{Ok}
use Rattle.memory.specs.MemoryLaws.{recalled_away, recalled_first, recalled_second, recalled_neither}
use Rattle.memory.proofs.recall_in.Goals as goal

pub returns-then-pair-slots : goal.returns-then-pair-slots
returns-then-pair-slots c =
    let a = c.args in
    let p = c.pair_of-pair in
    rw (← p.ensures) (recalled_away a.slots.now a.state.low a.state.high a.state.key p.result (omega arith))

pub returns-then-has : goal.returns-then-has
returns-then-has c =
    let a = c.args in
    let p = c.pair_of-pair in
    rw (← p.ensures) (ap Ok c.sight.ensures ∙ recalled_first a.slots.now a.state.low a.state.high a.state.key p.result (omega arith) (sym c.has.ensures ∙ c.if-has.true))

pub returns-then-has-2 : goal.returns-then-has-2
returns-then-has-2 c =
    let a = c.args in
    let p = c.pair_of-pair in
    rw (← p.ensures) (ap Ok c.sight-then-has-2.ensures ∙ recalled_second a.slots.now a.state.low a.state.high a.state.key p.result (omega arith) (sym c.has.ensures ∙ c.if-has.false) (sym c.has-2.ensures ∙ c.if-has-2.true))

pub returns : goal.returns
returns c =
    let a = c.args in
    let p = c.pair_of-pair in
    rw (← p.ensures) (recalled_neither a.slots.now a.state.low a.state.high a.state.key p.result (omega arith) (sym c.has.ensures ∙ c.if-has.false) (sym c.has-2.ensures ∙ c.if-has-2.false))
