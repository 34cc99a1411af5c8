-- `memory::recall` meets its contract: by whether there are pairs, and whether the modes fit. Assumes nothing.
use mathlib.Core.Path.{sym, ◌∙◌}
use lib.ListN.{length}
use Rattle.memory.specs.MemoryLaws.{recalled_none, recalled_unfit, recalled_fit}
use Rattle.memory.proofs.recall.Goals as goal

pub returns-then-among-eq0 : goal.returns-then-among-eq0
returns-then-among-eq0 c =
    let a = c.args in
    recalled_none a.slots.now a.state.now (length a.state.now) a.key c.if-among-eq0.true

pub returns-then-fits : goal.returns-then-fits
returns-then-fits c =
    let a = c.args in
    recalled_fit a.slots.now a.state.now (length a.state.now) a.key c.if-among-eq0.false
    (sym c.fits.ensures ∙ c.if-fits.true)
    c.pack-low.ensures c.pack-high.ensures c.recall_in.ensures

pub returns : goal.returns
returns c =
    let a = c.args in
    recalled_unfit a.slots.now a.state.now (length a.state.now) a.key c.if-among-eq0.false
    (sym c.fits.ensures ∙ c.if-fits.false)
