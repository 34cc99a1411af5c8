-- `format::in_range` meets its contract: a value held to its range, by its two tests. Assumes nothing.
use native.Mathlib.Omega.{arith}
use Rattle.format.specs.ItemLaws.{item_few, item_many, item_fits}
use Rattle.format.proofs.in_range.Goals as goal

pub returns-then-got-range : goal.returns-then-got-range
returns-then-got-range c = item_few _ _ _ c.refusal.ensures c.if-got-range.true

pub returns-then-range-got : goal.returns-then-range-got
returns-then-range-got c = item_many _ _ _ c.refusal-then-range-got.ensures (omega arith) c.if-range-got.true

pub returns : goal.returns
returns c = item_fits _ _ _ (omega arith) (omega arith)
