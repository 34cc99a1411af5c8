-- `format::items_at` meets its contract: a count in its range, then its items.
-- Assumes nothing.
use native.Mathlib.Omega.{arith}
use Rattle.format.specs.ItemLaws.{handed_on, has_number, ranged_there, number_there}
use Rattle.format.specs.RunLaws.{fewer_items, few_items, items_count_bad, items_answer}
use Rattle.format.proofs.items_at.Goals as goal

pub returns-in_err-count : goal.returns-in_err-count
returns-in_err-count c = handed_on _ _ _ _ (λ n p. items_count_bad _ _ _ _ _) c.in_err-count.ensures c.from_residual.ensures.1

pub overflow_mul-each : goal.overflow_mul-each
overflow_mul-each c =
    let e = has_number _ c.in_ok-count.ensures in
    let t = ranged_there _ _ _ _ e in
    let p = c.requires in
    omega (arith, few_items _ _ p.1 t.high p.2)

pub run_of_items-requires : goal.run_of_items-requires
run_of_items-requires c =
    let e = has_number _ c.in_ok-count.ensures in
    let t = ranged_there _ _ _ _ e in
    let n = number_there _ _ t.read in
    let p = c.requires in
    (omega (arith, n.ends), omega (arith, n.ends, n.inside), p.1, fewer_items _ _ t.high p.2)

pub returns : goal.returns
returns c =
    let e = has_number _ c.in_ok-count.ensures in
    items_answer _ _ _ _ _ e c.run_of_items.ensures
