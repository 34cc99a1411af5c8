-- `reader::lay_out` meets its contract: each item that is read gives the next its offset, and each refusal is the layout's.
-- Assumes nothing.
use native.Mathlib.Omega.{arith}
use Rattle.format.specs.ItemLaws.{bad_found, has_found}
use Rattle.format.specs.SectionLaws.{names_there, section_there}
use Rattle.reader.specs.LayoutLaws.{layout_names_bad, layout_nodes_bad, layout_records_bad, layout_sets_bad, lent_there, runs_near, found_runs, lays_refusal, lays_too_long, lays_whole}
use Rattle.reader.proofs.lay_out.Goals as goal

pub returns-in_err-names : goal.returns-in_err-names
returns-in_err-names c = lays_refusal _ c.from_residual.ensures.1 (layout_names_bad _ (bad_found _ _ c.in_err-names.ensures))

pub section_at-requires : goal.section_at-requires
section_at-requires c =
    let a = has_found _ _ c.in_ok-names.ensures in
    let ta = names_there _ a.is in
    (omega arith, omega arith)

pub returns-in_err-nodes : goal.returns-in_err-nodes
returns-in_err-nodes c =
    let a = has_found _ _ c.in_ok-names.ensures in
    lays_refusal _ c.from_residual-in_err-nodes.ensures.1 (layout_nodes_bad _ a.is (bad_found _ _ c.in_err-nodes.ensures))

pub section_at-requires-2 : goal.section_at-requires-2
section_at-requires-2 c =
    let a = has_found _ _ c.in_ok-names.ensures in
    let b = has_found _ _ c.in_ok-nodes.ensures in
    let ta = names_there _ a.is in
    let tb = section_there _ _ _ _ b.is in
    (omega (arith, tb.ends, tb.high), omega arith)

pub returns-in_err-records : goal.returns-in_err-records
returns-in_err-records c =
    let a = has_found _ _ c.in_ok-names.ensures in
    let b = has_found _ _ c.in_ok-nodes.ensures in
    lays_refusal _ c.from_residual-in_err-records.ensures.1 (layout_records_bad _ a.is b.is (bad_found _ _ c.in_err-records.ensures))

pub sets_at-requires : goal.sets_at-requires
sets_at-requires c =
    let a = has_found _ _ c.in_ok-names.ensures in
    let b = has_found _ _ c.in_ok-nodes.ensures in
    let d = has_found _ _ c.in_ok-records.ensures in
    let ta = names_there _ a.is in
    let tb = section_there _ _ _ _ b.is in
    let td = section_there _ _ _ _ d.is in
    omega (arith, tb.ends, tb.high, td.ends, td.high)

pub returns-in_err-sets : goal.returns-in_err-sets
returns-in_err-sets c =
    let a = has_found _ _ c.in_ok-names.ensures in
    let b = has_found _ _ c.in_ok-nodes.ensures in
    let d = has_found _ _ c.in_ok-records.ensures in
    lays_refusal _ c.from_residual-in_err-sets.ensures.1 (layout_sets_bad _ a.is b.is d.is (bad_found _ _ c.in_err-sets.ensures))

pub refusal-requires : goal.refusal-requires
refusal-requires c =
    let a = has_found _ _ c.in_ok-names.ensures in
    let b = has_found _ _ c.in_ok-nodes.ensures in
    let d = has_found _ _ c.in_ok-records.ensures in
    let t = has_found _ _ c.in_ok-sets.ensures in
    let near = runs_near _ (found_runs _ a.is b.is d.is t.is) in
    omega arith

pub returns-then-end-file : goal.returns-then-end-file
returns-then-end-file c =
    let a = has_found _ _ c.in_ok-names.ensures in
    let b = has_found _ _ c.in_ok-nodes.ensures in
    let d = has_found _ _ c.in_ok-records.ensures in
    let t = has_found _ _ c.in_ok-sets.ensures in
    lays_too_long _ (found_runs _ a.is b.is d.is t.is) c.refusal.ensures c.if-end-file.true

pub overflow_sub-counts : goal.overflow_sub-counts
overflow_sub-counts c =
    let a = has_found _ _ c.in_ok-names.ensures in
    let b = has_found _ _ c.in_ok-nodes.ensures in
    let d = has_found _ _ c.in_ok-records.ensures in
    let t = has_found _ _ c.in_ok-sets.ensures in
    let there = lent_there _ (found_runs _ a.is b.is d.is t.is) in
    omega (arith, t.sized, there.sized, there.from)

pub overflow_add-result : goal.overflow_add-result
overflow_add-result c =
    let a = has_found _ _ c.in_ok-names.ensures in
    let b = has_found _ _ c.in_ok-nodes.ensures in
    let d = has_found _ _ c.in_ok-records.ensures in
    let t = has_found _ _ c.in_ok-sets.ensures in
    let near = runs_near _ (found_runs _ a.is b.is d.is t.is) in
    omega arith

pub overflow_add-result-2 : goal.overflow_add-result-2
overflow_add-result-2 c =
    let a = has_found _ _ c.in_ok-names.ensures in
    let b = has_found _ _ c.in_ok-nodes.ensures in
    let d = has_found _ _ c.in_ok-records.ensures in
    let t = has_found _ _ c.in_ok-sets.ensures in
    let near = runs_near _ (found_runs _ a.is b.is d.is t.is) in
    omega arith

pub returns : goal.returns
returns c =
    let a = has_found _ _ c.in_ok-names.ensures in
    let b = has_found _ _ c.in_ok-nodes.ensures in
    let d = has_found _ _ c.in_ok-records.ensures in
    let t = has_found _ _ c.in_ok-sets.ensures in
    lays_whole _ (found_runs _ a.is b.is d.is t.is) a.sized b.sized d.sized t.sized c.from.ensures c.if-end-file.false
