-- `format::scan_names` meets its contract: the loop's invariant: the first i entries are read, and the scan goes on behind them.
-- Assumes nothing.
use mathlib.Core.Path.{refl, sym}
use Rattle.format.specs.ItemLaws.{handed_on, has_found, has_number, item_got}
use Rattle.format.specs.SectionLaws.{scan_start, scan_stop, scan_more, scan_end, names_bad, entries_at_length}
use Rattle.format.proofs.scan_names.Goals as goal

pub returns-in_err-count : goal.returns-in_err-count
returns-in_err-count c = handed_on _ _ _ _ (λ n p. names_bad _) c.in_err-count.ensures c.from_residual.ensures.1

pub loop-i-init : goal.loop-i-init
loop-i-init c = scan_start _ (has_number _ c.in_ok-count.ensures)

pub returns-in_err-next : goal.returns-in_err-next
returns-in_err-next c =
    handed_on _ _ _ _ (λ n p. scan_stop _ c.loop-i.invariant c.loop-i-test.true)
    c.in_err-next.ensures c.from_residual-in_err-next.ensures.1

pub loop-i-preserved : goal.loop-i-preserved
loop-i-preserved c =
    let f = has_found _ _ c.in_ok-next.ensures in
    scan_more _ c.loop-i.invariant c.loop-i-test.true f.is

pub returns : goal.returns
returns c = item_got _ _ (sym (entries_at_length _ _ _)) refl (scan_end _ c.loop-i.invariant c.loop-i-test.false)
