-- `program::names_of` meets its contract: as much of the file as the scan went through, or nothing. Assumes nothing.
use mathlib.Core.Path.{sym, ◌∙◌}
use lib.Seq.{length-take-le}
use Rattle.format.specs.ItemLaws.{has_found, bad_found}
use Rattle.format.specs.SectionLaws.{names_there}
use Rattle.program.specs.ProgramLaws.{names_found, names_bad}
use Rattle.program.proofs.names_of.Goals as goal

pub returns-in-Err : goal.returns-in-Err
returns-in-Err c = names_bad _ (bad_found _ _ (sym c.in-Err.is ∙ c.scan_names.ensures))

pub slice_bounds-result-end : goal.slice_bounds-result-end
slice_bounds-result-end c =
    let a = has_found _ _ (sym c.in-Ok.is ∙ c.scan_names.ensures) in
    sym (length-take-le _ _ (names_there _ a.is).inside)

pub returns-in-Ok : goal.returns-in-Ok
returns-in-Ok c =
    let a = has_found _ _ (sym c.in-Ok.is ∙ c.scan_names.ensures) in
    names_found _ a.is
