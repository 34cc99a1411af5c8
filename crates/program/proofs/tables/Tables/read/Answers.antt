-- `program::tables::Tables::read` meets its contract: what is read stands first in the two tables. Assumes nothing.
use mathlib.Core.Path.{refl}
use native.Mathlib.Omega.{arith}
use Rattle.program.specs.ProgramLaws.{Fronts, file_read}
use Rattle.program.proofs.tables.Tables.read.Goals as goal

pub invariant_of-result : goal.invariant_of-result
invariant_of-result c =
    let f : Fronts c.args.file.now c.read.new.nodes c.read.new.records c.in_ok-counts.counts = file_read refl refl c.read.ensures c.in_ok-counts.was in
    record { few_nodes = omega arith; few_records = omega arith }

pub returns : goal.returns
returns c =
    let f : Fronts c.args.file.now c.read.new.nodes c.read.new.records c.in_ok-counts.counts = file_read refl refl c.read.ensures c.in_ok-counts.was in
    record { records_inside = f.records_inside; sets_inside = f.sets_inside; outcome = f.outcome }
