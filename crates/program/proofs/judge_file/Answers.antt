-- `program::judge_file` meets its contract: what is read is judged. Assumes nothing.
use mathlib.Core.Path.{◌∙◌}
use Rattle.program.specs.ProgramLaws.{refused_answered, held_answered}
use Rattle.program.proofs.judge_file.Goals as goal

pub returns-in-Ok : goal.returns-in-Ok
returns-in-Ok c = c.judge_tables.ensures ∙ held_answered _ c.in-Ok.ensures c.names_of.ensures c.nodes.ensures c.records.ensures

pub returns-in-Err : goal.returns-in-Err
returns-in-Err c = refused_answered _ c.in-Err.ensures
