-- `program::judge_tables` meets its contract: with so many work bytes and so many states, the judge's answer. Assumes nothing.
use Rattle.program.proofs.judge_tables.Goals as goal

pub returns : goal.returns
returns c = c.judge_named.ensures.answers
