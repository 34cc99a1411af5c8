-- `matching::mark_leaf` meets its contract: the marks of one node more. Assumes nothing.
use Rattle.matching.proofs.MarkLaws.{heard_more, heard_same}
use Rattle.matching.proofs.mark_leaf.Goals as goal

pub returns-then-form_at : goal.returns-then-form_at
returns-then-form_at g c =
    heard_more (g.N.Names.beside c.args.names.now) c.args.nodes.now c.requires.heard_marks
    c.form_at.ensures c.first_at.ensures c.if-form_at.true c.mark_taken.ensures

pub returns-else-form_at : goal.returns-else-form_at
returns-else-form_at g c = heard_same (g.N.Names.beside c.args.names.now) c.args.nodes.now c.requires.heard_marks c.form_at.ensures c.if-form_at.false
