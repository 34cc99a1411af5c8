-- `flow::check_table_length` meets its contract: each return rewrites with the tests that led there. Assumes nothing.
use borrow.Author.Tests.{eq-eqb, ne_eqb, lt-ltb, le-ltb}
use Rattle.flow.specs.Refusals.{no_nodes, not_whole, too_many_nodes}
use Rattle.flow.specs.Checks.{table_length_check, first, answer, or_else_check}
use Rattle.flow.proofs.check_table_length.Goals as goal

pub returns-then-nodes-eq0 : goal.returns-then-nodes-eq0
unfolding table_length_check first answer or_else_check no_nodes not_whole too_many_nodes
returns-then-nodes-eq0 c = rw (c.refuse.ensures, eq-eqb _ _ c.if-nodes-eq0.true)

pub returns-then-nodes-ne0 : goal.returns-then-nodes-ne0
unfolding table_length_check first answer or_else_check no_nodes not_whole too_many_nodes
returns-then-nodes-ne0 c = rw (c.refuse-then-nodes-ne0.ensures, ne_eqb _ _ c.if-nodes-eq0.false, ne_eqb _ _ c.if-nodes-ne0.true)

pub returns-then-nodes-gt-MOST_NODES : goal.returns-then-nodes-gt-MOST_NODES
unfolding table_length_check first answer or_else_check no_nodes not_whole too_many_nodes
returns-then-nodes-gt-MOST_NODES c = rw (c.refuse-then-nodes-gt-MOST_NODES.ensures, ne_eqb _ _ c.if-nodes-eq0.false, eq-eqb _ _ c.if-nodes-ne0.false, lt-ltb _ _ c.if-nodes-gt-MOST_NODES.true)

pub returns : goal.returns
unfolding table_length_check first answer or_else_check no_nodes not_whole too_many_nodes
returns c = rw (ne_eqb _ _ c.if-nodes-eq0.false, eq-eqb _ _ c.if-nodes-ne0.false, le-ltb _ _ c.if-nodes-gt-MOST_NODES.false)
