-- `flow::check_nodes` meets its contract: the marks and the sorts are those of the nodes passed, and what is left to check is the grounds from `i` on. Assumes nothing.
use Prim.Native.Nat.{◌<◌, ◌-◌}
use mathlib.Core.Path.{ap, ◌≡◌, sym, ◌∙◌}
use native.Mathlib.Omega.{arith}
use Rattle.std.specs.Prelude.{Result, Ok, ⊤}
use Rattle.flow.specs.declared.Refusal.{Refusal}
use Rattle.flow.specs.FirstRefusal.{refusal_handed, each_start, each_held, each_passed, each_over, first_append}
use Rattle.flow.specs.Children.{marks_none, sorts_none}
use Rattle.flow.specs.Refusals.{count, node_grounds, child_grounds}
use Rattle.flow.specs.Checks.{or_else_check, first, each, nodes_check}
use Rattle.flow.proofs.check_nodes.Goals as goal

pub loop-i-init : goal.loop-i-init
unfolding nodes_check
loop-i-init c =
    let ns = c.args.nodes.now in
    let many = c.args.many in
    let start : or_else_check (first (each (node_grounds many ns) 0 (count ns - 0))) (first (each (child_grounds ns) 0 (count ns - 1))) ≡ nodes_check many ns
    = ap (λ (x : Result ⊤ Refusal). or_else_check x (first (each (child_grounds ns) 0 (count ns - 1)))) (each_start (node_grounds many ns) (count ns)) ∙ sym (first_append _ _) in
    (omega arith, ((marks_none ns, sorts_none ns), start))

pub check_node-requires : goal.check_node-requires
check_node-requires c =
    record {
      i_in_bounds = omega arith;
      i_bound = omega arith;
      marks = c.loop-i.invariant.1.0;
    }

pub returns-in_err-check_node : goal.returns-in_err-check_node
unfolding or_else_check
returns-in_err-check_node c =
    let ns = c.args.nodes.now in
    let many = c.args.many in
    let l = c.loop-i in
    let h : l.i < count ns = c.loop-i-test.true in
    let w = c.in_err-check_node.was in
    let e = sym c.check_node.ensures.value ∙ w in
    refusal_handed _ c.from_residual.ensures.1 ∙ sym (ap (λ (x : Result ⊤ Refusal). or_else_check x (first (each (child_grounds ns) 0 (count ns - 1)))) (each_held (node_grounds many ns) l.i (count ns) h _ e)) ∙ l.invariant.1.1

pub loop-i-preserved : goal.loop-i-preserved
loop-i-preserved c =
    let ns = c.args.nodes.now in
    let many = c.args.many in
    let l = c.loop-i in
    let h : l.i < count ns = c.loop-i-test.true in
    let fine = c.in_ok-check_node.was in
    let e : first (node_grounds many ns l.i) ≡ Ok tt = sym c.check_node.ensures.value ∙ fine in
    (omega arith, (c.check_node.ensures.children_noted fine, sym (ap (λ (x : Result ⊤ Refusal). or_else_check x (first (each (child_grounds ns) 0 (count ns - 1)))) (each_passed (node_grounds many ns) l.i (count ns) h e)) ∙ l.invariant.1.1))

pub check_children-requires : goal.check_children-requires
check_children-requires c =
    let ns = c.args.nodes.now in
    let l = c.loop-i in
    let e : l.i ≡ count ns = omega arith in record {
      nodes_len_bound = c.requires;
      marks = rw e at l.invariant.1.0.0;
    }

pub returns : goal.returns
unfolding or_else_check
returns c =
    let ns = c.args.nodes.now in
    let many = c.args.many in
    let l = c.loop-i in
    c.check_children.ensures
    ∙ sym (ap (λ (x : Result ⊤ Refusal). or_else_check x (first (each (child_grounds ns) 0 (count ns - 1)))) (each_over (node_grounds many ns) l.i (count ns) c.loop-i-test.false))
    ∙ l.invariant.1.1
