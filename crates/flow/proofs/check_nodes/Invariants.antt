use Prim.Native.Nat.{◌≤◌, ◌-◌}
use mathlib.Core.Path.{◌≡◌}
use Rattle.flow.specs.Forms.{Marks, Sorts}
use Rattle.flow.specs.Refusals.{count, node_grounds, child_grounds}
use Rattle.flow.specs.Checks.{or_else_check, first, each, nodes_check}
use Rattle.flow.proofs.check_nodes.Given as goal

-- `flow::check_nodes` meets its contract: the marks and the sorts are those of the nodes passed, and what is left to check is the grounds from `i` on. Assumes nothing.
abbrev pub invariant-loop-i : goal.invariant-loop-i
invariant-loop-i l =
    (l.i ≤ count l.nodes)
    × ((Marks l.nodes l.i l.marks × Sorts l.nodes l.i l.sorts)
    × (or_else_check (first (each (node_grounds l.many l.nodes) l.i (count l.nodes - l.i))) (first (each (child_grounds l.nodes) 0 (count l.nodes - 1))) ≡ nodes_check l.many l.nodes))

abbrev pub decreases-loop-i : goal.decreases-loop-i
decreases-loop-i l = count l.nodes - l.i
