-- `flow::node_of` meets its contract: by the range that the kind is in. Assumes nothing.
use native.Mathlib.Omega.{arith}
use Rattle.flow.proofs.Arms.{standard_set, compensable_set, none_below, none_before_sets, none_between_sets, none_behind_sets}
use Rattle.flow.proofs.node_of.Goals as goal

pub returns-in-256-to-271 : goal.returns-in-256-to-271
returns-in-256-to-271 c = standard_set c.args.kind c.args.first c.args.second (omega arith) (omega arith)

pub returns-in-512-to-527 : goal.returns-in-512-to-527
returns-in-512-to-527 c = compensable_set c.args.kind c.args.first c.args.second (omega arith) (omega arith)

pub returns-in_default : goal.returns-in_default
returns-in_default c = none_below c.args.kind c.args.first c.args.second (omega arith)

pub returns-in_default-2 : goal.returns-in_default-2
returns-in_default-2 c = none_before_sets c.args.kind c.args.first c.args.second (omega arith) (omega arith)

pub returns-in_default-3 : goal.returns-in_default-3
returns-in_default-3 c = none_between_sets c.args.kind c.args.first c.args.second (omega arith) (omega arith)

pub returns-in_default-4 : goal.returns-in_default-4
returns-in_default-4 c = none_behind_sets c.args.kind c.args.first c.args.second (omega arith)
