-- `format::check_contents` meets its contract: the checks come one after the other, and the first that refuses is the answer.
-- Assumes nothing.
use mathlib.Core.Path.{sym, ◌∙◌}
use Rattle.flow.specs.FirstRefusal.{refusal_handed}
use Rattle.format.specs.ContentLaws.{nodes_refused, values_refused, closings_refused, leaves_refused, events_last}
use Rattle.format.proofs.check_contents.Goals as goal

pub returns-in_err-check_nodes : goal.returns-in_err-check_nodes
returns-in_err-check_nodes c = refusal_handed _ c.from_residual.ensures.1 ∙ sym c.in_err-check_nodes.was ∙ nodes_refused _ _ _ _ _ c.check_nodes.ensures c.in_err-check_nodes.was

pub returns-in_err-check_values : goal.returns-in_err-check_values
returns-in_err-check_values c = refusal_handed _ c.from_residual-in_err-check_values.ensures.1 ∙ sym c.in_err-check_values.was ∙ values_refused _ _ _ _ _ (sym c.check_nodes.ensures ∙ c.in_ok-check_nodes.was) c.check_values.ensures c.in_err-check_values.was

pub returns-in_err-check_closings : goal.returns-in_err-check_closings
returns-in_err-check_closings c = refusal_handed _ c.from_residual-in_err-check_closings.ensures.1 ∙ sym c.in_err-check_closings.was ∙ closings_refused _ _ _ _ _ (sym c.check_nodes.ensures ∙ c.in_ok-check_nodes.was) (sym c.check_values.ensures ∙ c.in_ok-check_values.was) c.check_closings.ensures c.in_err-check_closings.was

pub returns-in_err-check_leaves : goal.returns-in_err-check_leaves
returns-in_err-check_leaves c = refusal_handed _ c.from_residual-in_err-check_leaves.ensures.1 ∙ sym c.in_err-check_leaves.was ∙ leaves_refused _ _ _ _ _ (sym c.check_nodes.ensures ∙ c.in_ok-check_nodes.was) (sym c.check_values.ensures ∙ c.in_ok-check_values.was) (sym c.check_closings.ensures ∙ c.in_ok-check_closings.was) c.check_leaves.ensures c.in_err-check_leaves.was

pub returns : goal.returns
returns c = events_last _ _ _ _ _ (sym c.check_nodes.ensures ∙ c.in_ok-check_nodes.was) (sym c.check_values.ensures ∙ c.in_ok-check_values.was) (sym c.check_closings.ensures ∙ c.in_ok-check_closings.was) (sym c.check_leaves.ensures ∙ c.in_ok-check_leaves.was) c.check_events.ensures
