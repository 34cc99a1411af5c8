-- 02, Two, of what may come next: "Demand 2 reads such a node as the choice of all those entries, counted as one step." What `next_named` lists
-- is the list of the flow in which each leaf is the choice of the entries that it takes (`spelled_next`); the count is the named flow's. For
-- the runs of either follow the same records, where they get stuck too (`spelled_flow_follows`).
-- Theorems only. Assumes nothing.
use Rattle.std.specs.Prelude.{ℕ, ◌<◌, List, ◌↔◌, ◌≡◌, length, Ok}
use Rattle.std.proofs.Common.{sym, subst}
use Rattle.calculus.specs.Records.{Record, State, Follows}
use Rattle.calculus.specs.Leaves.{AnySet}
use Rattle.flow.specs.declared.Extent.TheVariants.{Beginning}
use Rattle.flow.specs.declared.Node.TheVariants.{Event}
use Rattle.flow.specs.Tests.{is_false}
use Rattle.flow.specs.Kinds.{node}
use Rattle.flow.specs.Records.{records}
use Rattle.flow.specs.Refusals.{count}
use Rattle.flow.specs.Checks.{table_check}
use Rattle.flow.specs.Earliest.{Nowhere}
use Rattle.flow.specs.Drawn.{flow_by}
use Rattle.flow.specs.FineTable.{fine_table}
use Rattle.flow.specs.DrawnLeaves.{flow_each}
use Rattle.format.specs.Format.{Entry, names_section}
use Rattle.format.specs.Limits.{GoodNames}
use Rattle.format.specs.Matching.{named, with_names}
use Rattle.format.specs.Contents.{unnamed_leaf}
use Rattle.format.specs.ContentLaws.{leaf_named}
use Rattle.ahead.specs.declared.answer.Next.{Next}
use Rattle.ahead.specs.Told.{NextWord, told, next_room_order, named_next_order}
use Rattle.ahead.specs.Outcome.{named_next_check, NamedNextOf}
use Rattle.promises.specs.Stated.{EventsNamed}
use Rattle.promises.specs.Takers.{matched, taken_choice, spelled_out}
use Rattle.promises.specs.Machines.{named_leaf_runs}
use Rattle.promises.specs.FollowingStated.{Listing, WritesList}
use Rattle.promises.specs.SpelledSteps.{LikeLeaf, spelled_follows, choice_like}
use Rattle.promises.specs.Listings.{following_all, same_runs_listing, call_not_refused}
use Rattle.promises.specs.Beginnings.{lists_parts, lists_named, named_check_nowhere}
use Rattle.promises.specs.Following.{named_next_lists}

module _ (es : List Entry) (good : GoodNames es) (sets ns : List ℕ) (passed : table_check sets ns ≡ Ok tt) (events : EventsNamed es ns) where
  event_like : (i e : ℕ) → i < count ns → node ns i ≡ Event e → LikeLeaf (taken_choice es) (named es e)
  event_like i e w n =
      let q = leaf_named (length es) ns (fine_table ns sets passed) i e w n (is_false (unnamed_leaf (length es) ns i) (events i w)) in
      choice_like (named es e) e (matched es e) (named_leaf_runs es good e q.0 q.1)

  pub spelled_flow_follows : (batch : List Record) (n : ℕ) → Follows (flow_by (with_names es sets) ns) batch n ↔ Follows (spelled_out es (flow_by (with_names es sets) ns)) batch n
  spelled_flow_follows =
      spelled_follows (taken_choice es) (flow_by (with_names es sets) ns)
      (flow_each (LikeLeaf (taken_choice es)) AnySet (with_names es sets) ns (fine_table ns sets passed) event_like (λ k. tt))

module _ (es : List Entry) (good : GoodNames es) (sets : List ℕ) where
  -- of any beginning
  pub spelled_listing : (ns rs : List ℕ) → table_check sets ns ≡ Ok tt → EventsNamed es ns → {listed : List ℕ} → Listing (flow_by (with_names es sets) ns) (records rs) listed
      → Listing (spelled_out es (flow_by (with_names es sets) ns)) (records rs) listed
  spelled_listing ns rs passed events f =
      let spelled : State = spelled_out es (flow_by (with_names es sets) ns) in
      let same = same_runs_listing (flow_by (with_names es sets) ns) spelled (spelled_flow_follows es good sets ns passed events) f (following_all spelled rs) in
      subst (Listing spelled (records rs)) (sym same) (following_all spelled rs)

  module _ {ns rs : List ℕ} {allowance : ℕ} {list work : List ℕ} {r : Next} {list' after : List ℕ} (call : NamedNextOf (names_section es) sets ns rs allowance list work r list' after)
      (answered : (told r).word ≡ NextWord.refused → ⊥) where
    nowhere : Nowhere (named_next_order sets ns rs (length list) (length work) es)
    unfolding named_next_check
    nowhere = (named_check_nowhere es good (named_next_order sets ns rs (length list) (length work))).0 ((call_not_refused call).0 answered)

    pub spelled_next : ((told r).word ≡ NextWord.undecided → ⊥)
        → (listed : List ℕ) × WritesList (flow_by (with_names es sets) ns) (records rs) (told r) list list' listed × Listing (spelled_out es (flow_by (with_names es sets) ns)) (records rs) listed
    spelled_next decided =
        let w = (named_next_lists es good sets call answered).else_listed decided in
        let order = next_room_order ns rs (length list) (length work) in
        let events = lists_named Beginning (length es) sets ns rs order nowhere in
        (w.0, w.1, spelled_listing ns rs (lists_parts Beginning sets ns rs (length es) order nowhere).0 events w.1.all)
