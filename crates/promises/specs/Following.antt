-- What may come next (02, Three): what `next` and `next_named` answer, and what becomes of the table and of the work bytes. Each theorem
-- stands under the words that it keeps and is said of a call, that is of any answer, table and work bytes that the contract allows for what
-- was lent (`NextOf`, `NamedNextOf`; ahead, Outcome). What does not depend on the entry point is said once for both (Listings).
-- The definitions it is stated with: FollowingStated; of ahead Told; of search Room; of the calculus Records and Ahead; of flow Refusals,
-- Earliest, Draws; of format NameFaults and Matching. Theorems only. Assumes nothing.
use Rattle.std.specs.Prelude.{ℕ, ◌≤◌, List, [], ◌↔◌, ◌≡◌, length}
use Rattle.std.proofs.Math.Logic.Iff
use Rattle.std.proofs.Common.{subst}
use Rattle.calculus.specs.Records.{State}
use Rattle.calculus.specs.Search.{visit}
use Rattle.calculus.specs.Ahead.{entered}
use Rattle.calculus.proofs.AheadLaws.{begins_entered}
use Rattle.flow.specs.declared.Extent.TheVariants.{Beginning}
use Rattle.flow.specs.Records.{records}
use Rattle.flow.specs.Earliest.{Earliest, Nowhere}
use Rattle.flow.specs.Legends.{plain}
use Rattle.flow.specs.Drawn.{flow_by, flow_of}
use Rattle.flow.specs.FineTable.{fine_table}
use Rattle.flow.specs.RecordsFit.{records_begin}
use Rattle.format.specs.Format.{Entry, names_section}
use Rattle.format.specs.Limits.{GoodNames, Bytes}
use Rattle.format.specs.Matching.{with_names}
use Rattle.format.specs.NameFaults.{NamedRefuses}
use Rattle.judge.specs.Judged.{room_wanted, cleared}
use Rattle.ahead.specs.declared.answer.Next.{Next}
use Rattle.ahead.specs.Told.{NextWord, refusal, told, next_room_order, next_order, named_next_order}
use Rattle.ahead.specs.Outcome.{next_check, named_next_check, NextBy, NextOf, NamedNextOf}
pub use Rattle.promises.specs.FollowingStated.{EventOrClosing, Rising, Listing, WritesList, Lists}
use Rattle.promises.specs.ExactlyWhen.{earliest_exactly, nowhere_exactly}
use Rattle.promises.specs.Listings.{call_refusal, call_not_refused, call_lists, call_keeps, call_undecided_keeps, call_length, call_clears, call_once, start_listed}
use Rattle.promises.specs.Beginnings.{plain_parts, lists_parts, plain_room, lists_room, named_check_nowhere}
use Rattle.promises.specs.ListRefusals.{named_exactly, named_fine}
use Rattle.promises.specs.NamedDemands.{named_flow_is}

---- `next` ----

module _ (sets : List ℕ) {ns rs : List ℕ} {allowance : ℕ} {list work : List ℕ} {r : Next} {list' after : List ℕ} (call : NextOf sets ns rs allowance list work r list' after) where
  -- "Refusals: 10 isn't given here; a beginning with a closing too many (any for a standard root, a second for a compensable one) is 13, at
  -- that closing." A number is given at a place exactly when its condition holds there and no earlier one of the order holds at its place
  pub next_refused_when : (number place : ℕ)
      → (told r ≡ refusal number place) ↔ Earliest (record { number = number; place = place }) (next_order sets ns rs (length list) (length work))
  unfolding next_check
  next_refused_when number place = Iff.trans (call_refusal call number place) (earliest_exactly (next_order sets ns rs (length list) (length work)) (record { number = number; place = place }))

  -- and nothing is refused exactly when no condition of the order holds anywhere
  pub next_listed_when : ((told r).word ≡ NextWord.refused → ⊥) ↔ Nowhere (next_order sets ns rs (length list) (length work))
  unfolding next_check
  next_listed_when = Iff.trans (call_not_refused call) (nowhere_exactly (next_order sets ns rs (length list) (length work)))

  -- "a refusal changes no lent byte": neither the table's nor the work bytes
  pub next_refusal_keeps : (told r).word ≡ NextWord.refused → (list' ≡ list) × (after ≡ work)
  next_refusal_keeps = call_keeps call

  -- "and an undecided call no lent table"
  pub next_undecided_keeps : (told r).word ≡ NextWord.undecided → list' ≡ list
  next_undecided_keeps = call_undecided_keeps call

  -- "into a lent table": nothing is written behind its end
  pub next_table_length : length list' ≡ length list
  unfolding next_check
  next_table_length = call_length call (λ e. plain_room sets ns rs (length list) (length work) ((nowhere_exactly (next_order sets ns rs (length list) (length work))).0 e))

  module _ (answered : (told r).word ≡ NextWord.refused → ⊥) where
    -- all that request Three says, in one record (FollowingStated)
    pub next_lists : Lists (flow_of sets ns) (records rs) allowance (told r) list list'
    next_lists = call_lists call answered

    -- "All runs of the beginning are searched, the count is of states entered in it": as many as the judge's search enters
    pub next_searches : (visit (records rs) (flow_of sets ns)).entered ≡ entered (records rs) (flow_of sets ns)
    next_searches =
        let p = plain_parts Beginning sets ns rs (next_room_order ns rs (length list) (length work)) (next_listed_when.0 answered) in
        begins_entered (flow_of sets ns) (records rs) (records_begin ns rs (plain sets) (fine_table ns sets p.0) p.1)

    -- 01: "the first 2 × nodes × (records + 1) are zero and the others unchanged"
    pub next_clears : after ≡ cleared (room_wanted ns rs) work
    next_clears = call_clears call answered

    -- "Given a flow and a beginning .., possibly empty": before any record one state is entered, the root
    pub next_at_start : rs ≡ [] → 1 ≤ allowance → ((told r).word ≡ NextWord.listed) × ((told r).count ≡ 1)
    next_at_start empty enough = start_listed next_lists empty enough

-- "the contract leaves one possible outcome: the result and each lent byte"
pub next_unique : (sets : List ℕ) {ns rs : List ℕ} {allowance : ℕ} {list work : List ℕ} {r r' : Next} {list' list'' after after' : List ℕ}
    → NextOf sets ns rs allowance list work r list' after → NextOf sets ns rs allowance list work r' list'' after' → (r ≡ r') × (list' ≡ list'') × (after ≡ after')
next_unique sets p q = call_once p q

---- `next_named` ----
-- "Names may be lent as in Two."

module _ (s sets : List ℕ) {ns rs : List ℕ} {allowance : ℕ} {list work : List ℕ} {r : Next} {list' after : List ℕ} (call : NamedNextOf s sets ns rs allowance list work r list' after) where
  module _ (bytes : Bytes s) where
    -- a refusal is given exactly when one of its ways holds: of the names section, or the earliest of the order behind it
    pub named_next_refused_when : (number place : ℕ) → (told r ≡ refusal number place) ↔ NamedRefuses s (named_next_order sets ns rs (length list) (length work)) number place
    unfolding named_next_check
    named_next_refused_when number place = Iff.trans (call_refusal call number place) (named_exactly s (named_next_order sets ns rs (length list) (length work)) bytes number place)

    -- and nothing is refused exactly of a good names section, with nothing behind it, where no ground of the order holds anywhere
    pub named_next_listed_when : ((told r).word ≡ NextWord.refused → ⊥)
        ↔ ((es : List Entry) × GoodNames es × (s ≡ names_section es) × Nowhere (named_next_order sets ns rs (length list) (length work) es))
    unfolding named_next_check
    named_next_listed_when = Iff.trans (call_not_refused call) (named_fine s (named_next_order sets ns rs (length list) (length work)) bytes)

    -- "into a lent table"
    pub named_next_table_length : length list' ≡ length list
    unfolding named_next_check
    named_next_table_length =
        call_length call
        (λ e. let p = (named_fine s (named_next_order sets ns rs (length list) (length work)) bytes).0 e in lists_room (length p.0) sets ns rs (length list) (length work) p.3)

  -- "a refusal changes no lent byte"
  pub named_next_refusal_keeps : (told r).word ≡ NextWord.refused → (list' ≡ list) × (after ≡ work)
  named_next_refusal_keeps = call_keeps call

  pub named_next_undecided_keeps : (told r).word ≡ NextWord.undecided → list' ≡ list
  named_next_undecided_keeps = call_undecided_keeps call

  -- 01: "the first 2 × nodes × (records + 1) are zero and the others unchanged"
  pub named_next_clears : ((told r).word ≡ NextWord.refused → ⊥) → after ≡ cleared (room_wanted ns rs) work
  named_next_clears answered = call_clears call answered

module _ (es : List Entry) (good : GoodNames es) (sets : List ℕ) {ns rs : List ℕ} {allowance : ℕ} {list work : List ℕ} {r : Next} {list' after : List ℕ}
    (call : NamedNextOf (names_section es) sets ns rs allowance list work r list' after) where
  -- of a good section the flow is the one that its entries draw
  pub named_next_call : NextBy (named_next_check (names_section es) sets ns rs (length list) (length work)) (flow_by (with_names es sets) ns) ns rs allowance list work r list' after
  named_next_call =
      subst (λ (flow : State). NextBy (named_next_check (names_section es) sets ns rs (length list) (length work)) flow ns rs allowance list work r list' after)
      (named_flow_is es good sets ns) call

  module _ (answered : (told r).word ≡ NextWord.refused → ⊥) where
    -- all that request Three says, of the flow that the nodes draw with these entries
    pub named_next_lists : Lists (flow_by (with_names es sets) ns) (records rs) allowance (told r) list list'
    named_next_lists = call_lists named_next_call answered

    pub named_next_searches : (visit (records rs) (flow_by (with_names es sets) ns)).entered ≡ entered (records rs) (flow_by (with_names es sets) ns)
    unfolding named_next_check
    named_next_searches =
        let n = (named_check_nowhere es good (named_next_order sets ns rs (length list) (length work))).0 ((call_not_refused call).0 answered) in
        let p = lists_parts Beginning sets ns rs (length es) (next_room_order ns rs (length list) (length work)) n in
        begins_entered (flow_by (with_names es sets) ns) (records rs) (records_begin ns rs (with_names es sets) (fine_table ns sets p.0) p.1)

    pub named_next_at_start : rs ≡ [] → 1 ≤ allowance → ((told r).word ≡ NextWord.listed) × ((told r).count ≡ 1)
    named_next_at_start empty enough = start_listed named_next_lists empty enough

pub named_next_unique : (s sets : List ℕ) {ns rs : List ℕ} {allowance : ℕ} {list work : List ℕ} {r r' : Next} {list' list'' after after' : List ℕ}
    → NamedNextOf s sets ns rs allowance list work r list' after → NamedNextOf s sets ns rs allowance list work r' list'' after' → (r ≡ r') × (list' ≡ list'') × (after ≡ after')
named_next_unique s sets p q = call_once p q
