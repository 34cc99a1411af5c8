-- The checks of a file's contents one after the other: the first that refuses gives the answer; and what is known where none does
-- (`contents_passed`). Then every event leaf has an entry (`leaf_named`). Assumes nothing.
use Rattle.std.specs.Prelude.{ℕ, ◌<◌, ◌≤◌, Bool, false, List, [], ◌∷◌, ◌++◌, length, get_or, ◌≡◌, Result, Ok, Err, ⊤}
use Rattle.std.proofs.Common.{arith, sym, ◌∙◌, ltb-false}
use Rattle.std.proofs.Math.Path.{ap}
use Rattle.flow.specs.declared.Refusal.{Refusal}
use Rattle.flow.specs.declared.Extent.{Extent}
use Rattle.flow.specs.declared.Node.TheVariants.{Event}
use Rattle.flow.specs.Tests.{is_false, then_false}
use Rattle.flow.specs.Kinds.{form, node, one_of}
use Rattle.flow.specs.Refusals.{ground_of, count, nodes_order, values_order, closing_order}
use Rattle.flow.specs.Checks.{first, or_else_check, nodes_check, values_check, closings_check}
use Rattle.flow.specs.FirstRefusal.{None, more, fine_exactly, none_each, both_fine, first_append, orders_append, or_else_refused, or_else_fine}
use Rattle.flow.specs.Fine.{FineTable}
use Rattle.flow.specs.EventLeaves.{event_first, event_leaf, event_within}
use Rattle.format.specs.Contents.{unnamed_leaf, leaf_grounds, unnamed_event, event_grounds, names_order}
use Rattle.format.specs.ContentChecks.{leaves_grounds, events_grounds, grounds_of}

module _ (extent : Extent) (names many : ℕ) (ns rs : List ℕ) where
  -- from each check on
  abbrev pub leaves_on : Result ⊤ Refusal
  leaves_on = or_else_check (first (leaves_grounds names ns)) (first (events_grounds names rs))

  abbrev pub closings_on : Result ⊤ Refusal
  closings_on = or_else_check (closings_check extent ns rs) leaves_on

  abbrev pub values_on : Result ⊤ Refusal
  values_on = or_else_check (values_check rs) closings_on

  pub contents_is : first (grounds_of extent names many ns rs) ≡ or_else_check (nodes_check many ns) values_on
  unfolding grounds_of leaves_grounds events_grounds nodes_check values_check closings_check
  contents_is =
      orders_append (nodes_order many ns) (values_order rs ++ (closing_order extent ns rs ++ names_order names ns rs))
      ∙ ap (or_else_check (nodes_check many ns)) (orders_append (values_order rs) (closing_order extent ns rs ++ names_order names ns rs)
      ∙ ap (or_else_check (values_check rs)) (orders_append (closing_order extent ns rs) (names_order names ns rs)
      ∙ ap (or_else_check (closings_check extent ns rs)) (first_append (leaves_grounds names ns) (events_grounds names rs))))

  pub nodes_refused : {c : Result ⊤ Refusal} {r : Refusal} → c ≡ nodes_check many ns → c ≡ Err r → c ≡ first (grounds_of extent names many ns rs)
  nodes_refused e h = e ∙ or_else_refused values_on (sym e ∙ h) ∙ sym contents_is

  module _ (a : nodes_check many ns ≡ Ok tt) where
    pub values_refused : {c : Result ⊤ Refusal} {r : Refusal} → c ≡ values_check rs → c ≡ Err r → c ≡ first (grounds_of extent names many ns rs)
    values_refused e h = e ∙ or_else_refused closings_on (sym e ∙ h) ∙ or_else_fine values_on a ∙ sym contents_is

    module _ (b : values_check rs ≡ Ok tt) where
      pub closings_refused : {c : Result ⊤ Refusal} {r : Refusal} → c ≡ closings_check extent ns rs → c ≡ Err r → c ≡ first (grounds_of extent names many ns rs)
      closings_refused e h = e ∙ or_else_refused leaves_on (sym e ∙ h) ∙ or_else_fine closings_on b ∙ or_else_fine values_on a ∙ sym contents_is

      module _ (c : closings_check extent ns rs ≡ Ok tt) where
        leaves_last : leaves_on ≡ first (grounds_of extent names many ns rs)
        leaves_last = or_else_fine leaves_on c ∙ or_else_fine closings_on b ∙ or_else_fine values_on a ∙ sym contents_is

        pub leaves_refused : {x : Result ⊤ Refusal} {r : Refusal} → x ≡ first (leaves_grounds names ns) → x ≡ Err r → x ≡ first (grounds_of extent names many ns rs)
        leaves_refused e h = e ∙ or_else_refused (first (events_grounds names rs)) (sym e ∙ h) ∙ leaves_last

        pub events_last : {x : Result ⊤ Refusal} → first (leaves_grounds names ns) ≡ Ok tt → x ≡ first (events_grounds names rs) → x ≡ first (grounds_of extent names many ns rs)
        events_last d e = e ∙ or_else_fine (first (events_grounds names rs)) d ∙ leaves_last

---- Nothing is refused ----

-- what holds of each place where one ground is looked at, and none holds
none_single : (number place : ℕ) (b : Bool) → None (ground_of number place b ∷ []) → b ≡ false
none_single number place b (more t n) = is_false b t

-- the parts of the check, all passed
pub record ContentsPassed (extent : Extent) (names many : ℕ) (ns rs : List ℕ) : Type 0 where
  pub nodes : nodes_check many ns ≡ Ok tt
  pub values : values_check rs ≡ Ok tt
  pub closings : closings_check extent ns rs ≡ Ok tt
  pub leaves : (i : ℕ) → i < count ns → unnamed_leaf names ns i ≡ false
  pub events : (i : ℕ) → i < length rs → unnamed_event names (get_or rs i 0) ≡ false

pub contents_passed : (extent : Extent) (names many : ℕ) (ns rs : List ℕ) → first (grounds_of extent names many ns rs) ≡ Ok tt → ContentsPassed extent names many ns rs
unfolding leaves_grounds events_grounds
contents_passed extent names many ns rs e =
    let a = both_fine (nodes_check many ns) (values_on extent names many ns rs) (sym (contents_is extent names many ns rs) ∙ e) in
    let b = both_fine (values_check rs) (closings_on extent names many ns rs) a.1 in
    let c = both_fine (closings_check extent ns rs) (leaves_on extent names many ns rs) b.1 in
    let d = both_fine (first (leaves_grounds names ns)) (first (events_grounds names rs)) c.1 in
    record {
      nodes = a.0;
      values = b.0;
      closings = c.0;
      leaves = λ i h. none_single 19 i (unnamed_leaf names ns i) (none_each (leaf_grounds names ns) 0 (count ns) i ((fine_exactly (leaves_grounds names ns)).0 d.0) (omega arith) (omega arith));
      events = λ i h. none_single 20 i (unnamed_event names (get_or rs i 0)) (none_each (event_grounds names rs) 0 (length rs) i ((fine_exactly (events_grounds names rs)).0 d.1) (omega arith) (omega arith));
    }

-- the event of a leaf that is not refused, by 5 or by 19, is the number of an entry
pub leaf_named : (names : ℕ) (ns : List ℕ) → FineTable ns → (i e : ℕ) → i < count ns → node ns i ≡ Event e → unnamed_leaf names ns i ≡ false → (1 ≤ e) × (e ≤ names)
unfolding unnamed_leaf
leaf_named names ns fine i e w n u =
    let free = ltb-false names (one_of ns i) (then_false (form (node ns i)).event _ u (event_leaf ns i n)) in
    ((event_within ns i n (fine.node i w)).0, omega (arith, free, event_first ns i n))
