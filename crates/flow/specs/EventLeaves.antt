-- The event of an event leaf is the node's first number, and in a table that is not refused it is 1 to 256. Assumes nothing.
use Rattle.std.specs.Prelude.{ℕ, ◌*◌, ◌≤◌, ◌≡◌, refl, List, leb, get_or}
use Rattle.std.proofs.Common.{sym}
use Rattle.std.proofs.Math.Path.{subst}
use Rattle.std.proofs.Math.Bool.{false, not}
use Rattle.std.proofs.Math.Dec.{T, leb→le}
use Rattle.std.proofs.lemmas.Bool.{not-false}
use Rattle.calculus.proofs.Members.{and_left, and_right}
use Rattle.flow.specs.declared.Node.{Node}
use Rattle.flow.specs.declared.Node.TheVariants.{Event, Basic, Standard, Handler, Block, Pair, Compensable, Paired, Unknown}
use Rattle.flow.specs.Kinds.{node_of, form, node, one_of, two_of}
use Rattle.flow.specs.Records.{most_events, is_event_number}
use Rattle.flow.specs.Refusals.{wrong_field}
use Rattle.flow.specs.EachKind.{beyond_by, each_kind}
use Rattle.flow.specs.Fine.{FineNode}
use Rattle.flow.specs.Tests.{neither_one, then_false}

-- an event, of an event leaf
abbrev HasEvent : Node → ℕ → Type 0
HasEvent (Event e) a = e ≡ a
HasEvent (Basic b) a = ⊥
HasEvent (Standard o t) a = ⊥
HasEvent (Handler t) a = ⊥
HasEvent (Block c) a = ⊥
HasEvent (Pair t) a = ⊥
HasEvent (Compensable o t) a = ⊥
HasEvent (Paired b) a = ⊥
HasEvent Unknown a = ⊥

module _ (x y : ℕ) where
  abbrev CarriesEvent : ℕ → Type 0
  CarriesEvent k = (a : ℕ) → HasEvent (node_of k x y) a → a ≡ x

  carries_event : (k : ℕ) → CarriesEvent k
  carries_event =
      let no : (a : ℕ) → ⊥ → a ≡ x = λ a h. absurd h in
      each_kind CarriesEvent no (λ a h. sym h) no no no no no no no no no no no no no no no (λ k l. beyond_by (λ n. (a : ℕ) → HasEvent n a → a ≡ x) k x y l (λ s. no) (λ s. no) no)

module _ (ns : List ℕ) (i : ℕ) {e : ℕ} (is : node ns i ≡ Event e) where
  pub event_first : e ≡ one_of ns i
  event_first = carries_event (one_of ns i) (two_of ns i) (get_or ns (3 * i) 0) e (subst (λ n. HasEvent n e) (sym is) refl)

  pub event_leaf : T (form (node ns i)).event
  event_leaf = subst (λ (n : Node). T (form n).event) (sym is) tt

  -- 5
  pub event_within : FineNode ns i → (1 ≤ e) × (e ≤ most_events)
  unfolding wrong_field is_event_number
  event_within fine =
      let named : not (is_event_number (one_of ns i)) ≡ false
      = then_false (form (node ns i)).event (not (is_event_number (one_of ns i))) (neither_one _ _ fine.fields) event_leaf in
      let held : T (is_event_number (one_of ns i)) = subst T (sym (not-false (is_event_number (one_of ns i)) named)) tt in
      let within : (1 ≤ one_of ns i) × (one_of ns i ≤ most_events)
      = (leb→le 1 (one_of ns i) (and_left (leb 1 (one_of ns i)) (leb (one_of ns i) most_events) held), leb→le (one_of ns i) most_events (and_right (leb 1 (one_of ns i)) (leb (one_of ns i) most_events) held)) in
      subst (λ (n : ℕ). (1 ≤ n) × (n ≤ most_events)) (sym event_first) within
