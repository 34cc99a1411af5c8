-- 02, Four, for callers who lend no sets: they get what they got, but that 22 stands where 4 stood for the kinds with a set. 23 does not
-- hold (`none_lent`); 22 holds exactly of those kinds (`no_set_known`) and of no other (`other_kinds`); a table that passes has none of
-- them (`passed_has_none`); so what each entry point refuses is what the orders of before refuse, with their sixteen kinds
-- (`judge_as_before`, `next_as_before`, `named_judge_as_before`, `named_next_as_before`, `write_as_before`, `judge_the_same`), the writer
-- writes the bytes of before (`bytes_as_before`), and the nodes draw the flow of before (`flow_as_before`), in which no event is joint
-- (`no_joint`, `no_joint_named`). Assumes nothing.
use Prim.Native.Nat.{ℕ, zero, suc, ◌-◌, ◌%◌, ◌<◌, ◌≤◌}
use Rattle.std.specs.Prelude.{◌≡◌, Bool, not, ◌&&◌, ◌⊎◌, ◌↔◌, eqb, leb, ltb, length, Result, Ok, Err, ⊤}
use Rattle.std.proofs.Math.Path.{refl, sym, ap, ap₂, subst}
use Rattle.std.proofs.Common.{◌∙◌, inl, inr, arith, pow_pos, ne_eqb, lt-ltb}
use Rattle.std.proofs.Math.Bool.{true, false, ◌||◌, cond, and-false}
use mathlib.Core.List.{List, [], ◌∷◌, ◌++◌, append-nil}
use Rattle.std.proofs.Math.Nat.{div-eq_of_lt}
use Rattle.std.proofs.Math.Dec.{T}
use Rattle.calculus.specs.Term.{Leaf, leaf, Joint, none}
use Rattle.calculus.proofs.Members.{or_in_left, or_in_right}
use Rattle.calculus.specs.Leaves.{Empty, AnyLeaf, FreeState}
use Rattle.flow.specs.declared.Refusal.{Refusal}
use Rattle.flow.specs.declared.Node.{Node}
use Rattle.flow.specs.declared.Extent.{Extent}
use Rattle.flow.specs.declared.Extent.TheVariants.{Whole, Beginning}
use Rattle.flow.specs.Tests.{is_true, is_false}
use Rattle.flow.specs.Records.{is_event_number}
use Rattle.flow.specs.Kinds.{form, node_of, one_of, two_of, kind_in, most_sets, set_number, set_of}
use Rattle.flow.specs.Legends.{in_set, set_count}
use Rattle.flow.specs.EachKind.{each_kind, unknown}
use Rattle.flow.specs.Refusals.{count, unknown_kind, no_such_set, wrong_sets, Ground, ground_of, Round, lone, node_grounds, child_grounds, sets_order, table_length_order, table_order, nodes_order, values_order, closing_order, records_length_order, records_order}
use Rattle.flow.specs.Checks.{or_else_check, answer, first, each, grounds, table_check, nodes_check}
use Rattle.flow.specs.FirstRefusal.{None, more, fine_exactly, none_append, none_each, first_passed, first_append, orders_append}
use Rattle.flow.specs.FineTable.{FineTable}
use Rattle.flow.specs.Drawn.{flow_by, flow_of}
use Rattle.flow.specs.DrawnLeaves.{flow_each}
use Rattle.format.specs.Format.{Entry, numbers_section, sets_section}
use Rattle.format.specs.Plan.{Ran, got, bad}
use Rattle.format.specs.Matching.{named}
use Rattle.format.specs.Contents.{names_order, lists_order}
use Rattle.format.specs.ListChecks.{section_alone, entries_in, by_entries, named_check}
use Rattle.format.specs.ItemLaws.{le_or_lt}
use Rattle.judge.specs.Judged.{room_order, named_judge_order, judge_check, named_judge_check, named_flow}
use Rattle.ahead.specs.Told.{next_room_order, named_next_order}
use Rattle.ahead.specs.Outcome.{next_check, named_next_check}
use Rattle.writer.specs.Writing.{lists_bytes, order_by_bytes, write_check}
use Rattle.promises.specs.Plain.{kind_of, HasSet, standard_form, compensable_form}
use Rattle.promises.specs.MeetingStated.{SetKind, none_of_sixteen, other_grounds, sixteen_grounds, sixteen_nodes, sixteen_order, sixteen_lists, AsBefore, the_same, set_kind}
use Rattle.promises.specs.PlainRows.{of_range, no_such_set_means}

---- The two refusals ----

-- 23 does not hold
pub none_lent : wrong_sets [] ≡ false
unfolding wrong_sets
none_lent = refl

module _ (ns : List ℕ) (i : ℕ) where
  -- 22 holds exactly of a kind with a set
  pub no_set_known : T (no_such_set ns i (set_count [])) ↔ SetKind (kind_of ns i)
  no_set_known = (λ t. to ((no_such_set_means ns i 0).0 t).1, λ k. (no_such_set_means ns i 0).1 (of k))
    where
      to : {k : ℕ} → HasSet (kind_of ns i) k → SetKind (kind_of ns i)
      to (standard_form e l) = inl (omega arith, omega arith)
      to (compensable_form e l) = inr (omega arith, omega arith)

      of : SetKind (kind_of ns i) → (k : ℕ) × HasSet (kind_of ns i) k × (0 ≤ k)
      of (inl h) = (kind_of ns i - 256, standard_form (omega (arith, h.0)) (omega (arith, h.0, h.1)), omega arith)
      of (inr h) = (kind_of ns i - 512, compensable_form (omega (arith, h.0)) (omega (arith, h.0, h.1)), omega arith)

  -- and of no other
  pub other_kinds : (SetKind (kind_of ns i) → ⊥) → no_such_set ns i (set_count []) ≡ false
  other_kinds n = by (no_such_set ns i (set_count [])) refl
    where
      by : (b : Bool) → no_such_set ns i (set_count []) ≡ b → b ≡ false
      by true e = absurd (n (no_set_known.0 (subst T (sym e) tt)))
      by false e = refl

-- a table that passes has no such kind
pub passed_has_none : (ns : List ℕ) → table_check [] ns ≡ Ok tt → (i : ℕ) → i < count ns → SetKind (kind_of ns i) → ⊥
unfolding table_check node_grounds
passed_has_none ns e i h k = by ((fine_exactly (grounds (table_order [] ns))).0 e)
  where
    at : None (node_grounds 0 ns i) → ⊥
    at (more _ (more t _)) = subst T (is_false (no_such_set ns i 0) t) ((no_set_known ns i).1 k)

    by : None (grounds (table_order [] ns)) → ⊥
    by (more _ (more _ (more _ (more _ n)))) =
        let nodes = (none_append (each (node_grounds 0 ns) 0 (count ns)) (each (child_grounds ns) 0 (count ns - 1)) n).0 in
        at (none_each (node_grounds 0 ns) 0 (count ns) i nodes (omega arith) (omega arith))

---- As before ----

module _ (ns : List ℕ) where
  behind_before : {c d : Result ⊤ Refusal} (a : Result ⊤ Refusal) → AsBefore ns c d → AsBefore ns (or_else_check a c) (or_else_check a d)
  unfolding or_else_check
  behind_before (Ok tt) y = y
  behind_before (Err r) y = the_same

  both_before : {a b c d : Result ⊤ Refusal} → AsBefore ns a b → AsBefore ns c d → AsBefore ns (or_else_check a c) (or_else_check b d)
  unfolding or_else_check
  both_before (the_same {c}) y = behind_before c y
  both_before (set_kind k) y = set_kind k

  -- a number that is none of the sixteen kinds has no known kind, or one with a set
  module _ (i : ℕ) where
    abbrev set_missing : Bool
    set_missing = no_such_set ns i (set_count [])

    abbrev either : Node → Bool
    either m = not (form m).known || (ltb (set_number m) most_sets && leb 0 (set_number m))

    sixteen : (n : ℕ) → n ≤ 16 → none_of_sixteen n ≡ either (node_of n (one_of ns i) (two_of ns i))
    sixteen =
        each_kind (λ n. n ≤ 16 → none_of_sixteen n ≡ either (node_of n (one_of ns i) (two_of ns i)))
        same same same same same same same same same same same same same same same same same (λ n l h. absurd (omega arith))
      where
        same : {b : Bool} {n : ℕ} → n ≤ 16 → b ≡ b
        same h = refl

    other_numbers : 17 ≤ kind_of ns i → T (unknown_kind ns i || set_missing)
    unfolding unknown_kind
    other_numbers l = by (kind_in 256 n) refl (kind_in 512 n) refl
      where
        n : ℕ
        n = kind_of ns i

        set_there : SetKind n → T (unknown_kind ns i || set_missing)
        set_there k = or_in_right (unknown_kind ns i) set_missing ((no_set_known ns i).1 k)

        by : (a : Bool) → kind_in 256 n ≡ a → (b : Bool) → kind_in 512 n ≡ b → T (unknown_kind ns i || set_missing)
        by true e b d = let w = of_range 256 n e in set_there (inl (w.0, omega (arith, w.1)))
        by false e true d = let w = of_range 512 n d in set_there (inr (w.0, omega (arith, w.1)))
        by false e false d =
            or_in_left (unknown_kind ns i) set_missing
            (subst (λ (m : Node). T (not (form m).known)) (sym (unknown n (one_of ns i) (two_of ns i) l e d)) tt)

    four_was : none_of_sixteen (kind_of ns i) ≡ (unknown_kind ns i || set_missing)
    unfolding unknown_kind no_such_set
    four_was = by (le_or_lt (kind_of ns i) 16)
      where
        by : (kind_of ns i ≤ 16) ⊎ (16 < kind_of ns i) → none_of_sixteen (kind_of ns i) ≡ (unknown_kind ns i || set_missing)
        by (inl h) = sixteen (kind_of ns i) h
        by (inr h) =
            ap₂ ◌||◌ (ne_eqb (kind_of ns i) 0 (λ e. omega arith)) (lt-ltb 16 (kind_of ns i) h)
            ∙ sym (is_true (unknown_kind ns i || set_missing) (other_numbers h))

    at_node : AsBefore ns (first (sixteen_grounds ns i)) (first (node_grounds (set_count []) ns i))
    unfolding node_grounds first answer or_else_check
    at_node = by (none_of_sixteen (kind_of ns i)) (unknown_kind ns i) set_missing four_was (no_set_known ns i).0 (other_grounds ns i)
      where
        by : (f u s : Bool) → f ≡ (u || s) → (T s → SetKind (kind_of ns i)) → (rest : List Ground)
            → AsBefore ns (first (ground_of 4 i f ∷ rest)) (first (ground_of 4 i u ∷ ground_of 22 i s ∷ rest))
        by true true s e k rest = the_same
        by false true s e k rest = absurd (subst T (sym e) tt)
        by true false true e k rest = set_kind (k tt)
        by false false true e k rest = absurd (subst T (sym e) tt)
        by true false false e k rest = absurd (subst T e tt)
        by false false false e k rest = the_same

  each_before : (i n : ℕ) → AsBefore ns (first (each (sixteen_grounds ns) i n)) (first (each (node_grounds (set_count []) ns) i n))
  unfolding each
  each_before i zero = the_same
  each_before i (suc n) =
      subst (λ (c : Result ⊤ Refusal). AsBefore ns c (first (each (node_grounds (set_count []) ns) i (suc n)))) (sym (first_append (sixteen_grounds ns i) _))
      (subst (AsBefore ns _) (sym (first_append (node_grounds (set_count []) ns i) _)) (both_before (at_node i) (each_before (suc i) n)))

  -- 4 to 9, which whoever is lent nodes refuses
  pub nodes_as_before : AsBefore ns (first (grounds (sixteen_nodes ns))) (nodes_check (set_count []) ns)
  unfolding nodes_check
  nodes_as_before =
      subst (λ (c : Result ⊤ Refusal). AsBefore ns c (first (grounds (nodes_order (set_count []) ns)))) (sym (first_append (each (sixteen_grounds ns) 0 (count ns)) _))
      (subst (AsBefore ns _) (sym (first_append (each (node_grounds (set_count []) ns) 0 (count ns)) _)) (both_before (each_before 0 (count ns)) the_same))

module _ (ns : List ℕ) where
  -- 23 and the nodes' rounds, between any others
  order_as_before : (before after : List Round)
      → AsBefore ns (first (grounds (before ++ (sixteen_nodes ns ++ after)))) (first (grounds (before ++ (sets_order [] ++ (nodes_order (set_count []) ns ++ after)))))
  unfolding nodes_check
  order_as_before before after =
      let nodes = nodes_order (set_count []) ns in
      let was = orders_append before (sixteen_nodes ns ++ after) ∙ ap (or_else_check (first (grounds before))) (orders_append (sixteen_nodes ns) after) in
      let is =
      orders_append before (sets_order [] ++ (nodes ++ after))
      ∙ ap (or_else_check (first (grounds before))) (first_passed (ground_of 23 0 (wrong_sets [])) (grounds (nodes ++ after)) none_lent ∙ orders_append nodes after) in
      rw (was, is) (behind_before ns (first (grounds before)) (both_before ns (nodes_as_before ns) the_same))

  -- all that `judge` refuses, and all that `next` does
  pub judge_as_before : (rs : List ℕ) (room : ℕ) → AsBefore ns (first (grounds (sixteen_order Whole ns rs (room_order ns rs room)))) (judge_check [] ns rs room)
  unfolding judge_check
  judge_as_before rs room = order_as_before (table_length_order ns) (records_order Whole ns rs ++ room_order ns rs room)

  pub next_as_before : (rs : List ℕ) (numbers room : ℕ)
      → AsBefore ns (first (grounds (sixteen_order Beginning ns rs (next_room_order ns rs numbers room)))) (next_check [] ns rs numbers room)
  unfolding next_check
  next_as_before rs numbers room = order_as_before (table_length_order ns) (records_order Beginning ns rs ++ next_room_order ns rs numbers room)

  -- and whatever is lent with a names section
  lists_as_before : (extent : Extent) (names : ℕ) (rs : List ℕ) (behind : List Round)
      → AsBefore ns (first (grounds (sixteen_lists extent names ns rs behind))) (first (grounds (lists_order extent names [] ns rs ++ behind)))
  lists_as_before Whole names rs behind =
      order_as_before (table_length_order ns ++ records_length_order Whole rs) (values_order rs ++ (closing_order Whole ns rs ++ (names_order names ns rs ++ behind)))
  lists_as_before Beginning names rs behind =
      order_as_before (table_length_order ns ++ records_length_order Beginning rs) (values_order rs ++ (closing_order Beginning ns rs ++ (names_order names ns rs ++ behind)))

  named_as_before : (s : List ℕ) (was is : List Entry → List Round) → ((es : List Entry) → AsBefore ns (first (grounds (was es))) (first (grounds (is es))))
      → AsBefore ns (named_check s was) (named_check s is)
  unfolding named_check by_entries
  named_as_before s was is each = by (section_alone s)
    where
      by : (x : Ran (List Entry)) → AsBefore ns (by_entries was x) (by_entries is x)
      by (got es at) = each es
      by (bad n p) = the_same

  module _ (s rs : List ℕ) where
    pub named_judge_as_before : (room : ℕ)
        → AsBefore ns (named_check s (λ es. sixteen_lists Whole (length es) ns rs (room_order ns rs room))) (named_judge_check s [] ns rs room)
    unfolding named_judge_check
    named_judge_as_before room =
        named_as_before s (λ es. sixteen_lists Whole (length es) ns rs (room_order ns rs room)) (named_judge_order [] ns rs room)
        (λ es. lists_as_before Whole (length es) rs (room_order ns rs room))

    pub named_next_as_before : (numbers room : ℕ)
        → AsBefore ns (named_check s (λ es. sixteen_lists Beginning (length es) ns rs (next_room_order ns rs numbers room))) (named_next_check s [] ns rs numbers room)
    unfolding named_next_check
    named_next_as_before numbers room =
        named_as_before s (λ es. sixteen_lists Beginning (length es) ns rs (next_room_order ns rs numbers room)) (named_next_order [] ns rs numbers room)
        (λ es. lists_as_before Beginning (length es) rs (next_room_order ns rs numbers room))

    -- the writer, by the bytes of the three lists
    pub write_as_before : (room : ℕ)
        → AsBefore ns (named_check s (λ es. sixteen_lists Whole (length es) ns rs (lone (ground_of 14 0 (ltb room (length (lists_bytes s ns rs [])))) ∷ []))) (write_check s ns rs [] room)
    unfolding write_check
    write_as_before room =
        let short = lone (ground_of 14 0 (ltb room (length (lists_bytes s ns rs [])))) ∷ [] in
        named_as_before s (λ es. sixteen_lists Whole (length es) ns rs short) (order_by_bytes s ns rs [] room) (λ es. lists_as_before Whole (length es) rs short)

-- which are written as before
pub bytes_as_before : (s ns rs : List ℕ) → lists_bytes s ns rs [] ≡ s ++ (numbers_section 3 ns ++ numbers_section 1 rs)
unfolding lists_bytes sets_section
bytes_as_before s ns rs = ap (λ (last : List ℕ). s ++ (numbers_section 3 ns ++ last)) (append-nil (numbers_section 1 rs))

-- nothing has changed where no node has such a kind
pub judge_the_same : (ns rs : List ℕ) (room : ℕ) → ((i : ℕ) → SetKind (kind_of ns i) → ⊥) → judge_check [] ns rs room ≡ first (grounds (sixteen_order Whole ns rs (room_order ns rs room)))
judge_the_same ns rs room none = by (judge_as_before ns rs room)
  where
    by : {a b : Result ⊤ Refusal} → AsBefore ns a b → b ≡ a
    by the_same = refl
    by (set_kind {i} k) = absurd (none i k)

---- The flow ----

-- no set has an event
no_member : (k a : ℕ) → in_set [] k a ≡ false
unfolding in_set
no_member k a = ap (λ (x : ℕ). is_event_number a && eqb (x % 2) 1) (div-eq_of_lt (pow_pos ((a - 1) % 8))) ∙ and-false (is_event_number a)

-- so the nodes draw what they draw where there are no sets to look at
pub flow_as_before : (leaves : ℕ → Leaf) (ns : List ℕ) → flow_by (record { leaves = leaves; sets = in_set [] }) ns ≡ flow_by (record { leaves = leaves; sets = λ k. none }) ns
flow_as_before leaves ns = ap (λ (sets : ℕ → Joint). flow_by (record { leaves = leaves; sets = sets }) ns) (λ i k a. no_member k a i)

module _ (leaves : ℕ → Leaf) (ns : List ℕ) (fine : FineTable ns) where
  no_joint_by : FreeState (flow_by (record { leaves = leaves; sets = in_set [] }) ns)
  unfolding set_of
  no_joint_by = flow_each AnyLeaf Empty (record { leaves = leaves; sets = in_set [] }) ns fine (λ i e w n. tt) (λ k a. by k (ltb k most_sets) a)
    where
      by : (k : ℕ) (b : Bool) (a : ℕ) → cond b (in_set [] k) none a ≡ false
      by k true a = no_member k a
      by k false a = refl

-- no event is joint in the flow of a table that passes, without names and with them: what is said of flows without joint events is said
-- of these
pub no_joint : (ns : List ℕ) → FineTable ns → FreeState (flow_of [] ns)
no_joint ns fine = no_joint_by leaf ns fine

pub no_joint_named : (s ns : List ℕ) → FineTable ns → FreeState (named_flow s [] ns)
no_joint_named s ns fine = no_joint_by (named (entries_in s)) ns fine
