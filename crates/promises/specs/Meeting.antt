-- 02, Four, "Two lines that meet at the press": what it promises of `judge` and `judge_named` beside the demands. Flows free of joint events
-- are judged by the traces as they are printed (`accepted_printed`): the flows of tables without the new kinds are free of them
-- (`kinds_free`), and so is all that is judged without sets (`unset_printed`). Which events a set holds (`set_bits`), and that it is asked
-- for the record's event (`record_looked_up`). And exactly when 22 and 23 are given (`set_absent_exactly`,
-- `sets_wrong_exactly`). What is said of an answer of `judge` is said of `judge_named` too, with `named_` before the name. Assumes nothing.
use Rattle.std.specs.Prelude.{ℕ, ◌-◌, ◌<◌, ◌≡◌, Bool, false, not, ◌&&◌, cond, List, [], ◌∷◌, ◌++◌, ◌⊎◌, ◌↔◌, ◌≢◌, length, replicate, Result, ⊤}
use Rattle.std.proofs.Math.Path.{refl, ap, subst}
use Rattle.std.proofs.Common.{sym, inl, inr, ⊎_elim, arith, le-leb}
use Rattle.std.proofs.Math.Bool.{true, xor}
use Rattle.std.proofs.Math.Logic.Iff
use Rattle.std.proofs.Math.Dec.{T, ltb, leb}
use Rattle.calculus.specs.Term.{Joint, none, Std, Cmp}
use Rattle.calculus.specs.Records.{State}
use Rattle.calculus.proofs.Members.{and_in}
use Rattle.calculus.specs.Leaves.{Empty, Free, CFree, FreeState}
use Rattle.calculus.specs.Search as search
use Rattle.calculus.specs.Printed.{InPrinted}
use Rattle.calculus.proofs.PrintedTraces.{printed_in_traces}
use Rattle.flow.specs.declared.Refusal.{Refusal}
use Rattle.flow.specs.declared.Simple.{Simple}
use Rattle.flow.specs.declared.Simple.TheVariants.{Skip, Throw, Yield}
use Rattle.flow.specs.declared.Operator.{Operator}
use Rattle.flow.specs.declared.Operator.TheVariants.{Sequence, Choice, Parallel}
use Rattle.flow.specs.declared.Extent.TheVariants.{Whole}
use Rattle.flow.specs.declared.Node.{Node}
use Rattle.flow.specs.declared.Node.TheVariants.{Event, Basic, Standard, Handler, Block, Pair, Compensable, Paired, Unknown}
use Rattle.flow.specs.Trees.{descend}
use Rattle.flow.specs.Records.{record_of, records, is_event_number, is_closing_number}
use Rattle.flow.specs.Kinds.{two, node_of, form, node, most_sets, joint_kind, operator_set, set_number, set_of, basic, paired, standard, compensable}
use Rattle.flow.specs.Legends.{Legend, in_set, set_count}
use Rattle.flow.specs.Refusals.{Ground, ground_of, Round, lone, sweep, count, no_nodes, not_whole, too_many_nodes, unknown_kind, no_such_set, wrong_field, not_lower, is_child, taken, wrong_sort, child_taken, nobodys_child, wrong_sets, no_records, too_many_records, no_record, closings_wanted, closed, wrong_closings, closings_place, after_closings, node_grounds, child_grounds, value_grounds, table_length_order, sets_order, values_order, closing_order, records_length_order, records_order}
use Rattle.flow.specs.Checks.{refused, first, grounds, answer, or_else_check, each}
use Rattle.flow.specs.Earliest.{First, here, later, Earliest, is_lone, past_lone, in_sweep, past_sweep, Nowhere, end, not_lone, not_sweep}
use Rattle.flow.specs.Draws.{Draws, at_event, at_basic, at_standard, at_handler, at_block, at_pair, at_compensable, at_paired}
use Rattle.flow.specs.Drawn.{made, drawn, flow_by, flow_of}
use Rattle.flow.specs.FineTable.{FineTable, node_within}
use Rattle.flow.specs.OneFlow.{flow_drawn}
use Rattle.format.specs.Format.{Entry, number_bytes, name_bytes, entry_bytes, entries_bytes, names_section}
use Rattle.format.specs.Limits.{GoodNames}
use Rattle.format.specs.Plan.{◌>>=◌, run}
use Rattle.format.specs.Matching.{same_bytes, same_step, no_machine, matches}
use Rattle.format.specs.Sections.{byte, number, ranged, name, entry, same_entry, met, new_entry, entries, names}
use Rattle.format.specs.Contents.{unnamed_leaf, unnamed_event, names_order}
use Rattle.format.specs.ListChecks.{nothing_behind, section_alone, entries_of, entries_in, by_entries, named_check}
use Rattle.judge.specs.Judged.{VerdictWord, Told, told, verdict, refusal, room_of, too_short, room_order, named_judge_order, judge_check, named_judge_check, answer_of, unless_refused, judged_by, judged, judged_named, named_flow}
use Rattle.judge.specs.JudgedLaws.{judge_passed, named_passed}
use Rattle.promises.specs.ExactlyWhen.{earliest_exactly}
use Rattle.promises.specs.Plain.{kind_of, HasSet, SetNotThere}
use Rattle.promises.specs.MeetingStated.{SetsWrong, SetAbsent}
use Rattle.promises.specs.PlainRows.{no_such_set_means, wrong_sets_means}
use Rattle.promises.specs.Verdicts.{not_refused_fine, decided_told, refusal_told}
use Rattle.promises.specs.Demands.{refused_when}
use Rattle.promises.specs.ListRefusals.{earliest_after}
use Rattle.promises.specs.NamedDemands.{alone_is}
use Rattle.promises.specs.Unmet.{no_joint, no_joint_named}
use Rattle.promises.specs.NeverTen.{EachGiven, earliest_among}

---- The traces as they are printed ----
-- "Flows may now get stuck, so a trace of a second part is asked for only where the run enters it, and a compensation is kept as the set of
-- its traces, perhaps empty." A flow free of joint events does not get stuck; of it the traces are those of the figures.

module _ (c : Result ⊤ Refusal) (flow : State) (rs : List ℕ) (allowance : ℕ) where
  printed_by : ((told (judged_by c flow rs allowance)).word ≡ VerdictWord.refused → ⊥) → ((told (judged_by c flow rs allowance)).word ≡ VerdictWord.undecided → ⊥)
      → FreeState flow → ((told (judged_by c flow rs allowance)).word ≡ VerdictWord.accepted) ↔ InPrinted flow (records rs)
  printed_by judged_so decided_so free =
      Iff.trans ((decided_told c flow rs allowance judged_so).accepted_traces decided_so) (Iff.symm (printed_in_traces flow free (records rs)))

module _ (sets ns rs : List ℕ) (room allowance : ℕ) where
  pub accepted_printed : ((told (judged sets ns rs room allowance)).word ≡ VerdictWord.refused → ⊥) → ((told (judged sets ns rs room allowance)).word ≡ VerdictWord.undecided → ⊥)
      → FreeState (flow_of sets ns) → ((told (judged sets ns rs room allowance)).word ≡ VerdictWord.accepted) ↔ InPrinted (flow_of sets ns) (records rs)
  accepted_printed = printed_by (judge_check sets ns rs room) (flow_of sets ns) rs allowance

  pub named_accepted_printed : (s : List ℕ) → ((told (judged_named s sets ns rs room allowance)).word ≡ VerdictWord.refused → ⊥)
      → ((told (judged_named s sets ns rs room allowance)).word ≡ VerdictWord.undecided → ⊥)
      → FreeState (named_flow s sets ns) → ((told (judged_named s sets ns rs room allowance)).word ≡ VerdictWord.accepted) ↔ InPrinted (named_flow s sets ns) (records rs)
  named_accepted_printed s = printed_by (named_judge_check s sets ns rs room) (named_flow s sets ns) rs allowance

---- Flows without the new kinds ----

-- kinds 7 and 13 have the empty set, whatever sets are lent
pub kinds_7_13 : (sets : ℕ → Joint) (x y : ℕ)
    → (node_of 7 x y ≡ Standard (Parallel most_sets) (two x y)) × (node_of 13 x y ≡ Compensable (Parallel most_sets) (two x y)) × Empty (set_of sets most_sets)
unfolding set_of
kinds_7_13 sets x y = (refl, refl, λ a. refl)

module _ (legend : Legend) (ns : List ℕ) (fine : FineTable ns) (no_sets : (i k : ℕ) → i < count ns → HasSet (kind_of ns i) k → ⊥) where
  -- a node's set number then names none
  unset_number : (i k : ℕ) → i < count ns → set_number (node ns i) ≡ k → Empty (set_of legend.sets k)
  unfolding set_of no_such_set
  unset_number i k w e a = by (ltb k most_sets) refl
    where
      present : ltb k most_sets ≡ true → T (no_such_set ns i 0)
      present f = subst (λ (m : ℕ). T (ltb m most_sets && leb 0 m)) (sym e) (and_in (ltb k most_sets) (leb 0 k) (subst T (sym f) tt) (subst T (sym (le-leb 0 k (omega arith))) tt))

      by : (b : Bool) → ltb k most_sets ≡ b → cond b (legend.sets k) none a ≡ false
      by false f = refl
      by true f = let q = (no_such_set_means ns i 0).0 (present f) in absurd (no_sets i q.0 w q.1)

  within : (i : ℕ) → T (form (node ns i)).known → i < count ns
  within = node_within ns fine (λ (m : Node). T (form m).known) (λ t. t)

  basic_free : (b : Simple) → Free (basic b)
  basic_free Skip = tt
  basic_free Throw = tt
  basic_free Yield = tt

  paired_free : (b : Simple) → CFree (paired b)
  paired_free Skip = (tt, tt)
  paired_free Throw = (tt, tt)
  paired_free Yield = (tt, tt)

  standard_free : (i : ℕ) (o : Operator) (p q : Std) → i < count ns → set_number (node ns i) ≡ operator_set o → Free p → Free q → Free (standard legend.sets o p q)
  standard_free i Sequence p q w e h k = (h, k)
  standard_free i Choice p q w e h k = (h, k)
  standard_free i (Parallel s) p q w e h k = (unset_number i s w e, h, k)

  compensable_free : (i : ℕ) (o : Operator) (pp qq : Cmp) → i < count ns → set_number (node ns i) ≡ operator_set o → CFree pp → CFree qq
      → CFree (compensable legend.sets o pp qq)
  compensable_free i Sequence pp qq w e h k = (h, k)
  compensable_free i Choice pp qq w e h k = (h, k)
  compensable_free i (Parallel s) pp qq w e h k = (unset_number i s w e, h, k)

  drawn_free : {i : ℕ} {s : State} → Draws legend ns i s → FreeState s
  drawn_free (at_event n) = tt
  drawn_free (at_basic {b} n) = basic_free b
  drawn_free (at_standard {i} {o} {p} {q} n d d') =
      standard_free i o p q (within i (subst (λ (m : Node). T (form m).known) (sym n) tt)) (ap set_number n) (drawn_free d) (drawn_free d')
  drawn_free (at_handler n d d') = (drawn_free d, drawn_free d')
  drawn_free (at_block n d) = drawn_free d
  drawn_free (at_pair n d d') = (drawn_free d, drawn_free d')
  drawn_free (at_compensable {i} {o} {pp} {qq} n d d') =
      compensable_free i o pp qq (within i (subst (λ (m : Node). T (form m).known) (sym n) tt)) (ap set_number n) (drawn_free d) (drawn_free d')
  drawn_free (at_paired {b} n) = paired_free b

  -- the flow of a table in which no node has a kind of Four is free of joint events, whatever sets are lent
  pub kinds_free : FreeState (flow_by legend ns)
  kinds_free = drawn_free (flow_drawn legend ns fine)

---- Without sets ----
-- "A file may end after its records; then it has no sets." No event is joint then (Unmet), so what is judged is judged by the traces as they
-- are printed.

module _ (ns rs : List ℕ) (room allowance : ℕ) where
  pub unset_printed : ((told (judged [] ns rs room allowance)).word ≡ VerdictWord.refused → ⊥) → ((told (judged [] ns rs room allowance)).word ≡ VerdictWord.undecided → ⊥)
      → ((told (judged [] ns rs room allowance)).word ≡ VerdictWord.accepted) ↔ InPrinted (flow_of [] ns) (records rs)
  unset_printed judged_so decided_so =
      let passed = judge_passed [] ns rs room (not_refused_fine (judge_check [] ns rs room) (flow_of [] ns) rs allowance judged_so) in
      accepted_printed [] ns rs room allowance judged_so decided_so (no_joint ns passed.table)

  pub named_unset_printed : (s : List ℕ) → ((told (judged_named s [] ns rs room allowance)).word ≡ VerdictWord.refused → ⊥)
      → ((told (judged_named s [] ns rs room allowance)).word ≡ VerdictWord.undecided → ⊥)
      → ((told (judged_named s [] ns rs room allowance)).word ≡ VerdictWord.accepted) ↔ InPrinted (named_flow s [] ns) (records rs)
  named_unset_printed s judged_so decided_so =
      let passed = named_passed [] ns rs room s (not_refused_fine (named_judge_check s [] ns rs room) (named_flow s [] ns) rs allowance judged_so) in
      named_accepted_printed [] ns rs room allowance s judged_so decided_so (no_joint_named s ns passed.table)

---- The sets ----
-- "32 bytes each, event k at bit (k-1) mod 8 of byte (k-1)/8"

-- event 256 in set 0, event 1 in set 1
abbrev two_sets : List ℕ
two_sets = replicate 31 0 ++ (128 ∷ 1 ∷ replicate 31 0)

-- Rules out bits or bytes from the other end, events from 0, and numbers that are no event: 0 and 257 would meet a bit that is set.
pub set_bits : in_set two_sets 0 256 ∷ in_set two_sets 1 1 ∷ in_set two_sets 0 1 ∷ in_set two_sets 0 255 ∷ in_set two_sets 0 249 ∷ in_set two_sets 1 2 ∷ in_set two_sets 1 8
    ∷ in_set two_sets 0 257 ∷ in_set two_sets 1 0 ∷ []
    ≡ true ∷ true ∷ false ∷ false ∷ false ∷ false ∷ false ∷ false ∷ false ∷ []
unfolding in_set is_event_number
set_bits = refl

---- The record's event ----
-- "A node without a machine steps by the record's event, which is looked up in the set." Of whole flows SpelledFlows has it: the flow means
-- the one in which each leaf is the choice of the entries that it takes. Here a judge that looks up the node's event is ruled out.

-- entry 1 is (press; P1), entry 2 (press; no machine)
abbrev presses : List Entry
presses =
    record { step = 112 ∷ 114 ∷ 101 ∷ 115 ∷ 115 ∷ []; machine = 80 ∷ 49 ∷ [] }
    ∷ record { step = 112 ∷ 114 ∷ 101 ∷ 115 ∷ 115 ∷ []; machine = [] }
    ∷ []

-- two lines that press on any machine, with set 0
abbrev two_lines : List ℕ
two_lines = 1 ∷ 2 ∷ 0 ∷ 1 ∷ 2 ∷ 0 ∷ 256 ∷ 0 ∷ 1 ∷ []

-- the sets that hold event 1 alone, and event 2 alone
abbrev only_1 : List ℕ
only_1 = 1 ∷ replicate 31 0

abbrev only_2 : List ℕ
only_2 = 2 ∷ replicate 31 0

abbrev pressed : List ℕ → List ℕ → Told
pressed sets batch = told (judged_named (names_section presses) sets two_lines batch 24 1_000_000)

-- Where the record's event 1 is in the set, it is one step of both lines, though the nodes' event is not in it. Where the nodes' event 2 is in
-- the set, the record's event 1 is still a step of one line alone.
pub record_looked_up : pressed only_1 (1 ∷ 61441 ∷ []) ∷ pressed only_1 (1 ∷ 1 ∷ 61441 ∷ []) ∷ pressed only_2 (1 ∷ 61441 ∷ []) ∷ pressed only_2 (1 ∷ 1 ∷ 61441 ∷ []) ∷ []
    ≡ verdict VerdictWord.accepted 2 3 ∷ verdict VerdictWord.rejected 1 2 ∷ verdict VerdictWord.rejected 1 3 ∷ verdict VerdictWord.accepted 3 4 ∷ []
unfolding names_section entries_bytes entry_bytes name_bytes number_bytes run ◌>>=◌ byte number ranged name entry same_bytes same_step same_entry met new_entry entries names nothing_behind section_alone by_entries named_check unnamed_leaf unnamed_event is_event_number is_closing_number no_nodes not_whole too_many_nodes wrong_sets unknown_kind no_such_set wrong_field not_lower is_child taken wrong_sort child_taken nobodys_child no_records too_many_records no_record closings_wanted closed wrong_closings closings_place after_closings node_grounds child_grounds value_grounds first answer or_else_check each xor entries_of entries_in no_machine matches joint_kind set_of in_set told judged_by unless_refused answer_of named_judge_check too_short room_of search.judge flow_by drawn made descend record_of
record_looked_up = refl

---- 22 and 23 ----
-- "Refusals: 22, kind with a set number not present, right after 4; 23, .. lent sets of a length no multiple of 32 or above 512, place 0,
-- just before the nodes"

-- what is given of two orders is given of the first, or of the second where the first gives nothing
earliest_parts : {r : Refusal} (a b : List Round) → Earliest r (a ++ b) → Earliest r a ⊎ (Nowhere a × Earliest r b)
earliest_parts [] b x = inr (end, x)
earliest_parts (lone g ∷ a) b (is_lone e t) = inl (is_lone e t)
earliest_parts (lone g ∷ a) b (past_lone t x) = ⊎_elim (λ y. inl (past_lone t y)) (λ q. inr (not_lone t q.0, q.1)) (earliest_parts a b x)
earliest_parts (sweep n f ∷ a) b (in_sweep i l before x) = inl (in_sweep i l before x)
earliest_parts (sweep n f ∷ a) b (past_sweep t x) = ⊎_elim (λ y. inl (past_sweep t y)) (λ q. inr (not_sweep t q.0, q.1)) (earliest_parts a b x)

-- a number other than the one that is given
abbrev But : ℕ → ℕ → Type 0
But number n = n ≢ number

-- a number of one round alone is given exactly where nothing is given before and its ground holds
lone_exactly : (number place : ℕ) (test : Bool) (before after : List Round) → EachGiven (But number) before → EachGiven (But number) after → (at : ℕ)
    → Earliest (record { number = number; place = at }) (before ++ (lone (ground_of number place test) ∷ after)) ↔ ((at ≡ place) × Nowhere before × T test)
lone_exactly number place test before after out out' at = (λ x. there (earliest_parts before (lone (ground_of number place test) ∷ after) x), back)
  where
    r : Refusal
    r = record { number = number; place = at }

    then : Nowhere before → Earliest r (lone (ground_of number place test) ∷ after) → (at ≡ place) × Nowhere before × T test
    then n (is_lone e t) = (ap (λ (q : Refusal). q.place) e, n, t)
    then n (past_lone t x) = absurd (earliest_among (But number) x out' refl)

    there : Earliest r before ⊎ (Nowhere before × Earliest r (lone (ground_of number place test) ∷ after)) → (at ≡ place) × Nowhere before × T test
    there (inl x) = absurd (earliest_among (But number) x out refl)
    there (inr q) = then q.0 q.1

    back : (at ≡ place) × Nowhere before × T test → Earliest r (before ++ (lone (ground_of number place test) ∷ after))
    back q = earliest_after q.1 (is_lone (ap (λ (p : ℕ). record { number = number; place = p }) q.0) q.2)

module _ (sets ns : List ℕ) (before after : List Round) where
  sets_exactly : EachGiven (But 23) before → EachGiven (But 23) after → (place : ℕ)
      → Earliest (record { number = 23; place = place }) (before ++ (sets_order sets ++ after)) ↔ SetsWrong before sets place
  sets_exactly out out' place =
      let e = lone_exactly 23 0 (wrong_sets sets) before after out out' place in
      let m = wrong_sets_means sets in (
        λ x. let q = e.0 x in record { passed = q.1; at_start = q.0; wrong = m.0 q.2 },
        λ q. e.1 (q.at_start, q.passed, m.1 q.wrong),
      )

  absent_exactly : EachGiven (But 22) before → EachGiven (But 22) after → (place : ℕ)
      → Earliest (record { number = 22; place = place }) (before ++ (sweep (count ns) (node_grounds (set_count sets) ns) ∷ after)) ↔ SetAbsent before sets ns place
  unfolding node_grounds unknown_kind no_such_set
  absent_exactly out out' place = (λ x. there (earliest_parts before (sweep (count ns) at ∷ after) x), back)
    where
      r : Refusal
      r = record { number = 22; place = place }

      at : ℕ → List Ground
      at = node_grounds (set_count sets) ns

      other : {number i : ℕ} {A : Type 0} → r ≡ record { number = number; place = i } → 22 ≢ number → A
      other e n = absurd (n (ap (λ (q : Refusal). q.number) e))

      here_so : (i : ℕ) → First r (at i) → (place ≡ i) × T (no_such_set ns i (set_count sets))
      here_so i (here e t) = other e (omega arith)
      here_so i (later a (here e t)) = (ap (λ (q : Refusal). q.place) e, t)
      here_so i (later a (later b (here e t))) = other e (omega arith)
      here_so i (later a (later b (later c (here e t)))) = other e (omega arith)
      here_so i (later a (later b (later c (later d (here e t))))) = other e (omega arith)
      here_so i (later a (later b (later c (later d (later f (here e t)))))) = other e (omega arith)
      here_so i (later a (later b (later c (later d (later f (later g x)))))) = elim x [ ]

      then : Nowhere before → Earliest r (sweep (count ns) at ∷ after) → SetAbsent before sets ns place
      then n (in_sweep i l lower x) =
          let q = here_so i x in
          let m = (no_such_set_means ns i (set_count sets)).0 q.1 in
          record {
            passed = n;
            within = omega (arith, q.0);
            lower = λ j h. lower j (omega (arith, q.0));
            absent = subst (λ (j : ℕ). SetNotThere ns j (set_count sets)) (sym q.0) m;
          }
      then n (past_sweep t x) = absurd (earliest_among (But 22) x out' refl)

      there : Earliest r before ⊎ (Nowhere before × Earliest r (sweep (count ns) at ∷ after)) → SetAbsent before sets ns place
      there (inl x) = absurd (earliest_among (But 22) x out refl)
      there (inr q) = then q.0 q.1

      -- a kind with a set number is known
      known : (n : Node) → T (ltb (set_number n) most_sets && leb (set_count sets) (set_number n)) → T (not (not (form n).known))
      known (Event e) t = tt
      known (Basic b) t = tt
      known (Standard o u) t = tt
      known (Handler u) t = tt
      known (Block c) t = tt
      known (Pair u) t = tt
      known (Compensable o u) t = tt
      known (Paired b) t = tt
      known Unknown t = t

      back : SetAbsent before sets ns place → Earliest r (before ++ (sweep (count ns) at ∷ after))
      back q =
          let t = (no_such_set_means ns place (set_count sets)).1 q.absent in
          earliest_after q.passed (in_sweep place q.within q.lower (later (known (node ns place) t) (here refl t)))

module _ (sets ns rs : List ℕ) (room allowance : ℕ) where
  abbrev behind_nodes : List Round
  behind_nodes = sweep (count ns - 1) (child_grounds ns) ∷ (records_order Whole ns rs ++ room_order ns rs room)

  -- of `judge`: 1 to 3 stand before
  pub sets_wrong_exactly : (place : ℕ) → (told (judged sets ns rs room allowance) ≡ refusal 23 place) ↔ SetsWrong (table_length_order ns) sets place
  unfolding node_grounds child_grounds value_grounds
  sets_wrong_exactly place =
      Iff.trans (refused_when sets ns rs room allowance 23 place)
      (sets_exactly sets ns (table_length_order ns) (sweep (count ns) (node_grounds (set_count sets) ns) ∷ behind_nodes) (omega arith) (omega arith) place)

  -- and for 22 also 23
  pub set_absent_exactly : (place : ℕ) → (told (judged sets ns rs room allowance) ≡ refusal 22 place) ↔ SetAbsent (table_length_order ns ++ sets_order sets) sets ns place
  unfolding node_grounds child_grounds value_grounds
  set_absent_exactly place =
      Iff.trans (refused_when sets ns rs room allowance 22 place)
      (absent_exactly sets ns (table_length_order ns ++ sets_order sets) behind_nodes (omega arith) (omega arith) place)

-- of `judge_named`, where the names section is good: 10 and 11 stand before as well
module _ (es : List Entry) (good : GoodNames es) (sets ns rs : List ℕ) (room allowance : ℕ) where
  abbrev named_behind : List Round
  named_behind = sweep (count ns - 1) (child_grounds ns) ∷ ((values_order rs ++ (closing_order Whole ns rs ++ names_order (length es) ns rs)) ++ room_order ns rs room)

  by_order : (number place : ℕ)
      → (told (judged_named (names_section es) sets ns rs room allowance) ≡ refusal number place) ↔ Earliest (record { number = number; place = place }) (named_judge_order sets ns rs room es)
  unfolding named_judge_check named_check by_entries
  by_order number place =
      let check = named_judge_check (names_section es) sets ns rs room in
      let order = named_judge_order sets ns rs room es in
      let e : check ≡ first (grounds order) = ap (by_entries (named_judge_order sets ns rs room)) (alone_is es good) in
      Iff.trans (refusal_told check (named_flow (names_section es) sets ns) rs allowance number place)
      (subst (λ (c : Result ⊤ Refusal). (c ≡ refused number place) ↔ Earliest (record { number = number; place = place }) order) (sym e)
      (earliest_exactly order (record { number = number; place = place })))

  pub named_sets_wrong_exactly : (place : ℕ)
      → (told (judged_named (names_section es) sets ns rs room allowance) ≡ refusal 23 place) ↔ SetsWrong (table_length_order ns ++ records_length_order Whole rs) sets place
  unfolding node_grounds child_grounds value_grounds
  named_sets_wrong_exactly place =
      Iff.trans (by_order 23 place)
      (sets_exactly sets ns (table_length_order ns ++ records_length_order Whole rs) (sweep (count ns) (node_grounds (set_count sets) ns) ∷ named_behind) (omega arith) (omega arith) place)

  pub named_set_absent_exactly : (place : ℕ)
      → (told (judged_named (names_section es) sets ns rs room allowance) ≡ refusal 22 place)
      ↔ SetAbsent (table_length_order ns ++ (records_length_order Whole rs ++ sets_order sets)) sets ns place
  unfolding node_grounds child_grounds value_grounds
  named_set_absent_exactly place =
      Iff.trans (by_order 22 place)
      (absent_exactly sets ns (table_length_order ns ++ (records_length_order Whole rs ++ sets_order sets)) named_behind (omega arith) (omega arith) place)
