-- 02, Two, "A step without a machine": what a node takes (`matches_exactly` and the sentences that follow from it), that a node without
-- a machine means the choice of the entries that it takes and is one step (`named_leaf_traces`, `named_leaf_runs`, `named_leaf_once`),
-- and that names which all have a machine change no verdict (`plain_names_judge`, `plain_names_judged`). Assumes nothing.
use Prim.Native.Nat.{ℕ, zero, suc, ◌<◌, ◌≤◌}
use Rattle.std.specs.Prelude.{◌≡◌, refl, Bool, true, false, ◌&&◌, ◌||◌, ◌⊎◌, ◌↔◌, ◌≢◌, eqb, length, get_or, Ok}
use Rattle.std.proofs.Common.{sym, ap, ◌∙◌, eq-or-lt_of_le, eqb→eq, eq-eqb, ne_eqb}
use Rattle.std.proofs.Math.Path.{subst}
use Rattle.std.proofs.lemmas.Bool.{false≢true}
use mathlib.Core.List.Memᴰ
use mathlib.Core.List.{List, [], ◌∷◌, ◌++◌, map, Memᴰ}
use Rattle.std.proofs.Math.Logic.{inl, inr}
use native.Mathlib.Omega.{arith}
use Rattle.std.proofs.Math.Dec.{T, eqb_refl}
use Rattle.std.proofs.Math.ListN.{get_or-eq_default}
use Rattle.calculus.specs.Term.{Closing, ev}
use Rattle.calculus.specs.Rules.{Run}
use Rattle.calculus.specs.Traces.{Trace, Tr}
use Rattle.calculus.specs.Records.{Record, event, close}
use Rattle.calculus.specs.Successors.{only, steps}
use Rattle.calculus.proofs.Members.{or_in_left, or_in_right, or_cases, and_in, and_left, and_right, in_only, of_only}
use Rattle.calculus.specs.Choices.{choice_of}
use Rattle.calculus.proofs.LeafChoice.{leaf_traces, leaf_runs, leaf_once}
use Rattle.calculus.specs.Renames.{renamed, HeardIn, none, and_event, and_close}
use Rattle.calculus.proofs.Renamed.{judge_renamed}
use Rattle.calculus.specs.Search.{judge}
use Rattle.flow.specs.declared.Extent.TheVariants.{Whole}
use Rattle.flow.specs.Tests.{is_true}
use Rattle.flow.specs.Records.{records}
use Rattle.flow.specs.Checks.{table_check}
use Rattle.flow.specs.FirstRefusal.{or_else_fine}
use Rattle.flow.specs.Legends.{plain}
use Rattle.flow.specs.Drawn.{flow_by, flow_of}
use Rattle.flow.specs.CuedFlows.{flows_renamed}
use Rattle.flow.specs.FineTable.{FineTable}
use Rattle.format.specs.Format.{Entry}
use Rattle.format.specs.Limits.{GoodEntry, GoodEntries, no_entries, one_entry, GoodNames}
use Rattle.format.specs.Matching.{same_bytes, same_step, nobody, entry_of, no_machine, matches, named, with_names}
use Rattle.format.specs.ItemLaws.{le_or_lt}
use Rattle.format.specs.NameLaws.{same_refl, same_eq}
use Rattle.format.specs.ListChecks.{entries_in}
use Rattle.judge.specs.Judged.{judge_check, named_judge_check, answer_of, named_flow, judged, judged_named}
use Rattle.judge.specs.JudgedLaws.{Passed, fine_is, check_parts, room_passes, named_lists, named_passed}
use Rattle.promises.specs.Takers.{matched_to, matched}

---- Which records a node takes ----

empty : (xs : List ℕ) → T (eqb (length xs) 0) → xs ≡ []
empty [] t = refl
empty (x ∷ xs) t = let z : length (x ∷ xs) ≡ 0 = eqb→eq (length (x ∷ xs)) 0 t in absurd (omega arith)

module _ (es : List Entry) (n r : ℕ) where
  -- the node's entry has an empty machine name, and its step name is the record's
  abbrev AnyMachine : Type 0
  AnyMachine = ((entry_of es n).machine ≡ []) × ((entry_of es n).step ≡ (entry_of es r).step)

  abbrev bare : Bool
  bare = no_machine (entry_of es n)

  abbrev alike : Bool
  alike = same_step (entry_of es n).step (entry_of es r).step

  of_step : T (bare && alike) → AnyMachine
  unfolding no_machine same_step
  of_step t = (empty (entry_of es n).machine (and_left bare alike t), same_eq (entry_of es n).step (entry_of es r).step (is_true alike (and_right bare alike t)))

  to_step : AnyMachine → T (bare && alike)
  unfolding no_machine same_step
  to_step h =
      and_in bare alike (subst (λ (m : List ℕ). T (eqb (length m) 0)) (sym h.0) tt)
      (subst (λ (s : List ℕ). T (same_bytes (entry_of es n).step s)) h.1 (subst T (sym (same_refl (entry_of es n).step)) tt))

  -- a node takes a record exactly if the event is its own, or its entry has an empty machine name and the step names are equal
  pub matches_exactly : T (matches es n r) ↔ ((n ≡ r) ⊎ (((entry_of es n).machine ≡ []) × ((entry_of es n).step ≡ (entry_of es r).step)))
  unfolding matches
  matches_exactly = (λ t. to (or_cases (eqb r n) (bare && alike) t), of)
    where
      to : T (eqb r n) ⊎ T (bare && alike) → (n ≡ r) ⊎ AnyMachine
      to (inl t) = inl (sym (eqb→eq r n t))
      to (inr t) = inr (of_step t)

      of : (n ≡ r) ⊎ AnyMachine → T (eqb r n || (bare && alike))
      of (inl e) = or_in_left (eqb r n) (bare && alike) (subst (λ (k : ℕ). T (eqb r k)) (sym e) (eqb_refl r))
      of (inr h) = or_in_right (eqb r n) (bare && alike) (to_step h)

  -- "A node whose entry has an empty machine name matches a record of any entry with the same step name"
  pub any_machine : (entry_of es n).machine ≡ [] → (entry_of es n).step ≡ (entry_of es r).step → T (matches es n r)
  any_machine m s = matches_exactly.1 (inr (m, s))

  -- a node with a machine takes its own event alone
  pub machine_kept : (entry_of es n).machine ≢ [] → T (matches es n r) → n ≡ r
  machine_kept some t = by (matches_exactly.0 t)
    where
      by : (n ≡ r) ⊎ AnyMachine → n ≡ r
      by (inl e) = e
      by (inr h) = absurd (some h.0)

  -- "A record without a machine still matches only a node without one."
  pub record_without_machine : T (matches es n r) → (entry_of es r).machine ≡ [] → (entry_of es n).machine ≡ []
  record_without_machine t m = by (matches_exactly.0 t)
    where
      by : (n ≡ r) ⊎ AnyMachine → (entry_of es n).machine ≡ []
      by (inl e) = ap (λ (k : ℕ). (entry_of es k).machine) e ∙ m
      by (inr h) = h.0

-- "its own included", whatever its entry
pub own_taken : (es : List Entry) (n : ℕ) → T (matches es n n)
own_taken es n = (matches_exactly es n n).1 (inl refl)

-- The entries (press; P1) and (press; no machine): a node of the second takes both, a node of the first does not take the second.
abbrev presses : List Entry
presses = record { step = 112 ∷ 114 ∷ 101 ∷ 115 ∷ 115 ∷ []; machine = 80 ∷ 49 ∷ [] } ∷ record { step = 112 ∷ 114 ∷ 101 ∷ 115 ∷ 115 ∷ []; machine = [] } ∷ []

pub not_the_other_way : (matches presses 2 1 ≡ true) × (matches presses 2 2 ≡ true) × (matches presses 1 1 ≡ true) × (matches presses 1 2 ≡ false)
unfolding matches no_machine same_step same_bytes
not_the_other_way = (refl, refl, refl, refl)

---- A node without a machine means the choice of the entries that it takes ----

module _ (es : List Entry) (n : ℕ) where
  in_matched : (m a : ℕ) → 1 ≤ a → a ≤ m → T (matches es n a) → Memᴰ a (matched_to es n m)
  unfolding matched_to
  in_matched zero a l h t = absurd (omega arith)
  in_matched (suc m) a l h t = by (in_matched m a l) (eq-or-lt_of_le h)
    where
      by : (a ≤ m → T (matches es n a) → Memᴰ a (matched_to es n m)) → (a ≡ suc m) ⊎ (a < suc m)
          → Memᴰ a (matched_to es n m ++ only (matches es n (suc m)) (suc m ∷ []))
      by rec (inl e) = Memᴰ.append_right (matched_to es n m) (in_only (matches es n (suc m)) (subst (λ (k : ℕ). T (matches es n k)) e t) (Memᴰ.head e))
      by rec (inr k) = Memᴰ.append_left (only (matches es n (suc m)) (suc m ∷ [])) (rec (omega arith) t)

  of_matched : (m a : ℕ) → Memᴰ a (matched_to es n m) → (1 ≤ a) × (a ≤ m) × T (matches es n a)
  unfolding matched_to
  of_matched zero a x = absurd (Memᴰ.not-nil x)
  of_matched (suc m) a x = by (of_matched m a) (Memᴰ.append_cases (matched_to es n m) x)
    where
      by : (Memᴰ a (matched_to es n m) → (1 ≤ a) × (a ≤ m) × T (matches es n a))
          → Memᴰ a (matched_to es n m) ⊎ Memᴰ a (only (matches es n (suc m)) (suc m ∷ [])) → (1 ≤ a) × (a ≤ suc m) × T (matches es n a)
      by rec (inl y) = let h = rec y in (h.0, omega (arith, h.1), h.2)
      by rec (inr y) =
          let h = of_only (matches es n (suc m)) y in
          let e = Memᴰ.eq_of_singleton h.1 in
          (omega arith, omega arith, subst (λ (k : ℕ). T (matches es n k)) (sym e) h.0)

  -- the numbers listed are those of the entries that are taken
  pub matched_exactly : (a : ℕ) → Memᴰ a (matched es n) ↔ ((1 ≤ a) × (a ≤ length es) × T (matches es n a))
  matched_exactly a = (of_matched (length es) a, λ h. in_matched (length es) a h.0 h.1 h.2)

-- an entry among good ones is good
good_there : {earlier es : List Entry} → GoodEntries earlier es → (i : ℕ) → i < length es → GoodEntry (get_or es i nobody)
good_there no_entries i h = absurd (omega arith)
good_there (one_entry g _ _) zero h = g
good_there (one_entry _ _ gs) (suc i) h = good_there gs i (omega arith)

-- a number without an entry has no step name
no_entry : (es : List Entry) (a : ℕ) → (1 ≤ a → a ≤ length es → ⊥) → (entry_of es a).step ≡ []
no_entry es zero n = refl
no_entry es (suc i) n = by (le_or_lt (length es) i)
  where
    by : (length es ≤ i) ⊎ (i < length es) → (entry_of es (suc i)).step ≡ []
    by (inl h) = ap (λ (e : Entry). e.step) (get_or-eq_default es nobody h)
    by (inr h) = absurd (n (omega arith) (omega arith))

module _ (es : List Entry) (good : GoodNames es) (n : ℕ) (low : 1 ≤ n) (high : n ≤ length es) where
  step_named : (k : ℕ) → 1 ≤ k → k ≤ length es → 1 ≤ length (entry_of es k).step
  step_named zero l h = absurd (omega arith)
  step_named (suc i) l h = (good_there good.entries i (omega arith)).step_good.low

  -- a node's event takes its own record and those of the entries listed, and no other number at all
  takes_matched : (a : ℕ) → T ((named es n).takes a) ↔ Memᴰ a (n ∷ matched es n)
  takes_matched a = (λ t. to t ((matches_exactly es n a).0 t), of)
    where
      named_too : AnyMachine es n a → (1 ≤ a) × (a ≤ length es)
      named_too h = by (le_or_lt a 0) (le_or_lt a (length es))
        where
          not_named : (1 ≤ a → a ≤ length es → ⊥) → (1 ≤ a) × (a ≤ length es)
          not_named none_there = let e : length (entry_of es n).step ≡ 0 = ap length (h.1 ∙ no_entry es a none_there) in absurd (omega (arith, step_named n low high))

          by : (a ≤ 0) ⊎ (0 < a) → (a ≤ length es) ⊎ (length es < a) → (1 ≤ a) × (a ≤ length es)
          by (inl z) k = not_named (λ l _. omega arith)
          by (inr l) (inl k) = (omega arith, k)
          by (inr l) (inr k) = not_named (λ _ m. omega arith)

      to : T (matches es n a) → (n ≡ a) ⊎ AnyMachine es n a → Memᴰ a (n ∷ matched es n)
      to t (inl e) = Memᴰ.head (sym e)
      to t (inr h) = let k = named_too h in Memᴰ.tail ((matched_exactly es n a).1 (k.0, k.1, t))

      of : Memᴰ a (n ∷ matched es n) → T (matches es n a)
      of (Memᴰ.head e) = subst (λ (k : ℕ). T (matches es n k)) (sym e) (own_taken es n)
      of (Memᴰ.tail m) = ((matched_exactly es n a).0 m).2

  -- "Demand 2 reads such a node as the choice of all those entries"
  pub named_leaf_traces : (z : Trace) → Tr (ev (named es n)) z ↔ Tr (choice_of n (matched es n)) z
  named_leaf_traces = leaf_traces (named es n) n (matched es n) takes_matched

  pub named_leaf_runs : (s : List ℕ) (w : Closing) → Run (ev (named es n)) s w ↔ Run (choice_of n (matched es n)) s w
  named_leaf_runs = leaf_runs (named es n) n (matched es n) takes_matched

-- "counted as one step"
pub named_leaf_once : (es : List Entry) (n a : ℕ) → length (steps (ev (named es n)) a) ≤ 1
named_leaf_once es n a = leaf_once (named es n) a

---- Names that all have a machine ----

heard_all : (rs : List Record) → HeardIn (λ a. Unit {0}) rs
heard_all [] = none
heard_all (event a ∷ rs) = and_event tt (heard_all rs)
heard_all (close w ∷ rs) = and_close (heard_all rs)

renamed_same : (rs : List Record) → map (renamed (λ a. a)) rs ≡ rs
renamed_same [] = refl
renamed_same (event a ∷ rs) = ap (λ (x : List Record). event a ∷ x) (renamed_same rs)
renamed_same (close w ∷ rs) = ap (λ (x : List Record). close w ∷ x) (renamed_same rs)

-- what has no entry has a machine too (`nobody`)
machine_at : (ds : List Entry) → ((e : Entry) → Memᴰ e ds → e.machine ≢ []) → (i : ℕ) → (get_or ds i nobody).machine ≢ []
machine_at [] h i q = let z : length nobody.machine ≡ 0 = ap length q in omega arith
machine_at (d ∷ ds) h zero q = h d (Memᴰ.head refl) q
machine_at (d ∷ ds) h (suc i) q = machine_at ds (λ e m. h e (Memᴰ.tail m)) i q

module _ (es : List Entry) (machines : (e : Entry) → Memᴰ e es → e.machine ≢ []) where
  has_machine : (n : ℕ) → (entry_of es n).machine ≢ []
  has_machine zero q = let z : length nobody.machine ≡ 0 = ap length q in omega arith
  has_machine (suc i) q = machine_at es machines i q

  -- then a node takes its own event alone, as where no names are lent
  pub plain_names : (n r : ℕ) → matches es n r ≡ eqb r n
  plain_names n r = by (matches es n r) refl
    where
      by : (b : Bool) → matches es n r ≡ b → b ≡ eqb r n
      by true e = let d = machine_kept es n r (has_machine n) (subst T (sym e) tt) in sym (eq-eqb r n (sym d))
      by false e = sym (ne_eqb r n (λ d. false≢true (sym e ∙ is_true (matches es n r) ((matches_exactly es n r).1 (inl (sym d))))))

  -- and a flow is searched as without names
  pub plain_names_judge : (sets ns : List ℕ) → FineTable ns → (rs : List Record) (allowance : ℕ)
      → judge (flow_by (with_names es sets) ns) rs allowance ≡ judge (flow_of sets ns) rs allowance
  plain_names_judge sets ns fine rs allowance =
      judge_renamed (λ a. a) (λ a. Unit {0})
      (flows_renamed (λ a. a) (λ a. Unit {0}) (plain sets) (with_names es sets) ns fine (λ i e w k a u. plain_names e a) (λ k l a u. refl)) (heard_all rs) allowance
      ∙ ap (λ (x : List Record). judge (flow_of sets ns) x allowance) (renamed_same rs)

-- lists that pass are not refused without the names
passed_fine : (sets ns rs : List ℕ) (room : ℕ) → table_check sets ns ≡ Ok tt → Passed Whole ns rs room → judge_check sets ns rs room ≡ Ok tt
passed_fine sets ns rs room table p =
    check_parts sets ns rs room ∙ sym (or_else_fine _ table) ∙ sym (or_else_fine _ p.records) ∙ room_passes ns rs room p.enough

-- so `judge_named`, where it refuses nothing, answers as `judge`
pub plain_names_judged : (s sets ns rs : List ℕ) (room allowance : ℕ) → ((e : Entry) → Memᴰ e (entries_in s) → e.machine ≢ [])
    → named_judge_check s sets ns rs room ≡ Ok tt → judged_named s sets ns rs room allowance ≡ judged sets ns rs room allowance
plain_names_judged s sets ns rs room allowance machines fine =
    let passed = named_passed sets ns rs room s fine in
    let table = (named_lists sets ns rs room s fine).table in
    fine_is (named_flow s sets ns) rs allowance fine
    ∙ ap answer_of (plain_names_judge (entries_in s) machines sets ns passed.table (records rs) allowance)
    ∙ sym (fine_is (flow_of sets ns) rs allowance (passed_fine sets ns rs room table passed))
