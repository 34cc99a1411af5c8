-- What the code learns on its way to what is asked: marks grow by one event (`also_event`), by those that have a step name (`steps_more`,
-- `steps_all`), by
-- those that a leaf takes (`marked_unnamed`, `marked_machine`, `marked_steps`), and so node by node (`heard_more`, `heard_same`). Those of all
-- nodes tell what is asked for a number (`ask_is`), and the table is filled number by number (`asked_more`, `asked_next`, `asked_all`). Assumes nothing.
use Prim.Native.Nat.{ℕ, ◌+◌, ◌<◌, ◌≤◌}
use Rattle.std.specs.Prelude.{Bool, ◌&&◌, ◌||◌, cond, Some, None, List, ◌≡◌, eqb, ltb, length, get_or, set, replicate}
use Rattle.std.proofs.Math.Bool.{true, false, or-true, or-false, or_assoc}
use Rattle.std.proofs.Math.Path.{refl, ap, ap₂, sym}
use Rattle.std.proofs.Common.{◌∙◌, subst, add-one, arith, eqb-true, ltb-false, eq-eqb, ne_eqb, length-set, get_or-set_same, get_or-set_other, ext_get_or}
use Rattle.std.proofs.lemmas.Bool.{eqb-false}
use Rattle.std.proofs.Math.ListN.{get_or-replicate}
use Rattle.calculus.specs.Term.{Joint}
use Rattle.flow.specs.declared.Form.{Form}
use Rattle.flow.specs.Kinds.{form, node, one_of}
use Rattle.flow.specs.Records.{most_events, all_numbers}
use Rattle.flow.specs.Refusals.{count}
use Rattle.flow.specs.Cues.{cue_of, itself, masked}
use Rattle.format.specs.Format.{Entry}
use Rattle.format.specs.Matching.{same_step, no_machine}
use Rattle.format.specs.ListChecks.{entries_in, Whole}
use Rattle.format.specs.Items.{name_at, entry_at, entries_at, entries_end}
use Rattle.format.specs.SectionLaws.{entries_at_length, entries_at_more}
use Rattle.format.specs.EntryLaws.{whole_there}
use Rattle.matching.specs.Others.{other}
use Rattle.matching.specs.Entries.{entry_place}
use Rattle.matching.specs.Asks.{some_leaf, hears, ask, asks, takes_event, HeardMarks, AlsoMarked, has_step, ask_by, AskedTo}
use Rattle.matching.specs.SetLaws.{mask_low}
use Rattle.matching.proofs.AskLaws.{asks_length, asks_at}
use Rattle.matching.proofs.CueLaws.{unplaced, placed, placed_is}
use Rattle.matching.proofs.TakenLaws.{step_none, step_more, takes_cue_is, takes_own, taken_unnamed, taken_named}

---- Marks by tests ----

-- by a test that comes to the same
also_as : {p q : ℕ → Bool} {before after : List Bool} → ((a : ℕ) → a ≤ most_events → p a ≡ q a) → AlsoMarked p before after → AlsoMarked q before after
also_as {before} e m = record { size = m.size; each = λ a h. m.each a h ∙ ap (λ (b : Bool). get_or before a false || b) (e a h) }

-- by two tests
also_both : {p q : ℕ → Bool} {before between after : List Bool} → AlsoMarked p before between → AlsoMarked q between after → AlsoMarked (λ a. p a || q a) before after
also_both {p} {q} {before} m n = record {
  size = n.size ∙ m.size;
  each = λ a h. n.each a h ∙ ap (λ (b : Bool). b || q a) (m.each a h) ∙ or_assoc (get_or before a false) (p a) (q a);
}

-- by one that nothing passes
also_none : {p : ℕ → Bool} (before : List Bool) → ((a : ℕ) → a ≤ most_events → p a ≡ false) → AlsoMarked p before before
also_none before e = record { size = refl; each = λ a h. sym (ap (λ (b : Bool). get_or before a false || b) (e a h) ∙ or-false (get_or before a false)) }

-- by one that one event at the most passes
also_at : {p : ℕ → Bool} (before : List Bool) (e : ℕ) (v : Bool) → e < length before → ((a : ℕ) → (a ≡ e → ⊥) → p a ≡ false) → v ≡ (get_or before e false || p e)
    → AlsoMarked p before (set before e v)
also_at {p} before e v l none here = record { size = length-set before e v; each = λ a h. by a (eqb a e) refl }
  where
    by : (a : ℕ) (b : Bool) → eqb a e ≡ b → get_or (set before e v) a false ≡ (get_or before a false || p a)
    by a true q =
        let d : a ≡ e = eqb-true a e q in
        ap (λ (k : ℕ). get_or (set before e v) k false) d ∙ get_or-set_same before e v false l ∙ here ∙ ap (λ (k : ℕ). get_or before k false || p k) (sym d)
    by a false q =
        get_or-set_other before e a v false (eqb-false a e q)
        ∙ sym (ap (λ (b : Bool). get_or before a false || b) (none a (eqb-false a e q)) ∙ or-false (get_or before a false))

pub also_event : (before : List Bool) (e : ℕ) → e < length before → AlsoMarked (λ a. eqb a e) before (set before e true)
also_event before e l =
    also_at before e true l (λ a n. ne_eqb a e n) (sym (ap (λ (b : Bool). get_or before e false || b) (eq-eqb e e refl) ∙ or-true (get_or before e false)))

-- an event above all is not marked
pub also_above : (before : List Bool) (e : ℕ) → most_events < e → AlsoMarked (λ a. eqb a e) before before
also_above before e l = also_none before (λ a h. ne_eqb a e (λ d. omega arith))

---- The events that have a step name, entry by entry ----

module _ (s step : List ℕ) where
  pub steps_none : (before : List Bool) → AlsoMarked (has_step step (entries_at s 0 2)) before before
  unfolding entries_at
  steps_none before = also_none before (λ a h. step_none step a)

  pub steps_more : (i : ℕ) {entry : ℕ} {before marks : List Bool} {v same : Bool} → i + 1 < length marks → entry ≡ entries_end s i 2
      → same ≡ same_step step (name_at s entry) → v ≡ (get_or marks (i + 1) false || same)
      → AlsoMarked (has_step step (entries_at s i 2)) before marks → AlsoMarked (has_step step (entries_at s (i + 1) 2)) before (set marks (i + 1) v)
  steps_more i {entry} {before} {marks} {v} {same} l here is marked m =
      also_as (λ a h. more a) (also_both m (also_at marks (i + 1) v l (λ a n. ap (λ (b : Bool). b && same) (ne_eqb a (i + 1) n)) (marked ∙ own)))
    where
      own : (get_or marks (i + 1) false || same) ≡ (get_or marks (i + 1) false || (eqb (i + 1) (i + 1) && same))
      own = sym (ap (λ (b : Bool). get_or marks (i + 1) false || (b && same)) (eq-eqb (i + 1) (i + 1) refl))

      more : (a : ℕ) → (has_step step (entries_at s i 2) a || (eqb a (i + 1) && same)) ≡ has_step step (entries_at s (i + 1) 2) a
      more a =
          let es = entries_at s i 2 in
          ap₂ (λ (n : ℕ) (b : Bool). has_step step es a || (eqb a (n + 1) && b)) (sym (entries_at_length s i 2)) (is ∙ ap (λ (n : ℕ). same_step step (name_at s n)) here)
          ∙ sym (step_more step es (entry_at s (entries_end s i 2)) a)
          ∙ ap (λ (ds : List Entry). has_step step ds a) (sym (entries_at_more s i 2) ∙ ap (λ (n : ℕ). entries_at s n 2) (sym (add-one i)))

  -- of all entries
  pub steps_all : Whole s → (n : ℕ) {before marks : List Bool} → n ≡ length (entries_in s)
      → AlsoMarked (has_step step (entries_at s n 2)) before marks → AlsoMarked (has_step step (entries_in s)) before marks
  steps_all w n {before} {marks} e = subst (λ (es : List Entry). AlsoMarked (has_step step es) before marks) (ap (λ (k : ℕ). entries_at s k 2) e ∙ sym (whole_there s w).is)

---- The events that a leaf takes ----

module _ (s : List ℕ) (w : Whole s) (event : ℕ) {before own : List Bool} (also_own : AlsoMarked (λ a. eqb a event) before own) where
  abbrev Taken : List Bool → Type 0
  Taken after = AlsoMarked (λ a. takes_event (other (entries_in s)) a event) before after

  pub marked_unnamed : None ≡ entry_place s event → Taken own
  marked_unnamed none = also_as (λ a h. sym (taken_unnamed (entries_in s) event a (unplaced s w event none))) also_own

  module _ {at : ℕ} (is : Some at ≡ entry_place s event) where
    named : (a : ℕ) → takes_event (other (entries_in s)) a event ≡ (eqb a event || (no_machine (entry_at s at) && has_step (name_at s at) (entries_in s) a))
    named a =
        taken_named (entries_in s) event a (whole_there s w).apart (placed s w event is).0
        ∙ ap (λ (e : Entry). eqb a event || (no_machine e && has_step e.step (entries_in s) a)) (placed_is s w event is)

    pub marked_machine : no_machine (entry_at s at) ≡ false → Taken own
    marked_machine m =
        also_as (λ a h. sym (named a ∙ ap (λ (b : Bool). eqb a event || (b && has_step (name_at s at) (entries_in s) a)) m ∙ or-false (eqb a event))) also_own

    pub marked_steps : {after : List Bool} → no_machine (entry_at s at) ≡ true → AlsoMarked (has_step (name_at s at) (entries_in s)) own after → Taken after
    marked_steps m k =
        also_as (λ a h. sym (named a ∙ ap (λ (b : Bool). eqb a event || (b && has_step (name_at s at) (entries_in s) a)) m)) (also_both also_own k)

-- without names, its own alone
pub marked_plain : (event : ℕ) {before after : List Bool} → AlsoMarked (λ a. eqb a event) before after → AlsoMarked (λ a. takes_event itself a event) before after
marked_plain event m = also_as (λ a h. sym (takes_own itself a event refl)) m

---- Node by node ----

module _ (other : ℕ → ℕ) (ns : List ℕ) where
  pub heard_none : HeardMarks other ns 0 (replicate 257 false)
  unfolding some_leaf
  heard_none = record { size = refl; each = λ a h. get_or-replicate 257 a false false (omega arith) }

  module _ {i : ℕ} {marks : List Bool} (m : HeardMarks other ns i marks) where
    pub heard_more : {f : Form} {event : ℕ} {after : List Bool} → f ≡ form (node ns i) → event ≡ one_of ns i → f.event ≡ true
        → AlsoMarked (λ a. takes_event other a event) marks after → HeardMarks other ns (i + 1) after
    unfolding some_leaf
    heard_more {f} {event} is one t k = record {
      size = k.size ∙ m.size;
      each = λ a h.
          let leaf : (form (node ns i)).event ≡ true = ap (λ (g : Form). g.event) (sym is) ∙ t in
          k.each a h
          ∙ ap₂ (λ (b : Bool) (e : ℕ). b || takes_event other a e) (m.each a h) one
          ∙ ap (λ (b : Bool). some_leaf (takes_event other a) ns i || (b && takes_event other a (one_of ns i))) (sym leaf)
          ∙ ap (some_leaf (takes_event other a) ns) (sym (add-one i));
    }

    pub heard_same : {f : Form} → f ≡ form (node ns i) → f.event ≡ false → HeardMarks other ns (i + 1) marks
    unfolding some_leaf
    heard_same {f} is t = record {
      size = m.size;
      each = λ a h.
          let leaf : (form (node ns i)).event ≡ false = ap (λ (g : Form). g.event) (sym is) ∙ t in
          m.each a h
          ∙ sym (ap (λ (b : Bool). some_leaf (takes_event other a) ns i || (b && takes_event other a (one_of ns i))) leaf ∙ or-false _)
          ∙ ap (some_leaf (takes_event other a) ns) (sym (add-one i));
    }

---- What is asked, by the marks of all nodes ----

module _ (sets : ℕ → Joint) (other : ℕ → ℕ) (ns : List ℕ) where
  pub ask_is : {marks : List Bool} → HeardMarks other ns (count ns) marks → (r : ℕ) → ask_by (masked sets) other marks r ≡ ask (masked sets) other ns r
  unfolding ask_by ask hears
  ask_is {marks} m r = by (ltb most_events r) refl
    where
      x : ℕ
      x = cue_of (masked sets) other r

      by : (b : Bool) → ltb most_events r ≡ b → cond (b || get_or marks r false) x 0 ≡ cond (b || hears ns x) x 0
      by true q = refl
      by false q =
          let few = ltb-false most_events r q in
          ap (λ (b : Bool). cond b x 0) (m.each r few ∙ (λ i. some_leaf (λ e. sym (takes_cue_is (masked sets) other r e few (mask_low sets r)) i) ns (count ns)))

---- The table of what is asked ----

module _ (mask other : ℕ → ℕ) (ns : List ℕ) where
  pub asked_none : (table : List ℕ) → length table ≡ 259 → AskedTo mask other ns 0 table
  asked_none table l = record { within = omega arith; long = l; each = λ k h. absurd (omega arith) }

  pub asked_more : {i : ℕ} {table : List ℕ} (v : ℕ) → AskedTo mask other ns i table → i < 259 → v ≡ ask mask other ns (get_or all_numbers i 0) → AskedTo mask other ns (i + 1) (set table i v)
  asked_more {i} {table} v t l e = record { within = omega arith; long = length-set table i v ∙ t.long; each = λ k h. by k h (eqb k i) refl }
    where
      by : (k : ℕ) → k < i + 1 → (b : Bool) → eqb k i ≡ b → get_or (set table i v) k 0 ≡ ask mask other ns (get_or all_numbers k 0)
      by k h true q =
          let d : k ≡ i = eqb-true k i q in
          ap (λ (j : ℕ). get_or (set table i v) j 0) d ∙ get_or-set_same table i v 0 (omega (arith, t.long)) ∙ e ∙ ap (λ (j : ℕ). ask mask other ns (get_or all_numbers j 0)) (sym d)
      by k h false q = let d = eqb-false k i q in get_or-set_other table i k v 0 d ∙ t.each k (omega (arith, d))

  pub asked_all : {i : ℕ} {table : List ℕ} → AskedTo mask other ns i table → 259 ≤ i → table ≡ asks mask other ns
  asked_all {i} {table} t l =
      ext_get_or 0 table (asks mask other ns) (t.long ∙ sym (asks_length mask other ns)) (λ k h. t.each k (omega (arith, t.long)) ∙ sym (asks_at mask other ns k (omega (arith, t.long))))

-- one number more, by what is asked for it by the marks
pub asked_next : (sets : ℕ → Joint) (other : ℕ → ℕ) (ns : List ℕ) {i r : ℕ} {marks : List Bool} {table : List ℕ} (v : ℕ) → AskedTo (masked sets) other ns i table
    → HeardMarks other ns (count ns) marks → i < 259 → v ≡ ask_by (masked sets) other marks r → r ≡ get_or all_numbers i 0 → AskedTo (masked sets) other ns (i + 1) (set table i v)
asked_next sets other ns {i} {r} v t m l is here = asked_more (masked sets) other ns v t l (is ∙ ask_is sets other ns m r ∙ ap (ask (masked sets) other ns) here)
