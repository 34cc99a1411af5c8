-- What may follow can be shown by the names that are lent (`listed_showable`). Then what is known where a list is answered (`listed_so`), the
-- text by the answer (`listed_printed`, `undecided_printed`, `refused_printed`), and that of a file by what the reader answered
-- (`refused_file`, `held_file`). Assumes nothing.
use Prim.Native.Nat.{ℕ, zero, suc, ◌*◌, ◌-◌, ◌≤◌, ◌<◌}
use Rattle.std.proofs.Common.{arith, inl, inr, ◌∙◌, subst, ne_eqb, ltb-true, length-append, take_at, length-take-le}
use Rattle.std.proofs.Math.Bool.{Bool, true, false, cond}
use Rattle.std.specs.Prelude.{◌⊎◌, ◌≡◌, eqb, ltb, get_or, drop, Result, Ok, Err, ⊤}
use Rattle.std.proofs.lemmas.Bool.{false≢true}
use mathlib.Core.List.{List, [], ◌∷◌}
use Rattle.std.proofs.Math.Path.{refl, sym, ap}
use Rattle.std.proofs.Math.ListN.{length, take}
use Rattle.calculus.specs.Records.{State, event}
use Rattle.calculus.specs.Ahead.{may_follow, entered}
use Rattle.calculus.specs.Leaves.{AnySet}
use Rattle.calculus.specs.Deaf.{DeafLeaf}
use Rattle.calculus.proofs.DeafLaws.{deaf_passes}
use Rattle.flow.specs.declared.Refusal.{Refusal}
use Rattle.flow.specs.declared.Extent.TheVariants.{Beginning}
use Rattle.flow.specs.Records.{done_number, withdrawn_number, failed_number, most_events, record_of, records, all_numbers}
use Rattle.flow.specs.FineTable.{fine_table}
use Rattle.flow.specs.DrawnLeaves.{flow_each}
use Rattle.format.specs.Matching.{matches, with_names}
use Rattle.format.specs.Told.{at_front}
use Rattle.format.specs.ListChecks.{entries_in, Whole}
use Rattle.format.specs.ItemLaws.{le_or_lt}
use Rattle.format.specs.ContentLaws.{leaf_named}
use Rattle.format.specs.ListLaws.{ListsPassed}
use Rattle.matching.specs.NumberLaws.{numbers_length, each_number}
use Rattle.matching.proofs.OtherLaws.{other_beyond, section_beyond}
use Rattle.judge.specs.Judged.{unless_refused, named_flow}
use Rattle.ahead.specs.declared.answer.Found.{Found}
use Rattle.ahead.specs.declared.answer.Next.{Next}
use Rattle.ahead.specs.declared.answer.Next.TheVariants.{Listed, Undecided, Refused}
use Rattle.ahead.specs.Told.{those, following, numbers_wanted}
use Rattle.ahead.proofs.PickedLaws.{following_few}
use Rattle.ahead.specs.CheckLaws.{named_next_lists}
use Rattle.ahead.specs.Outcome.{named_next_check, allowed, next_by, list_by, NextBy}
use Rattle.judge.specs.declared.Answer.TheVariants as answer
use Rattle.line.specs.Line.{line_of}
use Rattle.reader.specs.declared.Counts.{Counts}
use Rattle.reader.specs.Reading.{Outcome, reading}
use Rattle.program.specs.Program.{states_allowed, work_lent, line_for}
use Rattle.program.specs.declared.tables.Tables.{Tables}
use Rattle.program.specs.FileParts.{names_of, sets_of}
use Rattle.program.specs.Listing.{all_but_last, so_many, beginning, list_text, answer_text}
use Rattle.program.specs.NextFile.{tables_text, text_by, file_text, Showable, ListShowable}
use Rattle.program.specs.FileTables.{Held}
use Rattle.program.specs.ProgramLaws.{sets_all}

-- the record of an event's number
event_number : (r : ℕ) → r ≤ most_events → record_of r ≡ event r
unfolding record_of
event_number r h =
    rw (ne_eqb r done_number (λ e. omega arith), ne_eqb r withdrawn_number (λ e. omega arith), ne_eqb r failed_number (λ e. omega arith))

---- Those that pass a test ----

those_each : (P : ℕ → Type 0) (test : ℕ → Bool) (xs : List ℕ) → ((i : ℕ) → i < length xs → test (get_or xs i 0) ≡ true → P (get_or xs i 0))
    → (i : ℕ) → i < length (those test xs) → P (get_or (those test xs) i 0)
unfolding those
those_each P test [] each i h = absurd (omega arith)
those_each P test (x ∷ xs) each i h = by (test x) refl (λ j l. those_each P test xs (λ k m. each (suc k) (omega arith)) j l) i h
  where
    rest : List ℕ
    rest = those test xs

    first_one : test x ≡ true → ((i : ℕ) → i < length rest → P (get_or rest i 0)) → (i : ℕ) → i < length (x ∷ rest) → P (get_or (x ∷ rest) i 0)
    first_one t later zero h = each 0 (omega arith) t
    first_one t later (suc i) h = later i (omega arith)

    by : (b : Bool) → test x ≡ b → ((i : ℕ) → i < length rest → P (get_or rest i 0))
        → (i : ℕ) → i < length (cond b (x ∷ rest) rest) → P (get_or (cond b (x ∷ rest) rest) i 0)
    by true t later = first_one t later
    by false t later = later

---- What may follow has names ----

-- a leaf with an entry does not take an event without one: its step name is not empty
no_entry_taken : (s : List ℕ) → Whole s → (n r : ℕ) → 1 ≤ n → n ≤ length (entries_in s) → length (entries_in s) < r → matches (entries_in s) n r ≡ false
no_entry_taken s w n r low high over =
    section_beyond s w.is n r low high over
    ∙ rw (other_beyond (entries_in s) r over, ne_eqb r n (λ e. omega arith))

module _ (s sets ns rs : List ℕ) (passed : named_next_check s sets ns rs numbers_wanted work_lent ≡ Ok tt) where
  lists : ListsPassed Beginning s sets ns rs
  lists = named_next_lists s sets ns rs numbers_wanted work_lent passed

  -- an event without an entry follows nothing
  unnamed_never : (r : ℕ) → length (entries_in s) < r → may_follow (records rs) (named_flow s sets ns) (event r) ≡ false
  unnamed_never r over =
      let es = entries_in s in
      let l = lists in
      deaf_passes r (records rs) (named_flow s sets ns)
      (flow_each (DeafLeaf r) AnySet (with_names es sets) ns (fine_table ns sets l.table)
      (λ i e h n.
      let own = leaf_named (length es) ns (fine_table ns sets l.table) i e h n (l.contents.leaves i h) in
      no_entry_taken s l.section e r own.0 own.1 over)
      (λ k. tt))

  -- so what may follow can be shown
  pub listed_showable : ListShowable s (following (named_flow s sets ns) rs)
  unfolding following
  listed_showable =
      record {
        section = lists.section;
        few = following_few (named_flow s sets ns) rs;
        each = those_each (Showable s) test all_numbers (λ i h t. each_number (λ r. test r ≡ true → Showable s r) events ends i (subst (λ (n : ℕ). i < n) numbers_length h) t);
      }
    where
      test : ℕ → Bool
      test r = may_follow (records rs) (named_flow s sets ns) (record_of r)

      with_entry : (r : ℕ) → test r ≡ true → r ≤ most_events → (r ≤ length (entries_in s)) ⊎ (length (entries_in s) < r) → r ≤ length (entries_in s)
      with_entry r t h (inl l) = l
      with_entry r t h (inr l) =
          absurd (false≢true (sym (ap (may_follow (records rs) (named_flow s sets ns)) (event_number r h) ∙ unnamed_never r l) ∙ t))

      events : (r : ℕ) → 1 ≤ r → r ≤ most_events → test r ≡ true → Showable s r
      events r low high t = record { some = low; named = λ h. with_entry r t h (le_or_lt r (length (entries_in s))) }

      ends : (r : ℕ) → done_number ≤ r → r ≤ failed_number → test r ≡ true → Showable s r
      ends r low high t = record { some = omega arith; named = λ h. absurd (omega arith) }

---- By the answer ----

-- what is known where a list is answered, of the table lent for it
pub record ListedSo (c : Result ⊤ Refusal) (flow : State) (rs : List ℕ) (f : Found) (list list' : List ℕ) : Type 0 where
  pub fine : c ≡ Ok tt
  pub sized : f.length ≡ length (following flow rs)
  pub front : list' ≡ at_front (following flow rs) list

abbrev IsListed : Next → Type 0
IsListed (Listed f) = Unit {0}
IsListed (Undecided f) = ⊥
IsListed (Refused r) = ⊥

unfoldable length_told : Next → ℕ
length_told (Listed f) = f.length
length_told (Undecided f) = 0
length_told (Refused r) = 0

module _ (flow : State) (rs : List ℕ) (allowance : ℕ) {list list' : List ℕ} {f : Found} where
  pub listed_so : (c : Result ⊤ Refusal) → Listed f ≡ next_by c flow rs allowance → list' ≡ list_by c flow rs allowance list → ListedSo c flow rs f list list'
  unfolding next_by list_by unless_refused length_told
  listed_so (Ok tt) e l = by (allowed flow rs allowance) (following flow rs) (entered (records rs) flow) refl e l
    where
      by : (b : Bool) (xs : List ℕ) (count : ℕ) → xs ≡ following flow rs
          → Listed f ≡ cond b (Listed (record { length = length xs; count = count })) (Undecided (record { length = 0; count = allowance }))
          → list' ≡ cond b (at_front xs list) list → ListedSo (Ok tt) flow rs f list list'
      by true xs count x q m =
          record { fine = refl; sized = ap length_told q ∙ ap length x; front = m ∙ ap (λ (ys : List ℕ). at_front ys list) x }
      by false xs count x q m = absurd (subst IsListed q tt)
  listed_so (Err r) e l = absurd (subst IsListed e tt)

-- the first numbers of the table are the list
module _ {c : Result ⊤ Refusal} {flow : State} {rs : List ℕ} {f : Found} {list list' : List ℕ} (h : ListedSo c flow rs f list list') where
  pub listed_inside : f.length ≤ length list'
  listed_inside = omega (arith, h.sized, ap length h.front, length-append (following flow rs) (drop (length (following flow rs)) list))

  pub listed_first : take f.length list' ≡ following flow rs
  listed_first = ap (take f.length) h.front ∙ take_at (following flow rs) (drop (length (following flow rs)) list) f.length (sym h.sized)

---- The text, by the answer ----

-- of `next_named`, lent room for every number and for the largest flow
module _ (s sets ns rs : List ℕ) {a : Next} {list work list' after : List ℕ}
    (h : NextBy (named_next_check s sets ns rs numbers_wanted work_lent) (named_flow s sets ns) ns rs states_allowed list work a list' after) where
  pub table_listed : {f : Found} → a ≡ Listed f → ListedSo (named_next_check s sets ns rs numbers_wanted work_lent) (named_flow s sets ns) rs f list list'
  table_listed e = listed_so (named_flow s sets ns) rs states_allowed (named_next_check s sets ns rs numbers_wanted work_lent) (sym e ∙ h.answers) h.lists

  text_is : {b : Next} → a ≡ b → answer_text (entries_in s) (following (named_flow s sets ns) rs) b ≡ tables_text s sets ns rs
  unfolding tables_text
  text_is e = ap (answer_text (entries_in s) (following (named_flow s sets ns) rs)) (sym e ∙ h.answers)

  pub listed_printed : {f : Found} → a ≡ Listed f → list_text (entries_in s) (take f.length list') f.count ≡ tables_text s sets ns rs
  unfolding answer_text
  listed_printed {f} e = ap (λ (l : List ℕ). list_text (entries_in s) l f.count) (listed_first (table_listed e)) ∙ text_is e

  pub undecided_printed : {f : Found} → a ≡ Undecided f → line_of (line_for (answer.Undecided (record { place = 0; count = f.count }))) ≡ tables_text s sets ns rs
  unfolding answer_text
  undecided_printed e = text_is e

  pub refused_printed : {r : Refusal} → a ≡ Refused r → line_of (line_for (answer.Refused r)) ≡ tables_text s sets ns rs
  unfolding answer_text
  refused_printed e = text_is e

---- The file, by what the reader answered ----

so_many_within : (k n : ℕ) → so_many k n ≤ n
unfolding so_many
so_many_within k n = by (eqb k all_but_last) (ltb k n) refl
  where
    by : (last fewer : Bool) → ltb k n ≡ fewer → cond last (n - 1) (cond fewer k n) ≤ n
    by true fewer e = omega arith
    by false true e = omega (arith, ltb-true k n e)
    by false false e = omega arith

module _ (file : List ℕ) (first : ℕ) where
  pub refused_file : {q : Refusal} → (reading file 192 256).answer ≡ Err q → line_of (line_for (answer.Refused q)) ≡ file_text file first
  unfolding file_text text_by
  refused_file e = sym (ap (λ (a : Result Counts Refusal). text_by file first a (reading file 192 256).nodes (reading file 192 256).records) e)

  module _ {t : Tables} (h : Held file t) {rs : List ℕ} (r : rs ≡ take t.counts.records t.records) where
    records_length : length rs ≡ t.counts.records
    records_length = ap length r ∙ length-take-le t.counts.records t.records h.records_inside

    pub beginning_inside : so_many first t.counts.records ≤ length rs
    beginning_inside = omega (arith, so_many_within first t.counts.records, records_length)

    beginning_is : take (so_many first t.counts.records) rs ≡ beginning first (take t.counts.records t.records)
    unfolding beginning
    beginning_is = ap (λ (m : ℕ). take (so_many first m) rs) (sym records_length) ∙ ap (beginning first) r

    pub held_file : {s ns : List ℕ} → s ≡ names_of file → ns ≡ take (3 * t.counts.nodes) t.nodes
        → tables_text s (take (length file - t.counts.sets_at) (sets_of t.counts file)) ns (take (so_many first t.counts.records) rs) ≡ file_text file first
    unfolding file_text text_by
    held_file e n =
        (λ i. tables_text (e i) (sets_all t.counts file i) (n i) (beginning_is i))
        ∙ sym (ap (λ (p : Outcome). text_by file first p.answer p.nodes p.records) h.outcome)
