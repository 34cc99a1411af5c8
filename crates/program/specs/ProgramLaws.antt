-- What the reader leaves in the two tables, the file's names section and its sets, and from there to the program's answer. Assumes nothing.
use Rattle.std.specs.Prelude.{ℕ, ◌*◌, ◌-◌, ◌≤◌, ◌≡◌, length, take, drop, Result, Ok, Err}
use Rattle.std.proofs.Common.{arith, ap, ◌∙◌, length-append, length-drop, take_at, take_all}
use mathlib.Core.List.{List, []}
use Rattle.std.proofs.Math.Path.{sym, ap₂}
use Rattle.flow.specs.declared.Refusal.{Refusal}
use Rattle.format.specs.Format.{Entry}
use Rattle.format.specs.Plan.{got, bad, run}
use Rattle.format.specs.Sections.{names}
use Rattle.format.specs.Items.{at_front}
use Rattle.judge.specs.declared.Answer.TheVariants.{Refused}
use Rattle.judge.specs.Judged.{judged_named}
use Rattle.reader.specs.declared.Counts.{Counts}
use Rattle.reader.specs.Reading.{Outcome, reading, ReadAs}
use Rattle.reader.specs.ReaderLaws.{read_file}
use Rattle.program.specs.Program.{states_allowed, work_lent}
use Rattle.program.specs.declared.tables.Tables.{Tables}
use Rattle.program.specs.FileParts.{scanned, names_of, sets_of}
use Rattle.program.specs.FileTables.{Held}
use Rattle.program.specs.Answering.{answered, answer_of_file}

---- The two tables and the sets ----

-- numbers that stand first in a table are its beginning of their length
front_of : (ns table table' : List ℕ) (n : ℕ) → table' ≡ at_front ns table → length ns ≡ n → (n ≤ length table') × (take n table' ≡ ns)
front_of ns table table' n e l =
    (omega (arith, ap length e, length-append ns (drop (length ns) table)), ap (take n) e ∙ take_at ns (drop (length ns) table) n l)

-- by what the reader answered, the first numbers of the two tables are what it read
pub record Fronts (s nodes' records' : List ℕ) (c : Counts) : Type 0 where
  pub nodes_inside : 3 * c.nodes ≤ length nodes'
  pub records_inside : c.records ≤ length records'
  pub sets_inside : c.sets_at ≤ length s
  pub outcome : reading s 192 256 ≡ record { answer = Ok c; nodes = take (3 * c.nodes) nodes'; records = take c.records records' }

module _ {s nodes records nodes' records' : List ℕ} {r : Result Counts Refusal}
    (node_room : length nodes ≡ 192) (record_room : length records ≡ 256) (h : ReadAs s nodes records nodes' records' r) where
  told_so : reading s (length nodes) (length records) ≡ reading s 192 256
  told_so = ap₂ (reading s) node_room record_room

  pub file_refused : {q : Refusal} → r ≡ Err q → (reading s 192 256).answer ≡ Err q
  file_refused e = ap (λ (p : Outcome). p.answer) (sym told_so) ∙ sym h.answer ∙ e

  pub file_read : {c : Counts} → r ≡ Ok c → Fronts s nodes' records' c
  file_read {c} e =
      let w = read_file s (length nodes) (length records) (sym h.answer ∙ e) in
      let f = w.file in
      let o = w.is in
      let ns = front_of f.nodes nodes nodes' (3 * c.nodes) (h.nodes_after ∙ ap (λ (p : Outcome). at_front p.nodes nodes) o) w.whole_nodes in
      let rs = front_of f.records records records' c.records (h.records_after ∙ ap (λ (p : Outcome). at_front p.records records) o)
      (sym (ap (λ (d : Counts). d.records) w.counted)) in
      record {
        nodes_inside = ns.0;
        records_inside = rs.0;
        sets_inside = w.sets_inside;
        outcome = sym told_so ∙ o ∙ (λ i. record { answer = Ok (sym w.counted i); nodes = sym ns.1 i; records = sym rs.1 i });
      }

---- The names section ----

module _ (file : List ℕ) where
  pub names_found : {es : List Entry} {at : ℕ} → run file 0 names ≡ got es at → take at file ≡ names_of file
  unfolding names_of scanned
  names_found e = sym (ap (scanned file) e)

  pub names_bad : {n p : ℕ} → run file 0 names ≡ bad n p → [] ≡ names_of file
  unfolding names_of scanned
  names_bad e = sym (ap (scanned file) e)

---- The sets ----

-- a part of the file that goes to its end is all that is left of it
pub sets_all : (c : Counts) (file : List ℕ) → take (length file - c.sets_at) (sets_of c file) ≡ sets_of c file
sets_all c file = take_all (length file - c.sets_at) (sets_of c file) (rw length-drop (omega arith))

---- The answer, by what the reader answered ----

module _ (s : List ℕ) where
  pub refused_answered : {q : Refusal} → (reading s 192 256).answer ≡ Err q → Refused q ≡ answer_of_file s
  unfolding answer_of_file answered
  refused_answered e = sym (ap (λ (a : Result Counts Refusal). answered s a (reading s 192 256).nodes (reading s 192 256).records) e)

  pub held_answered : {t : Tables} → Held s t
      → {part ns rs : List ℕ} → part ≡ names_of s → ns ≡ take (3 * t.counts.nodes) t.nodes → rs ≡ take t.counts.records t.records
      → judged_named part (take (length s - t.counts.sets_at) (sets_of t.counts s)) ns rs work_lent states_allowed ≡ answer_of_file s
  unfolding answer_of_file answered
  held_answered {t} h e n k =
      (λ i. judged_named (e i) (sets_all t.counts s i) (n i) (k i) work_lent states_allowed)
      ∙ sym (ap (λ (p : Outcome). answered s p.answer p.nodes p.records) h.outcome)
