-- The file as a whole, over what the program answers to its bytes (`answer_of_file`), told in 01's words. A file that is read is never
-- refused by the judge: the reader's checks are the judge's, and the program lends work bytes enough. So the program refuses exactly
-- what the reader refuses; and demand 2 for files, of the flow that the file's nodes draw with its names and sets, and the records that it
-- holds. Theorems only. Assumes nothing.
use Rattle.std.specs.Prelude.{ℕ, ◌+◌, ◌*◌, ◌<◌, ◌≤◌, not, ◌↔◌, ◌≡◌, T, Ok, Result, Err}
use Rattle.std.proofs.Math.Nat.{mul-le-mul}
use Rattle.std.proofs.Common.{arith, sym, ◌∙◌, subst, le-ltb}
use mathlib.Core.List.{List}
use Rattle.std.proofs.Math.Path.{refl, ap, ap₂}
use Rattle.std.proofs.Math.ListN.{length}
use Rattle.std.proofs.lemmas.List.{length-map}
use Rattle.calculus.specs.Records.{Record, State, Complete, InTraces}
use Rattle.calculus.specs.Search.{visit}
use Rattle.flow.specs.declared.Refusal.{Refusal}
use Rattle.flow.specs.Records.{record_of, records}
use Rattle.flow.specs.Refusals.{count}
use Rattle.flow.specs.Earliest.{Nowhere, end, not_lone}
use Rattle.flow.specs.Drawn.{flow_by}
use Rattle.format.specs.Format.{names_section, File}
use Rattle.format.specs.Limits.{WithinLimits, Bytes}
use Rattle.format.specs.Matching.{with_names}
use Rattle.format.specs.Contents.{file_order}
use Rattle.format.specs.Items.{refusal_of}
use Rattle.reader.specs.declared.Counts.{Counts}
use Rattle.reader.specs.Reading.{reported, Outcome, reading}
use Rattle.reader.specs.Faults.{Refuses}
use Rattle.reader.specs.ReaderLaws.{read_not_refused}
use Rattle.judge.specs.Judged.{VerdictWord, Told, told, verdict, refusal, room_of, room_wanted, too_short, named_judge_order, named_judge_check, named_flow, judged_named}
use Rattle.program.specs.Program.{states_allowed, work_lent}
use Rattle.program.specs.Answering.{answered, answer_of_file}
use Rattle.promises.specs.Stated.{Rejection, Decides}
use Rattle.promises.specs.Verdicts.{fine_not_refused}
use Rattle.promises.specs.ListRefusals.{nowhere_both, named_passes}
use Rattle.promises.specs.Writer.{good_sets_bytes, writable_lists}
use Rattle.promises.specs.RoundTrip.{names_handed, sets_handed}
use Rattle.promises.specs.NamedDemands.{named_decides}
use Rattle.promises.specs.Reader.{Readable, readable_read, read_readable, report_refused}
use Rattle.promises.specs.ReaderRefusals.{refused_when}

---- What the reader lets pass, the judge does ----

module _ (f : File) (within : WithinLimits f) (fine : Nowhere (file_order f)) where
  abbrev ns : List ℕ
  ns = f.nodes

  abbrev rs : List ℕ
  rs = f.records

  abbrev sets : List ℕ
  sets = f.sets

  -- 14: the largest flow wants 2 × 64 × (256 + 1)
  enough : room_wanted ns rs ≤ work_lent
  unfolding room_of
  enough =
      let n : 2 * count ns ≤ 128 = omega (arith, within.nodes.whole, within.nodes.counted.high) in
      let k : length rs + 1 ≤ 257 = omega (arith, within.records.whole, within.records.counted.high) in
      mul-le-mul n k

  roomy : T (not (too_short ns rs work_lent))
  unfolding too_short
  roomy = rw (le-ltb work_lent (room_wanted ns rs) enough) tt

  -- 1 to 3, 10, 11 and 23 by the counts of the file, then its contents
  pub contents_judged : named_judge_check (names_section f.names) sets ns rs work_lent ≡ Ok tt
  unfolding named_judge_check
  contents_judged =
      named_passes (names_section f.names) (named_judge_order sets ns rs work_lent) f.names within.names refl
      (nowhere_both ((writable_lists (length f.names) ns rs sets (good_sets_bytes within.sets)).1 (within.nodes, within.records, within.sets, fine)) (not_lone roomy end))

---- A file that is read ----

module _ (s : List ℕ) (f : File) (readable : Readable s 192 256 f) where
  abbrev section : List ℕ
  section = names_section f.names

  -- it is judged by its names, sets, nodes and records
  pub file_judged : answer_of_file s ≡ judged_named section f.sets f.nodes f.records work_lent states_allowed
  unfolding answer_of_file answered
  file_judged =
      ap (λ (o : Outcome). answered s o.answer o.nodes o.records) (readable_read s 192 256 f readable)
      ∙ ap₂ (λ (part sets : List ℕ). judged_named part sets f.nodes f.records work_lent states_allowed) (names_handed s readable) (sets_handed s readable)

  judged_so : (told (judged_named section f.sets f.nodes f.records work_lent states_allowed)).word ≡ VerdictWord.refused → ⊥
  judged_so =
      fine_not_refused (named_judge_check section f.sets f.nodes f.records work_lent) (named_flow section f.sets f.nodes) f.records states_allowed
      (contents_judged f readable.within readable.fine)

  -- what holds of the judge's answer holds of the program's
  moved : (P : Told → Type 0) → P (told (judged_named section f.sets f.nodes f.records work_lent states_allowed)) → P (told (answer_of_file s))
  moved P = subst P (sym (ap told file_judged))

  -- and never refused
  pub file_passes : (told (answer_of_file s)).word ≡ VerdictWord.refused → ⊥
  file_passes = moved (λ (t : Told). t.word ≡ VerdictWord.refused → ⊥) judged_so

---- Demand 1 for files ----
-- 01: "It refuses bad input itself, by the numbers and in the order of document 01."

module _ (s : List ℕ) (bytes : Bytes s) where
  refused_told : (r : Refusal) → (reading s 192 256).answer ≡ Err r → told (answer_of_file s) ≡ refusal r.number r.place
  unfolding answer_of_file answered told
  refused_told r e = ap (λ (a : Result Counts Refusal). told (answered s a (reading s 192 256).nodes (reading s 192 256).records)) e

  -- the program refuses exactly what the reader refuses, with its number and place
  pub file_refused_exactly : (number place : ℕ)
      → (told (answer_of_file s) ≡ refusal number place) ↔ ((reading s 192 256).answer ≡ Err (refusal_of number place))
  file_refused_exactly number place = by (reading s 192 256).answer refl
    where
      by : (a : Result Counts Refusal) → (reading s 192 256).answer ≡ a
          → (told (answer_of_file s) ≡ refusal number place) ↔ ((reading s 192 256).answer ≡ Err (refusal_of number place))
      by (Ok c) e =
          let w = read_readable s bytes 192 256 c e in
          (λ t. absurd (file_passes s w.0 w.1 (ap (λ (x : Told). x.word) t)), λ q. read_not_refused (sym e ∙ q))
      by (Err r) e = (
        λ t. e ∙ ap (λ (x : Told). Err (refusal_of x.number x.place)) (sym (refused_told r e) ∙ t),
        λ q. refused_told (refusal_of number place) q,
      )

  -- in the words of the format: a refusal is given exactly when one of its ways holds
  pub file_refused_when : (number place : ℕ) → (told (answer_of_file s) ≡ refusal number place) ↔ Refuses s 192 256 number place
  unfolding reported
  file_refused_when number place =
      let a = file_refused_exactly number place in
      let b = refused_when s bytes 192 256 number place in
      (λ t. b.0 (ap reported (a.0 t)), λ x. a.1 (report_refused s 192 256 number place (b.1 x)))

  -- and every other file is one of the format that is read
  pub file_judged_when : ((told (answer_of_file s)).word ≡ VerdictWord.refused → ⊥) ↔ ((f : File) × Readable s 192 256 f)
  file_judged_when = (λ n. by (reading s 192 256).answer refl n, λ x. file_passes s x.0 x.1)
    where
      by : (a : Result Counts Refusal) → (reading s 192 256).answer ≡ a → ((told (answer_of_file s)).word ≡ VerdictWord.refused → ⊥) → (f : File) × Readable s 192 256 f
      by (Ok c) e n = let w = read_readable s bytes 192 256 c e in (w.0, w.1)
      by (Err r) e n = absurd (n (ap (λ (x : Told). x.word) (refused_told r e)))

---- Demand 2 for files ----
-- "A batch that isn't refused is undecided exactly if the search that document 01 defines enters more states than the caller
-- allowed. If not undecided, it is accepted exactly if its records are a complete run of the flow under the published transition
-- rules, and equally if they are one of its traces under the published trace semantics. Else it is rejected."

module _ (s : List ℕ) (f : File) (readable : Readable s 192 256 f) where
  abbrev answer : Told
  answer = told (answer_of_file s)

  -- what the file holds: the flow that its nodes draw with its names and sets, and its records
  abbrev flow : State
  flow = flow_by (with_names f.names f.sets) f.nodes

  abbrev batch : List Record
  batch = records f.records

  abbrev entered : ℕ
  entered = (visit batch flow).entered

  -- all of it, in one record (Stated)
  pub file_decides : Decides flow batch states_allowed answer
  file_decides =
      moved s f readable (Decides flow batch states_allowed)
      (named_decides f.names readable.within.names f.sets f.nodes f.records work_lent states_allowed (judged_so s f readable))

  -- "allows 1,000,000 states"
  pub file_undecided_exactly : (answer.word ≡ VerdictWord.undecided) ↔ (states_allowed < entered)
  file_undecided_exactly = file_decides.undecided_exactly

  pub file_undecided_is : answer.word ≡ VerdictWord.undecided → answer ≡ verdict VerdictWord.undecided 0 states_allowed
  file_undecided_is = file_decides.undecided_is

  module _ (few : entered ≤ states_allowed) where
    decided : answer.word ≡ VerdictWord.undecided → ⊥
    decided e = omega (arith, file_undecided_exactly.0 e)

    -- "accepted exactly if its records are a complete run"
    pub file_accepted_exactly : (answer.word ≡ VerdictWord.accepted) ↔ Complete flow batch
    file_accepted_exactly = file_decides.accepted_exactly decided

    -- "and equally if they are one of its traces"
    pub file_accepted_traces : (answer.word ≡ VerdictWord.accepted) ↔ InTraces flow batch
    file_accepted_traces = file_decides.accepted_traces decided

    -- "Else it is rejected."
    pub file_else_rejected : (Complete flow batch → ⊥) → answer.word ≡ VerdictWord.rejected
    file_else_rejected = file_decides.else_rejected decided

  -- "accepted: place = number of records; count"
  pub file_accepted_is : answer.word ≡ VerdictWord.accepted → answer ≡ verdict VerdictWord.accepted (length f.records) entered
  file_accepted_is w = file_decides.accepted_is w ∙ ap (λ (n : ℕ). verdict VerdictWord.accepted n entered) (length-map f.records record_of)

  -- "rejected: place = the longest beginning ..; count"
  pub file_rejected_is : answer.word ≡ VerdictWord.rejected → Rejection flow batch answer.place answer.count
  file_rejected_is = file_decides.rejected_is
