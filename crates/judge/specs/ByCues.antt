-- The search by cues gives the answer that is meant: by the cues of records where no names are lent (`plain_ready`, `plain_judged`),
-- and by those that a names section makes (`named_ready`, `named_judged`). What both share is said once, of any legend (`Cueing`), and
-- of records of any extent where they need not be whole. The cues of all events are known to be right, not only those of a call's records
-- (`plain_cueing`, `named_cueing`, and `events_heard` of any known numbers). Assumes nothing.
use Rattle.std.specs.Prelude.{ℕ, zero, suc, ◌<◌, ◌≤◌, ◌≡◌, refl, Bool, true, false, ◌||◌, List, map, T, eqb, length, get_or, take, drop, Ok, Option}
use Rattle.std.proofs.Common.{sym, ap, ◌∙◌, subst, arith, take_at}
use Rattle.std.proofs.lemmas.List.{length-map}
use Rattle.calculus.specs.Search as search
use Rattle.calculus.specs.Spending.{Out as Found, spent, back, visit_b}
use Rattle.calculus.proofs.Budget.{answer, budgeted}
use Rattle.calculus.specs.Records.{Record}
use Rattle.flow.specs.declared.Extent.{Extent}
use Rattle.flow.specs.declared.Extent.TheVariants.{Whole}
use Rattle.flow.specs.declared.Node.TheVariants.{Event}
use Rattle.flow.specs.Kinds.{node}
use Rattle.flow.specs.Records.{most_events, is_event_number, is_closing_number, records}
use Rattle.flow.specs.Refusals.{count, no_record}
use Rattle.flow.specs.Legends.{Legend, in_set, plain}
use Rattle.flow.specs.Drawn.{flow_by, flow_of}
use Rattle.flow.specs.Cues.{cued, cue_record, cue_records, cue_of, itself, masked}
use Rattle.flow.specs.CuedFlows.{cued_judge, cued_within, cues_low}
use Rattle.flow.specs.FineTable.{fine_table}
use Rattle.flow.specs.RecordsFit.{fine_records, records_within}
use Rattle.search.specs.declared.Trip.{Trip}
use Rattle.search.specs.Room.{room_of, cleared}
use Rattle.search.specs.Searches.{SearchReady, Searched, LeftWithin}
use Rattle.search.specs.SearchLaws.{visit_within}
use Rattle.search.specs.Visits.{out_of}
use Rattle.format.specs.Format.{Entry}
use Rattle.format.specs.Matching.{with_names}
use Rattle.format.specs.ContentLaws.{leaf_named}
use Rattle.format.specs.ListChecks.{entries_in}
use Rattle.format.specs.ListLaws.{ListsPassed}
use Rattle.format.specs.Told.{at_front}
use Rattle.matching.specs.Others.{other}
use Rattle.matching.proofs.OtherLaws.{section_takes, section_other_small}
use Rattle.judge.specs.declared.Answer.{Answer}
use Rattle.judge.specs.Judged.{room_wanted, judge_check, named_judge_check, answer_of, Judged, NamedJudged}
use Rattle.judge.specs.JudgedLaws.{Passed, records_few, judge_searches, judge_passed, named_lists, named_passed}
use Rattle.judge.specs.Settled.{answer_to, Answered}

---- What the search brings back, as an answer ----

answer_is : (rs : List Record) (n : ℕ) (o : Found) → answer_to (length rs) n o ≡ answer_of (answer rs n o)
unfolding answer_to answer_of answer
answer_is rs n spent = refl
answer_is rs n (back true d m) = refl
answer_is rs n (back false d m) = refl

module _ {ns xs work : List ℕ} {allowance : ℕ} {o : Option Trip} {after : List ℕ} (s : Searched ns xs allowance work o after) where
  pub searched_within : LeftWithin allowance o
  searched_within = visit_within (cue_records xs) (flow_by cued ns) allowance o s.out

  pub searched_answer : {r : Answer} → r ≡ answer_to (length xs) allowance (out_of o) → Answered ns xs allowance work r after
  searched_answer e = record {
    answers =
        e ∙ ap (answer_to (length xs) allowance) s.out
        ∙ ap (λ (n : ℕ). answer_to n allowance (visit_b (cue_records xs) (flow_by cued ns) allowance)) (sym (length-map xs cue_record))
        ∙ answer_is (cue_records xs) allowance (visit_b (cue_records xs) (flow_by cued ns) allowance)
        ∙ ap answer_of (budgeted (flow_by cued ns) (cue_records xs) allowance);
    leaves = s.leaves;
  }

---- Any legend ----

-- the cues that stand at the front of a table
module _ (f : ℕ → ℕ) (rs table xs : List ℕ) (e : xs ≡ at_front (map f rs) table) where
  pub cues_front : take (length rs) xs ≡ map f rs
  cues_front = ap (take (length rs)) e ∙ take_at (map f rs) (drop (length (map f rs)) table) (length rs) (length-map rs f)

-- what the cues of records have to hear: every event. 01: "an event 1 to 256"
abbrev pub Heard : ℕ → Type 0
Heard a = (1 ≤ a) × (a ≤ most_events)

-- the cues of all events take what is meant, at every event leaf of the table
pub record Cueing (legend : Legend) (other : ℕ → ℕ) (ns : List ℕ) : Type 0 where
  pub small : (a : ℕ) → Heard a → (a ≤ most_events) × (other a ≤ most_events)
  pub right : (i e : ℕ) → i < count ns → node ns i ≡ Event e → (a : ℕ) → Heard a → (legend.leaves e).takes a ≡ (eqb a e || eqb (other a) e)

-- a known number is not 0
pub from_one : (r : ℕ) → no_record r ≡ false → 1 ≤ r
unfolding no_record is_event_number is_closing_number
from_one zero e = absurd (subst T e tt)
from_one (suc r) e = omega arith

-- so the events among known numbers are heard
pub events_heard : (rs : List ℕ) → ((i : ℕ) → i < length rs → no_record (get_or rs i 0) ≡ false)
    → (i : ℕ) → i < length rs → get_or rs i 0 ≤ most_events → Heard (get_or rs i 0)
events_heard rs each i h l = (from_one (get_or rs i 0) (each i h), l)

-- records that pass, of any extent
module _ {extent : Extent} {legend : Legend} {other : ℕ → ℕ} {ns rs : List ℕ} (work : List ℕ) (passed : Passed extent ns rs (length work)) (c : Cueing legend other ns)
    {xs : List ℕ} (is : xs ≡ map (cue_of (masked legend.sets) other) rs) where
  pub known : (i : ℕ) → i < length rs → no_record (get_or rs i 0) ≡ false
  known = (fine_records extent ns rs passed.records).each

  pub as_long : length (map (cue_of (masked legend.sets) other) rs) ≡ length rs
  as_long = length-map rs (cue_of (masked legend.sets) other)

  pub cueing_ready : SearchReady ns xs work
  cueing_ready = subst (λ (l : List ℕ). SearchReady ns l work) (sym is) (record {
    table = passed.table;
    few = omega (arith, as_long, records_few _ ns rs passed.records);
    low = λ i h. cues_low legend other ns rs passed.table known Heard (events_heard rs known) c.small c.right i (omega (arith, as_long));
    fits = cued_within legend other ns rs passed.table known Heard (events_heard rs known) c.small c.right (records_within extent ns rs legend passed.table passed.records);
    room = subst (λ (n : ℕ). room_of (count ns) n ≤ length work) (sym as_long) passed.enough;
  })

  cueing_searched : {allowance : ℕ} {r : Answer} {after : List ℕ} → Answered ns xs allowance work r after
      → (r ≡ answer_of (search.judge (flow_by legend ns) (records rs) allowance)) × (after ≡ cleared (room_wanted ns rs) work)
  cueing_searched {allowance} a = (
    a.answers ∙ ap (λ (l : List ℕ). answer_of (search.judge (flow_by cued ns) (cue_records l) allowance)) is
        ∙ ap answer_of (cued_judge legend other ns rs passed.table known Heard (events_heard rs known) c.small c.right allowance),
    a.leaves ∙ ap (λ (n : ℕ). cleared (room_of (count ns) n) work) (ap length is ∙ as_long),
  )

---- Without names ----

pub plain_cueing : (sets ns : List ℕ) → Cueing (plain sets) itself ns
plain_cueing sets ns = record {
  small = λ a h. (h.1, h.1);
  right = λ i e w n a h. by (eqb a e);
}
  where
    by : (b : Bool) → b ≡ (b || b)
    by true = refl
    by false = refl

---- With names ----

module _ (extent : Extent) (s sets ns rs : List ℕ) (lists : ListsPassed extent s sets ns rs) where
  abbrev es : List Entry
  es = entries_in s

  pub named_cueing : Cueing (with_names es sets) (other es) ns
  named_cueing = record {
    small = λ a h. (h.1, section_other_small s lists.section.is a h.1);
    right = λ i e w n a h. let q = leaf_named (length es) ns (fine_table ns sets lists.table) i e w n (lists.contents.leaves i w) in section_takes s lists.section.is e a q.0 q.1 h.0;
  }

---- As the code comes to it ----

-- xs are the cues of the records, as they stand at the front of the code's own table
module _ (sets ns rs work : List ℕ) {xs : List ℕ} where
  module _ (e : judge_check sets ns rs (length work) ≡ Ok tt) (is : xs ≡ map (cue_of (masked (in_set sets)) itself) rs) where
    pub plain_ready : SearchReady ns xs work
    plain_ready = cueing_ready work (judge_passed sets ns rs (length work) e) (plain_cueing sets ns) is

    pub plain_judged : {allowance : ℕ} {r : Answer} {after : List ℕ} → Answered ns xs allowance work r after → Judged sets ns rs allowance work r after
    plain_judged {allowance} a =
        let z = cueing_searched work (judge_passed sets ns rs (length work) e) (plain_cueing sets ns) is a in
        judge_searches (flow_of sets ns) ns rs allowance work e z.0 z.1

  module _ (s : List ℕ) (e : named_judge_check s sets ns rs (length work) ≡ Ok tt) (is : xs ≡ map (cue_of (masked (in_set sets)) (other (entries_in s))) rs) where
    pub named_ready : SearchReady ns xs work
    named_ready = cueing_ready work (named_passed sets ns rs (length work) s e) (named_cueing Whole s sets ns rs (named_lists sets ns rs (length work) s e)) is

    pub named_judged : {allowance : ℕ} {r : Answer} {after : List ℕ} → Answered ns xs allowance work r after → NamedJudged s sets ns rs allowance work r after
    named_judged {allowance} a =
        let z = cueing_searched work (named_passed sets ns rs (length work) s e) (named_cueing Whole s sets ns rs (named_lists sets ns rs (length work) s e)) is a in
        judge_searches (flow_by (with_names (entries_in s) sets) ns) ns rs allowance work e z.0 z.1
