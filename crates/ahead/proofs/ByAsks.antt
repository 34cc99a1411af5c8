-- The search by cues with the asks of all numbers gives the answer that is meant: by the cues and asks of `next` (`plain_next_ready`,
-- `plain_next`), and by those that a names section makes (`named_next_ready`, `named_next`). First what the search brings back of a
-- beginning (`listed_by`, `undecided_by`); then, of any leaves, that the numbers whose asks are answered are those that can follow.
-- Assumes nothing.
use Prim.Native.Nat.{ℕ, zero, suc, ◌-◌, ◌<◌, ◌≤◌}
use Rattle.std.proofs.Math.Path.{◌≡◌, refl, sym, ap, subst}
use Rattle.std.proofs.Common.{◌∙◌, inl, inr, arith, le-leb, leb-true, ne_eqb}
use Rattle.std.specs.Prelude.{Bool, ◌⊎◌, replicate, Result, Ok, Err, ⊤}
use Rattle.std.proofs.Math.Bool.{true, false, cond}
use mathlib.Core.List.{List, [], ◌∷◌, ◌++◌, map, map-append}
use Rattle.std.proofs.Math.Decide.{dec_le}
use Rattle.std.proofs.Math.Dec.{eqb, leb}
use Rattle.std.proofs.Math.ListN.{length, get_or, get_or-map, get_or-eq_default}
use Rattle.std.proofs.lemmas.List.{length-map}
use Rattle.std.proofs.lemmas.Bool.{lt-leb}
use Rattle.calculus.specs.Records.{Record, State}
use Rattle.calculus.specs.Search.{visit}
use Rattle.calculus.specs.Spending.{Out as Found, spent, back, left_of}
use Rattle.calculus.proofs.Budget.{visit_left}
use Rattle.calculus.specs.Ahead.{Begins, passes, may_follow, entered}
use Rattle.calculus.proofs.AheadLaws.{begins_found, begins_entered}
use Rattle.flow.specs.declared.Extent.TheVariants.{Beginning}
use Rattle.flow.specs.declared.Refusal.{Refusal}
use Rattle.flow.specs.Records.{done_number, withdrawn_number, failed_number, most_events, is_event_number, is_closing_number, record_of, records, all_numbers}
use Rattle.flow.specs.Refusals.{count, no_record}
use Rattle.flow.specs.Drawn.{flow_by}
use Rattle.flow.specs.Legends.{Legend, in_set, plain}
use Rattle.flow.specs.Cues.{cued, cue_of, masked, cue_record, cue_records, itself, failed_cue}
use Rattle.flow.specs.CuedFlows.{cued_passes, cued_entered, cued_begins}
use Rattle.flow.specs.RecordsFit.{records_begin}
use Rattle.format.specs.Told.{at_front}
use Rattle.format.specs.Matching.{with_names}
use Rattle.format.specs.ListChecks.{entries_in}
use Rattle.format.specs.ListLaws.{ListsPassed}
use Rattle.std.specs.Prelude.{Option, Some, None}
use Rattle.search.specs.declared.Trip.{Trip}
use Rattle.search.specs.Room.{room_of, cleared}
use Rattle.search.specs.Visits.{out_of, follows_mark}
use Rattle.search.specs.Searches.{LeftWithin, answered, went_through, asks_after, Asked}
use Rattle.search.specs.SearchLaws.{visit_within}
use Rattle.matching.specs.Asks.{ask, asks}
use Rattle.matching.proofs.AskLaws.{ask_cue, asks_length, asks_at, asks_low, asks_apart, unasked_at}
use Rattle.matching.specs.NumberLaws.{numbers_length, each_number}
use Rattle.matching.specs.Others.{other}
use Rattle.matching.proofs.OtherLaws.{other_some, section_other_small}
use Rattle.judge.specs.Judged.{room_wanted, unless_refused}
use Rattle.judge.specs.JudgedLaws.{Passed, fine_bytes, refused_bytes}
use Rattle.judge.specs.ByCues.{Heard, Cueing, events_heard, cueing_ready, as_long, known, plain_cueing, named_cueing}
use Rattle.ahead.specs.declared.answer.Next.{Next}
use Rattle.ahead.specs.declared.answer.Next.TheVariants.{Listed, Undecided, Refused}
use Rattle.ahead.specs.Told.{numbers_wanted, following}
use Rattle.ahead.specs.Outcome.{next_check, named_next_check, allowed, next_by, list_by, NextBy, NextOf, NamedNextOf}
use Rattle.ahead.specs.Answering.{picked, NextReady, cost, found, NextAnswered}
use Rattle.ahead.proofs.PickedLaws.{picked_those}
use Rattle.ahead.specs.CheckLaws.{next_passed, named_next_lists, named_next_passed}

---- What the search brings back of a beginning ----

abbrev what_left : Found → ℕ
what_left spent = 0
what_left (back b d m) = m

module _ {ns xs qs list work : List ℕ} (ready : NextReady ns xs qs list work) {allowance : ℕ} {o : Option Trip} {after qs' : List ℕ} (asked : Asked ns xs allowance work qs o after qs') where
  abbrev flow : State
  flow = flow_by cued ns

  abbrev rs : List Record
  rs = cue_records xs

  -- no end is found, and all states are counted
  brought : out_of o ≡ cond (leb (cost ns xs qs allowance) allowance) (back false (visit rs flow).reached (allowance - cost ns xs qs allowance)) spent
  unfolding left_of
  brought =
      asked.search.out ∙ visit_left rs flow allowance
      ∙ (λ i. cond (leb (begins_entered flow rs ready.begins i) allowance)
      (back (begins_found flow rs ready.begins i) (visit rs flow).reached (allowance - begins_entered flow rs ready.begins i)) spent)

  within : LeftWithin allowance o
  within = visit_within rs flow allowance o asked.search.out

  pub left_within : {trip : Trip} → o ≡ Some trip → trip.left ≤ allowance
  left_within e = subst (LeftWithin allowance) e within

  pub undecided_by : o ≡ None → NextAnswered ns xs qs allowance list work (Undecided (record { length = 0; count = allowance })) list after
  unfolding out_of
  undecided_by e = by (leb (cost ns xs qs allowance) allowance) refl
    where
      by : (b : Bool) → leb (cost ns xs qs allowance) allowance ≡ b → NextAnswered ns xs qs allowance list work (Undecided (record { length = 0; count = allowance })) list after
      by true q = absurd (let z : ◌≡◌ {A = ℕ} 0 1 = cc (sym (ap out_of e) ∙ brought ∙ ap (λ (b : Bool). cond b (back false (visit rs flow).reached (allowance - cost ns xs qs allowance)) spent) q) in omega arith)
      by false q = record {
        answers = sym (ap (λ (b : Bool). cond b (Listed (record { length = length (found ns xs qs allowance); count = cost ns xs qs allowance })) (Undecided (record { length = 0; count = allowance }))) q);
        lists = sym (ap (λ (b : Bool). cond b (at_front (found ns xs qs allowance) list) list) q);
        leaves = asked.search.leaves;
      }

  pub listed_by : {trip : Trip} → o ≡ Some trip → {n k : ℕ} {list' : List ℕ} → n ≡ length (picked all_numbers qs') → list' ≡ at_front (picked all_numbers qs') list → k ≡ allowance - trip.left
      → NextAnswered ns xs qs allowance list work (Listed (record { length = n; count = k })) list' after
  unfolding out_of asks_after went_through
  listed_by {trip} e {n} {k} {list'} en el ek = by (leb (cost ns xs qs allowance) allowance) refl
    where
      came : (b : Bool) → leb (cost ns xs qs allowance) allowance ≡ b
          → back trip.found trip.far trip.left ≡ cond b (back false (visit rs flow).reached (allowance - cost ns xs qs allowance)) spent
      came b q = sym (ap out_of e) ∙ brought ∙ ap (λ (b : Bool). cond b (back false (visit rs flow).reached (allowance - cost ns xs qs allowance)) spent) q

      by : (b : Bool) → leb (cost ns xs qs allowance) allowance ≡ b → NextAnswered ns xs qs allowance list work (Listed (record { length = n; count = k })) list' after
      by false q = absurd (let z : ◌≡◌ {A = ℕ} 0 1 = cc (came false q) in omega arith)
      by true q =
          let l : trip.left ≡ allowance - cost ns xs qs allowance = ap what_left (came true q) in
          let h = leb-true (cost ns xs qs allowance) allowance q in
          let c : k ≡ cost ns xs qs allowance = omega arith in
          let s : qs' ≡ map (answered flow rs) qs =
          asked.asks ∙ ap (λ (x : Found). cond (went_through x) (map (answered flow rs) qs) (replicate (length qs) 0)) (ap out_of e ∙ came true q) in
          let p : picked all_numbers qs' ≡ found ns xs qs allowance = ap (picked all_numbers) s in
          let m : n ≡ length (found ns xs qs allowance) = en ∙ ap length p in
          record {
            answers = (λ i. Listed (record { length = m i; count = c i }))
                ∙ sym (ap (λ (b : Bool). cond b (Listed (record { length = length (found ns xs qs allowance); count = cost ns xs qs allowance })) (Undecided (record { length = 0; count = allowance }))) q);
            lists = el ∙ ap (λ (l : List ℕ). at_front l list) p ∙ sym (ap (λ (b : Bool). cond b (at_front (found ns xs qs allowance) list) list) q);
            leaves = asked.search.leaves;
          }

---- Any legend ----

-- what holds of each and of one more holds of all
with_last : (P : ℕ → Type 0) (rs : List ℕ) (r : ℕ) → ((i : ℕ) → i < length rs → P (get_or rs i 0)) → P r → (i : ℕ) → i < length (rs ++ (r ∷ [])) → P (get_or (rs ++ (r ∷ [])) i 0)
with_last P [] r f p zero h = p
with_last P [] r f p (suc i) h = absurd (omega arith)
with_last P (x ∷ rs) r f p zero h = f 0 (omega arith)
with_last P (x ∷ rs) r f p (suc i) h = with_last P rs r (λ j l. f (suc j) (omega arith)) p i (omega arith)

-- each number is an event's or a closing's
number_known : (i : ℕ) → i < 259 → no_record (get_or all_numbers i 0) ≡ false
unfolding no_record is_event_number is_closing_number
number_known =
    each_number (λ r. no_record r ≡ false)
    (λ r low high. rw (le-leb 1 r low, le-leb r most_events high))
    (λ r low high. elim (dec_le r done_number) [
      | yes l ↦ let e : r ≡ done_number = omega arith in rw e
      | no l ↦ elim (dec_le r withdrawn_number) [
        | yes m ↦ let e : r ≡ withdrawn_number = omega (arith, l) in rw e
        | no m ↦ let e : r ≡ failed_number = omega (arith, m) in rw e
      ]
    ])

-- the asks of all numbers
record AllAsked (legend : Legend) (other : ℕ → ℕ) (ns : List ℕ) : Type 0 where
  cueing : Cueing legend other ns
  few : (a : ℕ) → a ≤ most_events → other a ≤ most_events
  some : (a : ℕ) → 1 ≤ a → 1 ≤ other a

module _ {legend : Legend} {other : ℕ → ℕ} {ns rs : List ℕ} (work : List ℕ) (passed : Passed Beginning ns rs (length work)) (a : AllAsked legend other ns)
    {xs : List ℕ} (is : xs ≡ map (cue_of (masked legend.sets) other) rs) {qs : List ℕ} (asked : qs ≡ asks (masked legend.sets) other ns) where
  abbrev c : Cueing legend other ns
  c = a.cueing

  abbrev mask : ℕ → ℕ
  mask = masked legend.sets

  each_known : (i : ℕ) → i < length rs → no_record (get_or rs i 0) ≡ false
  each_known = known work passed c is

  asks_ready : {list : List ℕ} → numbers_wanted ≤ length list → NextReady ns xs qs list work
  asks_ready {list} enough = record {
    search = cueing_ready work passed c is;
    begins = subst (λ (l : List ℕ). Begins (flow_by cued ns) (cue_records l)) (sym is)
        (cued_begins legend other ns rs passed.table each_known Heard (events_heard rs each_known) c.small c.right (records_begin ns rs legend passed.table passed.records));
    asking = λ j. elim (dec_le 259 j) [
      | yes h ↦ subst (λ (x : ℕ). x ≤ failed_cue) (sym (get_or-eq_default qs 0 {n = j} (omega (arith, ap length asked, asks_length mask other ns)))) (omega arith)
      | no h ↦ subst (λ (l : List ℕ). get_or l j 0 ≤ failed_cue) (sym asked) (asks_low legend.sets other ns a.few j (omega (arith, h)))
    ];
    all = ap length asked ∙ asks_length mask other ns;
    room = enough;
  }

  -- a number follows by its cue exactly if it follows
  follows_is : (r : ℕ) → no_record r ≡ false → may_follow (cue_records xs) (flow_by cued ns) (cue_record (cue_of mask other r)) ≡ may_follow (records rs) (flow_by legend ns) (record_of r)
  follows_is r k =
      ap (λ (z : List ℕ). may_follow (cue_records z) (flow_by cued ns) (cue_record (cue_of mask other r))) is
      ∙ ap (λ (z : List Record). passes z (flow_by cued ns)) (sym (map-append cue_record (map (cue_of mask other) rs) (cue_of mask other r ∷ [])) ∙ ap cue_records (sym (map-append (cue_of mask other) rs (r ∷ []))))
      ∙ cued_passes legend other ns (rs ++ (r ∷ [])) passed.table all_known Heard (events_heard (rs ++ (r ∷ [])) all_known) c.small c.right
      ∙ ap (λ (z : List Record). passes z (flow_by legend ns)) (map-append record_of rs (r ∷ []))
    where
      all_known : (i : ℕ) → i < length (rs ++ (r ∷ [])) → no_record (get_or (rs ++ (r ∷ [])) i 0) ≡ false
      all_known = with_last (λ x. no_record x ≡ false) rs r each_known k

  -- it is picked exactly if it follows
  picks : (i : ℕ) → i < 259 → eqb (get_or (map (answered (flow_by cued ns) (cue_records xs)) qs) i 0) follows_mark ≡ may_follow (records rs) (flow_by legend ns) (record_of (get_or all_numbers i 0))
  unfolding answered
  picks i h =
      ap (λ (q : ℕ). eqb q follows_mark) (get_or-map (answered (flow_by cued ns) (cue_records xs)) qs i 0 ∙ ap (λ (l : List ℕ). answered (flow_by cued ns) (cue_records xs) (get_or l i 0)) asked)
      ∙ by (asks_apart legend.sets other ns a.few a.some i h) (ask_cue mask other ns (get_or all_numbers i 0))
      ∙ follows_is (get_or all_numbers i 0) (number_known i h)
    where
      r : ℕ
      r = get_or all_numbers i 0

      asks_it : (x : ℕ) → 65537 ≤ x → (b : Bool) → may_follow (cue_records xs) (flow_by cued ns) (cue_record x) ≡ b → eqb (answered (flow_by cued ns) (cue_records xs) x) follows_mark ≡ b
      asks_it x l true e = rw (lt-leb x follows_mark (omega arith), e)
      asks_it x l false e = rw (lt-leb x follows_mark (omega arith), e) (ne_eqb x follows_mark (λ d. omega arith))

      by : (get_or (asks mask other ns) i 0 ≡ 0) ⊎ (65537 ≤ get_or (asks mask other ns) i 0) → (ask mask other ns r ≡ 0) ⊎ (ask mask other ns r ≡ cue_of mask other r)
          → eqb (answered (flow_by cued ns) (cue_records xs) (get_or (asks mask other ns) i 0)) follows_mark ≡ may_follow (cue_records xs) (flow_by cued ns) (cue_record (cue_of mask other r))
      by (inl z) d =
          ap (λ (q : ℕ). eqb (answered (flow_by cued ns) (cue_records xs) q) follows_mark) z
          ∙ sym (unasked_at legend.sets other ns a.few passed.table i h z (cue_records xs))
      by (inr l) (inl z) = absurd (omega (arith, asks_at mask other ns i h))
      by (inr l) (inr e) =
          let q : get_or (asks mask other ns) i 0 ≡ cue_of mask other r = asks_at mask other ns i h ∙ e in
          asks_it (get_or (asks mask other ns) i 0) l (may_follow (cue_records xs) (flow_by cued ns) (cue_record (get_or (asks mask other ns) i 0))) refl
          ∙ ap (λ (x : ℕ). may_follow (cue_records xs) (flow_by cued ns) (cue_record x)) q

  found_is : (allowance : ℕ) → found ns xs qs allowance ≡ following (flow_by legend ns) rs
  unfolding following
  found_is allowance =
      picked_those (λ r. may_follow (records rs) (flow_by legend ns) (record_of r)) all_numbers (map (answered (flow_by cued ns) (cue_records xs)) qs)
      (length-map qs (answered (flow_by cued ns) (cue_records xs)) ∙ ap length asked ∙ asks_length mask other ns ∙ sym numbers_length)
      (λ i h. picks i (subst (λ (n : ℕ). i < n) numbers_length h))

  cost_is : (allowance : ℕ) → cost ns xs qs allowance ≡ entered (records rs) (flow_by legend ns)
  cost_is allowance =
      ap (λ (l : List ℕ). entered (cue_records l) (flow_by cued ns)) is
      ∙ cued_entered legend other ns rs passed.table each_known Heard (events_heard rs each_known) c.small c.right

  asks_next : {check : Result ⊤ Refusal} → check ≡ Ok tt → {allowance : ℕ} {list : List ℕ} {r : Next} {list' after : List ℕ} → NextAnswered ns xs qs allowance list work r list' after
      → NextBy check (flow_by legend ns) ns rs allowance list work r list' after
  unfolding next_by list_by unless_refused allowed
  asks_next {check} e {allowance} {list} {r} {list'} {after} n = subst (λ (k : Result ⊤ Refusal). NextBy k (flow_by legend ns) ns rs allowance list work r list' after) (sym e) (record {
    answers = n.answers ∙ (λ i. cond (leb (cost_is allowance i) allowance) (Listed (record { length = length (found_is allowance i); count = cost_is allowance i })) (Undecided (record { length = 0; count = allowance })));
    lists = n.lists ∙ (λ i. cond (leb (cost_is allowance i) allowance) (at_front (found_is allowance i) list) list);
    leaves = n.leaves ∙ ap (λ (m : ℕ). cleared (room_of (count ns) m) work) (ap length is ∙ as_long work passed c is) ∙ sym (fine_bytes (room_wanted ns rs) work refl);
  })

---- As the code comes to it ----

pub next_refuses : {k : Result ⊤ Refusal} (flow : State) (ns rs : List ℕ) (allowance : ℕ) (list work : List ℕ) (r : Refusal) → k ≡ Err r
    → NextBy k flow ns rs allowance list work (Refused r) list work
unfolding next_by list_by unless_refused
next_refuses flow ns rs allowance list work r e = record {
  answers = sym (ap (λ (x : Result ⊤ Refusal). next_by x flow rs allowance) e);
  lists = sym (ap (λ (x : Result ⊤ Refusal). list_by x flow rs allowance list) e);
  leaves = sym (refused_bytes (room_wanted ns rs) work r e);
}

plain_all : (sets ns : List ℕ) → AllAsked (plain sets) itself ns
plain_all sets ns = record { cueing = plain_cueing sets ns; few = λ a h. h; some = λ a h. h }

named_all : (s sets ns rs : List ℕ) → ListsPassed Beginning s sets ns rs → AllAsked (with_names (entries_in s) sets) (other (entries_in s)) ns
named_all s sets ns rs lists = record {
  cueing = named_cueing Beginning s sets ns rs lists;
  few = section_other_small s lists.section.is;
  some = other_some (entries_in s);
}

module _ (sets ns rs list work : List ℕ) {xs qs : List ℕ} where
  module _ (e : next_check sets ns rs (length list) (length work) ≡ Ok tt) (is : xs ≡ map (cue_of (masked (in_set sets)) itself) rs) (asked : qs ≡ asks (masked (in_set sets)) itself ns) where
    pub plain_next_ready : NextReady ns xs qs list work
    plain_next_ready = let p = next_passed sets ns rs (length list) (length work) e in asks_ready work p.0 (plain_all sets ns) is asked p.1

    pub plain_next : {allowance : ℕ} {r : Next} {list' after : List ℕ} → NextAnswered ns xs qs allowance list work r list' after → NextOf sets ns rs allowance list work r list' after
    plain_next n = let p = next_passed sets ns rs (length list) (length work) e in asks_next work p.0 (plain_all sets ns) is asked e n

  module _ (s : List ℕ) (e : named_next_check s sets ns rs (length list) (length work) ≡ Ok tt) (is : xs ≡ map (cue_of (masked (in_set sets)) (other (entries_in s))) rs) (asked : qs ≡ asks (masked (in_set sets)) (other (entries_in s)) ns) where
    lists : ListsPassed Beginning s sets ns rs
    lists = named_next_lists s sets ns rs (length list) (length work) e

    pub named_next_ready : NextReady ns xs qs list work
    named_next_ready = let p = named_next_passed s sets ns rs (length list) (length work) e in asks_ready work p.0 (named_all s sets ns rs lists) is asked p.1

    pub named_next : {allowance : ℕ} {r : Next} {list' after : List ℕ} → NextAnswered ns xs qs allowance list work r list' after → NamedNextOf s sets ns rs allowance list work r list' after
    named_next n = let p = named_next_passed s sets ns rs (length list) (length work) e in asks_next work p.0 (named_all s sets ns rs lists) is asked e n
