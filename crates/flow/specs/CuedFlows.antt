-- A flow drawn by the `cued` legend and searched by cues is searched as the flow drawn by the legend that is meant, by the records
-- themselves: the verdict is the same (`cued_judge`), some run follows the cues exactly if one follows the records (`cued_passes`), and as
-- many states are entered by them (`cued_entered`). And the closings of the cues are those of the records (`cued_fits`, `cued_begins`,
-- `cued_within`). No cue of a record is above that of the last closing (`cues_low`). Before that: what a cue is read as, that the cues of
-- records are the records renamed, and that a table that is not refused is drawn alike by any two legends (`flows_renamed`).
-- Assumes nothing.
use Rattle.std.specs.Prelude.{ℕ, zero, suc, ◌<◌, ◌≤◌, ◌/◌, ◌%◌, ◌≡◌, ◌⊎◌, Bool, ◌||◌, List, [], ◌∷◌, map, T, eqb, leb, length, get_or}
use Rattle.std.proofs.Math.Path.{refl, ap}
use Rattle.std.proofs.Common.{sym, ap₂, ◌∙◌, subst, inl, inr, arith, eqb→eq, leb→le, le-leb, ne_eqb, ltb-true}
use Rattle.std.proofs.Math.Bool.{true, false, cond}
use Rattle.std.proofs.Math.Dec.{ltb}
use Rattle.std.proofs.lemmas.Bool.{not-false}
use Rattle.calculus.specs.Term.{Joint, Std, Cmp, blk}
use Rattle.calculus.specs.Term
use Rattle.calculus.specs.Records.{Record, event, State, std, cmp, Fits}
use Rattle.calculus.specs.Search.{judge}
use Rattle.calculus.specs.Ahead.{passes, entered, Begins}
use Rattle.calculus.specs.Within.{Within}
use Rattle.calculus.proofs.Members.{or_cases, and_right}
use Rattle.calculus.proofs.Equations.{All, none, also}
use Rattle.calculus.specs.Renames.{renamed, HeardIn, and_event, and_close, Renames, CRenames, RenamesState, of_skip, of_throw, of_yield, of_leaf, of_seq, of_alt, of_par, of_hnd, of_blk, of_pair, of_cseq, of_calt, of_cpar, of_std, of_cmp}
use Rattle.calculus.proofs.Renamed.{judge_renamed, passes_renamed, entered_renamed, fits_renamed, begins_renamed, within_renamed}
use Rattle.flow.specs.declared.Simple.{Simple}
use Rattle.flow.specs.declared.Simple.TheVariants.{Skip, Throw, Yield}
use Rattle.flow.specs.declared.Operator.{Operator}
use Rattle.flow.specs.declared.Operator.TheVariants.{Sequence, Choice, Parallel}
use Rattle.flow.specs.declared.Node.TheVariants.{Event, Block}
use Rattle.flow.specs.Shapes.{Kid}
use Rattle.flow.specs.Kinds.{node, shape, most_sets, set_of, basic, paired, standard, compensable}
use Rattle.flow.specs.Records.{done_number, withdrawn_number, failed_number, most_events, is_event_number, is_closing_number, record_of, records}
use Rattle.flow.specs.Refusals.{count, root, no_record}
use Rattle.flow.specs.Legends.{Legend}
use Rattle.flow.specs.Draws.{Draws, at_event, at_basic, at_standard, at_handler, at_block, at_pair, at_compensable, at_paired}
use Rattle.flow.specs.Drawn.{flow_by}
use Rattle.flow.specs.Cues.{cue, takes_cue, joint_cue, cued, done_cue, withdrawn_cue, failed_cue, cue_of, masked, cue_record, cue_records}
use Rattle.flow.specs.MaskLaws.{mask_small, mask_read}
use Rattle.flow.specs.NodeChildren.{one_kid, two_kids}
use Rattle.flow.specs.FineTable.{FineTable, kid_lower}
use Rattle.flow.specs.OneFlow.{flow_drawn, flow_only}

---- Record numbers and their cues ----

-- What holds of the events and of each closing holds of every record's number.
known_by : (P : ℕ → Type 0) → ((r : ℕ) → r ≤ most_events → P r) → P done_number → P withdrawn_number → P failed_number → (r : ℕ) → no_record r ≡ false → P r
unfolding no_record is_event_number is_closing_number
known_by P when_event when_done when_withdrawn when_failed r e = known (or_cases (is_event_number r) (is_closing_number r) (subst T (sym (not-false (is_event_number r || is_closing_number r) e)) tt))
  where
    is : (n : ℕ) → P n → T (eqb r n) → P r
    is n p h = subst P (sym (eqb→eq r n h)) p

    last_two : T (eqb r withdrawn_number) ⊎ T (eqb r failed_number) → P r
    last_two (inl h) = is withdrawn_number when_withdrawn h
    last_two (inr h) = is failed_number when_failed h

    closing : T (eqb r done_number) ⊎ T (eqb r withdrawn_number || eqb r failed_number) → P r
    closing (inl h) = is done_number when_done h
    closing (inr h) = last_two (or_cases (eqb r withdrawn_number) (eqb r failed_number) h)

    known : T (is_event_number r) ⊎ T (is_closing_number r) → P r
    known (inl h) = when_event r (leb→le r most_events (and_right (leb 1 r) (leb r most_events) h))
    known (inr h) = closing (or_cases (eqb r done_number) (eqb r withdrawn_number || eqb r failed_number) h)

event_number : (r : ℕ) → r ≤ most_events → record_of r ≡ event r
unfolding record_of
event_number r h = rw (ne_eqb r done_number (λ e. omega arith), ne_eqb r withdrawn_number (λ e. omega arith), ne_eqb r failed_number (λ e. omega arith))

-- the numbers of a cue are read back
abbrev few_masks : ℕ
few_masks = 65536

takes_cue_is : (a mask b e : ℕ) → a ≤ most_events → mask < few_masks → takes_cue (cue a mask b) e ≡ (eqb a e || eqb b e)
unfolding takes_cue
takes_cue_is a mask b e h l =
    let one : cue a mask b % 65536 ≡ a = omega arith in
    let two : cue a mask b / 4294967296 ≡ b = omega arith in
    ap₂ (λ x y. eqb x e || eqb y e) one two

joint_cue_is : (a b k : ℕ) (sets : ℕ → Joint) → a ≤ most_events → k < most_sets → joint_cue k (cue a (masked sets a) b) ≡ sets k a
joint_cue_is a b k sets h l = mask_read (λ i. sets i a) a b k (omega arith) l

-- the cue of an event is none of the closings'
event_cue : (a mask b : ℕ) → a ≤ most_events → mask < few_masks → b ≤ most_events → cue_record (cue a mask b) ≡ event (cue a mask b)
unfolding cue_record
event_cue a mask b h l k = rw (ne_eqb (cue a mask b) done_cue (λ e. omega arith), ne_eqb (cue a mask b) withdrawn_cue (λ e. omega arith), ne_eqb (cue a mask b) failed_cue (λ e. omega arith))

module _ (sets : ℕ → Joint) (other : ℕ → ℕ) where
  -- the cue of an event is its new number
  abbrev event_as : ℕ → ℕ
  event_as a = cue a (masked sets a) (other a)

  mask_low : (a : ℕ) → masked sets a < few_masks
  mask_low a = mask_small (λ k. sets k a) most_sets

  -- the other event of an event is one too
  abbrev Low : ℕ → Type 0
  Low r = r ≤ most_events → other r ≤ most_events

  cue_of_event : (r : ℕ) → r ≤ most_events → cue_of (masked sets) other r ≡ event_as r
  unfolding cue_of
  cue_of_event r h = rw (le-leb r most_events h)

  -- the record of the cue is the record renamed
  cue_record_of : (r : ℕ) → no_record r ≡ false → Low r → cue_record (cue_of (masked sets) other r) ≡ renamed event_as (record_of r)
  unfolding cue_record cue_of record_of
  cue_record_of =
      known_by (λ r. Low r → cue_record (cue_of (masked sets) other r) ≡ renamed event_as (record_of r))
      (λ r h low. ap cue_record (cue_of_event r h) ∙ event_cue r (masked sets r) (other r) h (mask_low r) (low h) ∙ ap (renamed event_as) (sym (event_number r h)))
      (λ low. refl) (λ low. refl) (λ low. refl)

  cue_low : (r : ℕ) → no_record r ≡ false → Low r → cue_of (masked sets) other r ≤ failed_cue
  unfolding cue_of
  cue_low =
      known_by (λ r. Low r → cue_of (masked sets) other r ≤ failed_cue)
      (λ r h low. omega (arith, cue_of_event r h, low h, mask_low r))
      (λ low. omega arith) (λ low. omega arith) (λ low. omega arith)

-- an event that is heard, or a closing
heard_record : (Heard : ℕ → Type 0) (rs : List Record) → HeardIn Heard rs → (r : ℕ) → no_record r ≡ false → (r ≤ most_events → Heard r) → HeardIn Heard (record_of r ∷ rs)
unfolding record_of
heard_record Heard rs k =
    known_by (λ r. (r ≤ most_events → Heard r) → HeardIn Heard (record_of r ∷ rs))
    (λ r h u. rw (event_number r h) (and_event (u h) k))
    (λ u. and_close k) (λ u. and_close k) (λ u. and_close k)

---- Record lists and their cues ----

-- what holds at each place holds of all
all_places : {P : ℕ → Type 0} (rs : List ℕ) → ((i : ℕ) → i < length rs → P (get_or rs i 0)) → All P rs
all_places [] h = none
all_places (r ∷ rs) h = also (h 0 (omega arith)) (all_places rs (λ i l. h (suc i) (omega arith)))

place_map : (f : ℕ → ℕ) (rs : List ℕ) (i : ℕ) → i < length rs → get_or (map f rs) i 0 ≡ f (get_or rs i 0)
place_map f [] i h = absurd (omega arith)
place_map f (r ∷ rs) zero h = refl
place_map f (r ∷ rs) (suc i) h = place_map f rs i (omega arith)

module _ (Heard : ℕ → Type 0) where
  -- a record's number, heard if it is an event's
  record Sound (r : ℕ) : Type 0 where
    known : no_record r ≡ false
    heard : r ≤ most_events → Heard r

  all_heard : {rs : List ℕ} → All Sound rs → HeardIn Heard (records rs)
  all_heard none = HeardIn.none
  all_heard (also {x} {xs} s k) = heard_record Heard (records xs) (all_heard k) x s.known s.heard

  module _ (sets : ℕ → Joint) (other : ℕ → ℕ) (small : (a : ℕ) → Heard a → (a ≤ most_events) × (other a ≤ most_events)) where
    sound_low : (r : ℕ) → Sound r → Low sets other r
    sound_low r s h = (small r (s.heard h)).1

    cues_renamed : {rs : List ℕ} → All Sound rs → cue_records (map (cue_of (masked sets) other) rs) ≡ map (renamed (event_as sets other)) (records rs)
    cues_renamed none = refl
    cues_renamed (also {x} s k) = ap₂ ◌∷◌ (cue_record_of sets other x s.known (sound_low x s)) (cues_renamed k)

---- A table drawn by two legends ----

module _ (f : ℕ → ℕ) (Heard : ℕ → Type 0) where
  basic_renames : (b : Simple) → Renames f Heard (basic b) (basic b)
  basic_renames Skip = of_skip
  basic_renames Throw = of_throw
  basic_renames Yield = of_yield

  paired_renames : (b : Simple) → CRenames f Heard (paired b) (paired b)
  paired_renames Skip = of_pair of_skip of_skip
  paired_renames Throw = of_pair of_throw of_skip
  paired_renames Yield = of_pair of_yield of_skip

  module _ (asked meant : ℕ → Joint) (alike : (k : ℕ) → k < most_sets → (a : ℕ) → Heard a → meant k a ≡ asked k (f a)) where
    sets_alike : (k a : ℕ) → Heard a → set_of meant k a ≡ set_of asked k (f a)
    unfolding set_of
    sets_alike k a u = by (ltb k most_sets) refl
      where
        by : (b : Bool) → ltb k most_sets ≡ b → cond b (meant k) Term.none a ≡ cond b (asked k) Term.none (f a)
        by true e = alike k (ltb-true k most_sets e) a u
        by false e = refl

    standard_renames : (o : Operator) {p q p' q' : Std} → Renames f Heard p p' → Renames f Heard q q' → Renames f Heard (standard asked o p q) (standard meant o p' q')
    standard_renames Sequence h k = of_seq h k
    standard_renames Choice h k = of_alt h k
    standard_renames (Parallel s) h k = of_par (sets_alike s) h k

    compensable_renames : (o : Operator) {pp qq pp' qq' : Cmp} → CRenames f Heard pp pp' → CRenames f Heard qq qq' → CRenames f Heard (compensable asked o pp qq) (compensable meant o pp' qq')
    compensable_renames Sequence h k = of_cseq h k
    compensable_renames Choice h k = of_calt h k
    compensable_renames (Parallel s) h k = of_cpar (sets_alike s) h k

module _ (f : ℕ → ℕ) (Heard : ℕ → Type 0) (meant : Legend) (ns : List ℕ) where
  -- of a part that node i draws with some leaves: with those that are meant it draws a part that this renames
  data Redraws (i : ℕ) : State → Type 0 where
    as_std : {p q : Std} → Draws meant ns i (std q) → Renames f Heard p q → Redraws i (std p)
    as_cmp : {pp qq : Cmp} → Draws meant ns i (cmp qq) → CRenames f Heard pp qq → Redraws i (cmp pp)

  two_std : {c d i : ℕ} {s : State} {p q : Std} → ((p' q' : Std) → Draws meant ns c (std p') → Draws meant ns d (std q') → Renames f Heard p p' → Renames f Heard q q' → Redraws i s) → Redraws c (std p) → Redraws d (std q) → Redraws i s
  two_std make (as_std x h) (as_std y k) = make _ _ x y h k

  two_cmp : {c d i : ℕ} {s : State} {pp qq : Cmp} → ((pp' qq' : Cmp) → Draws meant ns c (cmp pp') → Draws meant ns d (cmp qq') → CRenames f Heard pp pp' → CRenames f Heard qq qq' → Redraws i s) → Redraws c (cmp pp) → Redraws d (cmp qq) → Redraws i s
  two_cmp make (as_cmp x h) (as_cmp y k) = make _ _ x y h k

  the_block : {c i : ℕ} {pp : Cmp} → node ns i ≡ Block c → Redraws c (cmp pp) → Redraws i (std (blk pp))
  the_block n (as_cmp x h) = as_std (at_block n x) (of_blk h)

  the_flow : {s : State} → FineTable ns → Redraws (root ns) s → RenamesState f Heard s (flow_by meant ns)
  the_flow {s} fine (as_std d h) = subst (RenamesState f Heard s) (flow_only meant ns fine _ d) (of_std h)
  the_flow {s} fine (as_cmp d h) = subst (RenamesState f Heard s) (flow_only meant ns fine _ d) (of_cmp h)

module _ (f : ℕ → ℕ) (Heard : ℕ → Type 0) (asked meant : Legend) (ns : List ℕ) (fine : FineTable ns)
    (right : (i e : ℕ) → i < count ns → node ns i ≡ Event e → (a : ℕ) → Heard a → (meant.leaves e).takes a ≡ (asked.leaves e).takes (f a))
    (alike : (k : ℕ) → k < most_sets → (a : ℕ) → Heard a → meant.sets k a ≡ asked.sets k (f a)) where
  -- a child is one of the table's
  kid_within : {i c : ℕ} → i < count ns → Kid (shape ns) i c → c < count ns
  kid_within {i} {c} w k = omega (arith, kid_lower ns fine i c k)

  redraws : {i : ℕ} {s : State} → Draws asked ns i s → i < count ns → Redraws f Heard meant ns i s
  redraws (at_event {i} {e} n) w = as_std (at_event n) (of_leaf (right i e w n))
  redraws (at_basic {b} n) w = as_std (at_basic n) (basic_renames f Heard b)
  redraws (at_standard {i} {o} {t} n d d') w = let k = two_kids ns i n t refl in two_std f Heard meant ns (λ p q x y h j. as_std (at_standard n x y) (standard_renames f Heard asked.sets meant.sets alike o h j)) (redraws d (kid_within w k.0)) (redraws d' (kid_within w k.1))
  redraws (at_handler {i} {t} n d d') w = let k = two_kids ns i n t refl in two_std f Heard meant ns (λ p q x y h j. as_std (at_handler n x y) (of_hnd h j)) (redraws d (kid_within w k.0)) (redraws d' (kid_within w k.1))
  redraws (at_block {i} {c} n d) w = the_block f Heard meant ns n (redraws d (kid_within w (one_kid ns i n c refl)))
  redraws (at_pair {i} {t} n d d') w = let k = two_kids ns i n t refl in two_std f Heard meant ns (λ p q x y h j. as_cmp (at_pair n x y) (of_pair h j)) (redraws d (kid_within w k.0)) (redraws d' (kid_within w k.1))
  redraws (at_compensable {i} {o} {t} n d d') w = let k = two_kids ns i n t refl in two_cmp f Heard meant ns (λ pp qq x y h j. as_cmp (at_compensable n x y) (compensable_renames f Heard asked.sets meant.sets alike o h j)) (redraws d (kid_within w k.0)) (redraws d' (kid_within w k.1))
  redraws (at_paired {b} n) w = as_cmp (at_paired n) (paired_renames f Heard b)

  pub flows_renamed : RenamesState f Heard (flow_by asked ns) (flow_by meant ns)
  flows_renamed = the_flow f Heard meant ns fine (redraws (flow_drawn asked ns fine) (omega (arith, fine.some)))

---- The search by cues ----

module _ (legend : Legend) (other : ℕ → ℕ) (ns rs : List ℕ)
    (fine : FineTable ns)
    (known : (i : ℕ) → i < length rs → no_record (get_or rs i 0) ≡ false)
    (Heard : ℕ → Type 0)
    (heard : (i : ℕ) → i < length rs → get_or rs i 0 ≤ most_events → Heard (get_or rs i 0))
    (small : (a : ℕ) → Heard a → (a ≤ most_events) × (other a ≤ most_events))
    (right : (i e : ℕ) → i < count ns → node ns i ≡ Event e → (a : ℕ) → Heard a → (legend.leaves e).takes a ≡ (eqb a e || eqb (other a) e)) where
  abbrev cues : List ℕ
  cues = map (cue_of (masked legend.sets) other) rs

  sound : (i : ℕ) → i < length rs → Sound Heard (get_or rs i 0)
  sound i h = record { known = known i h; heard = heard i h }

  cued_records : cue_records cues ≡ map (renamed (event_as legend.sets other)) (records rs)
  cued_records = cues_renamed Heard legend.sets other small (all_places rs sound)

  cued_flow : RenamesState (event_as legend.sets other) Heard (flow_by cued ns) (flow_by legend ns)
  cued_flow =
      flows_renamed (event_as legend.sets other) Heard cued legend ns fine
      (λ i e w n a u. right i e w n a u ∙ sym (takes_cue_is a (masked legend.sets a) (other a) e (small a u).0 (mask_low legend.sets other a)))
      (λ k l a u. sym (joint_cue_is a (other a) k legend.sets (small a u).0 l))

  heard_in : HeardIn Heard (records rs)
  heard_in = all_heard Heard (all_places rs sound)

  pub cued_judge : (allowance : ℕ) → judge (flow_by cued ns) (cue_records cues) allowance ≡ judge (flow_by legend ns) (records rs) allowance
  cued_judge allowance = rw cued_records (sym (judge_renamed (event_as legend.sets other) Heard cued_flow heard_in allowance))

  -- some run follows these records
  pub cued_passes : passes (cue_records cues) (flow_by cued ns) ≡ passes (records rs) (flow_by legend ns)
  cued_passes = rw cued_records (sym (passes_renamed (event_as legend.sets other) Heard cued_flow heard_in))

  -- the states entered in all runs of them
  pub cued_entered : entered (cue_records cues) (flow_by cued ns) ≡ entered (records rs) (flow_by legend ns)
  cued_entered = rw cued_records (sym (entered_renamed (event_as legend.sets other) Heard cued_flow heard_in))

  pub cued_fits : Fits (flow_by legend ns) (records rs) → Fits (flow_by cued ns) (cue_records cues)
  cued_fits c = rw cued_records (fits_renamed (event_as legend.sets other) Heard (records rs) cued_flow c)

  pub cued_begins : Begins (flow_by legend ns) (records rs) → Begins (flow_by cued ns) (cue_records cues)
  cued_begins b = rw cued_records (begins_renamed (event_as legend.sets other) Heard (records rs) cued_flow b)

  pub cued_within : Within (flow_by legend ns) (records rs) → Within (flow_by cued ns) (cue_records cues)
  cued_within w = rw cued_records (within_renamed (event_as legend.sets other) Heard (records rs) cued_flow w)

  pub cues_low : (i : ℕ) → i < length rs → get_or cues i 0 ≤ failed_cue
  cues_low i h = rw (place_map (cue_of (masked legend.sets) other) rs i h) (cue_low legend.sets other (get_or rs i 0) (known i h) (sound_low Heard legend.sets other small (get_or rs i 0) (sound i h)))
