-- What the code learns on its way: entries one after the other, and the cues that stand at the front of a table. Assumes nothing.
use Prim.Native.Nat.{ℕ, zero, suc, ◌+◌, ◌-◌, ◌<◌, ◌≤◌}
use Rattle.std.specs.Prelude.{Bool, true, false, ◌||◌, cond, Some, None, List, [], ◌∷◌, ◌++◌, map, ◌≡◌, length, get_or, take, set}
use Rattle.std.proofs.lemmas.List.{map-append, length-map}
use Rattle.std.proofs.Math.Path.{refl, ap}
use Rattle.std.proofs.Common.{subst, ap₂, sym, ◌∙◌, add-one, ltb-false, take-suc, length-take-le}
use native.Mathlib.Omega.{arith}
use Rattle.std.proofs.Math.Dec.{ltb}
use Rattle.flow.specs.Tests.{neither_one, neither_two}
use Rattle.format.specs.Format.{Entry}
use Rattle.format.specs.Matching.{nobody, entry_of}
use Rattle.format.specs.ListChecks.{entries_in, Whole}
use Rattle.format.specs.Told.{at_front}
use Rattle.format.specs.Items.{number_at, name_at, entry_at, entry_end, entries_at, entries_end}
use Rattle.format.specs.SectionLaws.{entries_end_le, entries_end_more, front_set}
use Rattle.format.specs.EntryLaws.{whole_there}
use Rattle.matching.specs.Others.{takes_step, first_taking, other}
use Rattle.matching.specs.Entries.{entry_place}
use Rattle.matching.proofs.OtherLaws.{other_first}

---- Entries in a names section ----

module _ (s : List ℕ) where
  -- an entry stands behind those before it
  pub nth_entry : (i k at : ℕ) → i < k → get_or (entries_at s k at) i nobody ≡ entry_at s (entries_end s i at)
  unfolding entries_at entries_end
  nth_entry i zero at h = absurd (omega arith)
  nth_entry zero (suc k) at h = refl
  nth_entry (suc i) (suc k) at h = nth_entry i k (entry_end s at) (omega arith)

  -- and ends before those behind it
  pub nth_entry_ends : (i k at : ℕ) → i < k → entry_end s (entries_end s i at) ≤ entries_end s k at
  unfolding entries_end
  nth_entry_ends i zero at h = absurd (omega arith)
  nth_entry_ends zero (suc k) at h = entries_end_le s k (entry_end s at)
  nth_entry_ends (suc i) (suc k) at h = nth_entry_ends i k (entry_end s at) (omega arith)

  -- so as the entries are passed one by one, the next is one of them
  pub passed_inside : (i k : ℕ) {at : ℕ} → i < k → at ≡ entries_end s i 2 → entries_end s k 2 ≤ length s → entry_end s at ≤ length s
  passed_inside i k h here l = rw here (omega (arith, nth_entry_ends i k 2 h))

  pub passed_more : (i : ℕ) {at next : ℕ} → at ≡ entries_end s i 2 → next ≡ entry_end s at → next ≡ entries_end s (i + 1) 2
  passed_more i here e = e ∙ ap (entry_end s) here ∙ sym (entries_end_more s i 2) ∙ ap (λ (n : ℕ). entries_end s n 2) (sym (add-one i))

---- Entries that are left ----

module _ (s : List ℕ) where
  -- the ends of those behind the first of them
  pub left_ends : (left at : ℕ) → 0 < left → entries_end s left at ≡ entries_end s (left - 1) (entry_end s at)
  unfolding entries_end
  left_ends zero at h = absurd (omega arith)
  left_ends (suc k) at h = let d : k ≡ suc k - 1 = omega arith in ap (λ (n : ℕ). entries_end s n (entry_end s at)) d

  pub left_inside : (left at : ℕ) → 0 < left → entries_end s left at ≤ length s → entry_end s at ≤ length s
  left_inside left at h l = omega (arith, entries_end_le s (left - 1) (entry_end s at), left_ends left at h)

---- The first that takes a step name ----

-- of k entries, entry i + 1 stands at an offset, and `k - i` are left
module _ (s step : List ℕ) (own k i at : ℕ) where
  module _ (h : i < k) where
    left : k - i ≡ suc (k - (i + 1))
    left = omega arith

    pub taking_hit : takes_step step (entry_at s at) ≡ true → first_taking step own (entries_at s (k - i) at) (i + 1) ≡ i + 1
    unfolding first_taking entries_at
    taking_hit t = ap (λ (n : ℕ). first_taking step own (entries_at s n at) (i + 1)) left ∙ rw t

    pub taking_miss : takes_step step (entry_at s at) ≡ false
        → first_taking step own (entries_at s (k - i) at) (i + 1) ≡ first_taking step own (entries_at s (k - (i + 1)) (entry_end s at)) (i + 1 + 1)
    unfolding first_taking entries_at
    taking_miss t = ap (λ (n : ℕ). first_taking step own (entries_at s n at) (i + 1)) left ∙ rw t

  pub taking_none : k ≤ i → first_taking step own (entries_at s (k - i) at) (i + 1) ≡ own
  unfolding first_taking entries_at
  taking_none h = let z : k - i ≡ 0 = omega arith in ap (λ (n : ℕ). first_taking step own (entries_at s n at) (i + 1)) z

---- The entry of an event, by the bytes ----

entry_before : (es : List Entry) (k : ℕ) → 1 ≤ k → entry_of es k ≡ get_or es (k - 1) nobody
entry_before es zero h = absurd (omega arith)
entry_before es (suc i) h = let d : i ≡ suc i - 1 = omega arith in ap (λ (n : ℕ). get_or es n nobody) d

module _ (s : List ℕ) (w : Whole s) where
  pub whole_long : 2 ≤ length s
  whole_long = omega (arith, entries_end_le s (length (entries_in s)) 2, (whole_there s w).inside)

  pub count_is : {count : ℕ} → count ≡ number_at s 0 → count ≡ length (entries_in s)
  count_is counted = counted ∙ (whole_there s w).counted

  -- so many entries are all of them, and end within
  module _ {count : ℕ} (counted : count ≡ number_at s 0) where
    pub entries_are : entries_at s count 2 ≡ entries_in s
    entries_are = ap (λ (n : ℕ). entries_at s n 2) (count_is counted) ∙ sym (whole_there s w).is

    pub entries_inside : entries_end s count 2 ≤ length s
    entries_inside = subst (λ (n : ℕ). entries_end s n 2 ≤ length s) (sym (count_is counted)) (whole_there s w).inside

  -- each of the entries, as they are passed
  pub each_inside : (i : ℕ) {at : ℕ} → i < length (entries_in s) → at ≡ entries_end s i 2 → entry_end s at ≤ length s
  each_inside i h here = passed_inside s i (length (entries_in s)) h here (whole_there s w).inside

  -- an event that has an entry
  module _ (event : ℕ) (t : (ltb event 1 || ltb (length (entries_in s)) event) ≡ false) where
    pub from_one : 1 ≤ event
    from_one = ltb-false event 1 (neither_one (ltb event 1) (ltb (length (entries_in s)) event) t)

    to_count : event ≤ length (entries_in s)
    to_count = ltb-false (length (entries_in s)) event (neither_two (ltb event 1) (ltb (length (entries_in s)) event) t)

    pub entry_inside : entry_end s (entries_end s (event - 1) 2) ≤ length s
    entry_inside = each_inside (event - 1) (omega (arith, from_one, to_count)) refl

    pub entries_before : entries_end s (event - 1) 2 ≤ length s
    entries_before = omega (arith, entry_inside)

    pub entry_is : entry_of (entries_in s) event ≡ entry_at s (entries_end s (event - 1) 2)
    entry_is =
        let es = entries_in s in
        entry_before es event from_one ∙ ap (λ (ds : List Entry). get_or ds (event - 1) nobody) (whole_there s w).is
        ∙ nth_entry s (event - 1) (length es) 2 (omega (arith, from_one, to_count))

  -- none, and its place
  pub unplaced : (event : ℕ) → None ≡ entry_place s event → (ltb event 1 || ltb (length (entries_in s)) event) ≡ true
  unfolding entry_place
  unplaced event is = by (ltb event 1 || ltb (length (entries_in s)) event) is
    where
      by : (b : Bool) → None ≡ cond b None (Some (entries_end s (event - 1) 2)) → b ≡ true
      by true e = refl
      by false e = cc

  pub no_other : (event : ℕ) → None ≡ entry_place s event → event ≡ other (entries_in s) event
  unfolding other
  no_other event is = rw (unplaced event is)

  module _ (event : ℕ) {at : ℕ} (is : Some at ≡ entry_place s event) where
    pub placed : ((ltb event 1 || ltb (length (entries_in s)) event) ≡ false) × (at ≡ entries_end s (event - 1) 2)
    unfolding entry_place
    placed = by (ltb event 1 || ltb (length (entries_in s)) event) is
      where
        by : (b : Bool) → Some at ≡ cond b None (Some (entries_end s (event - 1) 2)) → (b ≡ false) × (at ≡ entries_end s (event - 1) 2)
        by true e = cc
        by false e = (refl, cc)

    pub placed_inside : entry_end s at ≤ length s
    placed_inside = rw placed.1 (entry_inside event placed.0)

    pub placed_is : entry_of (entries_in s) event ≡ entry_at s at
    placed_is = entry_is event placed.0 ∙ ap (entry_at s) (sym placed.1)

    pub has_other : first_taking (name_at s at) event (entries_in s) 1 ≡ other (entries_in s) event
    has_other =
        ap (λ (e : Entry). first_taking e.step event (entries_in s) 1) (sym placed_is)
        ∙ sym (other_first (entries_in s) event (from_one event placed.0) (to_count event placed.0))

---- At the front of a table ----

-- what comes of one number more of a list
pub front_next : (f : ℕ → ℕ) (ns table : List ℕ) (i : ℕ) {filled : List ℕ} {v : ℕ} → i < length ns → i < length table
    → filled ≡ at_front (map f (take i ns)) table → v ≡ f (get_or ns i 0) → set filled i v ≡ at_front (map f (take (i + 1) ns)) table
front_next f ns table i h l is here =
    let sized : length (map f (take i ns)) ≡ i = length-map (take i ns) f ∙ length-take-le i ns (omega arith) in
    let more : map f (take (i + 1) ns) ≡ map f (take i ns) ++ (f (get_or ns i 0) ∷ []) =
    ap (λ (k : ℕ). map f (take k ns)) (add-one i) ∙ ap (map f) (take-suc ns i 0 h) ∙ map-append f (take i ns) (get_or ns i 0 ∷ []) in
    ap₂ (λ (xs : List ℕ) (n : ℕ). set xs i n) is here ∙ front_set (map f (take i ns)) (f (get_or ns i 0)) table sized l ∙ ap (λ (xs : List ℕ). at_front xs table) (sym more)
