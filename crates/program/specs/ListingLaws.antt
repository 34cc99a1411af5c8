-- A name as the bytes between two offsets (`name_slice`), and where the entry of an event stands in a names section that is not refused, with
-- how long its names are (`entry_here`). Assumes nothing.
use Rattle.std.specs.Prelude.{ℕ, zero, suc, ◌+◌, ◌-◌, ◌≤◌, ◌<◌, ◌⊎◌, List, [], ◌∷◌, ◌++◌, ◌≡◌, length, get_or, take, drop}
use Rattle.std.proofs.Common.{arith, add-one, inl, inr, sym, ap, ◌∙◌, subst, length-append}
use Rattle.std.proofs.Math.Path.{refl}
use Rattle.std.proofs.Math.ListN.{get_or-append}
use Rattle.std.proofs.lemmas.List.{get_or_at}
use Rattle.format.specs.declared.Range.{Range}
use Rattle.format.specs.Format.{Entry}
use Rattle.format.specs.Limits.{step_length, machine_length, name_count, InRange, GoodEntry}
use Rattle.format.specs.Matching.{nobody, entry_of}
use Rattle.format.specs.Plan.{Ran, got, bad, run}
use Rattle.format.specs.Sections.{number, ranged, entry, new_entry, names}
use Rattle.format.specs.Items.{name_at, name_end, entry_at, entry_end, entries_at, entries_end}
use Rattle.format.specs.ListChecks.{entries_in, Whole}
use Rattle.format.specs.There.{NameThere, Scanned}
use Rattle.format.specs.ItemLaws.{le_or_lt, got_value, got_not_bad, name_length, name_there, entry_runs}
use Rattle.format.specs.SectionLaws.{entries_at_more, new_entry_there, names_bad, scan_start, scan_stop, scan_more, scan_end}
use Rattle.format.specs.ListLaws.{alone_run}
use Rattle.format.specs.EntryLaws.{whole_there}
use Rattle.matching.proofs.CueLaws.{nth_entry, nth_entry_ends}

---- The lengths of names ----

-- the bytes between a name's length byte and its end
pub name_slice : (s : List ℕ) (at : ℕ) {end : ℕ} → end ≡ name_end s at → take (end - (at + 1)) (drop (at + 1) s) ≡ name_at s at
name_slice s at {end} e =
    let l : end - (at + 1) ≡ get_or s at 0 = omega (arith, e) in
    ap (λ (n : ℕ). take n (drop (at + 1) s)) l

-- a name that was read is as long as it may be
name_good : (s : List ℕ) (at : ℕ) (g : Range) {n : List ℕ} {next : ℕ} → NameThere s at g n next → InRange g (length n)
name_good s at g t =
    let l = ap length t.bytes ∙ name_length s at t.inside in
    record { low = omega (arith, t.low); high = omega (arith, t.high) }

entry_good : (s : List ℕ) (at : ℕ) {e : Entry} {next : ℕ} → run s at entry ≡ got e next → GoodEntry e
entry_good s at h =
    let r = entry_runs s at h in
    record {
      step_good = name_good s at step_length (name_there s at step_length r.step_run);
      machine_good = name_good s r.mid machine_length (name_there s r.mid machine_length r.machine_run);
    }

abbrev AllGood : List Entry → Type 0
AllGood es = (i : ℕ) → i < length es → GoodEntry (get_or es i nobody)

good_more : (es : List Entry) (e : Entry) → AllGood es → GoodEntry e → AllGood (es ++ (e ∷ []))
good_more es e a g i h = by (le_or_lt (length es) i)
  where
    by : (length es ≤ i) ⊎ (i < length es) → GoodEntry (get_or (es ++ (e ∷ [])) i nobody)
    by (inl m) =
        let d : length es ≡ i = omega (arith, length-append es (e ∷ [])) in
        subst GoodEntry (sym (get_or_at es e [] nobody i d)) g
    by (inr m) = subst GoodEntry (sym (get_or-append es (e ∷ []) nobody i m)) (a i m)

module _ (s : List ℕ) {es : List Entry} {next : ℕ} (e : run s 0 names ≡ got es next) where
  scan_good : (k : ℕ) {n i at : ℕ} → Scanned s n i at → AllGood (entries_at s i 2) → n - i ≡ k → AllGood es
  scan_good zero {n} {i} {at} h a z =
      let d : i ≡ n = omega (arith, h.some) in
      subst AllGood (ap (λ (k : ℕ). entries_at s k 2) d ∙ sym (got_value (sym e ∙ scan_end s h (omega arith)))) a
  scan_good (suc k) {n} {i} {at} h a z = by (λ m h' a'. scan_good k h' a' (omega arith)) (run s at (new_entry (entries_at s i 2))) refl
    where
      by : ((m : ℕ) → Scanned s n (i + 1) m → AllGood (entries_at s (i + 1) 2) → AllGood es) → (x : Ran Entry) → run s at (new_entry (entries_at s i 2)) ≡ x → AllGood es
      by rec (got g m) r =
          let t = new_entry_there s at (entries_at s i 2) r in
          let d : g ≡ entry_at s (entries_end s i 2) = t.there.is ∙ ap (entry_at s) h.here in
          let more : entries_at s i 2 ++ (g ∷ []) ≡ entries_at s (i + 1) 2 =
          ap (λ (x : Entry). entries_at s i 2 ++ (x ∷ [])) d ∙ sym (entries_at_more s i 2) ∙ ap (λ (j : ℕ). entries_at s j 2) (sym (add-one i)) in
          rec m (scan_more s h (omega arith) r) (subst AllGood more (good_more (entries_at s i 2) g a (entry_good s at t.read)))
      by rec (bad n' p) r = got_not_bad e (scan_stop s h (omega arith) r)

  names_good : AllGood es
  unfolding entries_at
  names_good = by (run s 0 (ranged name_count number)) refl
    where
      by : (x : Ran ℕ) → run s 0 (ranged name_count number) ≡ x → AllGood es
      by (got v m) q = scan_good (v - 0) (scan_start s q) (λ i h. absurd (omega arith)) refl
      by (bad n p) q = got_not_bad e (names_bad s q)

---- The entry of an event ----

-- the entry of an event stands at an offset, and its names are as long as they may be
pub record EntryHere (s : List ℕ) (event at : ℕ) : Type 0 where
  pub is : entry_of (entries_in s) event ≡ entry_at s at
  pub inside : entry_end s at ≤ length s
  pub good : GoodEntry (entry_at s at)

pub entry_here : (s : List ℕ) → Whole s → (event : ℕ) → 1 ≤ event → event ≤ length (entries_in s) → EntryHere s event (entries_end s (event - 1) 2)
entry_here s w zero low high = absurd (omega arith)
entry_here s w (suc i) low high =
    let es = entries_in s in
    let t = whole_there s w in
    let z : i ≡ suc i - 1 = omega arith in
    let is : get_or es i nobody ≡ entry_at s (entries_end s i 2) = ap (λ (ds : List Entry). get_or ds i nobody) t.is ∙ nth_entry s i (length es) 2 high in
    subst (λ (k : ℕ). EntryHere s (suc i) (entries_end s k 2)) z (record {
      is = is;
      inside = omega (arith, nth_entry_ends s i (length es) 2 high, t.inside);
      good = subst GoodEntry is (names_good s (alone_run s w.is) i high);
    })
