-- The entries of a names section that stands alone: where they stand in its bytes, that no two of them are the same, which 18 sees to,
-- and that no step name is empty, which 17 sees to (`alone_there`, `whole_there`). Assumes nothing.
use Rattle.std.specs.Prelude.{ℕ, zero, suc, ◌+◌, ◌-◌, ◌≤◌, ◌<◌, false, List, [], ◌∷◌, ◌++◌, ◌⊎◌, ◌≡◌, length, get_or}
use Rattle.std.proofs.Common.{inl, inr, ap, ap₂, sym, ◌∙◌, subst, add-one, arith, length-append}
use Rattle.std.proofs.Math.Path.{refl}
use Rattle.std.proofs.Math.ListN.{get_or-append}
use Rattle.std.proofs.lemmas.List.{get_or_at}
use Rattle.flow.specs.Tests.{neither_one, neither_two}
use Rattle.format.specs.Format.{Entry}
use Rattle.format.specs.Limits.{name_count, step_length}
use Rattle.format.specs.Matching.{nobody}
use Rattle.format.specs.Plan.{Ran, got, bad, run}
use Rattle.format.specs.Sections.{number, ranged, same_entry, met, entry, new_entry, names}
use Rattle.format.specs.Items.{entry_at, entries_at, entries_end}
use Rattle.format.specs.ListChecks.{section_alone, Whole, entries_in}
use Rattle.format.specs.ItemLaws.{le_or_lt, got_value, got_not_bad, number_there, ranged_there, name_there, name_length, entry_runs}
use Rattle.format.specs.SectionLaws.{NewThere, Scanned, entries_at_more, entries_at_length, new_entry_there, names_bad, names_there, scan_start, scan_stop, scan_more, scan_end}
use Rattle.format.specs.ListLaws.{alone_run}
pub use Rattle.format.specs.There.{Apart, Stepped, AloneThere}

---- One entry more ----

-- an entry that was not met is not the same as any of them
pub met_misses : (e : Entry) (gs : List Entry) → met e gs ≡ false → (i : ℕ) → i < length gs → same_entry (get_or gs i nobody) e ≡ false
unfolding met
met_misses e [] q i h = absurd (omega arith)
met_misses e (g ∷ gs) q zero h = neither_one (same_entry g e) (met e gs) q
met_misses e (g ∷ gs) q (suc i) h = met_misses e gs (neither_two (same_entry g e) (met e gs) q) i (omega arith)

pub apart_more : (es : List Entry) (e : Entry) → Apart es → met e es ≡ false → Apart (es ++ (e ∷ []))
apart_more es e a q i j l h = by (le_or_lt (length es) j)
  where
    by : (length es ≤ j) ⊎ (j < length es) → same_entry (get_or (es ++ (e ∷ [])) i nobody) (get_or (es ++ (e ∷ [])) j nobody) ≡ false
    by (inl m) =
        let d : length es ≡ j = omega (arith, length-append es (e ∷ [])) in
        ap₂ same_entry (get_or-append es (e ∷ []) nobody i (omega arith)) (get_or_at es e [] nobody j d) ∙ met_misses e es q i (omega arith)
    by (inr m) =
        ap₂ same_entry (get_or-append es (e ∷ []) nobody i (omega arith)) (get_or-append es (e ∷ []) nobody j m) ∙ a i j l m

-- an entry that was read has a step name
pub entry_stepped : (s : List ℕ) (at : ℕ) {e : Entry} {next : ℕ} → run s at entry ≡ got e next → 1 ≤ length e.step
entry_stepped s at h =
    let t = name_there s at step_length (entry_runs s at h).step_run in
    omega (arith, t.low, ap length t.bytes, name_length s at t.inside)

pub stepped_more : (es : List Entry) (e : Entry) → Stepped es → 1 ≤ length e.step → Stepped (es ++ (e ∷ []))
stepped_more es e k q i h = by (le_or_lt (length es) i)
  where
    by : (length es ≤ i) ⊎ (i < length es) → 1 ≤ length (get_or (es ++ (e ∷ [])) i nobody).step
    by (inl m) = let d : length es ≡ i = omega (arith, length-append es (e ∷ [])) in rw (get_or_at es e [] nobody i d) q
    by (inr m) = rw (get_or-append es (e ∷ []) nobody i m) (k i m)

---- The scan ----

-- what holds of no entries, and of one more where a new one is read, holds of all that were read
module _ (s : List ℕ) (P : List Entry → Type 0) (keeps : (earlier : List Entry) (at : ℕ) (g : Entry) (m : ℕ) → NewThere s at earlier g m → P earlier → P (earlier ++ (g ∷ [])))
    {es : List Entry} {next : ℕ} (e : run s 0 names ≡ got es next) where
  scan_keeps : (k : ℕ) {n i at : ℕ} → Scanned s n i at → P (entries_at s i 2) → n - i ≡ k → (length es ≡ n) × P es
  scan_keeps zero {n} {i} {at} h a z =
      let g = got_value (sym e ∙ scan_end s h (omega arith)) in
      let d : i ≡ n = omega (arith, h.some) in
      (ap length g ∙ entries_at_length s n 2, subst P (ap (λ (k : ℕ). entries_at s k 2) d ∙ sym g) a)
  scan_keeps (suc k) {n} {i} {at} h a z = by (λ m h' a'. scan_keeps k h' a' (omega arith)) (run s at (new_entry (entries_at s i 2))) refl
    where
      by : ((m : ℕ) → Scanned s n (i + 1) m → P (entries_at s (i + 1) 2) → (length es ≡ n) × P es)
          → (x : Ran Entry) → run s at (new_entry (entries_at s i 2)) ≡ x → (length es ≡ n) × P es
      by rec (got g m) r =
          let t = new_entry_there s at (entries_at s i 2) r in
          let d : g ≡ entry_at s (entries_end s i 2) = t.there.is ∙ ap (entry_at s) h.here in
          let more : entries_at s i 2 ++ (g ∷ []) ≡ entries_at s (i + 1) 2 =
          ap (λ (x : Entry). entries_at s i 2 ++ (x ∷ [])) d ∙ sym (entries_at_more s i 2) ∙ ap (λ (j : ℕ). entries_at s j 2) (sym (add-one i)) in
          rec m (scan_more s h (omega arith) r) (subst P more (keeps (entries_at s i 2) at g m t a))
      by rec (bad n' p) r = got_not_bad e (scan_stop s h (omega arith) r)

---- A names section by itself ----

module _ (s : List ℕ) where
  pub alone_there : {es : List Entry} {at : ℕ} → section_alone s ≡ got es at → AloneThere s es
  unfolding entries_at
  alone_there {es} {at} e = by (run s 0 (ranged name_count number)) refl
    where
      r : run s 0 names ≡ got es at
      r = alone_run s e

      by : (x : Ran ℕ) → run s 0 (ranged name_count number) ≡ x → AloneThere s es
      by (got v m) q =
          let n = number_there s 0 (ranged_there s 0 name_count number q).read in
          let a = scan_keeps s Apart (λ gs k g l f p. apart_more gs g p f.new) r (v - 0) (scan_start s q) (λ i j l h. absurd (omega arith)) refl in
          let b = scan_keeps s Stepped (λ gs k g l f p. stepped_more gs g p (entry_stepped s k f.read)) r (v - 0) (scan_start s q) (λ i h. absurd (omega arith)) refl in
          let t = names_there s r in
          record {
            counted = sym n.is ∙ sym a.0;
            is = t.is;
            inside = omega (arith, t.ends, t.inside);
            few = t.few;
            apart = a.1;
            stepped = b.1;
          }
      by (bad k p) q = got_not_bad r (names_bad s q)

  -- the same of the entries that are in it
  pub whole_there : Whole s → AloneThere s (entries_in s)
  whole_there w = alone_there w.is
