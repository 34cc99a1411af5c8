-- What the reader answers by the parts of `reading`, and the ways of a reading. Assumes nothing.
use Rattle.std.specs.Prelude.{ℕ, ◌*◌, ◌-◌, ◌/◌, ◌≤◌, ◌<◌, Bool, ◌||◌, List, ◌⊎◌, length, drop, Result, Ok, Err, ⊤}
use Rattle.std.proofs.Math.Bool.{true, false, cond}
use Rattle.std.proofs.Common.{inl, inr, sym, ◌∙◌, subst, arith, length-drop, take_all}
use Rattle.std.proofs.Math.Path.{◌≡◌, refl, ap}
use borrow.Author.Tests.{lt-ltb, le-ltb, ltb-true, ltb-false}
use Rattle.std.proofs.Math.Dec.{ltb}
use Rattle.flow.specs.declared.Refusal.{Refusal}
use Rattle.flow.specs.declared.Extent.TheVariants.{Whole}
use Rattle.flow.specs.Checks.{first}
use Rattle.format.specs.Format.{File}
use Rattle.format.specs.Plan.{Ran, got, bad, run}
use Rattle.format.specs.Sections.{layout}
use Rattle.format.specs.ContentChecks.{grounds_of, content_check}
use Rattle.format.specs.Items.{refusal_of, at_front, numbers_at}
use Rattle.format.specs.ItemLaws.{le_or_lt}
use Rattle.reader.specs.declared.Counts.{Counts}
use Rattle.reader.specs.declared.Offsets.{Offsets}
use Rattle.reader.specs.Reading.{Outcome, refused_outcome, counts_of, checked, laid, reading, ReadAs}
use Rattle.reader.specs.Laying.{Placed, Lays, lays_bad, lays_long, lays_at}
use Rattle.reader.specs.LayoutLaws.{layout_runs, nodes_there, lent_there, runs_end, placed_run, placed_nodes, placed_records}
pub use Rattle.reader.specs.Laying.{Way, few_nodes, few_records, stopped, longer, faulty, whole, ReadFile}

---- By the parts of a reading ----

module _ (s : List ℕ) where
  pub laid_checked : (x : Ran File) {f : File} → x ≡ got f (length s) → laid s x ≡ checked f (content_check f)
  unfolding laid
  laid_checked x {f} e = ap (laid s) e ∙ rw (le-ltb (length s) (length s) (omega arith))

  module _ (nr rr : ℕ) where
    pub reading_short : (nr < 192) ⊎ (rr < 256) → reading s nr rr ≡ refused_outcome (refusal_of 14 0)
    unfolding reading
    reading_short (inl h) = rw (lt-ltb nr 192 h)
    reading_short (inr h) = by (ltb nr 192)
      where
        by : (t : Bool) → cond (t || ltb rr 256) (refused_outcome (refusal_of 14 0)) (laid s (run s 0 layout)) ≡ refused_outcome (refusal_of 14 0)
        by true = refl
        by false = rw (lt-ltb rr 256 h)

    pub reading_laid : 192 ≤ nr → 256 ≤ rr → reading s nr rr ≡ laid s (run s 0 layout)
    unfolding reading
    reading_laid h l = rw (le-ltb nr 192 h, le-ltb rr 256 l)

---- The code's ways ----

-- a layout that is no refusal is placed, and any other is refused so
module _ (s : List ℕ) where
  pub lays_placed : {l : Result Offsets Refusal} {o : Offsets} → Lays s l → l ≡ Ok o → (f : File) × Placed s f o
  lays_placed (lays_bad e) h = let z : ◌≡◌ {A = ℕ} 0 1 = cc in absurd (omega arith)
  lays_placed (lays_long e g) h = let z : ◌≡◌ {A = ℕ} 0 1 = cc in absurd (omega arith)
  lays_placed {o} (lays_at {o = o₁} f p) h = let d : o₁ ≡ o = cc in (f, subst (Placed s f) d p)

  pub lays_refused : {l : Result Offsets Refusal} {r : Refusal} → Lays s l → l ≡ Err r → laid s (run s 0 layout) ≡ refused_outcome r
  unfolding laid
  lays_refused {r} (lays_bad {r = r₁} e) h = let d : r₁ ≡ r = cc in ap (laid s) e ∙ ap refused_outcome d
  lays_refused {r} (lays_long {f} {end} e g) h =
      let d : refusal_of 21 end ≡ r = cc in
      ap (laid s) e ∙ rw (lt-ltb end (length s) g) (ap refused_outcome d)
  lays_refused (lays_at f p) h = let z : ◌≡◌ {A = ℕ} 0 1 = cc in absurd (omega arith)

module _ (s nodes records : List ℕ) where
  -- an answer and two tables after, by what `reading` comes to
  pub read_as : {o : Outcome} {r : Result Counts Refusal} {nodes' records' : List ℕ} → reading s (length nodes) (length records) ≡ o
      → r ≡ o.answer → nodes' ≡ at_front o.nodes nodes → records' ≡ at_front o.records records → ReadAs s nodes records nodes' records' r
  read_as {o} e a n k =
      record {
        answer = a ∙ ap (λ (o' : Outcome). o'.answer) (sym e);
        nodes_after = n ∙ ap (λ (o' : Outcome). at_front o'.nodes nodes) (sym e);
        records_after = k ∙ ap (λ (o' : Outcome). at_front o'.records records) (sym e);
      }

  pub read_refused : {a : Result Counts Refusal} {r : Refusal} → a ≡ Err r → reading s (length nodes) (length records) ≡ refused_outcome r
      → ReadAs s nodes records nodes records a
  read_refused h e = read_as e h refl refl

  module _ {f : File} {o : Offsets} (p : Placed s f o) (h : 192 ≤ length nodes) (l : 256 ≤ length records) where
    -- the check of the numbers at their offsets
    abbrev pub checked_at : Result ⊤ Refusal
    checked_at = first (grounds_of Whole o.counts.names o.counts.sets (numbers_at s (3 * o.counts.nodes) o.nodes) (numbers_at s o.counts.records o.records))

    laid_contents : reading s (length nodes) (length records) ≡ checked f checked_at
    laid_contents =
        reading_laid s (length nodes) (length records) h l ∙ laid_checked s (run s 0 layout) (placed_run s p)
        ∙ (λ i. checked f (first (grounds_of Whole (sym p.counts_are i).names (sym p.counts_are i).sets (placed_nodes s p i) (placed_records s p i))))

    pub read_faulty : {k : Result ⊤ Refusal} {r : Refusal} → k ≡ checked_at → k ≡ Err r → reading s (length nodes) (length records) ≡ refused_outcome r
    unfolding checked
    read_faulty e g = laid_contents ∙ ap (checked f) (sym e ∙ g)

    pub read_fine : {k : Result ⊤ Refusal} → k ≡ checked_at → k ≡ Ok tt
        → reading s (length nodes) (length records)
        ≡ record { answer = Ok o.counts; nodes = numbers_at s (3 * o.counts.nodes) o.nodes; records = numbers_at s o.counts.records o.records }
    unfolding checked
    read_fine e g =
        laid_contents ∙ ap (checked f) (sym e ∙ g)
        ∙ (λ i. record { answer = Ok (sym p.counts_are i); nodes = placed_nodes s p i; records = placed_records s p i })

---- The ways of a reading ----

pub way : (s : List ℕ) (nr rr : ℕ) → Way s nr rr (reading s nr rr)
unfolding laid checked
way s nr rr = by_nodes (le_or_lt 192 nr)
  where
    by_check : 192 ≤ nr → 256 ≤ rr → (f : File) (end : ℕ) → run s 0 layout ≡ got f end → length s ≤ end → (k : Result ⊤ Refusal) → content_check f ≡ k → Way s nr rr (checked f k)
    by_check h l f end g w (Ok tt) c = whole f end h l g w c
    by_check h l f end g w (Err r) c = faulty f end h l g w c

    by_long : 192 ≤ nr → 256 ≤ rr → (f : File) (end : ℕ) → run s 0 layout ≡ got f end → (t : Bool) → ltb end (length s) ≡ t
        → Way s nr rr (cond t (refused_outcome (refusal_of 21 end)) (checked f (content_check f)))
    by_long h l f end g true q = longer f end h l g (ltb-true end (length s) q)
    by_long h l f end g false q = by_check h l f end g (ltb-false end (length s) q) (content_check f) refl

    by_run : 192 ≤ nr → 256 ≤ rr → (x : Ran File) → run s 0 layout ≡ x → Way s nr rr (laid s x)
    by_run h l (bad n p) g = stopped h l g
    by_run h l (got f end) g = by_long h l f end g (ltb end (length s)) refl

    by_records : 192 ≤ nr → (256 ≤ rr) ⊎ (rr < 256) → Way s nr rr (reading s nr rr)
    by_records h (inl l) = subst (Way s nr rr) (sym (reading_laid s nr rr h l)) (by_run h l (run s 0 layout) refl)
    by_records h (inr l) = subst (Way s nr rr) (sym (reading_short s nr rr (inr l))) (few_records l)

    by_nodes : (192 ≤ nr) ⊎ (nr < 192) → Way s nr rr (reading s nr rr)
    by_nodes (inl h) = by_records h (le_or_lt 256 rr)
    by_nodes (inr h) = subst (Way s nr rr) (sym (reading_short s nr rr (inl h))) (few_nodes h)

-- what is read is not refused
pub read_not_refused : {c : Counts} {r : Refusal} {C : Type 0} → ◌≡◌ {A = Result Counts Refusal} (Ok c) (Err r) → C
read_not_refused h = let z : ◌≡◌ {A = ℕ} 0 1 = cc in absurd (omega arith)

pub read_file : (s : List ℕ) (nr rr : ℕ) {c : Counts} → (reading s nr rr).answer ≡ Ok c → ReadFile s nr rr c
read_file s nr rr {c} e = by (way s nr rr) refl e
  where
    by : {o : Outcome} → Way s nr rr o → reading s nr rr ≡ o → o.answer ≡ Ok c → ReadFile s nr rr c
    by (few_nodes h) q a = read_not_refused (sym a)
    by (few_records h) q a = read_not_refused (sym a)
    by (stopped h l g) q a = read_not_refused (sym a)
    by (longer f end h l g w) q a = read_not_refused (sym a)
    by (faulty f end h l g w k) q a = read_not_refused (sym a)
    by (whole f end h l g w k) q a =
        let r = layout_runs s g in
        let t = nodes_there s r in
        let u = lent_there s r in
        let d : c ≡ counts_of f = cc in
        let n : c.nodes ≡ length f.nodes / 3 = ap (λ (c' : Counts). c'.nodes) d in
        let m : c.sets ≡ u.n = ap (λ (c' : Counts). c'.sets) d ∙ omega (arith, u.sized) in
        let at : c.sets_at ≡ end - 32 * u.n = ap (λ (c' : Counts). c'.sets_at) d ∙ omega (arith, runs_end s r, u.sized) in
        record {
          file = f;
          is = q;
          counted = d;
          whole_nodes = omega (arith, t.sized);
          some_nodes = omega (arith, t.sized, t.low);
          whole_sets = omega (arith, u.sized);
          sets_inside = omega (arith, u.inside);
          sets_are = ap (λ (k : ℕ). drop k s) at ∙ sym (take_all (32 * u.n) (drop (end - 32 * u.n) s) (rw length-drop (omega arith))) ∙ sym u.is;
        }
