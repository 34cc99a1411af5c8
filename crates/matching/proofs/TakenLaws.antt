-- Which events a leaf takes by the names (`taken_unnamed`, `taken_named`): its own, and if its entry has no machine, those whose entries have
-- its step name; and how these are found entry by entry (`step_more`). By their cues it takes the same (`takes_cue_is`). Assumes nothing.
use Rattle.std.specs.Prelude.{ℕ, zero, suc, ◌+◌, ◌/◌, ◌%◌, ◌<◌, ◌≤◌, Bool, ◌&&◌, ◌||◌, List, [], ◌∷◌, ◌++◌, ◌≡◌, ltb, length, get_or}
use Rattle.std.proofs.Math.Bool.{true, false, cond, or-false, and-false}
use Rattle.std.proofs.lemmas.Bool.{false≢true}
use Rattle.std.proofs.Math.Path.{refl, sym}
use Rattle.std.proofs.Common.{ap, ap₂, ◌∙◌, arith, length-append}
use borrow.Author.Tests.{eqb-true, eqb-false, ltb-true, ltb-false, lt-ltb, le-ltb, le-leb, eq-eqb, ne_eqb}
use Rattle.std.proofs.Math.Dec.{eqb}
use Rattle.std.proofs.Math.ListN.{get_or-append}
use Rattle.std.proofs.lemmas.List.{get_or_at}
use Rattle.flow.specs.Records.{most_events}
use Rattle.flow.specs.Cues.{cue, takes_cue, cue_of}
use Rattle.flow.specs.Tests.{neither_one, neither_two}
use Rattle.format.specs.Format.{Entry}
use Rattle.format.specs.Matching.{same_step, nobody, entry_of, no_machine, matches}
use Rattle.format.specs.EntryLaws.{Apart}
use Rattle.matching.specs.Others.{other}
use Rattle.matching.proofs.OtherLaws.{other_some, other_small, other_takes}
use Rattle.matching.specs.Asks.{takes_event, has_step}

---- The entries that have a step name ----

module _ (step : List ℕ) (es : List Entry) where
  has_step_in : (i : ℕ) → i < length es → has_step step es (suc i) ≡ same_step step (get_or es i nobody).step
  unfolding has_step
  has_step_in i h = rw (le-ltb (suc i) 1 (omega arith), le-ltb (length es) (suc i) (omega arith))

  has_step_out : (i : ℕ) → length es ≤ i → has_step step es (suc i) ≡ false
  unfolding has_step
  has_step_out i h = rw (le-ltb (suc i) 1 (omega arith), lt-ltb (length es) (suc i) (omega arith))

-- of no entries
pub step_none : (step : List ℕ) (a : ℕ) → has_step step [] a ≡ false
unfolding has_step
step_none step zero = refl
step_none step (suc i) = rw (le-ltb (suc i) 1 (omega arith), lt-ltb 0 (suc i) (omega arith))

-- one entry more
pub step_more : (step : List ℕ) (es : List Entry) (e : Entry) (a : ℕ)
    → has_step step (es ++ (e ∷ [])) a ≡ (has_step step es a || (eqb a (length es + 1) && same_step step e.step))
unfolding has_step
step_more step es e zero = rw (ne_eqb 0 (length es + 1) (λ d. omega arith))
step_more step es e (suc i) = by (ltb i (length es)) (eqb i (length es)) refl refl
  where
    more : List Entry
    more = es ++ (e ∷ [])

    long : length more ≡ length es + 1
    long = length-append es (e ∷ [])

    last : Bool → Bool
    last b = b && same_step step e.step

    by : (before here : Bool) → ltb i (length es) ≡ before → eqb i (length es) ≡ here
        → has_step step more (suc i) ≡ (has_step step es (suc i) || last (eqb (suc i) (length es + 1)))
    by true here p q =
        let h = ltb-true i (length es) p in
        has_step_in step more i (omega (arith, long))
        ∙ ap (λ (g : Entry). same_step step g.step) (get_or-append es (e ∷ []) nobody i h)
        ∙ sym (ap₂ (λ (b c : Bool). b || last c) (has_step_in step es i h) (ne_eqb (suc i) (length es + 1) (λ d. omega arith)) ∙ or-false _)
    by false true p q =
        let h = eqb-true i (length es) q in
        has_step_in step more i (omega (arith, long))
        ∙ ap (λ (g : Entry). same_step step g.step) (get_or_at es e [] nobody i (sym h))
        ∙ sym (ap₂ (λ (b c : Bool). b || last c) (has_step_out step es i (omega arith)) (eq-eqb (suc i) (length es + 1) (omega arith)))
    by false false p q =
        let h = ltb-false i (length es) p in
        let d = eqb-false i (length es) q in
        has_step_out step more i (omega (arith, long, d))
        ∙ sym (ap₂ (λ (b c : Bool). b || last c) (has_step_out step es i h) (ne_eqb (suc i) (length es + 1) (λ g. d (omega arith))))

---- What a leaf takes ----

-- the numbers of a cue are read back, whatever its mask is
pub takes_cue_is : (mask other : ℕ → ℕ) (a e : ℕ) → a ≤ most_events → mask a < 65536 → takes_cue (cue_of mask other a) e ≡ takes_event other a e
unfolding takes_cue cue_of
takes_cue_is mask other a e h l =
    let one : cue a (mask a) (other a) % 65536 ≡ a = omega arith in
    let two : cue a (mask a) (other a) / 4294967296 ≡ other a = omega arith in
    rw (le-leb a most_events h) (ap₂ (λ (x y : ℕ). eqb x e || eqb y e) one two)

twice : (b : Bool) → (b || b) ≡ b
twice true = refl
twice false = refl

-- an event beside itself
pub takes_own : (other : ℕ → ℕ) (a e : ℕ) → other a ≡ a → takes_event other a e ≡ eqb a e
takes_own other a e d = ap (λ (b : ℕ). eqb a e || eqb b e) d ∙ twice (eqb a e)

module _ (es : List Entry) (e a : ℕ) where
  -- whether an event has no entry
  abbrev out : ℕ → Bool
  out r = ltb r 1 || ltb (length es) r

  other_out : out a ≡ true → other es a ≡ a
  unfolding other
  other_out t = rw t

  in_low : (r : ℕ) → out r ≡ false → 1 ≤ r
  in_low r t = ltb-false r 1 (neither_one (ltb r 1) (ltb (length es) r) t)

  in_high : (r : ℕ) → out r ≡ false → r ≤ length es
  in_high r t = ltb-false (length es) r (neither_two (ltb r 1) (ltb (length es) r) t)

  -- a leaf whose event has no entry takes it alone
  pub taken_unnamed : out e ≡ true → takes_event (other es) a e ≡ eqb a e
  taken_unnamed t = by (out a) refl
    where
      apart : out a ≡ false → other es a ≡ e → ⊥
      apart u d =
          let low : 1 ≤ e = omega (arith, other_some es a (in_low a u)) in
          let high : e ≤ length es = omega (arith, other_small es a (length es) (in_high a u) (omega arith)) in
          let inside : out e ≡ false = rw (le-ltb e 1 low, le-ltb (length es) e high) in
          false≢true (sym inside ∙ t)

      by : (b : Bool) → out a ≡ b → takes_event (other es) a e ≡ eqb a e
      by true u = takes_own (other es) a e (other_out u)
      by false u = ap (λ (b : Bool). eqb a e || b) (ne_eqb (other es a) e (apart u)) ∙ or-false (eqb a e)

  pub taken_named : Apart es → out e ≡ false
      → takes_event (other es) a e ≡ (eqb a e || (no_machine (entry_of es e) && has_step (entry_of es e).step es a))
  unfolding has_step matches
  taken_named apart t = by (out a) refl
    where
      by : (b : Bool) → out a ≡ b → takes_event (other es) a e ≡ (eqb a e || (no_machine (entry_of es e) && cond b false (same_step (entry_of es e).step (entry_of es a).step)))
      by true u = takes_own (other es) a e (other_out u) ∙ sym (ap (λ (c : Bool). eqb a e || c) (and-false (no_machine (entry_of es e))) ∙ or-false (eqb a e))
      by false u = sym (other_takes es apart e a (in_low e t) (in_high e t) (in_low a u) (in_high a u))
