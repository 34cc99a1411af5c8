-- What is asked is a number's cue (`ask_cue`), a closing's always (`ask_closing`), and what is not asked follows no beginning (`unasked`).
-- Of the table of all numbers: its length (`asks_length`), its entries (`asks_at`, `each_asked`), how high and how low what is asked there can
-- be (`asks_low`, `asks_apart`), and that what is not asked in it follows no beginning (`unasked_at`). Assumes nothing.
use Prim.Native.Nat.{ℕ, zero, suc, ◌<◌, ◌≤◌}
use Rattle.std.specs.Prelude.{Bool, ◌&&◌, ◌||◌, ◌⊎◌, ◌≡◌, eqb, ltb}
use Rattle.std.proofs.Math.Bool.{true, false, cond}
use mathlib.Core.List.{List, [], ◌∷◌, map}
use Rattle.std.proofs.Math.Logic.{inl, inr}
use Rattle.std.proofs.Math.Path.{refl}
use Rattle.std.proofs.Common.{ap, sym, ◌∙◌, subst, arith}
use borrow.Author.Tests.{eqb-true, eqb-false, lt-ltb, le-ltb, le-leb, lt-leb, ne_eqb}
use Rattle.std.proofs.Math.ListN.{length, get_or, length-map}
use Rattle.calculus.specs.Term.{Joint}
use Rattle.calculus.specs.Records.{Record, event}
use Rattle.calculus.specs.Ahead.{may_follow}
use Rattle.calculus.proofs.DeafLaws.{deaf_passes}
use Rattle.flow.specs.declared.Node.TheVariants.{Event}
use Rattle.flow.specs.Kinds.{form, node, one_of}
use Rattle.flow.specs.Records.{done_number, failed_number, most_events, all_numbers}
use Rattle.flow.specs.Refusals.{count}
use Rattle.flow.specs.Fine.{FineTable}
use Rattle.flow.specs.Drawn.{flow_by}
use Rattle.flow.specs.Cues.{cue, takes_cue, cued, closing_cue, done_cue, withdrawn_cue, failed_cue, cue_of, masked, cue_record}
use Rattle.flow.specs.Tests.{neither_one, neither_two, then_false}
use Rattle.flow.specs.EventLeaves.{event_first, event_leaf}
use Rattle.flow.specs.DeafFlows.{deaf_flow}
use Rattle.matching.specs.Asks.{some_leaf, hears, ask, asks}
use Rattle.matching.specs.NumberLaws.{numbers_length, each_number}
use Rattle.matching.specs.SetLaws.{mask_low}

---- For one number ----

module _ (mask other : ℕ → ℕ) (ns : List ℕ) (r : ℕ) where
  pub ask_cue : (ask mask other ns r ≡ 0) ⊎ (ask mask other ns r ≡ cue_of mask other r)
  unfolding ask
  ask_cue = by (ltb most_events r || hears ns (cue_of mask other r))
    where
      by : (b : Bool) → (cond b (cue_of mask other r) 0 ≡ 0) ⊎ (cond b (cue_of mask other r) 0 ≡ cue_of mask other r)
      by true = inr refl
      by false = inl refl

  pub ask_closing : most_events < r → ask mask other ns r ≡ closing_cue r
  unfolding ask cue_of
  ask_closing h = rw (lt-ltb most_events r h, lt-leb r most_events h)

event_cue_is : (mask other : ℕ → ℕ) (r : ℕ) → r ≤ most_events → cue_of mask other r ≡ cue r (mask r) (other r)
unfolding cue_of
event_cue_is mask other r few = rw (le-leb r most_events few)

-- it is none of the closings'
event_record : (sets : ℕ → Joint) (other : ℕ → ℕ) (r : ℕ) → r ≤ most_events → other r ≤ most_events → cue_record (cue_of (masked sets) other r) ≡ event (cue_of (masked sets) other r)
unfolding cue_record
event_record sets other r few low =
    let is = event_cue_is (masked sets) other r few in
    let small = mask_low sets r in
    let x = cue_of (masked sets) other r in
    rw (ne_eqb x done_cue (λ e. omega arith), ne_eqb x withdrawn_cue (λ e. omega arith), ne_eqb x failed_cue (λ e. omega arith))

-- no leaf passes the test
some_leaf_none : (test : ℕ → Bool) (ns : List ℕ) (k : ℕ) → some_leaf test ns k ≡ false → (i e : ℕ) → i < k → node ns i ≡ Event e → test e ≡ false
unfolding some_leaf
some_leaf_none test ns zero q i e h n = absurd (omega arith)
some_leaf_none test ns (suc j) q i e h n = by (eqb i j) refl (some_leaf_none test ns j (neither_one (some_leaf test ns j) _ q) i e)
  where
    by : (b : Bool) → eqb i j ≡ b → (i < j → node ns i ≡ Event e → test e ≡ false) → test e ≡ false
    by true d before =
        let last = neither_two (some_leaf test ns j) ((form (node ns j)).event && test (one_of ns j)) q in
        ap test (event_first ns i n) ∙ then_false (form (node ns i)).event (test (one_of ns i)) (rw (eqb-true i j d) last) (event_leaf ns i n)
    by false d before = before (omega (arith, eqb-false i j d)) n

module _ (sets : ℕ → Joint) (other : ℕ → ℕ) (ns : List ℕ) (fine : FineTable ns) (r : ℕ) (some : 1 ≤ r) (few : r ≤ most_events) where
  -- an event's cue is not 0, so that nothing is asked only where no leaf takes it
  not_heard : ask (masked sets) other ns r ≡ 0 → hears ns (cue_of (masked sets) other r) ≡ false
  unfolding ask
  not_heard q = by (hears ns (cue_of (masked sets) other r)) (rw (le-ltb most_events r few) at q)
    where
      by : (b : Bool) → cond b (cue_of (masked sets) other r) 0 ≡ 0 → b ≡ false
      by true z = absurd (omega (arith, event_cue_is (masked sets) other r few))
      by false z = refl

  pub unasked : other r ≤ most_events → ask (masked sets) other ns r ≡ 0 → (rs : List Record) → may_follow rs (flow_by cued ns) (cue_record (cue_of (masked sets) other r)) ≡ false
  unfolding hears
  unasked low q rs =
      let x = cue_of (masked sets) other r in
      rw (event_record sets other r few low) (deaf_passes x rs (flow_by cued ns) (deaf_flow ns x fine (some_leaf_none (takes_cue x) ns (count ns) (not_heard q))))

---- The table of all numbers ----

module _ (mask other : ℕ → ℕ) (ns : List ℕ) where
  pub asks_length : length (asks mask other ns) ≡ 259
  unfolding asks
  asks_length = length-map all_numbers (ask mask other ns) ∙ numbers_length

  -- what is asked at a place
  pub asks_at : (i : ℕ) → i < 259 → get_or (asks mask other ns) i 0 ≡ ask mask other ns (get_or all_numbers i 0)
  unfolding asks
  asks_at i h = place_map (ask mask other ns) all_numbers i (omega (arith, numbers_length))
    where
      place_map : (f : ℕ → ℕ) (rs : List ℕ) (k : ℕ) → k < length rs → get_or (map f rs) k 0 ≡ f (get_or rs k 0)
      place_map f [] k l = absurd (omega arith)
      place_map f (r ∷ rs) zero l = refl
      place_map f (r ∷ rs) (suc k) l = place_map f rs k (omega arith)

  -- what holds of 0, of the cues of events and of the closings' holds of what is asked
  pub each_asked : (P : ℕ → Type 0) → P 0 → ((r : ℕ) → 1 ≤ r → r ≤ most_events → P (cue r (mask r) (other r)))
      → ((r : ℕ) → done_number ≤ r → r ≤ failed_number → P (closing_cue r)) → (i : ℕ) → i < 259 → P (get_or (asks mask other ns) i 0)
  each_asked P nothing events ends i h =
      subst P (sym (asks_at i h))
      (each_number (λ r. P (ask mask other ns r)) (λ r l m. by r (events r l m) m (ask_cue mask other ns r)) (λ r l m. subst P (sym (ask_closing mask other ns r (omega arith))) (ends r l m)) i h)
    where
      by : (r : ℕ) → P (cue r (mask r) (other r)) → r ≤ most_events → (ask mask other ns r ≡ 0) ⊎ (ask mask other ns r ≡ cue_of mask other r) → P (ask mask other ns r)
      by r p m (inl z) = subst P (sym z) nothing
      by r p m (inr e) = subst P (sym (e ∙ event_cue_is mask other r m)) p

-- where the masks are those of the sets that are meant
module _ (sets : ℕ → Joint) (other : ℕ → ℕ) (ns : List ℕ) (few : (a : ℕ) → a ≤ most_events → other a ≤ most_events) where
  pub asks_low : (i : ℕ) → i < 259 → get_or (asks (masked sets) other ns) i 0 ≤ failed_cue
  asks_low = each_asked (masked sets) other ns (λ x. x ≤ failed_cue) (omega arith) (λ r l m. omega (arith, few r m, mask_low sets r)) (λ r l m. omega arith)

  pub asks_apart : ((a : ℕ) → 1 ≤ a → 1 ≤ other a) → (i : ℕ) → i < 259 → (get_or (asks (masked sets) other ns) i 0 ≡ 0) ⊎ (65537 ≤ get_or (asks (masked sets) other ns) i 0)
  asks_apart some = each_asked (masked sets) other ns (λ x. (x ≡ 0) ⊎ (65537 ≤ x)) (inl refl) (λ r l m. inr (omega (arith, some r l))) (λ r l m. inr (omega arith))

  pub unasked_at : FineTable ns → (i : ℕ) → i < 259 → get_or (asks (masked sets) other ns) i 0 ≡ 0 → (rs : List Record)
      → may_follow rs (flow_by cued ns) (cue_record (cue_of (masked sets) other (get_or all_numbers i 0))) ≡ false
  unasked_at fine i h q rs =
      each_number (λ r. ask (masked sets) other ns r ≡ 0 → may_follow rs (flow_by cued ns) (cue_record (cue_of (masked sets) other r)) ≡ false)
      (λ r l m z. unasked sets other ns fine r l m (few r m) z rs)
      (λ r l m z. absurd (omega (arith, ask_closing (masked sets) other ns r (omega arith)))) i h (sym (asks_at (masked sets) other ns i h) ∙ q)
