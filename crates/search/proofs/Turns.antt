-- The search a turn at a time: what an entered state costs, and what the loop over the successors has found so far. Assumes nothing.
use Prim.Native.Nat.{ℕ, zero, suc, ◌+◌, max, ◌≤◌, ◌<◌}
use mathlib.Core.Path.{◌≡◌, refl, sym, ap, ◌∙◌, subst}
use mathlib.Core.Bool.{true, false}
use mathlib.Core.List.{List, [], ◌∷◌}
use native.Mathlib.Omega.{arith}
use native.Mathlib.Numerals.{add-one}
use lib.ListN.{length, drop, drop_of_length-le, length-map}
use Rattle.std.specs.Ordering.{nat_cmp, ord_max}
use Rattle.std.proofs.lemmas.Bool.Decides.{nat_tests}
use Rattle.calculus.specs.Records.{Record, State}
use Rattle.calculus.specs.Search.{next}
use Rattle.calculus.specs.Spending.{Out as Found, spent, back, bump, chain, tries_b, visit_b}
use Rattle.flow.specs.Cues.{cue_record, cue_records}
use Rattle.tallies.specs.Capped.{cap, most}
use Rattle.tallies.specs.Places.{At}
use Rattle.tallies.specs.PlacesLaws.{at_drop}
use Rattle.search.specs.declared.Trip.{Trip}
use Rattle.std.specs.Prelude.{Option, Some, None}
use Rattle.search.specs.Visits.{out_of, onward}

-- the greater of two, as the code tells
pub greater : (a b : ℕ) → ord_max nat_cmp a b ≡ max a b
greater a b = grind (arith, nat_tests)

-- What it costs -----------------------------------------------------------------------------------------------------------

-- at most so many records were followed, and at most so much is left
abbrev pub CostWithin : ℕ → ℕ → Found → Type 0
CostWithin e n spent = Unit {0}
CostWithin e n (back b d m) = (d ≤ e) × (m ≤ n)

within_more : (e n : ℕ) (o : Found) → CostWithin e n o → CostWithin e (suc n) o
within_more e n spent h = tt
within_more e n (back b d m) h = (h.0, omega arith)

bump_within : (e n d m : ℕ) (o : Found) → d ≤ e → m ≤ n → CostWithin e m o → CostWithin e n (bump d o)
unfolding bump
bump_within e n d m spent hd hm h = tt
bump_within e n d m (back b k l) hd hm h = (omega arith, omega arith)

module _ (f : State → ℕ → Found) (e : ℕ) (h : (t : State) (n : ℕ) → CostWithin e n (f t n)) where
  tries_within : (ss : List State) (n : ℕ) → CostWithin (suc e) n (tries_b f ss n)
  unfolding tries_b chain
  tries_within [] n = (omega arith, omega arith)
  tries_within (s ∷ ss) n = go (f s n) (h s n) (λ m. tries_within ss m)
    where
      go : (o : Found) → CostWithin e n o → ((m : ℕ) → CostWithin (suc e) m (tries_b f ss m)) → CostWithin (suc e) n (chain o (λ m. tries_b f ss m))
      go spent k below = tt
      go (back true d m) k below = (omega arith, k.1)
      go (back false d m) k below = bump_within (suc e) n (suc d) m (tries_b f ss m) (omega arith) k.1 (below m)

visit_within : (xs : List Record) (s : State) (n : ℕ) → CostWithin (length xs) n (visit_b xs s n)
unfolding visit_b
visit_within [] s zero = tt
visit_within [] s (suc n) = (omega arith, omega arith)
visit_within (r ∷ xs) s zero = tt
visit_within (r ∷ xs) s (suc n) = within_more (suc (length xs)) n (tries_b (λ t m. visit_b xs t m) (next s r) n) (tries_within (λ t m. visit_b xs t m) (length xs) (λ t m. visit_within xs t m) (next s r) n)

-- a state that is entered costs one
pub visit_costs : (xs : List Record) (s : State) (n : ℕ) → CostWithin (length xs) n (visit_b xs s (suc n))
unfolding visit_b
visit_costs [] s n = (omega arith, omega arith)
visit_costs (r ∷ xs) s n = tries_within (λ t m. visit_b xs t m) (length xs) (λ t m. visit_within xs t m) (next s r) n

-- what comes back of an entered state
pub record Cost (e n : ℕ) (trip : Trip) : Type 0 where
  pub far : trip.far ≤ e
  pub left : trip.left < n

pub visit_cost : (xs : List Record) (s : State) (n : ℕ) (o : Option Trip) (trip : Trip) → out_of o ≡ visit_b xs s n → o ≡ Some trip → Cost (length xs) n trip
unfolding out_of visit_b
visit_cost xs s n o trip e g = by n (sym (ap out_of g) ∙ e)
  where
    none : (xs : List Record) → visit_b xs s zero ≡ spent
    none [] = refl
    none (r ∷ xs) = refl

    by : (n : ℕ) → back trip.found trip.far trip.left ≡ visit_b xs s n → Cost (length xs) n trip
    by zero q = let z : ◌≡◌ {A = ℕ} 0 1 = cc (none xs) in absurd (omega arith)
    by (suc n) q = let w : CostWithin (length xs) n (back trip.found trip.far trip.left) = subst (CostWithin (length xs) n) (sym q) (visit_costs xs s n) in record { far = w.0; left = omega arith }

-- The loop over the successors ------------------------------------------------------------------------------------------

bump_zero : (o : Found) → bump 0 o ≡ o
unfolding bump
bump_zero spent = refl
bump_zero (back b d m) = ap (λ x. back b x m) (omega arith)

bump_bump : (a b : ℕ) (o : Found) → bump a (bump b o) ≡ bump (max a b) o
unfolding bump
bump_bump a b spent = refl
bump_bump a b (back c d m) = ap (λ x. back c x m) (omega arith)

-- the first k successors are tried: what comes of all is what comes of the others, but for the records followed so far
pub record Turn (s : State) (r : ℕ) (xs : List ℕ) (left k far rest : ℕ) : Type 0 where
  pub spends : k + rest ≤ left
  pub reach : far ≤ suc (length xs)
  pub same : onward s r xs left ≡ bump far (tries_b (λ t m. visit_b (cue_records xs) t m) (drop k (next s (cue_record r))) rest)

module _ (s : State) (r : ℕ) (xs : List ℕ) (left : ℕ) where
  pub turn_none : Turn s r xs left 0 0 left
  unfolding onward
  turn_none = record { spends = omega arith; reach = omega arith; same = sym (bump_zero _) }

  module _ {k far rest : ℕ} (t : Turn s r xs left k far rest) where
    -- no successor is left, since none could be paid for that is not counted
    pub turn_all : cap (length (next s (cue_record r))) ≤ k → left < most → length (next s (cue_record r)) ≤ k
    turn_all h l = omega (arith, t.spends)

    pub turn_over : cap (length (next s (cue_record r))) ≤ k → left < most → out_of (Some (record { found = false; far = far; left = rest })) ≡ onward s r xs left
    unfolding out_of bump tries_b
    turn_over h l =
        let few = turn_all h l in
        let z : max far 0 ≡ far = omega arith in
        sym (t.same ∙ ap (λ l. bump far (tries_b (λ t m. visit_b (cue_records xs) t m) l rest)) (drop_of_length-le (next s (cue_record r)) few) ∙ ap (λ d. back false d rest) z)

    -- the k-th successor is entered
    module _ {into : State} (o : Option Trip) (a : At (next s (cue_record r)) k into) (e : out_of o ≡ visit_b (cue_records xs) into rest) where
      abbrev others : ℕ → Found
      others m = tries_b (λ t m. visit_b (cue_records xs) t m) (drop (suc k) (next s (cue_record r))) m

      turned : onward s r xs left ≡ bump far (chain (out_of o) others)
      unfolding tries_b
      turned = t.same
          ∙ ap (λ l. bump far (tries_b (λ t m. visit_b (cue_records xs) t m) l rest)) (at_drop a)
          ∙ ap (λ x. bump far (chain x others)) (sym e)

      pub turn_spent : o ≡ None → out_of None ≡ onward s r xs left
      unfolding out_of chain bump
      turn_spent g = sym (turned ∙ ap (λ x. bump far (chain (out_of x) others)) g)

      module _ (trip : Trip) (g : o ≡ Some trip) where
        came : onward s r xs left ≡ bump far (chain (back trip.found trip.far trip.left) others)
        unfolding out_of
        came = turned ∙ ap (λ x. bump far (chain (out_of x) others)) g

        pub turn_cost : Cost (length xs) rest trip
        turn_cost = subst (λ l. Cost l rest trip) (length-map xs cue_record) (visit_cost (cue_records xs) into rest o trip e g)

        pub turn_found : (far' : ℕ) → far' ≡ max far (trip.far + 1) → trip.found ≡ true → out_of (Some (record { found = true; far = far'; left = trip.left })) ≡ onward s r xs left
        unfolding out_of chain bump
        turn_found far' q b =
            let w : far' ≡ max far (suc trip.far) = omega (arith, q) in
            sym (came ∙ ap (λ b. bump far (chain (back b trip.far trip.left) others)) b ∙ ap (λ d. back true d trip.left) (sym w))

        pub turn_on : (far' : ℕ) → far' ≡ max far (trip.far + 1) → trip.found ≡ false → Turn s r xs left (k + 1) far' trip.left
        unfolding chain
        turn_on far' q b =
            let w : far' ≡ max far (suc trip.far) = omega (arith, q) in
            let z = turn_cost in
            record {
              spends = omega (arith, t.spends, z.left);
              reach = omega (arith, t.reach, z.far);
              same = came ∙ ap (λ b. bump far (chain (back b trip.far trip.left) others)) b ∙ bump_bump far (suc trip.far) (others trip.left)
                  ∙ ap (λ d. bump d (others trip.left)) (sym w)
                  ∙ ap (λ i. bump far' (tries_b (λ t m. visit_b (cue_records xs) t m) (drop i (next s (cue_record r))) trip.left)) (sym (add-one k));
            }
