-- What is filled, number by number, and what is passed of it: that a list is filled once all of it is, that a list holds one number once
-- it is passed, and `kept` by its two cases. Assumes nothing.
use Rattle.std.specs.Prelude.{ℕ, ◌+◌, ◌-◌, ◌≤◌, ◌<◌, Bool, false, ◌&&◌, List, ◌++◌, ◌≡◌, refl, length, get_or, set}
use Rattle.std.proofs.Common.{arith, append-nil, sym, ◌∙◌, length-set, drop_of_length-le, drop-cons}
use Rattle.std.proofs.Math.Numerals.{add-one}
use Rattle.std.proofs.Math.Bool.{true}
use Rattle.std.proofs.Math.Path.{ap}
use borrow.Author.Tests.{eq-eqb, ne_eqb, le-leb, lt-leb}
use Rattle.std.proofs.lemmas.List.Edits.{fill_more}
use Rattle.std.proofs.Math.ListN.{take, drop, replicate, length-drop}
use Rattle.std.proofs.Math.Seq.{take_all}
use Rattle.replay.specs.Filler.{all_are, kept, FilledTo}

---- Filling ----

module _ (b : ℕ) {xs : List ℕ} where
  pub filled_none : FilledTo b 0 xs xs
  filled_none = record { within = omega arith; filled = refl; as_long = refl }

  module _ {i : ℕ} {xs' : List ℕ} (f : FilledTo b i xs xs') where
    pub filled_more : i < length xs → FilledTo b (i + 1) xs (set xs' i b)
    filled_more h =
        record {
          within = omega arith;
          filled = ap (λ (l : List ℕ). set l i b) f.filled ∙ fill_more i b xs h;
          as_long = length-set xs' i b ∙ f.as_long;
        }

    pub filled_whole : length xs ≤ i → xs' ≡ replicate (length xs) b
    filled_whole h =
        let e : i ≡ length xs = omega (arith, f.within) in
        f.filled ∙ ap (λ (l : List ℕ). replicate i b ++ l) (drop_of_length-le xs h) ∙ append-nil (replicate i b) ∙ ap (λ (k : ℕ). replicate k b) e

---- Every number ----

module _ (b : ℕ) (part : List ℕ) (i : ℕ) where
  -- one number more
  pub all_more : i < length part → get_or part i 0 ≡ b → all_are b (drop i part) ≡ all_are b (drop (i + 1) part)
  unfolding all_are
  all_more h e = rw (drop-cons part i 0 h, eq-eqb (get_or part i 0) b e, add-one i)

  -- another number
  pub all_stops : i < length part → (get_or part i 0 ≡ b → ⊥) → all_are b (drop i part) ≡ false
  unfolding all_are
  all_stops h e = rw (drop-cons part i 0 h, ne_eqb (get_or part i 0) b e)

  pub all_passed : length part ≤ i → all_are b (drop i part) ≡ true
  unfolding all_are
  all_passed h = rw (drop_of_length-le part h)

---- What is kept ----

module _ (b n : ℕ) (xs : List ℕ) where
  -- by whether there are n numbers
  pub kept_short : length xs < n → false ≡ kept b n xs
  unfolding kept
  kept_short h = rw (lt-leb n (length xs) h)

  pub kept_rest : n ≤ length xs → {r : Bool} → r ≡ all_are b (take (length xs - n) (drop n xs)) → r ≡ kept b n xs
  unfolding kept
  kept_rest h e =
      let whole : take (length xs - n) (drop n xs) ≡ drop n xs = take_all (length xs - n) (drop n xs) (omega (arith, length-drop n xs)) in
      rw (le-leb n (length xs) h) (e ∙ ap (all_are b) whole)

---- One test after the other ----

module _ {a b : Bool} (e : a ≡ b) (c : Bool) where
  pub both_stop : a ≡ false → false ≡ (b && c)
  both_stop n = ap (λ (x : Bool). x && c) (sym n ∙ e)

  pub both_go : a ≡ true → {r : Bool} → r ≡ c → r ≡ (b && c)
  both_go y g = g ∙ ap (λ (x : Bool). x && c) (sym y ∙ e)
