-- What a loop learns that puts one text after the other: nothing stands there at first (`put_none`), there is room for one more
-- (`put_room`), one more stands there then (`put_more`), and all at last (`put_all`). Assumes nothing.
use Rattle.std.specs.Prelude.{ℕ, ◌+◌, ◌*◌, ◌≤◌, ◌<◌, ◌≡◌, length, get_or, take}
use Rattle.std.proofs.Common.{mul-le-mul_left, mul-suc, add-one, arith, ◌∙◌, subst, take-append-drop, take-suc, take_all}
use mathlib.Core.List.{List, [], ◌∷◌, ◌++◌, append-nil, append_assoc}
use Rattle.std.proofs.Math.Path.{refl, sym, ap}
use Rattle.line.specs.Line.{Put}
use Rattle.line.specs.LineLaws.{put_length, put_then}
use Rattle.line.specs.Texts.{texts, PutTo}

module _ (text : ℕ → List ℕ) where
  texts_append : (xs ys : List ℕ) → texts text (xs ++ ys) ≡ texts text xs ++ texts text ys
  unfolding texts
  texts_append [] ys = refl
  texts_append (x ∷ xs) ys = ap (λ (l : List ℕ). text x ++ l) (texts_append xs ys) ∙ sym (append_assoc (text x) (texts text xs) (texts text ys))

  texts_single : (x : ℕ) → texts text (x ∷ []) ≡ text x
  unfolding texts
  texts_single x = append-nil (text x)

  texts_more : (xs : List ℕ) (i : ℕ) → i < length xs → texts text (take (i + 1) xs) ≡ texts text (take i xs) ++ text (get_or xs i 0)
  texts_more xs i h =
      ap (λ (k : ℕ). texts text (take k xs)) (add-one i) ∙ ap (texts text) (take-suc xs i 0 h) ∙ texts_append (take i xs) (get_or xs i 0 ∷ [])
      ∙ ap (λ (l : List ℕ). texts text (take i xs) ++ l) (texts_single (get_or xs i 0))

pub put_nothing : (out : List ℕ) (at : ℕ) → Put [] out at out at
put_nothing out at = record { end = omega arith; written = sym (take-append-drop at out) }

module _ {text : ℕ → List ℕ} {most : ℕ} {xs out : List ℕ} {at : ℕ} where
  pub put_none : PutTo text most xs out at 0 out at
  unfolding texts
  put_none = record { within = omega arith; short = omega arith; put = put_nothing out at }

  module _ (room : at + most * length xs ≤ length out) {i end : ℕ} {out' : List ℕ} (p : PutTo text most xs out at i out' end) where
    -- the room is as it was
    inside : end ≤ length out
    inside = omega (arith, p.short, mul-le-mul_left most p.within)

    pub put_as_long : length out' ≡ length out
    put_as_long = put_length p.put inside

    module _ (more : i < length xs) where
      one_more : most * (i + 1) ≡ most * i + most
      one_more = ap (λ (k : ℕ). most * k) (add-one i) ∙ mul-suc most i

      pub put_room : end + most ≤ length out'
      put_room =
          let l : i + 1 ≤ length xs = omega arith in
          omega (arith, p.short, one_more, mul-le-mul_left most l, put_as_long)

      pub put_more : {out'' : List ℕ} {end' : ℕ} → Put (text (get_or xs i 0)) out' end out'' end' → end' ≤ end + most → PutTo text most xs out at (i + 1) out'' end'
      put_more {out''} {end'} q l =
          record {
            within = omega arith;
            short = omega (arith, p.short, one_more);
            put = subst (λ (t : List ℕ). Put t out at out'' end') (sym (texts_more text xs i more)) (put_then p.put inside q);
          }

    pub put_all : length xs ≤ i → Put (texts text xs) out at out' end × (end ≤ at + most * length xs)
    put_all all =
        (subst (λ (ys : List ℕ). Put (texts text ys) out at out' end) (take_all i xs all) p.put, omega (arith, p.short, mul-le-mul_left most p.within))
