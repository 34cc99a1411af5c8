-- Laws of the line: the fewest digits are as many as `size` says, one text after another is one text, and a line is short.
-- Assumes nothing.
use Rattle.std.specs.Prelude.{ℕ, zero, suc, ◌+◌, ◌-◌, ◌*◌, ◌/◌, ◌%◌, ◌^◌, ◌≤◌, ◌<◌, Bool, true, false, List, [], ◌∷◌, ◌++◌, ◌≡◌, refl, ltb, length, take, drop}
use Rattle.std.proofs.Math.Nat.{pow-succ', one-le-pow}
use Rattle.std.proofs.Common.{zero-lt-suc, arith, append_assoc, sym, ap, ◌∙◌, lt-ltb, le-ltb, ltb-true, ltb-false, length-append, length-take, length-drop, take-append-drop, length-take-le, take_at, drop_at, drop-drop}
use Rattle.std.proofs.Math.Seq.{take-length}
use Rattle.std.proofs.lemmas.List.{drop-append-le}
use Rattle.io.specs.Digits.{last_digits, IsDigitCount, hex_digit_ascii}
use Rattle.line.specs.Line.{places, size, Put}

---- Digits ----

pub digits_length : (b k n : ℕ) → length (last_digits b k n) ≡ k
digits_length b zero n = refl
digits_length b (suc k) n = omega (arith, length-append (last_digits b k (n / b)) (hex_digit_ascii (n % b) ∷ []), digits_length b k (n / b))

places_none : (n : ℕ) → places zero n ≡ 1
unfolding places
places_none n = refl

places_few : (most n : ℕ) → n < 10 → places (suc most) n ≡ 1
unfolding places
places_few most n h = rw (lt-ltb n 10 h)

places_more : (most n : ℕ) → 10 ≤ n → places (suc most) n ≡ suc (places most (n / 10))
unfolding places
places_more most n h = rw (le-ltb n 10 h)

-- of two digits or more, the first is no zero
leading : (n k : ℕ) → IsDigitCount 10 1 n (suc (suc k)) → 10 * 10 ^ k ≤ n
leading n k f =
    let e : suc (suc k) - 1 ≡ suc k = omega arith in
    rw (e, pow-succ') at (f.2 (omega arith))

fewest_places : (most n k : ℕ) → n ≤ most → IsDigitCount 10 1 n k → k ≡ places most n
fewest_places most n zero h f = absurd (omega (arith, f.0))
fewest_places zero n (suc zero) h f = sym (places_none n)
fewest_places (suc most) n (suc zero) h f = sym (places_few most n f.1)
fewest_places zero n (suc (suc k)) h f = absurd (omega (arith, leading n k f, one-le-pow k 10 (zero-lt-suc 9)))
fewest_places (suc most) n (suc (suc k)) h f =
    let l : 10 * 10 ^ k ≤ n = leading n k f in
    let p : 1 ≤ 10 ^ k = one-le-pow k 10 (zero-lt-suc 9) in
    let e : suc k - 1 ≡ k = omega arith in
    let below : n < 10 * 10 ^ suc k = rw pow-succ' at f.1 in
    ap suc (fewest_places most (n / 10) (suc k) (omega arith) (omega arith, omega arith, λ m. rw e (omega arith)))
    ∙ sym (places_more most n (omega arith))

-- what `io::decimal` answers
pub fewest_size : (n k : ℕ) → IsDigitCount 10 1 n k → k ≡ size n
unfolding size
fewest_size n k f = fewest_places n n k (omega arith) f

places_most : (most n k : ℕ) → n < 10 ^ suc k → places most n ≤ suc k
places_most zero n k h = omega (arith, places_none n)
places_most (suc most) n zero h = omega (arith, places_few most n h)
places_most (suc most) n (suc k) h =
    let below : n < 10 * 10 ^ suc k = rw pow-succ' at h in
    by (ltb n 10) refl (places_most most (n / 10) k (omega arith))
  where
    by : (b : Bool) → ltb n 10 ≡ b → places most (n / 10) ≤ suc k → places (suc most) n ≤ suc (suc k)
    by true e fewer = omega (arith, places_few most n (ltb-true n 10 e))
    by false e fewer = omega (arith, places_more most n (ltb-false n 10 e))

-- ten digits hold a number of 32 bits
pub fewest_most : (n k : ℕ) → n < 4294967296 → IsDigitCount 10 1 n k → k ≤ 10
unfolding size
fewest_most n k h f = omega (arith, fewest_size n k f, places_most n n 9 (omega arith))

---- One text after another ----

-- a copy into the part of the room from an offset on
pub put_copied : {text out ys : List ℕ} {at k : ℕ} (r : ℕ)
    → at + length text ≤ length out → k ≡ length out - at → r ≡ length text
    → ys ≡ take (length text) text ++ drop (length text) (take k (drop at out))
    → Put text out at (take at out ++ (ys ++ drop k (drop at out))) (at + r)
put_copied {text} {out} {ys} {at} {k} r fits ek er e =
    record { end = ap (λ (n : ℕ). at + n) er; written = ap (λ (l : List ℕ). take at out ++ l) behind }
  where
    within : length text ≤ length (take k (drop at out))
    within = simp (length-take, length-drop) (omega arith)

    rest : drop (length text) (take k (drop at out)) ++ drop k (drop at out) ≡ drop (at + r) out
    rest =
        sym (drop-append-le (length text) (take k (drop at out)) (drop k (drop at out)) within)
        ∙ ap (drop (length text)) (take-append-drop k (drop at out))
        ∙ drop-drop (length text) at out ∙ ap (λ (n : ℕ). drop (at + n) out) (sym er)

    behind : ys ++ drop k (drop at out) ≡ text ++ drop (at + r) out
    behind =
        ap (λ (l : List ℕ). l ++ drop k (drop at out)) e
        ∙ append_assoc (take (length text) text) (drop (length text) (take k (drop at out))) (drop k (drop at out))
        ∙ ap (λ (l : List ℕ). l ++ (drop (length text) (take k (drop at out)) ++ drop k (drop at out))) (take-length text)
        ∙ ap (λ (l : List ℕ). text ++ l) rest

module _ {text out out' : List ℕ} {at r : ℕ} (p : Put text out at out' r) (fits : r ≤ length out) where
  head_length : length (take at out ++ text) ≡ r
  head_length = omega (arith, length-append (take at out) text, length-take-le at out (omega (arith, p.end)), p.end)

  split : out' ≡ (take at out ++ text) ++ drop r out
  split = p.written ∙ sym (append_assoc (take at out) text (drop r out))

  pub put_length : length out' ≡ length out
  put_length = ap length split ∙ omega (arith, length-append (take at out ++ text) (drop r out), head_length, length-drop r out)

  pub put_then : {more out'' : List ℕ} {r' : ℕ} → Put more out' r out'' r' → Put (text ++ more) out at out'' r'
  put_then {more} {out''} {r'} q = record { end = omega (arith, p.end, q.end, length-append text more); written = q.written ∙ joined }
    where
      front : take r out' ≡ take at out ++ text
      front = ap (take r) split ∙ take_at (take at out ++ text) (drop r out) r head_length

      back : drop r' out' ≡ drop r' out
      back =
          ap (λ (k : ℕ). drop k out') q.end ∙ sym (drop-drop (length more) r out')
          ∙ ap (drop (length more)) (ap (drop r) split ∙ drop_at (take at out ++ text) (drop r out) r head_length)
          ∙ drop-drop (length more) r out ∙ ap (λ (k : ℕ). drop k out) (sym q.end)

      joined : take r out' ++ (more ++ drop r' out') ≡ take at out ++ ((text ++ more) ++ drop r' out)
      joined = rw (front, back) (append_assoc (take at out) text (more ++ drop r' out) ∙ ap (λ (l : List ℕ). take at out ++ l) (sym (append_assoc text more (drop r' out))))
