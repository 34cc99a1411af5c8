-- Lists at the front of a room, one put behind another; and how long a file is. Assumes nothing.
use Rattle.std.specs.Prelude.{ℕ, ◌+◌, ◌*◌, ◌-◌, ◌/◌, ◌%◌, ◌<◌, ◌≤◌, List, [], ◌∷◌, ◌++◌, ◌≡◌, refl, length, get_or, take, drop, set}
use Rattle.std.specs.Int.{w16, to_le_bytes}
use Rattle.std.proofs.Common.{append_assoc, append-nil, sym, ap, ap₂, ◌∙◌, add-one, arith, length-append, length-drop, drop_of_length-le, drop-drop, take_all, take_at, take-suc, drop_at}
use Rattle.std.proofs.Math.Seq.{take-length}
use Rattle.format.specs.Format.{number_bytes, numbers_bytes, numbers_section, sets_section}
use Rattle.format.specs.Told.{at_front}
use Rattle.format.specs.Lengths.{section_length}
use Rattle.writer.specs.Writing.{lists_bytes}

---- At the front of a room ----

pub front_length : (xs t : List ℕ) → length xs ≤ length t → length (at_front xs t) ≡ length t
front_length xs t h = omega (arith, length-append xs (drop (length xs) t), length-drop (length xs) t)

-- what a copy leaves
pub copied_front : (s t : List ℕ) {room : List ℕ} → room ≡ take (length s) s ++ drop (length s) t → room ≡ at_front s t
copied_front s t e = e ∙ ap (λ (a : List ℕ). a ++ drop (length s) t) (take-length s)

-- xs stand in front; ys are put to the front of the part of the room that begins behind them, and the part back into the room
pub front_then : (xs ys t : List ℕ) {room part : List ℕ} {n k : ℕ}
    → room ≡ at_front xs t → n ≡ length xs → k ≡ length room - n → part ≡ at_front ys (take k (drop n room))
    → take n room ++ (part ++ drop k (drop n room)) ≡ at_front (xs ++ ys) t
front_then xs ys t {room} {part} {n} {k} e en ek ep =
    ap₂ (λ (a b : List ℕ). a ++ b) head tail ∙ sym (append_assoc xs ys (drop (length ys) (drop (length xs) t)))
    ∙ ap (λ (a : List ℕ). (xs ++ ys) ++ a) (drop-drop (length ys) (length xs) t ∙ ap (λ (j : ℕ). drop j t) (sym (length-append xs ys)))
  where
    whole : length (drop n room) ≤ k
    whole = omega (arith, length-drop n room)

    head : take n room ≡ xs
    head = ap (take n) e ∙ take_at xs (drop (length xs) t) n (sym en)

    behind : take k (drop n room) ≡ drop (length xs) t
    behind = take_all k (drop n room) whole ∙ ap (drop n) e ∙ drop_at xs (drop (length xs) t) n (sym en)

    tail : part ++ drop k (drop n room) ≡ at_front ys (drop (length xs) t)
    tail =
        ap₂ (λ (a b : List ℕ). a ++ b) (ep ∙ ap (at_front ys) behind) (drop_of_length-le (drop n room) whole)
        ∙ append-nil (at_front ys (drop (length xs) t))

-- xs stand in front; ys are copied behind them
pub front_copied : (xs ys t : List ℕ) {room copy : List ℕ} {n k : ℕ} → room ≡ at_front xs t → n ≡ length xs → k ≡ length ys → copy ≡ ys
    → take n room ++ (copy ++ drop k (drop n room)) ≡ at_front (xs ++ ys) t
front_copied xs ys t {room} {copy} {n} {k} e en ek ec =
    ap₂ (λ (a b : List ℕ). a ++ b) head tail ∙ sym (append_assoc xs ys (drop (length ys) (drop (length xs) t)))
    ∙ ap (λ (a : List ℕ). (xs ++ ys) ++ a) (drop-drop (length ys) (length xs) t ∙ ap (λ (j : ℕ). drop j t) (sym (length-append xs ys)))
  where
    head : take n room ≡ xs
    head = ap (take n) e ∙ take_at xs (drop (length xs) t) n (sym en)

    tail : copy ++ drop k (drop n room) ≡ ys ++ drop (length ys) (drop (length xs) t)
    tail = ap₂ (λ (a b : List ℕ). a ++ b) ec (ap₂ (λ (j : ℕ) (b : List ℕ). drop j b) ek (ap (drop n) e ∙ drop_at xs (drop (length xs) t) n (sym en)))

---- Numbers ----

-- the two bytes of a number, the low one first
pub number_low_first : (n : ℕ) → n < 65536 → to_le_bytes w16 n ≡ number_bytes n
unfolding number_bytes
number_low_first n h = let e : n / 256 % 256 ≡ n / 256 = omega arith in ap (λ (k : ℕ). n % 256 ∷ k ∷ []) e

-- and stored one after the other
pub number_front : (n : ℕ) (t : List ℕ) → 2 ≤ length t → set (set t 0 (n % 256)) 1 (n / 256) ≡ at_front (number_bytes n) t
unfolding number_bytes
number_front n [] h = absurd (omega arith)
number_front n (a ∷ []) h = absurd (omega arith)
number_front n (a ∷ b ∷ t) h = refl

numbers_bytes_more : (ns : List ℕ) (n : ℕ) → numbers_bytes (ns ++ (n ∷ [])) ≡ numbers_bytes ns ++ number_bytes n
unfolding numbers_bytes number_bytes
numbers_bytes_more [] n = refl
numbers_bytes_more (m ∷ ns) n = ap (λ (bs : List ℕ). number_bytes m ++ bs) (numbers_bytes_more ns n)

-- one number more of a list
pub numbers_bytes_next : (ns : List ℕ) (i : ℕ) → i < length ns
    → numbers_bytes (take i ns) ++ number_bytes (get_or ns i 0) ≡ numbers_bytes (take (i + 1) ns)
numbers_bytes_next ns i h =
    sym (ap (λ (k : ℕ). numbers_bytes (take k ns)) (add-one i) ∙ ap numbers_bytes (take-suc ns i 0 h) ∙ numbers_bytes_more (take i ns) (get_or ns i 0))

---- The sections ----

pub lists_length : (s ns rs sets : List ℕ) → length (lists_bytes s ns rs sets) ≡ length s + 4 + 2 * (length ns + length rs) + length (sets_section sets)
unfolding lists_bytes
lists_length s ns rs sets =
    let a = numbers_section 3 ns in
    let b = numbers_section 1 rs in
    let c = sets_section sets in
    omega (arith, length-append s (a ++ (b ++ c)), length-append a (b ++ c), length-append b c, section_length 3 ns, section_length 1 rs)
