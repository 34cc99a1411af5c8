-- Of every plan: a file that the plan goes through, cut short where it is not asked whether the file ends, is refused with 15 at the item
-- that holds the first byte missing (`cut_refused`). And of two plans one after the other, where they ask and which items they take.
-- Assumes nothing.
use Prim.Native.Nat.{ℕ, ◌+◌, ◌≤◌, ◌<◌}
use Rattle.std.specs.Prelude.{Bool, true, false, ◌⊎◌, ltb, drop}
use Rattle.std.proofs.Math.Bool.{cond}
use mathlib.Core.List.{List, [], ◌∷◌, ◌++◌}
use Rattle.std.proofs.Common.{inl, inr, sym, ◌∙◌, subst, arith, lt-ltb, le-ltb, length-drop, take-append-drop, length-take-le}
use Rattle.std.proofs.Math.Path.{◌≡◌, ap, ap₂}
use Rattle.std.proofs.Math.ListN.{length, take}
use Rattle.std.proofs.lemmas.List.{take-append-le, drop-append-le}
use Rattle.format.specs.Plan.{Plan, done, refuse, place, item, ends, ◌>>=◌, got, bad, run}
use Rattle.format.specs.Plans.{item_there, item_cut, ends_later, ends_here}
use Rattle.format.specs.ItemLaws.{le_or_lt, got_value, got_next}
use Rattle.promises.specs.FileItems.{item_of}

---- The items of a plan, and where it asks ----

-- the sizes of the items that a plan takes
unfoldable pub sizes : {A : Type 0} → List ℕ → ℕ → Plan A → List ℕ
sizes s at (done a) = []
sizes s at (refuse n p) = []
sizes s at (place k) = sizes s at (k at)
sizes s at (item n k) = n ∷ sizes s (at + n) (k (take n (drop at s)))
sizes s at (ends p q) = cond (ltb at (length s)) (sizes s at q) (sizes s at p)

-- at an offset a plan does not ask whether the file ends
unfoldable pub NotAsked : {A : Type 0} → List ℕ → ℕ → ℕ → Plan A → Type 0
NotAsked s m at (done a) = Unit {0}
NotAsked s m at (refuse n p) = Unit {0}
NotAsked s m at (place k) = NotAsked s m at (k at)
NotAsked s m at (item n k) = NotAsked s m (at + n) (k (take n (drop at s)))
NotAsked s m at (ends p q) = (at ≡ m → ⊥) × NotAsked s m at p × NotAsked s m at q

-- it asks nowhere
unfoldable pub NeverAsks : {A : Type 0} → Plan A → Type 0
NeverAsks (done a) = Unit {0}
NeverAsks (refuse n p) = Unit {0}
NeverAsks (place k) = (at : ℕ) → NeverAsks (k at)
NeverAsks (item n k) = (b : List ℕ) → NeverAsks (k b)
NeverAsks (ends p q) = ⊥

---- Every plan ----

-- what stands before the cut is the same in the cut file
before_cut : (s : List ℕ) (m at n : ℕ) → m ≤ length s → at + n ≤ m → take n (drop at (take m s)) ≡ take n (drop at s)
before_cut s m at n h l =
    let k : length (take m s) ≡ m = length-take-le m s h in
    let a : at ≤ length (take m s) = omega arith in
    let b : n ≤ length (drop at (take m s)) = rw length-drop (omega arith) in
    sym (ap (λ (x : List ℕ). take n (drop at x)) (sym (take-append-drop m s)) ∙ ap (take n) (drop-append-le at (take m s) (drop m s) a)
    ∙ take-append-le n (drop at (take m s)) (drop m s) b)

module _ {A : Type 0} (s : List ℕ) (m : ℕ) (h : m ≤ length s) where
  pub cut_refused : (at : ℕ) (p : Plan A) {a : A} {e : ℕ} → run s at p ≡ got a e → at ≤ m → m < e → NotAsked s m at p
      → run (take m s) at p ≡ bad 15 (item_of (sizes s at p) at m)
  unfolding run sizes item_of NotAsked
  cut_refused at (done a) q l k u = absurd (omega (arith, got_next q))
  cut_refused at (refuse n p) q l k u = let z : ◌≡◌ {A = ℕ} 0 1 = cc in absurd (omega arith)
  cut_refused at (place k') q l k u = cut_refused at (k' at) q l k u
  cut_refused at (item n k') {a} {e} q l k u = by_whole (λ l' r. cut_refused (at + n) (k' b) r l' k u) (le_or_lt (at + n) (length s))
    where
      b : List ℕ
      b = take n (drop at s)

      size : length (take m s) ≡ m
      size = length-take-le m s h

      by_cut : (at + n ≤ m → run s (at + n) (k' b) ≡ got a e → run (take m s) (at + n) (k' b) ≡ bad 15 (item_of (sizes s (at + n) (k' b)) (at + n) m))
          → at + n ≤ length s → (at + n ≤ m) ⊎ (m < at + n)
          → run (take m s) at (item n k') ≡ bad 15 (cond (ltb m (at + n)) at (item_of (sizes s (at + n) (k' b)) (at + n) m))
      by_cut rec w (inl i) =
          item_there (take m s) at n k' (omega (arith, size))
          ∙ ap (λ (x : List ℕ). run (take m s) (at + n) (k' x)) (before_cut s m at n h i)
          ∙ rec i (sym (item_there s at n k' w) ∙ q)
          ∙ ap (λ (t : Bool). bad 15 (cond t at (item_of (sizes s (at + n) (k' b)) (at + n) m))) (sym (le-ltb m (at + n) i))
      by_cut rec w (inr i) =
          item_cut (take m s) at n k' (omega (arith, size))
          ∙ ap (λ (t : Bool). bad 15 (cond t at (item_of (sizes s (at + n) (k' b)) (at + n) m))) (sym (lt-ltb m (at + n) i))

      by_whole : (at + n ≤ m → run s (at + n) (k' b) ≡ got a e → run (take m s) (at + n) (k' b) ≡ bad 15 (item_of (sizes s (at + n) (k' b)) (at + n) m))
          → (at + n ≤ length s) ⊎ (length s < at + n)
          → run (take m s) at (item n k') ≡ bad 15 (cond (ltb m (at + n)) at (item_of (sizes s (at + n) (k' b)) (at + n) m))
      by_whole rec (inl w) = by_cut rec w (le_or_lt (at + n) m)
      by_whole rec (inr w) = let c = item_cut s at n k' w in let z : ◌≡◌ {A = ℕ} 0 1 = cc in absurd (omega arith)
  -- the cut is further on, so both files go on here
  cut_refused at (ends p q') {a} {e} q l k u = by (λ r. cut_refused at q' r l k u.2) (le_or_lt m at)
    where
      by : (run s at q' ≡ got a e → run (take m s) at q' ≡ bad 15 (item_of (sizes s at q') at m)) → (m ≤ at) ⊎ (at < m)
          → run (take m s) at (ends p q') ≡ bad 15 (item_of (cond (ltb at (length s)) (sizes s at q') (sizes s at p)) at m)
      by rec (inl i) = absurd (u.0 (omega arith))
      by rec (inr i) =
          ends_later (take m s) at p q' (omega (arith, length-take-le m s h)) ∙ rec (sym (ends_later s at p q' (omega arith)) ∙ q)
          ∙ ap (λ (t : Bool). bad 15 (item_of (cond t (sizes s at q') (sizes s at p)) at m)) (sym (lt-ltb at (length s) (omega arith)))

---- Plans one after the other ----

pub never_cond : {A : Type 0} (b : Bool) (p q : Plan A) → NeverAsks p → NeverAsks q → NeverAsks (cond b p q)
never_cond true p q u v = u
never_cond false p q u v = v

pub never_bind : {A B : Type 0} (p : Plan A) (f : A → Plan B) → NeverAsks p → ((a : A) → NeverAsks (f a)) → NeverAsks (p >>= f)
unfolding ◌>>=◌ NeverAsks
never_bind (done a) f u v = v a
never_bind (refuse n p) f u v = tt
never_bind (place k) f u v = λ at. never_bind (k at) f (u at) v
never_bind (item n k) f u v = λ b. never_bind (k b) f (u b) v
never_bind (ends p q) f u v = absurd u

pub never_asked : {A : Type 0} (s : List ℕ) (m at : ℕ) (p : Plan A) → NeverAsks p → NotAsked s m at p
unfolding NeverAsks NotAsked
never_asked s m at (done a) u = tt
never_asked s m at (refuse n p) u = tt
never_asked s m at (place k) u = never_asked s m at (k at) (u at)
never_asked s m at (item n k) u = never_asked s m (at + n) (k (take n (drop at s))) (u (take n (drop at s)))
never_asked s m at (ends p q) u = absurd u

-- one plan, then another
pub not_asked : {A B : Type 0} (s : List ℕ) (m at : ℕ) (p : Plan A) (f : A → Plan B) {a : A} {n : ℕ} → run s at p ≡ got a n → NeverAsks p → NotAsked s m n (f a)
    → NotAsked s m at (p >>= f)
unfolding ◌>>=◌ run NeverAsks NotAsked
not_asked {A} s m at (done a) f {n} e u v = subst (λ (k : ℕ). NotAsked s m k (f a)) (sym (got_next e)) (subst (λ (x : A). NotAsked s m n (f x)) (sym (got_value e)) v)
not_asked s m at (refuse k p) f e u v = tt
not_asked s m at (place k) f e u v = not_asked s m at (k at) f e (u at) v
not_asked s m at (item k g) f {a} {n} e u v = by (λ r. not_asked s m (at + k) (g (take k (drop at s))) f r (u (take k (drop at s))) v) (le_or_lt (at + k) (length s))
  where
    by : (run s (at + k) (g (take k (drop at s))) ≡ got a n → NotAsked s m (at + k) (g (take k (drop at s)) >>= f)) → (at + k ≤ length s) ⊎ (length s < at + k)
        → NotAsked s m (at + k) (g (take k (drop at s)) >>= f)
    by rec (inl w) = rec (sym (item_there s at k g w) ∙ e)
    by rec (inr w) = let c = item_cut s at k g w in let z : ◌≡◌ {A = ℕ} 0 1 = cc in absurd (omega arith)
not_asked s m at (ends p q) f e u v = absurd u

module _ {A B : Type 0} (s : List ℕ) where
  pub sizes_bind : (at : ℕ) (p : Plan A) (f : A → Plan B) {a : A} {n : ℕ} → run s at p ≡ got a n → sizes s at (p >>= f) ≡ sizes s at p ++ sizes s n (f a)
  unfolding sizes run ◌>>=◌
  sizes_bind at (done a) f e = ap₂ (λ (m : ℕ) (x : A). sizes s m (f x)) (got_next e) (got_value e)
  sizes_bind at (refuse n p) f e = let z : ◌≡◌ {A = ℕ} 0 1 = cc in absurd (omega arith)
  sizes_bind at (place k) f e = sizes_bind at (k at) f e
  sizes_bind at (item n k) f {a} {n = m} e = by (λ q. sizes_bind (at + n) (k (take n (drop at s))) f q) (le_or_lt (at + n) (length s))
    where
      by : (run s (at + n) (k (take n (drop at s))) ≡ got a m
          → sizes s (at + n) (k (take n (drop at s)) >>= f) ≡ sizes s (at + n) (k (take n (drop at s))) ++ sizes s m (f a))
          → (at + n ≤ length s) ⊎ (length s < at + n)
          → n ∷ sizes s (at + n) (k (take n (drop at s)) >>= f) ≡ (n ∷ sizes s (at + n) (k (take n (drop at s)))) ++ sizes s m (f a)
      by rec (inl w) = ap (λ (zs : List ℕ). n ∷ zs) (rec (sym (item_there s at n k w) ∙ e))
      by rec (inr w) = let c = item_cut s at n k w in let z : ◌≡◌ {A = ℕ} 0 1 = cc in absurd (omega arith)
  sizes_bind at (ends p q) f {a} {n = m} e = by (λ r. sizes_bind at p f r) (λ r. sizes_bind at q f r) (le_or_lt (length s) at)
    where
      by : (run s at p ≡ got a m → sizes s at (p >>= f) ≡ sizes s at p ++ sizes s m (f a)) → (run s at q ≡ got a m → sizes s at (q >>= f) ≡ sizes s at q ++ sizes s m (f a))
          → (length s ≤ at) ⊎ (at < length s)
          → cond (ltb at (length s)) (sizes s at (q >>= f)) (sizes s at (p >>= f)) ≡ cond (ltb at (length s)) (sizes s at q) (sizes s at p) ++ sizes s m (f a)
      by here later (inl w) = rw (le-ltb at (length s) w) (here (sym (ends_here s at p q w) ∙ e))
      by here later (inr w) = rw (lt-ltb at (length s) w) (later (sym (ends_later s at p q w) ∙ e))
