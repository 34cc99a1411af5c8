-- Laws of every plan: two plans one after the other, an item that is there or cut, and a file that ends or goes on. Assumes nothing.
use Rattle.std.specs.Prelude.{ℕ, ◌+◌, ◌≤◌, ◌<◌, Bool, true, false, List, ◌≡◌, leb, ltb, length, take, drop}
use Rattle.std.proofs.Math.Bool.{cond}
use Rattle.std.proofs.Math.Path.{refl, ap, ap₂}
use Rattle.std.proofs.Common.{◌∙◌, le-leb, lt-ltb, le-ltb}
use Rattle.std.proofs.lemmas.Bool.{lt-leb}
use Rattle.format.specs.Plan.{Plan, done, refuse, place, item, ends, ◌>>=◌, Ran, got, bad, run}

-- what comes after a value; a refusal stays
unfoldable pub after : {A B : Type 0} → Ran A → (A → ℕ → Ran B) → Ran B
after (got a n) f = f a n
after (bad n p) f = bad n p

after_cond : {A B : Type 0} (b : Bool) (x y : Ran A) (f : A → ℕ → Ran B) → cond b (after x f) (after y f) ≡ after (cond b x y) f
after_cond true x y f = refl
after_cond false x y f = refl

module _ {A B : Type 0} (s : List ℕ) where
  pub run_bind : (at : ℕ) (p : Plan A) (f : A → Plan B) → run s at (p >>= f) ≡ after (run s at p) (λ a n. run s n (f a))
  unfolding run ◌>>=◌ after
  run_bind at (done a) f = refl
  run_bind at (refuse n p) f = refl
  run_bind at (place k) f = run_bind at (k at) f
  run_bind at (item n k) f =
      ap (λ (x : Ran B). cond (leb (at + n) (length s)) x (bad 15 at)) (run_bind (at + n) (k (take n (drop at s))) f)
      ∙ after_cond (leb (at + n) (length s)) (run s (at + n) (k (take n (drop at s)))) (bad 15 at) (λ a m. run s m (f a))
  run_bind at (ends p q) f =
      ap₂ (λ (x y : Ran B). cond (ltb at (length s)) x y) (run_bind at q f) (run_bind at p f)
      ∙ after_cond (ltb at (length s)) (run s at q) (run s at p) (λ a m. run s m (f a))

  -- the first plan refuses, and so both do
  pub bind_bad : {n q : ℕ} (at : ℕ) (p : Plan A) (f : A → Plan B) → run s at p ≡ bad n q → run s at (p >>= f) ≡ bad n q
  unfolding after
  bind_bad at p f e = rw (run_bind, e)

  -- the first plan finds a value, and the second goes on there
  pub bind_got : {a : A} {n : ℕ} (at : ℕ) (p : Plan A) (f : A → Plan B) → run s at p ≡ got a n → run s at (p >>= f) ≡ run s n (f a)
  unfolding after
  bind_got at p f e = rw (run_bind, e)

module _ {A : Type 0} (s : List ℕ) (at n : ℕ) (k : List ℕ → Plan A) where
  pub item_there : at + n ≤ length s → run s at (item n k) ≡ run s (at + n) (k (take n (drop at s)))
  unfolding run
  item_there h = rw (le-leb (at + n) (length s) h)

  pub item_cut : length s < at + n → run s at (item n k) ≡ bad 15 at
  unfolding run
  item_cut h = rw (lt-leb (at + n) (length s) h)

module _ {A : Type 0} (s : List ℕ) (at : ℕ) (p q : Plan A) where
  pub ends_here : length s ≤ at → run s at (ends p q) ≡ run s at p
  unfolding run
  ends_here h = rw (le-ltb at (length s) h)

  pub ends_later : at < length s → run s at (ends p q) ≡ run s at q
  unfolding run
  ends_later h = rw (lt-ltb at (length s) h)
