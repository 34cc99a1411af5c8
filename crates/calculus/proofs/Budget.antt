-- The search that is given what is left of the allowance (Spending) gives the verdict of the search that is counted: `budgeted`.
-- What it brings back of any allowance is what the counted search saw, or nothing where that is more (`visit_left`); so what is brought
-- back of one allowance tells of any larger one (`more_left`), and what was seen (`back_seen`). Assumes nothing.
use Prim.Native.Nat.{ℕ, zero, suc, ◌+◌, ◌-◌, max, ◌≤◌, ◌<◌}
use Rattle.std.specs.Prelude.{◌≡◌, Bool, true, leb, length}
use Rattle.std.proofs.Math.Path.{refl, ap}
use Rattle.std.proofs.Common.{sym, ◌∙◌, ap₂, subst, arith, le-leb}
use Rattle.std.proofs.Math.Bool.{false, cond}
use mathlib.Core.List.{List, [], ◌∷◌}
use Rattle.std.proofs.lemmas.Bool.{lt-leb}
use Rattle.calculus.specs.Records.{Record, State}
use Rattle.calculus.specs.Spending.{Out, spent, back, bump, chain, tries_b, visit_b, left_of}
use Rattle.calculus.specs.Search.{next, Seen, or_else, tries, visit, Verdict, accepted, rejected, undecided, settle, judge}

-- what came back is what is seen, if the allowance n is enough
data Fits (x : Seen) (n : ℕ) : Out → Type 0 where
  fit : {b : Bool} {d m : ℕ} → b ≡ x.found → d ≡ x.reached → n ≡ x.entered + m → Fits x n (back b d m)
  short : n < x.entered → Fits x n spent

more : (b : Bool) (x : Seen) (others : Unit {0} → Seen) → x.entered ≤ (or_else b x others).entered
unfolding or_else
more true x others = omega arith
more false x others = omega arith

module _ (f : State → Seen) (fB : State → ℕ → Out) (h : (t : State) (n : ℕ) → Fits (f t) n (fB t n)) where
  tries_fits : (ss : List State) (n : ℕ) → Fits (tries f ss) n (tries_b fB ss n)
  unfolding tries tries_b
  tries_fits [] n = fit {m = n} refl refl (omega arith)
  tries_fits (s ∷ ss) n = go (fB s n) (h s n) (λ m. tries_fits ss m)
    where
      after : (d m : ℕ) → d ≡ (f s).reached → n ≡ (f s).entered + m → (o : Out) → Fits (tries f ss) m o → Fits (or_else false (f s) (λ u. tries f ss)) n (bump (suc d) o)
      after d m ed en spent (short k) = short (omega arith)
      after d m ed en (back b e l) (fit eb ee el) = fit {m = l} eb (ap₂ (λ x y. max (suc x) y) ed ee) (omega arith)

      turn : (b : Bool) (d m : ℕ) → d ≡ (f s).reached → n ≡ (f s).entered + m → ((m : ℕ) → Fits (tries f ss) m (tries_b fB ss m)) → Fits (or_else b (f s) (λ u. tries f ss)) n (chain (back b d m) (λ m. tries_b fB ss m))
      turn true d m ed en below = fit refl (ap suc ed) en
      turn false d m ed en below = after d m ed en (tries_b fB ss m) (below m)

      go : (o : Out) → Fits (f s) n o → ((m : ℕ) → Fits (tries f ss) m (tries_b fB ss m)) → Fits (or_else (f s).found (f s) (λ u. tries f ss)) n (chain o (λ m. tries_b fB ss m))
      go spent (short k) below = short (omega (arith, more (f s).found (f s) (λ u. tries f ss)))
      go (back b d m) (fit eb ed en) below = subst (λ c. Fits (or_else c (f s) (λ u. tries f ss)) n (chain (back b d m) (λ m. tries_b fB ss m))) eb (turn b d m ed en below)

visit_fits : (rs : List Record) (s : State) (n : ℕ) → Fits (visit rs s) n (visit_b rs s n)
unfolding visit visit_b
visit_fits [] s zero = short (omega arith)
visit_fits [] s (suc n) = fit {m = n} refl refl (omega arith)
visit_fits (r ∷ rs) s zero = short (omega arith)
visit_fits (r ∷ rs) s (suc n) = one_more (tries_b (λ t m. visit_b rs t m) (next s r) n) (tries_fits (λ t. visit rs t) (λ t m. visit_b rs t m) (λ t m. visit_fits rs t m) (next s r) n)
  where
    one_more : (o : Out) → Fits (tries (λ t. visit rs t) (next s r)) n o → Fits (visit (r ∷ rs) s) (suc n) o
    one_more spent (short k) = short (omega arith)
    one_more (back b d m) (fit eb ed en) = fit {m = m} eb ed (omega arith)

-- what is seen decides what is brought back
pub visit_left : (rs : List Record) (s : State) (n : ℕ) → visit_b rs s n ≡ left_of (visit rs s) n
unfolding left_of
visit_left rs s n = by (visit_b rs s n) (visit_fits rs s n)
  where
    by : (o : Out) → Fits (visit rs s) n o → o ≡ left_of (visit rs s) n
    by spent (short k) = sym (ap (λ c. cond c (back (visit rs s).found (visit rs s).reached (n - (visit rs s).entered)) spent) (lt-leb (visit rs s).entered n k))
    by (back b d m) (fit eb ed en) =
        let q : m ≡ n - (visit rs s).entered = omega arith in
        (λ i. back (eb i) (ed i) (q i))
        ∙ sym (ap (λ c. cond c (back (visit rs s).found (visit rs s).reached (n - (visit rs s).entered)) spent) (le-leb (visit rs s).entered n (omega arith)))

module _ (rs : List Record) (s : State) (n : ℕ) {b : Bool} {d m : ℕ} (e : visit_b rs s n ≡ back b d m) where
  fitted : Fits (visit rs s) n (back b d m)
  fitted = subst (Fits (visit rs s) n) e (visit_fits rs s n)

  -- what was seen, told by what came back
  pub back_seen : visit rs s ≡ record { found = b; reached = d; entered = n - m }
  back_seen = by fitted
    where
      by : Fits (visit rs s) n (back b d m) → visit rs s ≡ record { found = b; reached = d; entered = n - m }
      by (fit eb ed en) =
          let q : (visit rs s).entered ≡ n - m = omega arith in
          λ i. record { found = sym eb i; reached = sym ed i; entered = q i }

  -- with a larger allowance more is left, and nothing else is different
  pub more_left : (l : ℕ) → m ≤ n → n ≤ l → visit_b rs s l ≡ back b d (l - (n - m))
  unfolding left_of
  more_left l h k =
      visit_left rs s l ∙ ap (λ x. left_of x l) back_seen
      ∙ ap (λ c. cond c (back b d (l - (n - m))) spent) (le-leb (n - m) l (omega arith))

unfoldable pub answer : List Record → ℕ → Out → Verdict
answer rs n spent = undecided 0 n
answer rs n (back true d m) = accepted (length rs) (n - m)
answer rs n (back false d m) = rejected d (n - m)

-- the program's search gives the document's verdict
pub budgeted : (s : State) (rs : List Record) (n : ℕ) → answer rs n (visit_b rs s n) ≡ judge s rs n
unfolding answer judge
budgeted s rs n = by (visit_b rs s n) (visit_fits rs s n)
  where
    by : (o : Out) → Fits (visit rs s) n o → answer rs n o ≡ judge s rs n
    by spent (short k) = sym (ap (λ c. settle c (visit rs s).found (length rs) n (visit rs s)) (lt-leb (visit rs s).entered n k))
    by (back b d m) (fit eb ed en) =
        let e : leb (visit rs s).entered n ≡ true = le-leb (visit rs s).entered n (omega arith) in
        let c : n - m ≡ (visit rs s).entered = omega arith in
        turn b ∙ ap₂ (λ e b. settle e b (length rs) n (visit rs s)) (sym e) eb
      where
        turn : (b : Bool) → answer rs n (back b d m) ≡ settle true b (length rs) n (visit rs s)
        turn true = ap (accepted (length rs)) (omega arith)
        turn false = ap₂ rejected ed (omega arith)
