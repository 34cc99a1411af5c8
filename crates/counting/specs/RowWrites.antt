-- How a row is written: three numbers of a closing (`shared_by`), and those of all three closings (`written_by`); and what is written to the
-- tables in a role (`plain_writes`, `run_writes`). Theorems only. Assumes nothing.
use Rattle.std.specs.Prelude.{ℕ, ◌+◌, ◌*◌, ◌<◌, ◌≤◌, ◌≡◌, refl, Bool, true, false, List, ◌≢◌, ltb, length, set}
use Rattle.std.proofs.Common.{sym, ◌∙◌, ap, arith, ltb-true, ltb-false}
use Rattle.tallies.specs.declared.Tally.{Tally}
use Rattle.tallies.specs.declared.View.{View}
use Rattle.tallies.specs.declared.Word.{Word}
use Rattle.tallies.specs.Formulas.{tallied, worded}
use Rattle.tallies.specs.Bare.{bare_w}
use Rattle.states.specs.declared.Sense.{Sense}
use Rattle.states.specs.declared.Role.TheVariants.{Plain, Running}
use Rattle.states.specs.Rows.{share, row, Shared, Written, notes, Entry}
use Rattle.states.specs.ChildLaws.{set_sets}
use Rattle.states.specs.Clauses.{Sets, Writes}

three_set : {d d₁ d₂ d₃ : List ℕ} {k : ℕ} (x : Tally) → Sets d k x.many d₁ → Sets d₁ (k + 1) x.able d₂ → Sets d₂ (k + 2) x.moves d₃ → Shared d k x d₃
three_set {d} {d₁} {d₂} {d₃} {k} x p q r =
    let m = r.others k (λ e. omega (arith, e)) ∙ q.others k (λ e. omega (arith, e)) ∙ p.here in
    let n = r.others (k + 1) (λ e. omega (arith, e)) ∙ q.here in
    record {
      here = λ z. tallied (m z) (n z) (r.here z) false false;
      before = λ j l. r.others j (λ e. omega (arith, e)) ∙ q.others j (λ e. omega (arith, e)) ∙ p.others j (λ e. omega (arith, e));
      after = λ j l. r.others j (λ e. omega (arith, e)) ∙ q.others j (λ e. omega (arith, e)) ∙ p.others j (λ e. omega (arith, e));
      long = r.long ∙ q.long ∙ p.long;
    }

pub shared_by : (d : List ℕ) {k : ℕ} (x : Tally) → k + 2 < length d → Shared d k x (set (set (set d k x.many) (k + 1) x.able) (k + 2) x.moves)
shared_by d {k} x h =
    let p : Sets d k x.many (set d k x.many) = set_sets (omega arith) refl in
    let q : Sets (set d k x.many) (k + 1) x.able (set (set d k x.many) (k + 1) x.able) = set_sets (omega (arith, p.long)) refl in
    three_set x p q (set_sets (omega (arith, p.long, q.long)) refl)

module _ {d d' : List ℕ} {k : ℕ} {x : Tally} (w : Shared d k x d') where
  share_below : (m : ℕ) → m + 3 ≤ k → share d' m ≡ share d m
  share_below m l = λ z. tallied (w.before m (omega arith) z) (w.before (m + 1) (omega arith) z) (w.before (m + 2) (omega arith) z) false false

  share_above : (m : ℕ) → k + 3 ≤ m → share d' m ≡ share d m
  share_above m l = λ z. tallied (w.after m (omega arith) z) (w.after (m + 1) (omega arith) z) (w.after (m + 2) (omega arith) z) false false

  row_below : (j i : ℕ) → j < i → 9 * i ≤ k → row d' j ≡ row d j
  unfolding row
  row_below j i h l = λ z. worded 0 (share_below (9 * j) (omega arith) z) (share_below (9 * j + 3) (omega arith) z) (share_below (9 * j + 6) (omega arith) z)

  row_above : (j i : ℕ) → i < j → k + 3 ≤ 9 * i + 9 → row d' j ≡ row d j
  unfolding row
  row_above j i h l = λ z. worded 0 (share_above (9 * j) (omega arith) z) (share_above (9 * j + 3) (omega arith) z) (share_above (9 * j + 6) (omega arith) z)

pub written_by : {d d₁ d₂ d₃ : List ℕ} {i : ℕ} (x : Word) → Shared d (9 * i) x.done d₁ → Shared d₁ (9 * i + 3) x.withdrawn d₂ → Shared d₂ (9 * i + 6) x.failed d₃ → Written d i x d₃
unfolding row
written_by {d} {d₁} {d₂} {d₃} {i} x p q r =
    let e = share_below r (9 * i) (omega arith) ∙ share_below q (9 * i) (omega arith) ∙ p.here in
    let f = share_below r (9 * i + 3) (omega arith) ∙ q.here in
    record { here = λ z. worded 0 (e z) (f z) (r.here z); others = λ j n. by j n (ltb j i) refl; long = r.long ∙ q.long ∙ p.long }
  where
    by : (j : ℕ) → j ≢ i → (b : Bool) → ltb j i ≡ b → row d₃ j ≡ row d j
    by j n true g = let l = ltb-true j i g in row_below r j i l (omega arith) ∙ row_below q j i l (omega arith) ∙ row_below p j i l (omega arith)
    by j n false g = let l : i < j = omega (arith, n, ltb-false j i g) in row_above r j i l (omega arith) ∙ row_above q j i l (omega arith) ∙ row_above p j i l (omega arith)

-- Both tables -----------------------------------------------------------------------------------------------------------------

abbrev entry : ℕ → Word → Entry
entry n w = record { steps = n; row = w }

-- a number of steps is noted, and what is answered is what was given
pub plain_writes : {z : Sense} {c c' d : List ℕ} {i : ℕ} {y w : View} → (w ≡ y) × Sets c i y.moves c' → Writes (Plain z) (notes c d) i w (notes c' d)
plain_writes {d = d} h = record { here = h.1.here ∙ ap (λ v. v.moves) (sym h.0); others = λ j n. ap (λ m. entry m (row d j)) (h.1.others j n); long = refl }

-- and a row too
pub run_writes : {c c' d d' : List ℕ} {i : ℕ} {u v : Word} → (v ≡ u) × (Sets c i u.moves c' × Written d i u d') → Writes Running (notes c d) i v (notes c' d')
run_writes {c} {c'} {d} {d'} {i} {u} {v} h = record {
  here = (h.1.0.here ∙ ap (λ w. w.moves) (sym h.0), h.1.1.here ∙ ap bare_w (sym h.0));
  others = λ j n z. entry (h.1.0.others j n z) (h.1.1.others j n z);
  long = h.1.1.long;
}
