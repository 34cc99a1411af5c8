-- 01, "Judged by hand": the fourteen marked lines as one table under one claim, and the three others likewise. They follow from
-- the definitions by computation. Assumes nothing.
use Rattle.std.specs.Prelude.{ℕ, ◌≡◌, refl, List, [], ◌∷◌, map}
use Rattle.calculus.specs.Term.{none, done, withdrawn, failed, leaf, Std, skip, throw, yield, ev, seq, alt, par, blk, pair, cseq, cpar, throww, yieldd}
use Rattle.calculus.specs.Records.{Record, event, close, State, std, cmp}
use Rattle.calculus.specs.Search.{Verdict, accepted, rejected, undecided, judge}

pub record Row : Type 0 where
  pub flow : State
  pub records : List Record
  pub allowance : ℕ
  pub verdict : Verdict

abbrev a : Std
a = ev (leaf 1)

abbrev b : Std
b = ev (leaf 2)

abbrev c : Std
c = ev (leaf 3)

abbrev d : Std
d = ev (leaf 4)

abbrev A : Record
A = event 1

abbrev B : Record
B = event 2

abbrev C : Record
C = event 3

abbrev D : Record
D = event 4

abbrev ✓ : Record
✓ = close done

abbrev ⁇ : Record
⁇ = close withdrawn

abbrev ‼ : Record
‼ = close failed

abbrev row : State → List Record → ℕ → Verdict → Row
row s rs n v = record { flow = s; records = rs; allowance = n; verdict = v }

abbrev big : ℕ
big = 1_000_000

unfoldable pub table : List Row
table =
    row (std skip) (✓ ∷ []) big (accepted 1 2)
    ∷ row (std (seq a b)) (A ∷ B ∷ ✓ ∷ []) big (accepted 3 4)
    ∷ row (std (alt a a)) (A ∷ ‼ ∷ []) big (rejected 1 3)
    ∷ row (std (blk (cseq (pair a b) throww))) (A ∷ B ∷ ✓ ∷ []) big (accepted 3 4)
    ∷ row (std (blk (cseq (pair a b) throww))) (A ∷ ✓ ∷ []) big (rejected 1 2)
    ∷ row (std (blk yieldd)) (⁇ ∷ []) big (rejected 0 1)
    ∷ row (std (par none throw (seq yield a))) (⁇ ∷ []) big (rejected 0 1)
    ∷ row (std (seq (seq yield a) throw)) (⁇ ∷ []) big (accepted 1 2)
    ∷ row (std (blk (cseq (cseq (pair a b) (pair c d)) throww))) (A ∷ C ∷ D ∷ B ∷ ✓ ∷ []) big (accepted 5 6)
    ∷ row (std (blk (cseq (cseq (pair a b) (pair c d)) throww))) (A ∷ C ∷ B ∷ D ∷ ✓ ∷ []) big (rejected 2 3)
    ∷ row (std (blk (cseq (cpar none (pair a b) (pair c d)) throww))) (A ∷ C ∷ D ∷ B ∷ ✓ ∷ []) big (accepted 5 6)
    ∷ row (std (par none a a)) (A ∷ A ∷ ‼ ∷ []) 5 (rejected 2 5)
    ∷ row (std (par none a a)) (A ∷ A ∷ ‼ ∷ []) 4 (undecided 0 4)
    ∷ row (cmp (pair a b)) (A ∷ ✓ ∷ B ∷ ✓ ∷ []) big (accepted 4 5)
    ∷ []

abbrev judged : Row → Verdict
judged r = judge r.flow r.records r.allowance

pub judged_by_hand : map judged table ≡ map (λ r. r.verdict) table
unfolding table judge
judged_by_hand = refl

-- the three that are not marked
pub rest : List Row
rest =
    row (std (blk yieldd)) (✓ ∷ []) big (accepted 1 2)
    ∷ row (std (par none throw (seq yield a))) (A ∷ ‼ ∷ []) big (accepted 2 3)
    ∷ row (cmp throww) (‼ ∷ ✓ ∷ []) big (accepted 2 3)
    ∷ []

pub rest_by_hand : map judged rest ≡ map (λ r. r.verdict) rest
unfolding rest judge
rest_by_hand = refl
