-- A row has the numbers of a word exactly if it is that word without what weights do not look at. Assumes nothing.
use Rattle.std.specs.Prelude.{ℕ, ◌≡◌, false, ◌&&◌, List, T, eqb}
use Rattle.std.proofs.Common.{sym, ap, subst, eqb→eq, eq-eqb}
use Rattle.calculus.proofs.Members.{and_in, and_left, and_right}
use Rattle.tallies.specs.declared.Tally.{Tally}
use Rattle.tallies.specs.declared.Word.{Word}
use Rattle.tallies.specs.Formulas.{tallied, worded}
use Rattle.tallies.specs.Bare.{bare_t, bare_w}
use Rattle.states.specs.Rows.{share, row, same_share, same_row}

same_number : {m n : ℕ} → m ≡ n → T (eqb m n)
same_number {m} {n} e = subst T (sym (eq-eqb m n e)) tt

share_same : (y x : Tally) → y ≡ bare_t x → T (same_share y x)
unfolding same_share
share_same y x e =
    and_in (eqb y.many x.many) (eqb y.able x.able && eqb y.moves x.moves) (same_number (ap (λ z. z.many) e))
    (and_in (eqb y.able x.able) (eqb y.moves x.moves) (same_number (ap (λ z. z.able) e)) (same_number (ap (λ z. z.moves) e)))

same_is_share : (d : List ℕ) (k : ℕ) (x : Tally) → T (same_share (share d k) x) → share d k ≡ bare_t x
unfolding same_share
same_is_share d k x h =
    let y = share d k in
    let rest = and_right (eqb y.many x.many) (eqb y.able x.able && eqb y.moves x.moves) h in
    let m : y.many ≡ x.many = eqb→eq _ _ (and_left (eqb y.many x.many) (eqb y.able x.able && eqb y.moves x.moves) h) in
    let a : y.able ≡ x.able = eqb→eq _ _ (and_left (eqb y.able x.able) (eqb y.moves x.moves) rest) in
    let n : y.moves ≡ x.moves = eqb→eq _ _ (and_right (eqb y.able x.able) (eqb y.moves x.moves) rest) in
    λ z. tallied (m z) (a z) (n z) false false

pub row_same : (y x : Word) → y ≡ bare_w x → T (same_row y x)
unfolding same_row
row_same y x e =
    and_in (same_share y.done x.done) (same_share y.withdrawn x.withdrawn && same_share y.failed x.failed) (share_same y.done x.done (ap (λ z. z.done) e))
    (and_in (same_share y.withdrawn x.withdrawn) (same_share y.failed x.failed) (share_same y.withdrawn x.withdrawn (ap (λ z. z.withdrawn) e)) (share_same y.failed x.failed (ap (λ z. z.failed) e)))

pub same_is_row : (d : List ℕ) (i : ℕ) (x : Word) → T (same_row (row d i) x) → row d i ≡ bare_w x
unfolding same_row row
same_is_row d i x h =
    let y = row d i in
    let rest = and_right (same_share y.done x.done) (same_share y.withdrawn x.withdrawn && same_share y.failed x.failed) h in
    let p : y.done ≡ bare_t x.done = same_is_share d _ x.done (and_left (same_share y.done x.done) (same_share y.withdrawn x.withdrawn && same_share y.failed x.failed) h) in
    let q : y.withdrawn ≡ bare_t x.withdrawn = same_is_share d _ x.withdrawn (and_left (same_share y.withdrawn x.withdrawn) (same_share y.failed x.failed) rest) in
    let r : y.failed ≡ bare_t x.failed = same_is_share d _ x.failed (and_right (same_share y.withdrawn x.withdrawn) (same_share y.failed x.failed) rest) in
    λ z. worded 0 (p z) (q z) (r z)
