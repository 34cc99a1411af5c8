-- Bytes cleared one after the other, from the front. Assumes nothing.
use Rattle.std.specs.Prelude.{ℕ, ◌+◌, ◌<◌, ◌≡◌, List, ◌++◌, length, set}
use Rattle.std.proofs.Math.Path.{sym, ap}
use Rattle.std.proofs.Common.{◌∙◌, append-nil}
use Rattle.std.proofs.Math.ListN.{drop, replicate}
use Rattle.std.proofs.Math.Seq.{drop-length}
use Rattle.std.proofs.lemmas.List.Edits.{fill_more}
use Rattle.search.specs.Room.{cleared}

-- a byte more
pub cleared_more : (work t : List ℕ) (i : ℕ) → i < length work → t ≡ cleared i work → set t i 0 ≡ cleared (i + 1) work
unfolding cleared
cleared_more work t i h e = rw e (fill_more i 0 work h)

-- all of them
pub cleared_all : (work t : List ℕ) (i : ℕ) → length work ≡ i → t ≡ cleared i work → t ≡ replicate (length work) 0
unfolding cleared
cleared_all work t i h e =
    e ∙ ap (λ (n : ℕ). replicate n 0 ++ drop n work) (sym h) ∙ ap (λ (l : List ℕ). replicate (length work) 0 ++ l) (drop-length work) ∙ append-nil (replicate (length work) 0)
