-- Whether bytes are a names section that is not refused, as a test (`is_whole`), which a value keeps beside its bytes. It says the same as
-- `Whole` (format, ListChecks): `whole_by`, `by_whole`. Assumes nothing.
use Rattle.std.specs.Prelude.{ℕ, Bool, true, false, List, ◌≡◌, refl}
use Rattle.std.proofs.Common.{ap, sym, ◌∙◌}
use Rattle.format.specs.Format.{Entry}
use Rattle.format.specs.Plan.{Ran, got, bad}
use Rattle.format.specs.ListChecks.{section_alone, entries_of, entries_in, Whole}

unfoldable pub is_got : {A : Type 0} → Ran A → Bool
is_got (got a at) = true
is_got (bad n p) = false

unfoldable pub is_whole : List ℕ → Bool
unfolding is_got
is_whole s = is_got (section_alone s)

pub whole_by : (s : List ℕ) → is_whole s ≡ true → Whole s
unfolding is_whole is_got entries_in entries_of
whole_by s t = by (section_alone s) refl t
  where
    by : (r : Ran (List Entry)) → section_alone s ≡ r → is_got r ≡ true → Whole s
    by (got es at) q t = record { end = at; is = q ∙ ap (λ (r : Ran (List Entry)). got (entries_of r) at) (sym q) }
    by (bad n p) q t = cc

pub by_whole : (s : List ℕ) → Whole s → is_whole s ≡ true
unfolding is_whole is_got
by_whole s w = ap is_got w.is
