-- The walk through the entries of a names section, step by step: where it is (`walked_on`, `walk_end`), and which entry a step gives
-- (`walk_event`, `walk_here`, `walk_among`). Assumes nothing.
use Rattle.std.specs.Prelude.{ℕ, ◌+◌, ◌<◌, List, ◌≡◌, length}
use Rattle.std.proofs.Common.{ap, ◌∙◌, arith}
use Rattle.format.specs.Items.{entry_end, entries_end}
use Rattle.format.specs.ListChecks.{entries_in}
use Rattle.matching.specs.declared.Place.{Place}
use Rattle.matching.specs.declared.Entries.{Entries}
use Rattle.matching.specs.Walk.{Passed, Walked}
use Rattle.matching.proofs.CueLaws.{passed_more}

module _ {old new : Entries} {place : Place} (p : Passed old new place) {s : List ℕ} {k : ℕ} (w : Walked s k old) where
  pub walked_on : Walked s (k + 1) new
  walked_on = record {
    same = p.same ∙ w.same;
    event = omega (arith, p.event, w.event);
    at = passed_more s k w.at (p.at ∙ ap (λ (t : List ℕ). entry_end t old.next.at) w.same);
    all = omega (arith, w.all, p.left);
  }

  pub walk_event : place.event ≡ k + 1
  walk_event = ap (λ (x : Place). x.event) p.is ∙ w.event

  pub walk_here : place.at ≡ entries_end s k 2
  walk_here = ap (λ (x : Place). x.at) p.is ∙ w.at

  pub walk_among : k < length (entries_in s)
  walk_among = omega (arith, w.all, p.left)

pub walk_end : {walk : Entries} {s : List ℕ} {k : ℕ} → Walked s k walk → walk.left ≡ 0 → k ≡ length (entries_in s)
walk_end w e = omega (arith, w.all, e)
