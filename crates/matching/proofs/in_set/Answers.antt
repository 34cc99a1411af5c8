-- `matching::in_set` meets its contract: by whether the number is an event's; a byte that is missing counts as 0. Assumes nothing.
use Prim.Native.Nat.{ℕ, ◌+◌, ◌-◌, ◌*◌, ◌/◌}
use mathlib.Core.Path.{◌≡◌, ap, ◌∙◌}
use native.Mathlib.Omega.{arith}
use lib.ListN.{get_or}
use Rattle.std.specs.Option.{unwrap_or}
use Rattle.flow.specs.Legends.{set_bytes}
use Rattle.matching.specs.SetLaws.{set_no_event, set_there}
use Rattle.matching.proofs.in_set.Goals as goal

pub returns-then-event : goal.returns-then-event
returns-then-event c = set_no_event _ _ _ c.if-event.true

pub returns : goal.returns
returns c =
    let a = c.args in
    let s = a.sets.now in
    let byte : c.unwrap_or-byte.result ≡ get_or s (set_bytes * a.set + (a.event - 1) / 8) 0 =
    c.unwrap_or-byte.ensures ∙ ap (λ o. unwrap_or o 0) c.copied.ensures ∙ c.get.ensures.lookup.4 (omega arith) 0
    ∙ ap (λ (k : ℕ). get_or s (set_bytes * a.set + k / 8) 0) c.from.ensures in
    rw byte (set_there s a.set a.event c.if-event.false)
