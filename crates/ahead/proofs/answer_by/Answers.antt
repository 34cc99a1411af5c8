-- `ahead::answer_by` meets its contract: what the search by the cues and asks answers. Assumes nothing.
use Prim.Native.Nat.{ℕ}
use mathlib.Core.List.{List}
use mathlib.Core.Path.{sym}
use Rattle.std.proofs.Common.{subst₂}
use Rattle.judge.specs.ByCues.{cues_front}
use Rattle.ahead.specs.Answering.{NextReady, NextAnswered}
use Rattle.ahead.proofs.answer_by.Goals as goal

pub next_by-requires : goal.next_by-requires
next_by-requires g c =
    let a = c.args in
    let front = cues_front _ a.beginning.now _ _ c.write_cues.ensures in
    subst₂ (λ (xs qs : List ℕ). NextReady a.nodes.now xs qs a.list.now a.work.now) (sym front) (sym c.write_asks.ensures) c.requires.ready

pub returns : goal.returns
returns g c =
    let a = c.args in
    let front = cues_front _ a.beginning.now _ _ c.write_cues.ensures in
    subst₂ (λ (xs qs : List ℕ). NextAnswered a.nodes.now xs qs a.allowance a.list.now a.work.now c.next_by.result c.next_by.new.list c.next_by.new.work) front c.write_asks.ensures c.next_by.ensures
