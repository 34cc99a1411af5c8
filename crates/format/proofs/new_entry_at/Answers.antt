-- `format::new_entry_at` meets its contract: an entry, and 18 where it is one of the earlier ones.
-- Assumes nothing.
use mathlib.Core.Path.{refl, ap, sym, ◌∙◌}
use Rattle.format.specs.Format.{Entry}
use Rattle.format.specs.ItemLaws.{entry_there, handed_on, has_found, item_bad, item_got}
use Rattle.format.specs.Items.{entries_at}
use Rattle.format.specs.Sections.{met}
use Rattle.format.specs.SectionLaws.{new_entry_bad, new_entry_met, new_entry_got}
use Rattle.format.proofs.new_entry_at.Goals as goal

pub returns-in_err-got : goal.returns-in_err-got
returns-in_err-got c = handed_on _ _ _ _ (λ n p. new_entry_bad _ _ _) c.in_err-got.ensures c.from_residual.ensures.1

pub met_before-requires : goal.met_before-requires
met_before-requires c =
    let f = has_found _ _ c.in_ok-got.ensures in
    let t = entry_there _ _ f.is in
    record { start = c.requires.1; whole = t.inside }

pub returns-then-met_before : goal.returns-then-met_before
returns-then-met_before c =
    let f = has_found _ _ c.in_ok-got.ensures in
    let t = entry_there _ _ f.is in
    let es = entries_at c.args.file.now c.args.earlier 2 in
    let m = ap (λ (e : Entry). met e es) t.is ∙ sym c.met_before.ensures ∙ c.if-met_before.true in
    item_bad _ _ c.refusal.ensures (new_entry_met _ _ _ f.is m)

pub returns : goal.returns
returns c =
    let f = has_found _ _ c.in_ok-got.ensures in
    let t = entry_there _ _ f.is in
    let es = entries_at c.args.file.now c.args.earlier 2 in
    let m = ap (λ (e : Entry). met e es) t.is ∙ sym c.met_before.ensures ∙ c.if-met_before.false in
    item_got _ _ f.sized refl (new_entry_got _ _ _ f.is m)
