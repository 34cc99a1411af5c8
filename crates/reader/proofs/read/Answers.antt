-- `reader::read` meets its contract: each return is one case of `reading`; the tables are written in the last one only.
-- Assumes nothing.
use Prim.Native.Nat.{ℕ, ◌*◌}
use mathlib.Core.Logic.{inl, inr}
use mathlib.Core.Path.{refl, ap, ◌∙◌}
use native.Mathlib.Omega.{arith}
use lib.ListN.{length}
use Rattle.std.specs.Prelude.{Err}
use Rattle.format.specs.Items.{at_front, numbers_at}
use Rattle.flow.specs.FirstRefusal.{refusal_handed}
use Rattle.reader.specs.LayoutLaws.{placed_inside}
use Rattle.reader.specs.ReaderLaws.{lays_placed, lays_refused, reading_short, reading_laid, read_as, read_refused, read_faulty, read_fine}
use Rattle.reader.proofs.read.Goals as goal

pub returns-then-nodes-lt-NODE_ROOM : goal.returns-then-nodes-lt-NODE_ROOM
returns-then-nodes-lt-NODE_ROOM c =
    let s = c.args.file.now in
    let ns = c.args.nodes.now in
    let rs = c.args.records.now in
    read_refused s ns rs (ap Err c.refusal.ensures) (reading_short s (length ns) (length rs) (elim c.then-nodes-lt-NODE_ROOM.either [ inl h ↦ inl h | inr h ↦ inr h.1 ]))

pub returns-in_err-o : goal.returns-in_err-o
returns-in_err-o c =
    let s = c.args.file.now in
    let ns = c.args.nodes.now in
    let rs = c.args.records.now in
    read_refused s ns rs (refusal_handed _ c.from_residual.ensures.1) (reading_laid s (length ns) (length rs) (omega arith) (omega arith)
    ∙ lays_refused s c.in_err-o.ensures refl)

pub check_numbers-requires : goal.check_numbers-requires
check_numbers-requires c =
    let p = lays_placed _ c.in_ok-o.ensures refl in
    placed_inside _ p.1

pub returns-in_err-check_numbers : goal.returns-in_err-check_numbers
returns-in_err-check_numbers c =
    let s = c.args.file.now in
    let ns = c.args.nodes.now in
    let rs = c.args.records.now in
    let p = lays_placed _ c.in_ok-o.ensures refl in
    read_refused s ns rs (refusal_handed _ c.from_residual-in_err-check_numbers.ensures.1) (read_faulty s ns rs p.1 (omega arith) (omega arith) c.check_numbers.ensures c.in_err-check_numbers.was)

pub fill-requires : goal.fill-requires
fill-requires c =
    let p = lays_placed _ c.in_ok-o.ensures refl in
    let i = placed_inside _ p.1 in
    (omega arith, omega arith)

pub fill-requires-2 : goal.fill-requires-2
fill-requires-2 c =
    let p = lays_placed _ c.in_ok-o.ensures refl in
    let i = placed_inside _ p.1 in
    (omega arith, omega arith)

pub returns : goal.returns
returns c =
    let s = c.args.file.now in
    let ns = c.args.nodes.now in
    let rs = c.args.records.now in
    let p = lays_placed _ c.in_ok-o.ensures refl in
    let q = read_fine s ns rs p.1 (omega arith) (omega arith) c.check_numbers.ensures c.in_ok-check_numbers.was in
    let o = c.in_ok-o.o in
    let nodes = ap (λ (n : ℕ). at_front (numbers_at s (3 * n) o.nodes) ns) c.from-n.ensures in
    let records = ap (λ (n : ℕ). at_front (numbers_at s n o.records) rs) c.from-k.ensures in
    read_as s ns rs q refl (c.fill.ensures ∙ nodes) (c.fill-2.ensures ∙ records)
