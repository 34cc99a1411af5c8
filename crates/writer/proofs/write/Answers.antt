-- `writer::write` meets its contract: the checks on the lists, then on the room, and then what is put. Assumes nothing.
use Prim.Native.Nat.{◌<◌, ◌≤◌}
use mathlib.Core.Path.{ap, sym, ◌∙◌}
use native.Mathlib.Omega.{arith}
use lib.ListN.{length}
use Rattle.std.specs.Prelude.{Err}
use Rattle.std.proofs.Common.{subst}
use Rattle.flow.specs.FirstRefusal.{refusal_handed}
use Rattle.format.specs.Lengths.{sets_length_most}
use Rattle.writer.specs.Writing.{lists_bytes, WrittenAs}
use Rattle.writer.proofs.Fronts.{lists_length}
use Rattle.writer.proofs.WriterLaws.{fine_lists, lists_refused, room_refused, room_passes, refused_as, written_as}
use Rattle.writer.proofs.write.Goals as goal

pub returns-in_err-check_lists : goal.returns-in_err-check_lists
returns-in_err-check_lists c =
    let a = c.args in
    let refused = refused_as _ _ _ _ _ (lists_refused _ _ _ _ _ (sym c.check_lists.ensures ∙ c.in_err-check_lists.was)) in
    subst (WrittenAs a.names.now a.nodes.now a.records.now a.sets.now a.file.now a.file.now) (sym (refusal_handed _ c.from_residual.ensures.1)) refused

pub overflow_add-end-3 : goal.overflow_add-end-3
overflow_add-end-3 c =
    let few = fine_lists _ _ _ _ (sym c.check_lists.ensures ∙ c.in_ok-check_lists.was) in
    omega (arith, few.names_few, few.nodes_few, few.records_few)

pub sets_room-requires : goal.sets_room-requires
sets_room-requires c =
    let few = fine_lists _ _ _ _ (sym c.check_lists.ensures ∙ c.in_ok-check_lists.was) in
    few.sets_few

pub overflow_add-end-4 : goal.overflow_add-end-4
overflow_add-end-4 c =
    let few = fine_lists _ _ _ _ (sym c.check_lists.ensures ∙ c.in_ok-check_lists.was) in
    omega (arith, few.names_few, few.nodes_few, few.records_few, few.sets_few, c.sets_room.ensures, sets_length_most c.args.sets.now)

pub returns-then-file-end : goal.returns-then-file-end
returns-then-file-end c =
    let a = c.args in
    let f = sym c.check_lists.ensures ∙ c.in_ok-check_lists.was in
    let sized = lists_length a.names.now a.nodes.now a.records.now a.sets.now in
    let short : length a.file.now < length (lists_bytes a.names.now a.nodes.now a.records.now a.sets.now) = omega (arith, sized, c.sets_room.ensures) in
    refused_as _ _ _ _ _ (room_refused _ _ _ _ _ f short ∙ sym (ap Err c.refusal.ensures))

pub put_lists-requires : goal.put_lists-requires
put_lists-requires c =
    let few = fine_lists _ _ _ _ (sym c.check_lists.ensures ∙ c.in_ok-check_lists.was) in
    (omega (arith, few.nodes_few), few.records_few, few.sets_few, omega (arith, c.sets_room.ensures))

pub overflow_cast-result : goal.overflow_cast-result
overflow_cast-result c =
    let few = fine_lists _ _ _ _ (sym c.check_lists.ensures ∙ c.in_ok-check_lists.was) in
    omega (arith, few.names_few, few.nodes_few, few.records_few, few.sets_few, c.sets_room.ensures, sets_length_most c.args.sets.now)

pub returns : goal.returns
returns c =
    let a = c.args in
    let f = sym c.check_lists.ensures ∙ c.in_ok-check_lists.was in
    let sized = lists_length a.names.now a.nodes.now a.records.now a.sets.now in
    let enough : length (lists_bytes a.names.now a.nodes.now a.records.now a.sets.now) ≤ length a.file.now = omega (arith, sized, c.sets_room.ensures) in
    written_as _ _ _ _ _ (room_passes _ _ _ _ _ f enough) (omega (arith, sized, c.sets_room.ensures)) c.put_lists.ensures
