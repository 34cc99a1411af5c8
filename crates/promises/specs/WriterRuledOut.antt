-- Wrong writers that the contract of `write` rules out: lists on which a wrong one answers or writes something else. All from the
-- definitions by computation; the lists are those of the worked files, whose names sections have 19 bytes. Theorems only. Assumes nothing.
use Rattle.std.specs.Prelude.{ℕ, List, [], ◌∷◌, ◌++◌, map, ◌≡◌, refl, take, drop, replicate, Result}
use Rattle.std.proofs.Math.Bool.{xor}
use Rattle.std.proofs.Common.{◌∙◌}
use Rattle.flow.specs.Kinds.{joint_kind}
use Rattle.flow.specs.Records.{is_event_number, is_closing_number}
use Rattle.flow.specs.Refusals.{no_nodes, not_whole, too_many_nodes, unknown_kind, no_such_set, wrong_field, not_lower, is_child, taken, wrong_sort, child_taken, nobodys_child, wrong_sets, no_records, too_many_records, no_record, closings_wanted, closed, wrong_closings, closings_place, after_closings, node_grounds, child_grounds, value_grounds}
use Rattle.flow.specs.Checks.{or_else_check, answer, first, each}
use Rattle.format.specs.Format.{number_bytes, numbers_bytes, name_bytes, entry_bytes, entries_bytes, names_section, numbers_section, sets_section, encode}
use Rattle.format.specs.Plan.{◌>>=◌, run}
use Rattle.format.specs.Sections.{byte, number, ranged, name, entry, same_bytes, same_step, same_entry, met, new_entry, entries, names}
use Rattle.format.specs.Contents.{unnamed_leaf, unnamed_event}
use Rattle.format.specs.ListChecks.{nothing_behind, section_alone, by_entries, named_check}
use Rattle.format.specs.Told.{at_front}
use Rattle.flow.specs.declared.Refusal.{Refusal}
use Rattle.writer.specs.declared.Size.{Size}
use Rattle.writer.specs.Told.{WritingTold, writing_told, writing_written, writing_refused}
use Rattle.writer.specs.Writing.{lists_bytes, write_check, wrote, put_first, writing, bytes_first, WrittenAs}
use Rattle.promises.specs.Worked.{worked, meeting}

---- What is answered ----

-- what is lent: a names section, nodes, records, sets and so many bytes; and what is told
pub record WriterLine : Type 0 where
  pub names : List ℕ
  pub nodes : List ℕ
  pub records : List ℕ
  pub sets : List ℕ
  pub room : ℕ
  pub told : WritingTold

-- without sets
abbrev writer_line : List ℕ → List ℕ → List ℕ → ℕ → WritingTold → WriterLine
writer_line names nodes records room told = record { names = names; nodes = nodes; records = records; sets = []; room = room; told = told }

-- the lists of the file with a set, with such sets
abbrev sets_line : List ℕ → ℕ → WritingTold → WriterLine
sets_line sets room told =
    record { names = names_section meeting.names; nodes = meeting.nodes; records = meeting.records; sets = sets; room = room; told = told }

abbrev section : List ℕ
section = names_section worked.names

-- A writer that only refuses fails at the first line, one that writes everything at any that tells a refusal. One that wants a byte more or
-- less fails at the first two; one that gives 2 where there are no nodes, or 10 before 1, at the third; 3 before 2 at the fifth; 21 at another
-- byte than the one behind the last entry at the eighth, and one that does not look there too; 15 at the length byte of a name that is cut at
-- the ninth; one that looks for 19 among the records, or for room first, at the next two. The last four are lists with a kind of set 0: a
-- writer that forgets the sets, or their count, fails at the first of them; then room is short by a byte; half a set is 23, and none 22.
unfoldable pub write_lines : List WriterLine
write_lines =
    writer_line section worked.nodes worked.records 65 (writing_written 65)
    ∷ writer_line section worked.nodes worked.records 64 (writing_refused 14 0)
    ∷ writer_line section [] [] 65 (writing_refused 1 0)
    ∷ writer_line section (1 ∷ 1 ∷ 0 ∷ 1 ∷ []) worked.records 65 (writing_refused 2 0)
    ∷ writer_line section (replicate 200 0) worked.records 65 (writing_refused 2 0)
    ∷ writer_line section (replicate 195 0) worked.records 65 (writing_refused 3 0)
    ∷ writer_line section worked.nodes [] 65 (writing_refused 10 0)
    ∷ writer_line (section ++ (0 ∷ 0 ∷ [])) worked.nodes worked.records 65 (writing_refused 21 19)
    ∷ writer_line (take 10 section) worked.nodes worked.records 65 (writing_refused 15 8)
    ∷ writer_line section (1 ∷ 3 ∷ 0 ∷ []) (1 ∷ 61441 ∷ []) 65 (writing_refused 19 0)
    ∷ writer_line section (1 ∷ 1 ∷ 0 ∷ []) (3 ∷ 61441 ∷ []) 0 (writing_refused 20 0)
    ∷ sets_line meeting.sets 93 (writing_written 93)
    ∷ sets_line meeting.sets 92 (writing_refused 14 0)
    ∷ sets_line (take 16 meeting.sets) 93 (writing_refused 23 0)
    ∷ sets_line [] 93 (writing_refused 22 4)
    ∷ []

pub write_lines_told : map (λ l. writing_told (writing l.names l.nodes l.records l.sets l.room)) write_lines ≡ map (λ l. l.told) write_lines
unfolding write_lines joint_kind xor names_section numbers_section sets_section entries_bytes entry_bytes name_bytes numbers_bytes number_bytes run ◌>>=◌ byte number ranged name entry same_bytes same_step same_entry met new_entry entries names unnamed_leaf unnamed_event is_event_number is_closing_number no_nodes not_whole too_many_nodes unknown_kind no_such_set wrong_field not_lower is_child taken wrong_sort child_taken nobodys_child wrong_sets no_records too_many_records no_record closings_wanted closed wrong_closings closings_place after_closings or_else_check answer first each node_grounds child_grounds value_grounds nothing_behind section_alone by_entries named_check lists_bytes write_check wrote writing_told
write_lines_told = refl

---- What is written ----

-- the bytes after the call, of so many lent ones of 7
written_to : List ℕ → ℕ → List ℕ
written_to nodes n = at_front (bytes_first section nodes worked.records [] n) (replicate n 7)

-- a byte behind the end stays; the names section is the first bytes as it was lent, with its count once, and the count of nodes follows it
worked_bytes : written_to worked.nodes 66 ≡ section ++ (6 ∷ 0 ∷ (drop 21 (encode worked) ++ (7 ∷ [])))
unfolding written_to xor encode names_section numbers_section sets_section entries_bytes entry_bytes name_bytes numbers_bytes number_bytes run ◌>>=◌ byte number ranged name entry same_bytes same_step same_entry met new_entry entries names unnamed_leaf unnamed_event is_event_number is_closing_number no_nodes not_whole too_many_nodes unknown_kind no_such_set wrong_field not_lower is_child taken wrong_sort child_taken nobodys_child wrong_sets no_records too_many_records no_record closings_wanted closed wrong_closings closings_place after_closings or_else_check answer first each node_grounds child_grounds value_grounds nothing_behind section_alone by_entries named_check lists_bytes write_check put_first
worked_bytes = refl

-- a refusal leaves every byte, of 14 too
short_bytes : written_to worked.nodes 64 ≡ replicate 64 7
unfolding written_to xor names_section numbers_section sets_section entries_bytes entry_bytes name_bytes numbers_bytes number_bytes run ◌>>=◌ byte number ranged name entry same_bytes same_step same_entry met new_entry entries names unnamed_leaf unnamed_event is_event_number is_closing_number no_nodes not_whole too_many_nodes unknown_kind no_such_set wrong_field not_lower is_child taken wrong_sort child_taken nobodys_child wrong_sets no_records too_many_records no_record closings_wanted closed wrong_closings closings_place after_closings or_else_check answer first each node_grounds child_grounds value_grounds nothing_behind section_alone by_entries named_check lists_bytes write_check put_first
short_bytes = refl

-- the same of the file with a set
meeting_to : ℕ → List ℕ
meeting_to n = at_front (bytes_first (names_section meeting.names) meeting.nodes meeting.records meeting.sets n) (replicate n 7)

-- the sets stand behind the records, after their count and as they were lent: a file without them is ruled out, and one without the count
meeting_bytes : meeting_to 94 ≡ take 59 (encode meeting) ++ (1 ∷ 0 ∷ (meeting.sets ++ (7 ∷ [])))
unfolding meeting_to joint_kind xor encode names_section numbers_section sets_section entries_bytes entry_bytes name_bytes numbers_bytes number_bytes run ◌>>=◌ byte number ranged name entry same_bytes same_step same_entry met new_entry entries names unnamed_leaf unnamed_event is_event_number is_closing_number no_nodes not_whole too_many_nodes unknown_kind no_such_set wrong_field not_lower is_child taken wrong_sort child_taken nobodys_child wrong_sets no_records too_many_records no_record closings_wanted closed wrong_closings closings_place after_closings or_else_check answer first each node_grounds child_grounds value_grounds nothing_behind section_alone by_entries named_check lists_bytes write_check put_first
meeting_bytes = refl

pub worked_written : (file : List ℕ) (r : Result Size Refusal) → WrittenAs section worked.nodes worked.records [] (replicate 66 7) file r
    → file ≡ section ++ (6 ∷ 0 ∷ (drop 21 (encode worked) ++ (7 ∷ [])))
unfolding written_to
worked_written file r w = w.file_after ∙ worked_bytes

pub short_kept : (file : List ℕ) (r : Result Size Refusal) → WrittenAs section worked.nodes worked.records [] (replicate 64 7) file r → file ≡ replicate 64 7
unfolding written_to
short_kept file r w = w.file_after ∙ short_bytes

pub meeting_written : (file : List ℕ) (r : Result Size Refusal)
    → WrittenAs (names_section meeting.names) meeting.nodes meeting.records meeting.sets (replicate 94 7) file r
    → file ≡ take 59 (encode meeting) ++ (1 ∷ 0 ∷ (meeting.sets ++ (7 ∷ [])))
unfolding meeting_to
meeting_written file r w = w.file_after ∙ meeting_bytes
