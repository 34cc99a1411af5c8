-- The worked file of 01: names (wash; W1,2) and (drain; no machine), six nodes 1 1 0, 1 2 0, 10 0 1, 15 0 0, 11 2 3, 9 4 0 and three
-- records 1 2 61441, "a file of 65 bytes"; a file with a set of joint events (02, Four); some files that are refused; and so the readers
-- and scans of names that the contracts rule out. All by computation. Assumes nothing.
use Rattle.std.specs.Prelude.{ℕ, List, [], ◌∷◌, ◌++◌, map, ◌≡◌, refl, length, take, replicate}
use Rattle.std.proofs.Math.Bool.{xor}
use Rattle.flow.specs.Kinds.{joint_kind}
use Rattle.flow.specs.Records.{is_event_number, is_closing_number}
use Rattle.flow.specs.Refusals.{no_nodes, not_whole, too_many_nodes, unknown_kind, no_such_set, wrong_field, not_lower, is_child, taken, wrong_sort, child_taken, nobodys_child, no_records, too_many_records, no_record, closings_wanted, closed, wrong_closings, closings_place, after_closings, node_grounds, child_grounds, value_grounds}
use Rattle.flow.specs.Checks.{or_else_check, answer, first, each, table_check, nodes_check, values_check, closings_check, records_check}
use Rattle.format.specs.Format.{number_bytes, numbers_bytes, name_bytes, entry_bytes, entries_bytes, names_section, numbers_section, sets_section, File, encode}
use Rattle.format.specs.Plan.{◌>>=◌, run}
use Rattle.format.specs.Sections.{byte, number, ranged, name, entry, same_bytes, same_step, same_entry, met, new_entry, entries, names, items, item_section, numbers_of, section, joint_sets, layout}
use Rattle.format.specs.Contents.{unnamed_leaf, unnamed_event}
use Rattle.format.specs.ContentChecks.{leaves_grounds, events_grounds, grounds_of}
use Rattle.format.specs.Items.{as_item, item_told}
use Rattle.reader.specs.Reading.{Report, reported, read_outcome, checked, laid, reading}
use Rattle.promises.specs.Reader.{refused_report, scanned}
use Rattle.promises.specs.Collide.{washer, drum}

abbrev pub worked : File
worked = record {
  names =
      record { step = 119 ∷ 97 ∷ 115 ∷ 104 ∷ []; machine = 87 ∷ 49 ∷ 44 ∷ 50 ∷ [] }
      ∷ record { step = 100 ∷ 114 ∷ 97 ∷ 105 ∷ 110 ∷ []; machine = [] }
      ∷ [];
  nodes = 1 ∷ 1 ∷ 0 ∷ 1 ∷ 2 ∷ 0 ∷ 10 ∷ 0 ∷ 1 ∷ 15 ∷ 0 ∷ 0 ∷ 11 ∷ 2 ∷ 3 ∷ 9 ∷ 4 ∷ 0 ∷ [];
  records = 1 ∷ 2 ∷ 61441 ∷ [];
  sets = [];
}

-- "a file of 65 bytes"
pub worked_length : length (encode worked) ≡ 65
unfolding encode names_section numbers_section sets_section entries_bytes entry_bytes name_bytes numbers_bytes number_bytes
worked_length = refl

-- it is read: two names, six nodes, three records, and its numbers
pub worked_read : reading (encode worked) 192 256 ≡ read_outcome worked
unfolding xor encode names_section numbers_section sets_section entries_bytes entry_bytes name_bytes numbers_bytes number_bytes run ◌>>=◌ byte number ranged name entry same_bytes same_step same_entry met new_entry entries names items item_section numbers_of section joint_sets layout unnamed_leaf unnamed_event leaves_grounds events_grounds grounds_of checked laid reading reported is_event_number is_closing_number no_nodes not_whole too_many_nodes unknown_kind no_such_set wrong_field not_lower is_child taken wrong_sort child_taken nobodys_child no_records too_many_records no_record closings_wanted closed wrong_closings closings_place after_closings or_else_check answer first each node_grounds child_grounds value_grounds table_check nodes_check values_check closings_check records_check
worked_read = refl

-- two lines that meet at the press: names (wash; W1,2) and (press; no machine), five nodes 1 1 0, 1 2 0, 5 0 1, 1 2 0, 256 2 3 and three
-- records 1 2 61441
abbrev pub meeting_with : List ℕ → File
meeting_with sets = record {
  names =
      record { step = 119 ∷ 97 ∷ 115 ∷ 104 ∷ []; machine = 87 ∷ 49 ∷ 44 ∷ 50 ∷ [] }
      ∷ record { step = 112 ∷ 114 ∷ 101 ∷ 115 ∷ 115 ∷ []; machine = [] }
      ∷ [];
  nodes = 1 ∷ 1 ∷ 0 ∷ 1 ∷ 2 ∷ 0 ∷ 5 ∷ 0 ∷ 1 ∷ 1 ∷ 2 ∷ 0 ∷ 256 ∷ 2 ∷ 3 ∷ [];
  records = 1 ∷ 2 ∷ 61441 ∷ [];
  sets = sets;
}

-- with one set, of event 2
abbrev pub meeting : File
meeting = meeting_with (2 ∷ replicate 31 0)

-- 59 bytes up to the last record, then the count of the sets and 32 bytes
pub meeting_length : length (encode meeting) ≡ 93
unfolding encode names_section numbers_section sets_section entries_bytes entry_bytes name_bytes numbers_bytes number_bytes
meeting_length = refl

-- it is read, with its set
pub meeting_read : reading (encode meeting) 192 256 ≡ read_outcome meeting
unfolding xor encode names_section numbers_section sets_section entries_bytes entry_bytes name_bytes numbers_bytes number_bytes run ◌>>=◌ byte number ranged name entry same_bytes same_step same_entry met new_entry entries names items item_section numbers_of section joint_sets layout unnamed_leaf unnamed_event leaves_grounds events_grounds grounds_of checked laid reading reported joint_kind is_event_number is_closing_number no_nodes not_whole too_many_nodes unknown_kind no_such_set wrong_field not_lower is_child taken wrong_sort child_taken nobodys_child no_records too_many_records no_record closings_wanted closed wrong_closings closings_place after_closings or_else_check answer first each node_grounds child_grounds value_grounds table_check nodes_check values_check closings_check records_check
meeting_read = refl

---- Readers that are ruled out ----

abbrev worked_with : List ℕ → File
worked_with ns = record { names = worked.names; nodes = ns; records = worked.records; sets = [] }

-- the file, the room for node numbers, and what is reported
pub record FileLine : Type 0 where
  pub file : List ℕ
  pub room : ℕ
  pub report : Report

abbrev file_line : List ℕ → ℕ → Report → FileLine
file_line file room report = record { file = file; room = room; report = report }

-- A reader that only refuses fails at the first line, one that reads everything at any but the first and the seventh: cut in the machine
-- name that starts at offset 8, so not at its length byte; a count of sets that is cut, and one of none; no name for the third event; too
-- little room. One that takes the high byte of a number first fails at the first line. One that knows of no sets, or takes the offset of
-- their count for theirs, fails at the seventh; then a set that is cut, one byte too many behind the sets, and a kind whose set is not there.
unfoldable pub file_lines : List FileLine
file_lines =
    file_line (encode worked) 192 (record { number = 0; place = 0; names = 2; nodes = 6; records = 3; sets_at = 65; sets = 0 })
    ∷ file_line (take 10 (encode worked)) 192 (refused_report 15 8)
    ∷ file_line (encode worked ++ (0 ∷ [])) 192 (refused_report 15 65)
    ∷ file_line (encode worked ++ (0 ∷ 0 ∷ [])) 192 (refused_report 23 65)
    ∷ file_line (encode (worked_with (1 ∷ 3 ∷ 0 ∷ []))) 192 (refused_report 19 0)
    ∷ file_line (encode worked) 191 (refused_report 14 0)
    ∷ file_line (encode meeting) 192 (record { number = 0; place = 0; names = 2; nodes = 5; records = 3; sets_at = 61; sets = 1 })
    ∷ file_line (take 92 (encode meeting)) 192 (refused_report 15 61)
    ∷ file_line (encode meeting ++ (0 ∷ [])) 192 (refused_report 21 93)
    ∷ file_line (encode (meeting_with [])) 192 (refused_report 22 4)
    ∷ []

pub file_lines_read : map (λ l. reported (reading l.file l.room 256).answer) file_lines ≡ map (λ l. l.report) file_lines
unfolding file_lines xor encode names_section numbers_section sets_section entries_bytes entry_bytes name_bytes numbers_bytes number_bytes run ◌>>=◌ byte number ranged name entry same_bytes same_step same_entry met new_entry entries names items item_section numbers_of section joint_sets layout unnamed_leaf unnamed_event leaves_grounds events_grounds grounds_of checked laid reading reported joint_kind is_event_number is_closing_number no_nodes not_whole too_many_nodes unknown_kind no_such_set wrong_field not_lower is_child taken wrong_sort child_taken nobodys_child no_records too_many_records no_record closings_wanted closed wrong_closings closings_place after_closings or_else_check answer first each node_grounds child_grounds value_grounds table_check nodes_check values_check closings_check records_check
file_lines_read = refl

---- Scans of names that are ruled out ----

-- the washer 'W1,2' beside drum 2 on 'W1': both are names of one file, so a scan that joins the two names of an entry by a comma, or
-- compares the step names of 'hold' only, is ruled out by the first two lines; the washer twice is refused at the second entry
pub names_told : map (λ es. item_told (scanned (names_section es)))
    ((washer ∷ drum ∷ []) ∷ (washer ∷ record { step = washer.step; machine = [] } ∷ []) ∷ (washer ∷ washer ∷ []) ∷ [])
    ≡ record { number = 0; place = 0; value = 2; next = 22 }
    ∷ record { number = 0; place = 0; value = 2; next = 18 }
    ∷ record { number = 18; place = 12; value = 0; next = 0 }
    ∷ []
unfolding names_section entries_bytes entry_bytes name_bytes number_bytes run ◌>>=◌ byte number ranged name entry same_bytes same_step same_entry met new_entry entries names as_item item_told
names_told = refl
