-- Wrong answers that the contract of `next_file` rules out: files and numbers of records on which a wrong one writes something else. All from
-- the definitions by computation; the room holds 64 bytes of 7. Theorems only. Assumes nothing.
use Rattle.std.specs.Prelude.{ℕ, List, [], ◌∷◌, map, ◌≡◌, refl}
use Rattle.std.proofs.Common.{ap, ◌∙◌}
use Rattle.std.proofs.Math.Bool.{xor}
use Rattle.calculus.specs.Ahead.{passes, entered}
use Rattle.flow.specs.Trees.{descend}
use Rattle.flow.specs.Kinds.{joint_kind, set_of}
use Rattle.flow.specs.Legends.{in_set}
use Rattle.flow.specs.Records.{record_of, is_event_number, is_closing_number}
use Rattle.flow.specs.Refusals.{no_nodes, not_whole, too_many_nodes, unknown_kind, no_such_set, wrong_field, not_lower, is_child, taken, wrong_sort, child_taken, nobodys_child, wrong_sets, no_records, too_many_records, no_record, closings_wanted, closings_allowed, too_many_closings, extra_closing, wrong_closings, closings_place, node_grounds, child_grounds, value_grounds}
use Rattle.flow.specs.Checks.{or_else_check, answer, first, each}
use Rattle.flow.specs.Drawn.{made, drawn, flow_by}
use Rattle.format.specs.Format.{number_bytes, numbers_bytes, name_bytes, entry_bytes, entries_bytes, names_section, numbers_section, sets_section, File, encode}
use Rattle.format.specs.Matching.{no_machine, matches}
use Rattle.format.specs.Contents.{unnamed_leaf, unnamed_event}
use Rattle.format.specs.ListChecks.{nothing_behind, section_alone, entries_of, entries_in, by_entries, named_check}
use Rattle.format.specs.Plan.{◌>>=◌, run}
use Rattle.format.specs.Sections.{byte, number, ranged, name, entry, same_bytes, same_step, same_entry, met, new_entry, entries, names}
use Rattle.reader.specs.Reading.{Outcome, read_outcome, counts_of, reading}
use Rattle.judge.specs.Judged.{told, room_of, too_short, unless_refused}
use Rattle.ahead.specs.Told.{no_room, following}
use Rattle.ahead.specs.Outcome.{named_next_check, next_by}
use Rattle.line.specs.Line.{places, size, decimal, spaced, spelled, text_of, line_of}
use Rattle.line.specs.Shown.{hex_byte, is_text, shown_byte, texts}
use Rattle.program.specs.Program.{line_for}
use Rattle.program.specs.FileParts.{scanned, names_of, sets_of}
use Rattle.program.specs.Listing.{all_but_last, so_many, beginning, closing_word, entry_text, meaning, number_line, count_line, list_text, answer_text}
use Rattle.program.specs.NextFile.{tables_text, text_by, file_text}
use Rattle.promises.specs.Worked.{worked, worked_read, meeting, meeting_read}

-- how many records are asked for, and what is printed then of a file
pub record WorkedText : Type 0 where
  pub first : ℕ
  pub text : List ℕ

abbrev worked_text : ℕ → List ℕ → WorkedText
worked_text first text = record { first = first; text = text }

-- "1", TAB, "wash", TAB, "W1,2", and "61441", TAB, "done": each with a line feed, and the count's line behind it
abbrev wash_text : List ℕ
wash_text = 49 ∷ 9 ∷ 119 ∷ 97 ∷ 115 ∷ 104 ∷ 9 ∷ 87 ∷ 49 ∷ 44 ∷ 50 ∷ 10 ∷ 99 ∷ 111 ∷ 117 ∷ 110 ∷ 116 ∷ 32 ∷ 49 ∷ 10 ∷ []

abbrev done_text : List ℕ
done_text = 54 ∷ 49 ∷ 52 ∷ 52 ∷ 49 ∷ 9 ∷ 100 ∷ 111 ∷ 110 ∷ 101 ∷ 10 ∷ 99 ∷ 111 ∷ 117 ∷ 110 ∷ 116 ∷ 32 ∷ 51 ∷ 10 ∷ []

-- Between them "2", TAB, "drain", TAB, with its count; behind them "refused 13 2 0". So one is ruled out that takes another number of
-- records, lists what was done or all leaves, leaves out the number, the TAB of an empty machine or the count, counts other states, or
-- lists behind the last closing.
unfoldable pub worked_texts : List WorkedText
worked_texts =
    worked_text 0 wash_text
    ∷ worked_text 1 (50 ∷ 9 ∷ 100 ∷ 114 ∷ 97 ∷ 105 ∷ 110 ∷ 9 ∷ 10 ∷ 99 ∷ 111 ∷ 117 ∷ 110 ∷ 116 ∷ 32 ∷ 50 ∷ 10 ∷ [])
    ∷ worked_text all_but_last done_text
    ∷ worked_text 3 (114 ∷ 101 ∷ 102 ∷ 117 ∷ 115 ∷ 101 ∷ 100 ∷ 32 ∷ 49 ∷ 51 ∷ 32 ∷ 50 ∷ 32 ∷ 48 ∷ 10 ∷ [])
    ∷ []

-- The file whose lines meet, before its first record and before its closing: "wash" alone, then "done" alone. So one is ruled out that
-- lists without the file's sets, where a line takes the joint event by itself.
unfoldable pub meeting_texts : List WorkedText
meeting_texts = worked_text 0 wash_text ∷ worked_text all_but_last done_text ∷ []

-- how a file that is read is listed, with so many records
abbrev listed : File → List WorkedText → List (List ℕ)
listed f = map (λ l. tables_text (names_of (encode f)) (sets_of (counts_of f) (encode f)) f.nodes (beginning l.first f.records))

tables_told : (listed worked worked_texts ≡ map (λ l. l.text) worked_texts) × (listed meeting meeting_texts ≡ map (λ l. l.text) meeting_texts)
unfolding worked_texts meeting_texts tables_text beginning so_many names_of scanned encode names_section numbers_section sets_section entries_bytes entry_bytes name_bytes numbers_bytes number_bytes run ◌>>=◌ byte number ranged name entry same_bytes same_step same_entry met new_entry entries names unnamed_leaf unnamed_event nothing_behind section_alone entries_of entries_in by_entries named_check matches no_machine next_by named_next_check no_room unless_refused too_short room_of passes entered following answer_text list_text number_line meaning entry_text closing_word count_line texts shown_byte is_text hex_byte line_for told line_of text_of spelled spaced decimal size places flow_by drawn made joint_kind set_of in_set descend first answer or_else_check each no_nodes not_whole too_many_nodes unknown_kind no_such_set wrong_field not_lower is_child taken wrong_sort child_taken nobodys_child wrong_sets no_records too_many_records no_record closings_wanted closings_allowed too_many_closings extra_closing wrong_closings closings_place node_grounds child_grounds value_grounds record_of is_event_number is_closing_number xor
tables_told = (refl, refl)

by_reading : (f : File) (ls : List WorkedText) → reading (encode f) 192 256 ≡ read_outcome f → map (λ l. file_text (encode f) l.first) ls ≡ listed f ls
unfolding file_text text_by
by_reading f ls e = ap (λ (o : Outcome). map (λ (l : WorkedText). text_by (encode f) l.first o.answer o.nodes o.records) ls) e

pub worked_next_told : map (λ l. file_text (encode worked) l.first) worked_texts ≡ map (λ l. l.text) worked_texts
worked_next_told = by_reading worked worked_texts worked_read ∙ tables_told.0

pub meeting_next_told : map (λ l. file_text (encode meeting) l.first) meeting_texts ≡ map (λ l. l.text) meeting_texts
meeting_next_told = by_reading meeting meeting_texts meeting_read ∙ tables_told.1
