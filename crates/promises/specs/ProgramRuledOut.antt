-- Wrong answers that the contracts of the program's entry points rule out: two inputs or more for each, on which a wrong one answers or
-- writes something else. All from the definitions by computation; the room holds 64 bytes of 7. That the program allows neither one
-- state more nor one less, and lends no byte too few, is in Files: `file_undecided_exactly`, `file_passes`. Theorems only. Assumes nothing.
use Rattle.std.specs.Prelude.{ℕ, List, [], ◌∷◌, ◌++◌, ◌≡◌, refl, length, drop, replicate}
use Rattle.std.proofs.Common.{arith, ap, ◌∙◌}
use Rattle.std.proofs.Math.Bool.{xor}
use Rattle.calculus.specs.Search as search
use Rattle.flow.specs.Trees.{descend}
use Rattle.flow.specs.Kinds.{joint_kind, set_of}
use Rattle.flow.specs.Legends.{in_set}
use Rattle.flow.specs.Records.{record_of, is_event_number, is_closing_number}
use Rattle.flow.specs.Refusals.{no_nodes, not_whole, too_many_nodes, unknown_kind, no_such_set, wrong_field, not_lower, is_child, taken, wrong_sort, child_taken, nobodys_child, wrong_sets, no_records, too_many_records, no_record, closings_wanted, closed, wrong_closings, closings_place, after_closings, node_grounds, child_grounds, value_grounds}
use Rattle.flow.specs.Checks.{or_else_check, answer, first, each, table_check, nodes_check, values_check, closings_check, records_check}
use Rattle.flow.specs.Drawn.{made, drawn, flow_by}
use Rattle.format.specs.Format.{number_bytes, numbers_bytes, name_bytes, entry_bytes, entries_bytes, names_section, numbers_section, sets_section, File, encode}
use Rattle.format.specs.Matching.{no_machine, matches}
use Rattle.format.specs.Contents.{unnamed_leaf, unnamed_event}
use Rattle.format.specs.ContentChecks.{leaves_grounds, events_grounds, grounds_of}
use Rattle.format.specs.ListChecks.{nothing_behind, section_alone, entries_of, entries_in, by_entries, named_check}
use Rattle.format.specs.Plan.{◌>>=◌, run}
use Rattle.format.specs.Sections.{byte, number, ranged, name, entry, same_bytes, same_step, same_entry, met, new_entry, entries, names, items, item_section, numbers_of, section, joint_sets, layout}
use Rattle.format.specs.Items.{refusal_of}
use Rattle.reader.specs.Reading.{Outcome, refused_outcome, read_outcome, counts_of, checked, laid, reading}
use Rattle.judge.specs.declared.Answer.{Answer}
use Rattle.judge.specs.declared.Answer.TheVariants.{Accepted, Rejected, Refused}
use Rattle.judge.specs.Judged.{told, verdict, refusal, room_of, too_short, named_judge_check, answer_of, unless_refused, judged_by, judged_named}
use Rattle.judge.specs.Judged as judge
use Rattle.line.specs.declared.VerdictWord.{VerdictWord}
use Rattle.line.specs.declared.VerdictWord.TheVariants as word
use Rattle.line.specs.declared.Line.{Line}
use Rattle.line.specs.Line.{places, size, decimal, spaced, spelled, text_of, line_of, Put, LineWritten}
use Rattle.program.specs.Program.{states_allowed, work_lent, line_for}
use Rattle.program.specs.FileParts.{scanned, names_of, sets_of}
use Rattle.program.specs.Answering.{answered, answer_of_file, printed, FileAnswered, AnswerTold, FilePrinted}
use Rattle.promises.specs.Worked.{worked, worked_read, meeting, meeting_read}

---- The answer to a file ----
-- a program that only refuses, or has one verdict, fails at the worked file; one that judges whatever it gets at a file of no bytes; one
-- that judges without the file's sets, so that a line takes the joint event alone, at the file whose lines meet and at `alone`

-- the file whose lines meet, with a record of the joint event for each line
abbrev alone : File
alone = record { names = meeting.names; nodes = meeting.nodes; records = 1 ∷ 2 ∷ 2 ∷ 61441 ∷ []; sets = meeting.sets }

-- how a file that is read is judged
abbrev judged_so : File → Answer
judged_so f = judged_named (names_of (encode f)) (sets_of (counts_of f) (encode f)) f.nodes f.records work_lent states_allowed

-- of the worked file, the one whose lines meet, and `alone`
files_judged :
    (judged_so worked ≡ Accepted (record { place = 3; count = 4 }))
    × (judged_so meeting ≡ Accepted (record { place = 3; count = 4 }))
    × (judged_so alone ≡ Rejected (record { place = 2; count = 3 }))
unfolding names_of scanned encode names_section numbers_section sets_section entries_bytes entry_bytes name_bytes numbers_bytes number_bytes run ◌>>=◌ byte number ranged name entry same_bytes same_step same_entry met new_entry entries names unnamed_leaf unnamed_event nothing_behind section_alone entries_of entries_in by_entries named_check matches no_machine judged_by unless_refused answer_of named_judge_check too_short room_of search.judge flow_by drawn made joint_kind set_of in_set descend first answer or_else_check each no_nodes not_whole too_many_nodes unknown_kind no_such_set wrong_field not_lower is_child taken wrong_sort child_taken nobodys_child wrong_sets no_records too_many_records no_record closings_wanted closed wrong_closings closings_place after_closings node_grounds child_grounds value_grounds record_of is_event_number is_closing_number xor
files_judged = (refl, refl, refl)

-- of no bytes, and of `alone`
files_read : (reading [] 192 256 ≡ refused_outcome (refusal_of 15 0)) × (reading (encode alone) 192 256 ≡ read_outcome alone)
unfolding encode names_section numbers_section sets_section entries_bytes entry_bytes name_bytes numbers_bytes number_bytes run ◌>>=◌ byte number ranged name entry same_bytes same_step same_entry met new_entry entries names items item_section numbers_of section joint_sets layout unnamed_leaf unnamed_event leaves_grounds events_grounds grounds_of checked laid reading joint_kind is_event_number is_closing_number no_nodes not_whole too_many_nodes unknown_kind no_such_set wrong_field not_lower is_child taken wrong_sort child_taken nobodys_child no_records too_many_records no_record closings_wanted closed wrong_closings closings_place after_closings or_else_check answer first each node_grounds child_grounds value_grounds table_check nodes_check values_check closings_check records_check xor
files_read = (refl, refl)

-- by what is read of a file
by_reading : (file : List ℕ) {o : Outcome} → reading file 192 256 ≡ o → answer_of_file file ≡ answered file o.answer o.nodes o.records
unfolding answer_of_file answered
by_reading file e = ap (λ (o : Outcome). answered file o.answer o.nodes o.records) e

worked_is : answer_of_file (encode worked) ≡ Accepted (record { place = 3; count = 4 })
unfolding answered
worked_is = by_reading (encode worked) worked_read ∙ files_judged.0

meeting_is : answer_of_file (encode meeting) ≡ Accepted (record { place = 3; count = 4 })
unfolding answered
meeting_is = by_reading (encode meeting) meeting_read ∙ files_judged.1

alone_is : answer_of_file (encode alone) ≡ Rejected (record { place = 2; count = 3 })
unfolding answered
alone_is = by_reading (encode alone) files_read.1 ∙ files_judged.2

empty_is : answer_of_file [] ≡ Refused (refusal_of 15 0)
unfolding answered
empty_is = by_reading [] files_read.0

pub worked_answered : (r : Answer) → FileAnswered (encode worked) r → told r ≡ verdict judge.VerdictWord.accepted 3 4
unfolding told
worked_answered r e = ap told (e ∙ worked_is)

-- the two lines take the press together
pub meeting_answered : (r : Answer) → FileAnswered (encode meeting) r → told r ≡ verdict judge.VerdictWord.accepted 3 4
unfolding told
meeting_answered r e = ap told (e ∙ meeting_is)

-- and neither takes it alone
pub alone_answered : (r : Answer) → FileAnswered (encode alone) r → told r ≡ verdict judge.VerdictWord.rejected 2 3
unfolding told
alone_answered r e = ap told (e ∙ alone_is)

pub empty_answered : (r : Answer) → FileAnswered [] r → told r ≡ refusal 15 0
unfolding told
empty_answered r e = ap told (e ∙ empty_is)

---- What a line tells ----
-- a rejection told by another word, or with place and count exchanged; a refusal without its number, or with a count

abbrev line : VerdictWord → ℕ → ℕ → ℕ → Line
line w number place count = record { word = w; number = number; place = place; count = count }

pub rejection_told : (r : Line) → AnswerTold (Rejected (record { place = 2; count = 3 })) r → r ≡ line word.Rejected 0 2 3
unfolding line_for told
rejection_told r e = e

pub refusal_line : (r : Line) → AnswerTold (Refused (record { number = 15; place = 8 })) r → r ≡ line word.Refused 15 8 0
unfolding line_for told
refusal_line r e = e

---- What is written ----

abbrev room : List ℕ
room = replicate 64 7

-- "accepted 0 3 4", and a line feed
abbrev accepted_text : List ℕ
accepted_text = 97 ∷ 99 ∷ 99 ∷ 101 ∷ 112 ∷ 116 ∷ 101 ∷ 100 ∷ 32 ∷ 48 ∷ 32 ∷ 51 ∷ 32 ∷ 52 ∷ 10 ∷ []

-- "refused 15 0 0", and a line feed
abbrev refused_text : List ℕ
refused_text = 114 ∷ 101 ∷ 102 ∷ 117 ∷ 115 ∷ 101 ∷ 100 ∷ 32 ∷ 49 ∷ 53 ∷ 32 ∷ 48 ∷ 32 ∷ 48 ∷ 10 ∷ []

accepted_line : line_of (line word.Accepted 0 3 4) ≡ accepted_text
unfolding line_of text_of spelled spaced decimal size places
accepted_line = refl

refused_line : line_of (line word.Refused 15 0 0) ≡ refused_text
unfolding line_of text_of spelled spaced decimal size places
refused_line = refl

-- the text at the start of the room, what was behind it, and the text's length
abbrev Shows : List ℕ → List ℕ → ℕ → Type 0
Shows text out' r = (r ≡ length text) × (out' ≡ text ++ drop (length text) room)

shown : {text text' out' : List ℕ} {r : ℕ} → text ≡ text' → Put text room 0 out' r → Shows text' out' r
shown {text' = text'} {r = r} e p =
    let l : r ≡ length text' = omega (arith, p.end, ap length e) in
    (l, p.written ∙ (λ i. e i ++ drop (l i) room))

-- a line without its line feed, with two spaces, with a number twice or one digit short, or with another length
pub accepted_written : (out' : List ℕ) (r : ℕ) → LineWritten (line word.Accepted 0 3 4) room out' r → Shows accepted_text out' r
accepted_written out' r = shown accepted_line

pub refused_written : (out' : List ℕ) (r : ℕ) → LineWritten (line word.Refused 15 0 0) room out' r → Shows refused_text out' r
refused_written out' r = shown refused_line

---- What is printed for a file ----
-- the line of an empty file whatever the file, or of the worked one; half of the length; a byte behind the line touched

worked_prints : printed (encode worked) ≡ accepted_text
unfolding printed line_for told
worked_prints = ap (λ (a : Answer). line_of (line_for a)) worked_is ∙ accepted_line

empty_prints : printed [] ≡ refused_text
unfolding printed line_for told
empty_prints = ap (λ (a : Answer). line_of (line_for a)) empty_is ∙ refused_line

pub worked_printed : (out' : List ℕ) (r : ℕ) → FilePrinted (encode worked) room out' r → Shows accepted_text out' r
worked_printed out' r = shown worked_prints

pub empty_printed : (out' : List ℕ) (r : ℕ) → FilePrinted [] room out' r → Shows refused_text out' r
empty_printed out' r = shown empty_prints
