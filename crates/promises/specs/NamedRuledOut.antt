-- Wrong judges that the contract of `judge_named` rules out: lists on which a wrong one answers something else, or leaves other work bytes.
-- All from the definitions by computation. Theorems only. Assumes nothing.
use Rattle.std.specs.Prelude.{ℕ, List, [], ◌∷◌, ◌++◌, map, ◌≡◌, refl, take, replicate}
use Rattle.std.proofs.Math.Bool.{xor}
use Rattle.calculus.specs.Search as search
use Rattle.flow.specs.Trees.{descend}
use Rattle.flow.specs.Kinds.{joint_kind}
use Rattle.flow.specs.Records.{record_of, is_event_number, is_closing_number}
use Rattle.flow.specs.Refusals.{no_nodes, not_whole, too_many_nodes, unknown_kind, no_such_set, wrong_field, not_lower, is_child, taken, wrong_sort, child_taken, nobodys_child, wrong_sets, no_records, too_many_records, no_record, closings_wanted, closed, wrong_closings, closings_place, after_closings, node_grounds, child_grounds, value_grounds}
use Rattle.flow.specs.Checks.{or_else_check, answer, first, each}
use Rattle.flow.specs.Drawn.{made, drawn, flow_by}
use Rattle.format.specs.Format.{Entry, number_bytes, name_bytes, entry_bytes, entries_bytes, names_section}
use Rattle.format.specs.Plan.{◌>>=◌, run}
use Rattle.format.specs.Matching.{same_bytes, same_step, no_machine, matches}
use Rattle.format.specs.Sections.{byte, number, ranged, name, entry, same_entry, met, new_entry, entries, names}
use Rattle.format.specs.Contents.{unnamed_leaf, unnamed_event}
use Rattle.format.specs.ListChecks.{nothing_behind, section_alone, entries_of, entries_in, by_entries, named_check}
use Rattle.judge.specs.Judged.{VerdictWord, Told, told, verdict, refusal, room_of, too_short, named_judge_check, answer_of, unless_refused, judged_by, judged_named, cleared, bytes_by, named_work_after}

---- What is lent ----

-- a step on a machine
abbrev on : List ℕ → List ℕ → Entry
on step machine = record { step = step; machine = machine }

abbrev press : List ℕ
press = 112 ∷ 114 ∷ 101 ∷ 115 ∷ 115 ∷ []

-- Entry 1 is (press; no machine), 2 (press; P1), 3 (press; P2), 4 (wash; W1). The others have names near that of the press: 5 (pres; no
-- machine), 6 (prest; P1), 7 (dress; P1).
abbrev plant : List Entry
plant =
    on press []
    ∷ on press (80 ∷ 49 ∷ [])
    ∷ on press (80 ∷ 50 ∷ [])
    ∷ on (119 ∷ 97 ∷ 115 ∷ 104 ∷ []) (87 ∷ 49 ∷ [])
    ∷ on (112 ∷ 114 ∷ 101 ∷ 115 ∷ []) []
    ∷ on (112 ∷ 114 ∷ 101 ∷ 115 ∷ 116 ∷ []) (80 ∷ 49 ∷ [])
    ∷ on (100 ∷ 114 ∷ 101 ∷ 115 ∷ 115 ∷ []) (80 ∷ 49 ∷ [])
    ∷ []

-- 59 bytes
abbrev section : List ℕ
section = names_section plant

-- a table of one event leaf, and of the choice of two
abbrev one_leaf : ℕ → List ℕ
one_leaf e = 1 ∷ e ∷ 0 ∷ []

abbrev choice : ℕ → ℕ → List ℕ
choice e g = 1 ∷ e ∷ 0 ∷ 1 ∷ g ∷ 0 ∷ 6 ∷ 0 ∷ 1 ∷ []

-- one event and a closing
abbrev and_done : ℕ → List ℕ
and_done r = r ∷ 61441 ∷ []

abbrev and_failed : ℕ → List ℕ
and_failed r = r ∷ 61443 ∷ []

pub record NamedLine : Type 0 where
  pub names : List ℕ
  pub sets : List ℕ
  pub nodes : List ℕ
  pub batch : List ℕ
  pub room : ℕ
  pub allowance : ℕ
  pub answer : Told

abbrev with_sets : List ℕ → List ℕ → List ℕ → List ℕ → ℕ → ℕ → Told → NamedLine
with_sets names sets nodes batch room allowance answer = record { names = names; sets = sets; nodes = nodes; batch = batch; room = room; allowance = allowance; answer = answer }

-- without sets
abbrev named_line : List ℕ → List ℕ → List ℕ → ℕ → ℕ → Told → NamedLine
named_line names = with_sets names []

-- a line of the plant's names, with the very room that is wanted
abbrev leaf_line : ℕ → List ℕ → Told → NamedLine
leaf_line e batch answer = named_line section (one_leaf e) batch 6 1_000_000 answer

---- What is answered ----

-- Above each line stands what a wrong judge does that tells something else there.
unfoldable pub named_lines : List NamedLine
named_lines =
    -- let a node without a machine take its own event alone
    leaf_line 1 (and_done 2) (verdict VerdictWord.accepted 2 3)
    -- or all of its step but its own
    ∷ leaf_line 1 (and_done 1) (verdict VerdictWord.accepted 2 3)
    -- or one machine's; or compare machine names where the node has none
    ∷ leaf_line 1 (and_done 3) (verdict VerdictWord.accepted 2 3)
    -- compare no step names
    ∷ leaf_line 1 (and_done 4) (verdict VerdictWord.rejected 0 1)
    -- let a record without a machine be taken by a node with one
    ∷ leaf_line 2 (and_done 1) (verdict VerdictWord.rejected 0 1)
    -- compare no machine names, or their lengths
    ∷ leaf_line 2 (and_done 3) (verdict VerdictWord.rejected 0 1)
    -- let a node with a machine take nothing
    ∷ leaf_line 2 (and_done 2) (verdict VerdictWord.accepted 2 3)
    -- compare step names as far as the record's goes, or as far as the node's goes
    ∷ leaf_line 1 (and_done 5) (verdict VerdictWord.rejected 0 1)
    ∷ leaf_line 5 (and_done 2) (verdict VerdictWord.rejected 0 1)
    -- leave out their last byte, or the first; or compare their lengths
    ∷ leaf_line 1 (and_done 6) (verdict VerdictWord.rejected 0 1)
    ∷ leaf_line 1 (and_done 7) (verdict VerdictWord.rejected 0 1)
    -- step twice by one leaf, as by a choice of its own event and the record's: it would count 3
    ∷ leaf_line 1 (and_failed 2) (verdict VerdictWord.rejected 1 2)
    -- step once by two leaves that both take the record
    ∷ named_line section (choice 1 2) (and_failed 2) 18 1_000_000 (verdict VerdictWord.rejected 1 3)
    -- or twice where one of them does
    ∷ named_line section (choice 1 2) (and_failed 3) 18 1_000_000 (verdict VerdictWord.rejected 1 2)
    -- be undecided where the count is the allowance, or decide above it
    ∷ named_line section (one_leaf 1) (and_done 2) 6 3 (verdict VerdictWord.accepted 2 3)
    ∷ named_line section (one_leaf 1) (and_done 2) 6 2 (verdict VerdictWord.undecided 0 2)
    -- not look behind the names, or look at the nodes first: 21 before 1
    ∷ named_line (section ++ (0 ∷ [])) [] [] 0 1_000_000 (refusal 21 59)
    -- read names that are cut as far as they go: 15, at the machine name that is not whole
    ∷ named_line (take 17 section) (one_leaf 1) (and_done 2) 6 1_000_000 (refusal 15 16)
    -- take an entry twice: 18, at the second
    ∷ named_line (names_section (on press [] ∷ on press [] ∷ [])) (one_leaf 1) (and_done 1) 6 1_000_000 (refusal 18 9)
    -- keep the order of `judge`, nodes before the number of records: 10 before 4
    ∷ named_line section (0 ∷ 0 ∷ 0 ∷ []) [] 6 1_000_000 (refusal 10 0)
    -- look for entries before the closings: 13 before 19
    ∷ named_line section (one_leaf 8) (1 ∷ []) 6 1_000_000 (refusal 13 1)
    -- look for the records' entries before the nodes', or not for the nodes': 19 before 20
    ∷ named_line section (one_leaf 8) (and_done 9) 6 1_000_000 (refusal 19 0)
    -- look at the room first, or not for the records' entries: 20 before 14
    ∷ named_line section (one_leaf 1) (and_done 8) 5 1_000_000 (refusal 20 0)
    -- do with a byte too little
    ∷ named_line section (one_leaf 1) (and_done 2) 5 1_000_000 (refusal 14 0)
    -- look at the sets before the number of records, or after the nodes: 10 before 23 before 4
    ∷ with_sets section (replicate 31 0) (0 ∷ 0 ∷ 0 ∷ []) [] 6 1_000_000 (refusal 10 0)
    ∷ with_sets section (replicate 31 0) (0 ∷ 0 ∷ 0 ∷ []) (and_done 1) 6 1_000_000 (refusal 23 0)
    -- take a set that is not lent for an empty one: 22
    ∷ with_sets section (replicate 32 0) (1 ∷ 1 ∷ 0 ∷ 1 ∷ 1 ∷ 0 ∷ 257 ∷ 0 ∷ 1 ∷ []) (and_done 1) 18 1_000_000 (refusal 22 2)
    ∷ []

abbrev told_of : NamedLine → Told
told_of l = told (judged_named l.names l.sets l.nodes l.batch l.room l.allowance)

pub named_lines_told : map told_of named_lines ≡ map (λ l. l.answer) named_lines
unfolding named_lines names_section entries_bytes entry_bytes name_bytes number_bytes run ◌>>=◌ byte number ranged name entry same_bytes same_step same_entry met new_entry entries names nothing_behind section_alone by_entries named_check unnamed_leaf unnamed_event is_event_number is_closing_number no_nodes not_whole too_many_nodes unknown_kind wrong_field not_lower is_child taken wrong_sort child_taken nobodys_child no_records too_many_records no_record closings_wanted closed wrong_closings closings_place after_closings node_grounds child_grounds value_grounds first answer or_else_check each xor entries_of entries_in no_machine matches told judged_by unless_refused answer_of named_judge_check too_short room_of search.judge flow_by drawn made descend record_of no_such_set wrong_sets joint_kind
named_lines_told = refl

---- What is left in the work bytes ----

-- Of 8 bytes lent the first 6 are cleared, where it accepts and where it rejects. That rules out a judge that clears none, or all.
pub named_bytes_cleared : map (λ batch. named_work_after section [] (one_leaf 1) batch (replicate 8 7)) (and_done 2 ∷ and_failed 2 ∷ [])
    ≡ (replicate 6 0 ++ replicate 2 7) ∷ (replicate 6 0 ++ replicate 2 7) ∷ []
unfolding names_section entries_bytes entry_bytes name_bytes number_bytes run ◌>>=◌ byte number ranged name entry same_bytes same_step same_entry met new_entry entries names nothing_behind section_alone by_entries named_check unnamed_leaf unnamed_event is_event_number is_closing_number no_nodes not_whole too_many_nodes unknown_kind wrong_field not_lower is_child taken wrong_sort child_taken nobodys_child no_records too_many_records no_record closings_wanted closed wrong_closings closings_place after_closings node_grounds child_grounds value_grounds first answer or_else_check each xor unless_refused named_judge_check too_short room_of cleared bytes_by no_such_set wrong_sets joint_kind
named_bytes_cleared = refl

-- A judge that clears before it refuses is ruled out by a refusal of the room, of an event without an entry, and of the names.
pub named_bytes_kept : named_work_after section [] (one_leaf 1) (and_done 2) (replicate 5 7)
    ∷ named_work_after section [] (one_leaf 1) (and_done 8) (replicate 8 7)
    ∷ named_work_after (section ++ (0 ∷ [])) [] (one_leaf 1) (and_done 2) (replicate 8 7)
    ∷ []
    ≡ replicate 5 7 ∷ replicate 8 7 ∷ replicate 8 7 ∷ []
unfolding names_section entries_bytes entry_bytes name_bytes number_bytes run ◌>>=◌ byte number ranged name entry same_bytes same_step same_entry met new_entry entries names nothing_behind section_alone by_entries named_check unnamed_leaf unnamed_event is_event_number is_closing_number no_nodes not_whole too_many_nodes unknown_kind wrong_field not_lower is_child taken wrong_sort child_taken nobodys_child no_records too_many_records no_record closings_wanted closed wrong_closings closings_place after_closings node_grounds child_grounds value_grounds first answer or_else_check each xor unless_refused named_judge_check too_short room_of cleared bytes_by no_such_set wrong_sets joint_kind
named_bytes_kept = refl
