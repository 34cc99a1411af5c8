-- Wrong functions that the contracts of `next` and `next_named` rule out: lists on which a wrong one answers something else, or leaves another
-- table or other work bytes. All from the definitions by computation. Theorems only. Assumes nothing.
use Rattle.std.specs.Prelude.{ℕ, List, [], ◌∷◌, ◌++◌, map, ◌≡◌, refl, take, replicate}
use Rattle.std.proofs.Math.Bool.{xor}
use Rattle.calculus.specs.Ahead.{passes}
use Rattle.flow.specs.Kinds.{joint_kind, set_of}
use Rattle.flow.specs.Trees.{descend}
use Rattle.flow.specs.Records.{record_of, is_event_number, is_closing_number}
use Rattle.flow.specs.Refusals.{no_nodes, not_whole, too_many_nodes, unknown_kind, no_such_set, wrong_field, not_lower, is_child, taken, wrong_sort, child_taken, nobodys_child, wrong_sets, too_many_records, no_record, closings_wanted, closings_allowed, too_many_closings, extra_closing, wrong_closings, closings_place, node_grounds, child_grounds, value_grounds}
use Rattle.flow.specs.Checks.{or_else_check, answer, first, each}
use Rattle.flow.specs.Legends.{in_set}
use Rattle.flow.specs.Drawn.{made, drawn, flow_by, flow_of}
use Rattle.format.specs.Format.{Entry, number_bytes, name_bytes, entry_bytes, entries_bytes, names_section}
use Rattle.format.specs.Plan.{◌>>=◌, run}
use Rattle.format.specs.Matching.{same_bytes, same_step, no_machine, matches}
use Rattle.format.specs.Sections.{byte, number, ranged, name, entry, same_entry, met, new_entry, entries, names}
use Rattle.format.specs.Contents.{unnamed_leaf, unnamed_event}
use Rattle.format.specs.ListChecks.{nothing_behind, section_alone, entries_of, entries_in, by_entries, named_check}
use Rattle.judge.specs.Judged.{room_of, too_short, unless_refused, room_wanted, named_flow, cleared, bytes_by}
use Rattle.ahead.specs.Told.{NextWord, NextTold, found, refusal, told, no_room}
use Rattle.ahead.specs.Outcome.{next_check, named_next_check, next_by, list_by}

---- What is lent ----

-- a table of one event leaf; of the choice of two; of a;b or a;c; of a÷b alone, a compensable root; YIELD; THROW
abbrev one_leaf : ℕ → List ℕ
one_leaf e = 1 ∷ e ∷ 0 ∷ []

abbrev choice : ℕ → ℕ → List ℕ
choice e g = 1 ∷ e ∷ 0 ∷ 1 ∷ g ∷ 0 ∷ 6 ∷ 0 ∷ 1 ∷ []

abbrev two_runs : List ℕ
two_runs = 1 ∷ 1 ∷ 0 ∷ 1 ∷ 2 ∷ 0 ∷ 5 ∷ 0 ∷ 1 ∷ 1 ∷ 1 ∷ 0 ∷ 1 ∷ 3 ∷ 0 ∷ 5 ∷ 3 ∷ 4 ∷ 6 ∷ 2 ∷ 5 ∷ []

abbrev pair_nodes : List ℕ
pair_nodes = 1 ∷ 1 ∷ 0 ∷ 1 ∷ 2 ∷ 0 ∷ 10 ∷ 0 ∷ 1 ∷ []

abbrev yield_node : List ℕ
yield_node = 4 ∷ 0 ∷ 0 ∷ []

abbrev throw_node : List ℕ
throw_node = 3 ∷ 0 ∷ 0 ∷ []

-- 01: the worked example's [a÷b;THROWW]
abbrev block_nodes : List ℕ
block_nodes = 1 ∷ 1 ∷ 0 ∷ 1 ∷ 2 ∷ 0 ∷ 10 ∷ 0 ∷ 1 ∷ 15 ∷ 0 ∷ 0 ∷ 11 ∷ 2 ∷ 3 ∷ 9 ∷ 4 ∷ 0 ∷ []

-- two leaves in parallel, with set 0
abbrev meeting : ℕ → ℕ → List ℕ
meeting e g = 1 ∷ e ∷ 0 ∷ 1 ∷ g ∷ 0 ∷ 256 ∷ 0 ∷ 1 ∷ []

-- the set of event 1 alone
abbrev first_event : List ℕ
first_event = 1 ∷ replicate 31 0

-- the sets, the nodes, the beginning, how many numbers and work bytes are lent, the allowance; what is told, and the first numbers of the
-- table, which was filled with 9
pub record NextLine : Type 0 where
  pub sets : List ℕ
  pub nodes : List ℕ
  pub beginning : List ℕ
  pub numbers : ℕ
  pub room : ℕ
  pub allowance : ℕ
  pub answer : NextTold
  pub front : List ℕ

abbrev line_of : List ℕ → List ℕ → List ℕ → ℕ → ℕ → ℕ → NextTold → List ℕ → NextLine
line_of sets nodes beginning numbers room allowance answer front =
    record { sets = sets; nodes = nodes; beginning = beginning; numbers = numbers; room = room; allowance = allowance; answer = answer; front = front }

-- without sets
abbrev line : List ℕ → List ℕ → ℕ → ℕ → ℕ → NextTold → List ℕ → NextLine
line nodes beginning numbers room allowance answer front = line_of [] nodes beginning numbers room allowance answer front

-- with them, a table and an allowance enough
abbrev joint_line : List ℕ → List ℕ → List ℕ → ℕ → NextTold → List ℕ → NextLine
joint_line sets nodes beginning room answer front = line_of sets nodes beginning 259 room 1_000_000 answer front

abbrev untouched : List ℕ
untouched = 9 ∷ 9 ∷ 9 ∷ 9 ∷ []

---- What is answered and listed ----

-- Above each line stands what a wrong function does that tells or lists something else there.
unfoldable pub next_lines : List NextLine
next_lines =
    -- stop at the first run of the beginning: it would list 2 alone
    line two_runs (1 ∷ []) 259 28 1_000_000 (found NextWord.listed 2 3) (2 ∷ 3 ∷ 9 ∷ 9 ∷ [])
    -- list the events of all leaves, or an event once for each leaf that takes it
    ∷ line two_runs [] 259 14 1_000_000 (found NextWord.listed 1 1) (1 ∷ 9 ∷ 9 ∷ 9 ∷ [])
    ∷ line (choice 1 1) [] 259 6 1_000_000 (found NextWord.listed 1 1) (1 ∷ 9 ∷ 9 ∷ 9 ∷ [])
    -- list by the leaves' order and not by number
    ∷ line (choice 2 1) [] 259 6 1_000_000 (found NextWord.listed 2 1) (1 ∷ 2 ∷ 9 ∷ 9 ∷ [])
    -- leave out closings, or one of several
    ∷ line yield_node [] 259 2 1_000_000 (found NextWord.listed 2 1) (61441 ∷ 61442 ∷ 9 ∷ 9 ∷ [])
    ∷ line throw_node [] 259 2 1_000_000 (found NextWord.listed 1 1) (61443 ∷ 9 ∷ 9 ∷ 9 ∷ [])
    -- take a compensable root for a standard one, or stop at its first closing
    ∷ line pair_nodes (1 ∷ []) 259 12 1_000_000 (found NextWord.listed 1 2) (61441 ∷ 9 ∷ 9 ∷ 9 ∷ [])
    ∷ line pair_nodes (1 ∷ 61441 ∷ []) 259 18 1_000_000 (found NextWord.listed 1 3) (2 ∷ 9 ∷ 9 ∷ 9 ∷ [])
    ∷ line pair_nodes (1 ∷ 61441 ∷ 2 ∷ []) 259 24 1_000_000 (found NextWord.listed 1 4) (61441 ∷ 9 ∷ 9 ∷ 9 ∷ [])
    -- not undo inside a block
    ∷ line block_nodes (1 ∷ []) 259 24 1_000_000 (found NextWord.listed 1 2) (2 ∷ 9 ∷ 9 ∷ 9 ∷ [])
    -- leave out the last event
    ∷ line (one_leaf 256) [] 259 2 1_000_000 (found NextWord.listed 1 1) (256 ∷ 9 ∷ 9 ∷ 9 ∷ [])
    -- list what could come earlier where no run follows the beginning, or refuse it
    ∷ line (one_leaf 1) (2 ∷ []) 259 4 1_000_000 (found NextWord.listed 0 1) untouched
    -- count the records that follow, or equal states once; be undecided where the count is the allowance
    ∷ line (choice 1 1) (1 ∷ []) 259 12 3 (found NextWord.listed 1 3) (61441 ∷ 9 ∷ 9 ∷ 9 ∷ [])
    ∷ line (one_leaf 1) [] 259 2 1 (found NextWord.listed 1 1) (1 ∷ 9 ∷ 9 ∷ 9 ∷ [])
    -- write before the count is known, list above the allowance, or tell another count
    ∷ line (choice 1 1) (1 ∷ []) 259 12 2 (found NextWord.undecided 0 2) untouched
    ∷ line (one_leaf 1) [] 259 2 0 (found NextWord.undecided 0 0) untouched
    -- take a table of 258 numbers, or room that is one byte short
    ∷ line (one_leaf 1) [] 258 2 1_000_000 (refusal 14 0) untouched
    ∷ line (one_leaf 1) [] 259 1 1_000_000 (refusal 14 0) untouched
    -- give 10; look at room before the records; wait for the closing that a standard root needs
    ∷ line (one_leaf 1) (1 ∷ 61441 ∷ []) 0 0 1_000_000 (refusal 13 1) []
    -- or for the record after the second one of a compensable root
    ∷ line pair_nodes (1 ∷ 61441 ∷ 2 ∷ 61441 ∷ 1 ∷ []) 259 36 1_000_000 (refusal 13 3) untouched
    -- refuse 256 records, or take 257
    ∷ line (one_leaf 2) (replicate 256 1) 259 514 1_000_000 (found NextWord.listed 0 1) untouched
    ∷ line (one_leaf 2) (replicate 257 1) 259 516 1_000_000 (refusal 11 0) untouched
    ∷ []

-- The same of joint events (02, Four).
unfoldable pub joint_lines : List NextLine
joint_lines =
    -- list a joint event that one side alone can take; or leave out what strands before its end
    joint_line first_event (meeting 1 2) [] 6 (found NextWord.listed 1 1) (2 ∷ 9 ∷ 9 ∷ 9 ∷ [])
    -- close where a side still waits
    ∷ joint_line first_event (meeting 1 2) (2 ∷ []) 12 (found NextWord.listed 0 2) untouched
    -- step one side alone by a joint event, or each in turn
    ∷ joint_line first_event (meeting 1 1) (1 ∷ []) 12 (found NextWord.listed 1 2) (61441 ∷ 9 ∷ 9 ∷ 9 ∷ [])
    -- take an event for joint that is not in the set
    ∷ joint_line first_event (meeting 2 2) (2 ∷ []) 12 (found NextWord.listed 1 3) (2 ∷ 9 ∷ 9 ∷ 9 ∷ [])
    -- not look for the set, or at the sets' length, or in another order
    ∷ joint_line [] (meeting 1 2) [] 6 (refusal 22 2) untouched
    ∷ joint_line (1 ∷ []) (meeting 1 2) (2 ∷ 61441 ∷ []) 6 (refusal 23 0) untouched
    ∷ []

abbrev told_of : NextLine → NextTold
told_of l = told (next_by (next_check l.sets l.nodes l.beginning l.numbers l.room) (flow_of l.sets l.nodes) l.beginning l.allowance)

abbrev front_of : NextLine → List ℕ
front_of l = take 4 (list_by (next_check l.sets l.nodes l.beginning l.numbers l.room) (flow_of l.sets l.nodes) l.beginning l.allowance (replicate l.numbers 9))

pub next_lines_told : map told_of next_lines ≡ map (λ l. l.answer) next_lines
unfolding next_lines told next_by next_check no_room too_short room_of passes flow_by drawn made descend first answer or_else_check each no_nodes not_whole too_many_nodes unknown_kind no_such_set wrong_field not_lower is_child taken wrong_sort child_taken nobodys_child wrong_sets too_many_records no_record closings_wanted closings_allowed too_many_closings extra_closing wrong_closings closings_place node_grounds child_grounds value_grounds record_of is_event_number is_closing_number xor
next_lines_told = refl

pub next_lines_listed : map front_of next_lines ≡ map (λ l. l.front) next_lines
unfolding next_lines list_by next_check no_room too_short room_of passes flow_by drawn made descend first answer or_else_check each no_nodes not_whole too_many_nodes unknown_kind no_such_set wrong_field not_lower is_child taken wrong_sort child_taken nobodys_child wrong_sets too_many_records no_record closings_wanted closings_allowed too_many_closings extra_closing wrong_closings closings_place node_grounds child_grounds value_grounds record_of is_event_number is_closing_number xor
next_lines_listed = refl

pub joint_lines_told : map told_of joint_lines ≡ map (λ l. l.answer) joint_lines
unfolding joint_lines told next_by next_check no_room too_short room_of passes flow_by drawn made joint_kind set_of in_set descend first answer or_else_check each no_nodes not_whole too_many_nodes unknown_kind no_such_set wrong_field not_lower is_child taken wrong_sort child_taken nobodys_child wrong_sets too_many_records no_record closings_wanted closings_allowed too_many_closings extra_closing wrong_closings closings_place node_grounds child_grounds value_grounds record_of is_event_number is_closing_number xor
joint_lines_told = refl

pub joint_lines_listed : map front_of joint_lines ≡ map (λ l. l.front) joint_lines
unfolding joint_lines list_by next_check no_room too_short room_of passes flow_by drawn made joint_kind set_of in_set descend first answer or_else_check each no_nodes not_whole too_many_nodes unknown_kind no_such_set wrong_field not_lower is_child taken wrong_sort child_taken nobodys_child wrong_sets too_many_records no_record closings_wanted closings_allowed too_many_closings extra_closing wrong_closings closings_place node_grounds child_grounds value_grounds record_of is_event_number is_closing_number xor
joint_lines_listed = refl

-- what stands behind the numbers written stays, to the end of a longer table: that rules out one that clears or fills it
pub table_kept : list_by (next_check [] two_runs (1 ∷ []) 300 28) (flow_of [] two_runs) (1 ∷ []) 1_000_000 (replicate 300 9) ≡ 2 ∷ 3 ∷ replicate 298 9
unfolding list_by next_check no_room too_short room_of passes flow_by drawn made descend first answer or_else_check each no_nodes not_whole too_many_nodes unknown_kind no_such_set wrong_field not_lower is_child taken wrong_sort child_taken nobodys_child wrong_sets too_many_records no_record closings_wanted closings_allowed too_many_closings extra_closing wrong_closings closings_place node_grounds child_grounds value_grounds record_of is_event_number is_closing_number xor
table_kept = refl

---- What is left in the work bytes ----

abbrev bytes_of : List ℕ → List ℕ → ℕ → ℕ → List ℕ
bytes_of nodes beginning numbers room = bytes_by (next_check [] nodes beginning numbers room) (room_wanted nodes beginning) (replicate room 7)

-- Of 8 bytes lent the first 4 are cleared; a refusal, of the table, of the room and of a closing, clears none.
pub next_bytes : bytes_of (one_leaf 1) (1 ∷ []) 259 8 ∷ bytes_of (one_leaf 1) (1 ∷ []) 258 8 ∷ bytes_of (one_leaf 1) (1 ∷ []) 259 3 ∷ bytes_of (one_leaf 1) (61441 ∷ []) 259 8 ∷ []
    ≡ (replicate 4 0 ++ replicate 4 7) ∷ replicate 8 7 ∷ replicate 3 7 ∷ replicate 8 7 ∷ []
unfolding bytes_by unless_refused cleared next_check no_room too_short room_of first answer or_else_check each no_nodes not_whole too_many_nodes unknown_kind no_such_set wrong_field not_lower is_child taken wrong_sort child_taken nobodys_child wrong_sets too_many_records no_record closings_wanted closings_allowed too_many_closings extra_closing wrong_closings closings_place node_grounds child_grounds value_grounds is_event_number is_closing_number xor
next_bytes = refl

---- With names ----

-- a step on a machine
abbrev on : List ℕ → List ℕ → Entry
on step machine = record { step = step; machine = machine }

-- entry 1 is (press; no machine), 2 (wash; W1), 3 (press; P1)
abbrev plant : List Entry
plant =
    on (112 ∷ 114 ∷ 101 ∷ 115 ∷ 115 ∷ []) []
    ∷ on (119 ∷ 97 ∷ 115 ∷ 104 ∷ []) (87 ∷ 49 ∷ [])
    ∷ on (112 ∷ 114 ∷ 101 ∷ 115 ∷ 115 ∷ []) (80 ∷ 49 ∷ [])
    ∷ []

-- 26 bytes
abbrev section : List ℕ
section = names_section plant

pub record NamedNextLine : Type 0 where
  pub names : List ℕ
  pub lent : NextLine

-- a line of the plant's names, with a table and room enough
abbrev plant_line : List ℕ → List ℕ → ℕ → NextTold → List ℕ → NamedNextLine
plant_line nodes beginning allowance answer front = record { names = section; lent = line nodes beginning 259 100 allowance answer front }

unfoldable pub named_next_lines : List NamedNextLine
named_next_lines =
    -- list a node's own event alone, or all entries
    plant_line (one_leaf 1) [] 1_000_000 (found NextWord.listed 2 1) (1 ∷ 3 ∷ 9 ∷ 9 ∷ [])
    -- list those of the same step for a node with a machine
    ∷ plant_line (one_leaf 3) [] 1_000_000 (found NextWord.listed 1 1) (3 ∷ 9 ∷ 9 ∷ 9 ∷ [])
    -- list an event once for each leaf that takes it
    ∷ plant_line (choice 1 3) [] 1_000_000 (found NextWord.listed 2 1) (1 ∷ 3 ∷ 9 ∷ 9 ∷ [])
    -- follow the beginning by the nodes' own events
    ∷ plant_line (one_leaf 1) (3 ∷ []) 1_000_000 (found NextWord.listed 1 2) (61441 ∷ 9 ∷ 9 ∷ 9 ∷ [])
    -- step once by two leaves that both take a record, or twice where one does
    ∷ plant_line (choice 1 3) (3 ∷ []) 1_000_000 (found NextWord.listed 1 3) (61441 ∷ 9 ∷ 9 ∷ 9 ∷ [])
    ∷ plant_line (choice 1 3) (1 ∷ []) 1_000_000 (found NextWord.listed 1 2) (61441 ∷ 9 ∷ 9 ∷ 9 ∷ [])
    -- list above the allowance, or write before it is known
    ∷ plant_line (choice 1 3) (3 ∷ []) 2 (found NextWord.undecided 0 2) untouched
    -- give 10; not look for the entries of nodes and records, or for the records' first
    ∷ plant_line (one_leaf 4) (5 ∷ []) 1_000_000 (refusal 19 0) untouched
    ∷ plant_line (one_leaf 1) (1 ∷ 4 ∷ []) 1_000_000 (refusal 20 1) untouched
    -- look for entries before the closings
    ∷ plant_line (one_leaf 4) (1 ∷ 61442 ∷ []) 1_000_000 (refusal 13 1) untouched
    -- not look behind the names, or look at the nodes first
    ∷ record { names = section ++ (0 ∷ []); lent = line [] [] 0 0 1_000_000 (refusal 21 26) [] }
    -- look at room before the entries, or take a table of 258 numbers
    ∷ record { names = section; lent = line (one_leaf 4) [] 0 0 1_000_000 (refusal 19 0) [] }
    ∷ record { names = section; lent = line (one_leaf 1) [] 258 2 1_000_000 (refusal 14 0) untouched }
    ∷ []

abbrev named_told_by : List ℕ → NextLine → NextTold
named_told_by s l = told (next_by (named_next_check s l.sets l.nodes l.beginning l.numbers l.room) (named_flow s l.sets l.nodes) l.beginning l.allowance)

abbrev named_front_by : List ℕ → NextLine → List ℕ
named_front_by s l =
    take 4 (list_by (named_next_check s l.sets l.nodes l.beginning l.numbers l.room) (named_flow s l.sets l.nodes) l.beginning l.allowance (replicate l.numbers 9))

pub named_next_lines_told : map (λ n. named_told_by n.names n.lent) named_next_lines ≡ map (λ n. n.lent.answer) named_next_lines
unfolding named_next_lines names_section entries_bytes entry_bytes name_bytes number_bytes run ◌>>=◌ byte number ranged name entry same_bytes same_step same_entry met new_entry entries names nothing_behind section_alone by_entries named_check unnamed_leaf unnamed_event entries_of entries_in no_machine matches told next_by named_next_check no_room too_short room_of passes flow_by drawn made descend first answer or_else_check each no_nodes not_whole too_many_nodes unknown_kind no_such_set wrong_field not_lower is_child taken wrong_sort child_taken nobodys_child wrong_sets too_many_records no_record closings_wanted closings_allowed too_many_closings extra_closing wrong_closings closings_place node_grounds child_grounds value_grounds record_of is_event_number is_closing_number xor
named_next_lines_told = refl

pub named_next_lines_listed : map (λ n. named_front_by n.names n.lent) named_next_lines ≡ map (λ n. n.lent.front) named_next_lines
unfolding named_next_lines names_section entries_bytes entry_bytes name_bytes number_bytes run ◌>>=◌ byte number ranged name entry same_bytes same_step same_entry met new_entry entries names nothing_behind section_alone by_entries named_check unnamed_leaf unnamed_event entries_of entries_in no_machine matches list_by named_next_check no_room too_short room_of passes flow_by drawn made descend first answer or_else_check each no_nodes not_whole too_many_nodes unknown_kind no_such_set wrong_field not_lower is_child taken wrong_sort child_taken nobodys_child wrong_sets too_many_records no_record closings_wanted closings_allowed too_many_closings extra_closing wrong_closings closings_place node_grounds child_grounds value_grounds record_of is_event_number is_closing_number xor
named_next_lines_listed = refl
