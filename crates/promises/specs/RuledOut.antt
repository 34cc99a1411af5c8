-- 01, "How tight the contracts are": judges and checks that the contracts rule out, each by an input on which it would answer or
-- leave something else. All lines follow from the definitions by computation. Assumes nothing.
use Rattle.std.specs.Prelude.{ℕ, ◌≡◌, refl, List, [], ◌∷◌, ◌++◌, map, replicate, Result, Ok, ⊤}
use Rattle.std.proofs.Math.Bool.{xor}
use Rattle.calculus.specs.Search as search
use Rattle.flow.specs.declared.Refusal.{Refusal}
use Rattle.flow.specs.declared.Extent.TheVariants.{Whole, Beginning}
use Rattle.flow.specs.Trees.{descend}
use Rattle.flow.specs.Kinds.{joint_kind, set_of}
use Rattle.flow.specs.Legends.{in_set}
use Rattle.flow.specs.Records.{record_of, is_event_number, is_closing_number}
use Rattle.flow.specs.Refusals.{no_nodes, not_whole, too_many_nodes, unknown_kind, no_such_set, wrong_field, not_lower, is_child, taken, wrong_sort, child_taken, nobodys_child, wrong_sets, no_records, too_many_records, no_record, closings_wanted, closed, wrong_closings, closings_place, after_closings, closings_allowed, too_many_closings, extra_closing, node_grounds, child_grounds, value_grounds}
use Rattle.flow.specs.Checks.{refused, first, answer, or_else_check, each, nodes_check, table_check, values_check, closings_check, records_check}
use Rattle.flow.specs.Drawn.{made, drawn, flow_by}
use Rattle.judge.specs.Judged.{VerdictWord, Told, told, verdict, refusal, room_of, too_short, judge_check, answer_of, unless_refused, judged_by, judged, cleared, bytes_by, work_after}

---- The judge ----

-- 01: "six nodes 1 1 0, 1 2 0, 10 0 1, 15 0 0, 11 2 3, 9 4 0", the worked example's [a÷b;THROWW]
abbrev nodes : List ℕ
nodes = 1 ∷ 1 ∷ 0 ∷ 1 ∷ 2 ∷ 0 ∷ 10 ∷ 0 ∷ 1 ∷ 15 ∷ 0 ∷ 0 ∷ 11 ∷ 2 ∷ 3 ∷ 9 ∷ 4 ∷ 0 ∷ []

-- 01: "three records 1 2 61441"
abbrev batch : List ℕ
batch = 1 ∷ 2 ∷ 61441 ∷ []

-- the same beginning, and another closing
abbrev other : List ℕ
other = 1 ∷ 2 ∷ 61443 ∷ []

-- a÷b alone, a compensable root; and a choice of a and a
abbrev pair_nodes : List ℕ
pair_nodes = 1 ∷ 1 ∷ 0 ∷ 1 ∷ 2 ∷ 0 ∷ 10 ∷ 0 ∷ 1 ∷ []

abbrev choice_nodes : List ℕ
choice_nodes = 1 ∷ 1 ∷ 0 ∷ 1 ∷ 1 ∷ 0 ∷ 6 ∷ 0 ∷ 1 ∷ []

-- the parallel of a and a with set 0, and the set that holds a alone
abbrev meeting : List ℕ
meeting = 1 ∷ 1 ∷ 0 ∷ 1 ∷ 1 ∷ 0 ∷ 256 ∷ 0 ∷ 1 ∷ []

abbrev only_a : List ℕ
only_a = 1 ∷ replicate 31 0

pub record Line : Type 0 where
  pub sets : List ℕ
  pub nodes : List ℕ
  pub batch : List ℕ
  pub room : ℕ
  pub allowance : ℕ
  pub answer : Told

abbrev with_sets : List ℕ → List ℕ → List ℕ → ℕ → ℕ → Told → Line
with_sets sets nodes batch room allowance answer = record { sets = sets; nodes = nodes; batch = batch; room = room; allowance = allowance; answer = answer }

-- without sets
abbrev line : List ℕ → List ℕ → ℕ → ℕ → Told → Line
line = with_sets []

-- A judge that only refuses, or has a single verdict, fails at one of the first four lines; one that follows the first record, or the
-- first two, and pretends for the others at the first and the third; one that invents its count at the second and the fourth, where
-- the allowance is the very number of states entered, and one less, and so does one that enters a state for nothing or gives
-- undecided another count. The fifth and sixth: 14 for room that is one byte short, and records looked at before room. The seventh:
-- a compensable root judged as a standard one, or left running after its first closing. The eighth and ninth: one of two equal
-- successors passed over, or not paid for. The last five have joint events (02, Four): a judge that lets one side take a joint event alone
-- fails at the first two, one that asks both sides for an event outside the set, or looks it up one bit too far, at the third; and 22
-- and 23.
unfoldable pub lines : List Line
lines =
    line nodes batch 48 1_000_000 (verdict VerdictWord.accepted 3 4)
    ∷ line nodes batch 48 4 (verdict VerdictWord.accepted 3 4)
    ∷ line nodes other 48 1_000_000 (verdict VerdictWord.rejected 2 3)
    ∷ line nodes batch 48 3 (verdict VerdictWord.undecided 0 3)
    ∷ line nodes batch 47 1_000_000 (refusal 14 0)
    ∷ line nodes (1 ∷ []) 0 1_000_000 (refusal 13 1)
    ∷ line pair_nodes (1 ∷ 61441 ∷ 2 ∷ 61441 ∷ []) 30 1_000_000 (verdict VerdictWord.accepted 4 5)
    ∷ line choice_nodes (1 ∷ 61443 ∷ []) 18 3 (verdict VerdictWord.rejected 1 3)
    ∷ line choice_nodes (1 ∷ 61443 ∷ []) 18 2 (verdict VerdictWord.undecided 0 2)
    ∷ with_sets only_a meeting (1 ∷ 61441 ∷ []) 18 1_000_000 (verdict VerdictWord.accepted 2 3)
    ∷ with_sets only_a meeting (1 ∷ 1 ∷ 61441 ∷ []) 24 1_000_000 (verdict VerdictWord.rejected 1 2)
    ∷ with_sets (2 ∷ replicate 31 0) meeting (1 ∷ 1 ∷ 61441 ∷ []) 24 1_000_000 (verdict VerdictWord.accepted 3 4)
    ∷ line meeting (1 ∷ 61441 ∷ []) 18 1_000_000 (refusal 22 2)
    ∷ with_sets (replicate 31 0) meeting [] 0 1_000_000 (refusal 23 0)
    ∷ []

abbrev told_of : Line → Told
told_of l = told (judged l.sets l.nodes l.batch l.room l.allowance)

pub lines_told : map told_of lines ≡ map (λ l. l.answer) lines
unfolding lines told judged_by unless_refused answer_of judge_check too_short room_of search.judge flow_by drawn made descend first answer or_else_check each no_nodes not_whole too_many_nodes unknown_kind wrong_field not_lower is_child taken wrong_sort child_taken nobodys_child no_records too_many_records no_record closings_wanted closed wrong_closings closings_place after_closings node_grounds child_grounds value_grounds record_of is_event_number is_closing_number xor no_such_set wrong_sets joint_kind set_of in_set
lines_told = refl

-- A judge that touches nothing, or clears too little, leaves bytes that are not zero: of 50 bytes lent the first 48 are cleared.
pub bytes_cleared : work_after [] nodes batch (replicate 50 7) ≡ replicate 48 0 ++ replicate 2 7
unfolding bytes_by unless_refused cleared judge_check too_short room_of first answer or_else_check each no_nodes not_whole too_many_nodes unknown_kind wrong_field not_lower is_child taken wrong_sort child_taken nobodys_child no_records too_many_records no_record closings_wanted closed wrong_closings closings_place after_closings node_grounds child_grounds value_grounds record_of is_event_number is_closing_number xor no_such_set wrong_sets joint_kind
bytes_cleared = refl

-- A refusal that clears the bytes lent: here 14.
pub bytes_kept : work_after [] nodes batch (replicate 47 7) ≡ replicate 47 7
unfolding bytes_by unless_refused cleared judge_check too_short room_of first answer or_else_check each no_nodes not_whole too_many_nodes unknown_kind wrong_field not_lower is_child taken wrong_sort child_taken nobodys_child no_records too_many_records no_record closings_wanted closed wrong_closings closings_place after_closings node_grounds child_grounds value_grounds record_of is_event_number is_closing_number xor no_such_set wrong_sets joint_kind
bytes_kept = refl

---- The checks ----

-- a standard root, SKIP, and a compensable one, SKIPP
abbrev skip : List ℕ
skip = 2 ∷ 0 ∷ 0 ∷ []

abbrev skipp : List ℕ
skipp = 14 ∷ 0 ∷ 0 ∷ []

-- a kind of two children of a simple kind each
abbrev beside : ℕ → ℕ → List ℕ
beside kind each = each ∷ 0 ∷ 0 ∷ each ∷ 0 ∷ 0 ∷ kind ∷ 0 ∷ 1 ∷ []

-- what a check answers, and the answer that its contract leaves
unfoldable pub check_lines : List (Result ⊤ Refusal × Result ⊤ Refusal)
check_lines =
    -- `check_table`: 1 to 3, and its nodes; a table of one node is fine, of which 9 is not given
    (table_check [] [], refused 1 0)
    ∷ (table_check [] (2 ∷ 0 ∷ []), refused 2 0)
    ∷ (table_check [] (replicate 195 2), refused 3 0)
    ∷ (table_check [] (0 ∷ 0 ∷ 0 ∷ []), refused 4 0)
    ∷ (table_check [] skip, Ok tt)
    -- `check_nodes`: an event 257, an event 0, a block's second number
    ∷ (nodes_check 0 (1 ∷ 257 ∷ 0 ∷ []), refused 5 0)
    ∷ (nodes_check 0 (1 ∷ 0 ∷ 0 ∷ []), refused 5 0)
    ∷ (nodes_check 0 (14 ∷ 0 ∷ 0 ∷ 9 ∷ 0 ∷ 1 ∷ []), refused 5 1)
    -- a block of itself: 6, not 7; of a standard part: 7
    ∷ (nodes_check 0 (9 ∷ 0 ∷ 0 ∷ []), refused 6 0)
    ∷ (nodes_check 0 (2 ∷ 0 ∷ 0 ∷ 9 ∷ 0 ∷ 0 ∷ []), refused 7 1)
    -- the same child twice, and a child taken already, at the later parent
    ∷ (nodes_check 0 (2 ∷ 0 ∷ 0 ∷ 5 ∷ 0 ∷ 0 ∷ []), refused 8 1)
    ∷ (nodes_check 0 (2 ∷ 0 ∷ 0 ∷ 2 ∷ 0 ∷ 0 ∷ 5 ∷ 0 ∷ 1 ∷ 5 ∷ 0 ∷ 2 ∷ []), refused 8 3)
    -- of two that are nobody's child the lower; after 4 of any node; and a lower node before a lower number
    ∷ (nodes_check 0 (2 ∷ 0 ∷ 0 ∷ 2 ∷ 0 ∷ 0 ∷ 2 ∷ 0 ∷ 0 ∷ []), refused 9 0)
    ∷ (nodes_check 0 (2 ∷ 0 ∷ 0 ∷ 0 ∷ 0 ∷ 0 ∷ []), refused 4 1)
    ∷ (nodes_check 0 (9 ∷ 0 ∷ 0 ∷ 0 ∷ 0 ∷ 0 ∷ []), refused 6 0)
    -- 23: a set and no whole one, and over 16 sets; after 3, and before 4
    ∷ (table_check (replicate 31 0) skip, refused 23 0)
    ∷ (table_check (replicate 544 0) skip, refused 23 0)
    ∷ (table_check (replicate 31 0) (replicate 195 2), refused 3 0)
    ∷ (table_check (replicate 31 0) (0 ∷ 0 ∷ 0 ∷ []), refused 23 0)
    -- 22: no set, and one where number 1 is asked for; before 5 and 6. With 16 sets the last kinds are fine, and without any kind 7
    ∷ (nodes_check 0 (beside 256 2), refused 22 2)
    ∷ (nodes_check 1 (beside 256 2), Ok tt)
    ∷ (nodes_check 1 (beside 257 2), refused 22 2)
    ∷ (nodes_check 0 (512 ∷ 0 ∷ 0 ∷ []), refused 22 0)
    ∷ (nodes_check 16 (beside 271 2), Ok tt)
    ∷ (nodes_check 16 (beside 527 14), Ok tt)
    ∷ (nodes_check 0 (beside 7 2), Ok tt)
    -- the kinds next to these are unknown
    ∷ (nodes_check 16 (beside 255 2), refused 4 2)
    ∷ (nodes_check 16 (beside 272 2), refused 4 2)
    ∷ (nodes_check 16 (beside 511 14), refused 4 2)
    ∷ (nodes_check 16 (beside 528 14), refused 4 2)
    -- `check_records`: none, too many, and 12 of any record before 13
    ∷ (records_check Whole skip [], refused 10 0)
    ∷ (records_check Whole skip (replicate 257 1), refused 11 0)
    ∷ (records_check Whole skip (61441 ∷ 1 ∷ 257 ∷ []), refused 12 2)
    -- `check_values`: 0, 257, the number below the closings, and the last closing
    ∷ (values_check (0 ∷ []), refused 12 0)
    ∷ (values_check (1 ∷ 257 ∷ 0 ∷ []), refused 12 1)
    ∷ (values_check (61440 ∷ []), refused 12 0)
    ∷ (values_check (61443 ∷ []), Ok tt)
    -- `check_closings`: the record after the closing, too few, and the two of a compensable root
    ∷ (closings_check Whole skip (61441 ∷ 1 ∷ 1 ∷ []), refused 13 1)
    ∷ (closings_check Whole skip (1 ∷ 1 ∷ []), refused 13 2)
    ∷ (closings_check Whole skip (61443 ∷ []), Ok tt)
    ∷ (closings_check Whole skipp (61441 ∷ []), refused 13 1)
    ∷ (closings_check Whole skipp (61441 ∷ 1 ∷ 61442 ∷ 61443 ∷ []), refused 13 3)
    ∷ (closings_check Whole skipp (61441 ∷ 61443 ∷ []), Ok tt)
    -- of a beginning: none are fine, too many are not, 12 of any record before 13; the closing of a standard root, and the second of a
    -- compensable one
    ∷ (records_check Beginning skip [], Ok tt)
    ∷ (records_check Beginning skip (replicate 257 1), refused 11 0)
    ∷ (records_check Beginning skip (61441 ∷ 1 ∷ 257 ∷ []), refused 12 2)
    ∷ (closings_check Beginning skip (1 ∷ 61441 ∷ 1 ∷ []), refused 13 1)
    ∷ (closings_check Beginning skip (1 ∷ 1 ∷ []), Ok tt)
    ∷ (closings_check Beginning skipp (1 ∷ 61441 ∷ 1 ∷ []), Ok tt)
    ∷ (closings_check Beginning skipp (61441 ∷ 1 ∷ 61442 ∷ 61443 ∷ []), refused 13 2)
    ∷ []

pub checks_told : map (λ l. l.0) check_lines ≡ map (λ l. l.1) check_lines
unfolding check_lines first answer or_else_check each no_nodes not_whole too_many_nodes unknown_kind wrong_field not_lower is_child taken wrong_sort child_taken nobodys_child no_records too_many_records no_record closings_wanted closed wrong_closings closings_place closings_allowed too_many_closings extra_closing after_closings node_grounds child_grounds value_grounds is_event_number is_closing_number xor nodes_check table_check values_check closings_check records_check no_such_set wrong_sets joint_kind
checks_told = refl
