-- What is asked where a beginning of a record list ends (02, Three): the cue of each number that may follow, but for events that no leaf of
-- the flow takes. A reader need not believe this file: AskLaws proves that what is not asked follows no beginning. Definitions only.
-- Assumes nothing.
use Rattle.std.specs.Prelude.{ℕ, zero, suc, ◌<◌, ◌≤◌, Bool, false, ◌&&◌, ◌||◌, cond, List, map, ◌≡◌, eqb, ltb, length, get_or}
use Rattle.flow.specs.Kinds.{form, node, one_of}
use Rattle.flow.specs.Records.{most_events, all_numbers}
use Rattle.flow.specs.Refusals.{count}
use Rattle.flow.specs.Cues.{takes_cue, cue_of}
use Rattle.format.specs.Format.{Entry}
use Rattle.format.specs.Matching.{same_step, entry_of}

-- whether one of the first k nodes is the leaf of an event that passes a test
unfoldable pub some_leaf : (ℕ → Bool) → List ℕ → ℕ → Bool
some_leaf test ns zero = false
some_leaf test ns (suc j) = some_leaf test ns j || ((form (node ns j)).event && test (one_of ns j))

-- whether some leaf takes the record of cue x
unfoldable pub hears : List ℕ → ℕ → Bool
unfolding some_leaf takes_cue
hears ns x = some_leaf (takes_cue x) ns (count ns)

-- of a record's number: its cue, or 0, which is no cue, where it is an event's that no leaf takes
unfoldable pub ask : (ℕ → ℕ) → (ℕ → ℕ) → List ℕ → ℕ → ℕ
unfolding hears cue_of
ask mask other ns r = cond (ltb most_events r || hears ns (cue_of mask other r)) (cue_of mask other r) 0

unfoldable pub asks : (ℕ → ℕ) → (ℕ → ℕ) → List ℕ → List ℕ
unfolding ask all_numbers
asks mask other ns = map (ask mask other ns) all_numbers

---- As the code finds them ----

-- whether a leaf of event e takes event a: by its cue it does the same, whatever sets have it (`takes_cue_is`, TakenLaws)
abbrev pub takes_event : (ℕ → ℕ) → ℕ → ℕ → Bool
takes_event other a e = eqb a e || eqb (other a) e

-- the marks say which events a leaf among the first k nodes takes
pub record HeardMarks (other : ℕ → ℕ) (ns : List ℕ) (k : ℕ) (marks : List Bool) : Type 0 where
  pub size : length marks ≡ 257
  pub each : (a : ℕ) → a ≤ most_events → get_or marks a false ≡ some_leaf (takes_event other a) ns k

-- the events that pass a test are marked too
pub record AlsoMarked (test : ℕ → Bool) (before after : List Bool) : Type 0 where
  pub size : length after ≡ length before
  pub each : (a : ℕ) → a ≤ most_events → get_or after a false ≡ (get_or before a false || test a)

-- whether an event has an entry, and a step name there
unfoldable pub has_step : List ℕ → List Entry → ℕ → Bool
unfolding same_step
has_step step es a = cond (ltb a 1 || ltb (length es) a) false (same_step step (entry_of es a).step)

-- the same as `ask`, by the marks of all nodes
unfoldable pub ask_by : (ℕ → ℕ) → (ℕ → ℕ) → List Bool → ℕ → ℕ
unfolding cue_of
ask_by mask other marks r = cond (ltb most_events r || get_or marks r false) (cue_of mask other r) 0

-- what is asked for the first i numbers stands in a table
pub record AskedTo (mask other : ℕ → ℕ) (ns : List ℕ) (i : ℕ) (table : List ℕ) : Type 0 where
  pub within : i ≤ 259
  pub long : length table ≡ 259
  pub each : (k : ℕ) → k < i → get_or table k 0 ≡ ask mask other ns (get_or all_numbers k 0)
