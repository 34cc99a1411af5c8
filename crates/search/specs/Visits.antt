-- What the functions of the counted search promise: the state that a stretch of the work bytes holds in a role, what a search
-- brings back and what it remembers, and for each function what it asks and what it leaves, as records that the contracts name.
-- Definitions only; the search itself and its count are defined in the crate calculus (Search, Spending). Assumes nothing.
use Rattle.std.specs.Prelude.{ℕ, suc, ◌+◌, ◌*◌, ◌-◌, ◌<◌, ◌≤◌, ◌≡◌, Bool, false, cond, List, ◌⊎◌, T, eqb, ltb, leb, length, get_or, take, drop, Option, Some, None}
use Rattle.calculus.specs.Term.{Closing, done, withdrawn, failed}
use Rattle.calculus.specs.Records.{Record, State, std, cmp}
use Rattle.calculus.specs.Within.{Within}
use Rattle.calculus.specs.Search.{next, Seen, visit}
use Rattle.calculus.specs.Ahead.{may_follow}
use Rattle.calculus.specs.Spending.{Out as Found, spent, back, tries_b, visit_b}
use Rattle.flow.specs.Cues.{done_cue, withdrawn_cue, failed_cue, cue_record, cue_records}
use Rattle.flow.specs.Refusals.{count, root}
use Rattle.tallies.specs.Capped.{cap}
use Rattle.tallies.specs.Places.{At}
use Rattle.tallies.specs.declared.View.{View}
use Rattle.states.specs.declared.Sense.TheVariants.{Drawn, Undoing}
use Rattle.states.specs.declared.Role.{Role}
use Rattle.states.specs.declared.Role.TheVariants.{Plain, Running}
use Rattle.states.specs.State.{part, modes}
use Rattle.states.specs.Roles.{ok}
use Rattle.states.specs.Rows.{notes}
use Rattle.states.specs.Clauses.{Sound, Kept, scene, noted_at}
use Rattle.memory.specs.declared.Sight.{Sight}
use Rattle.memory.specs.declared.Slot.{Slot}
use Rattle.memory.specs.Memory.{Held, Same}
use Rattle.search.specs.declared.Trip.{Trip}

-- States ----------------------------------------------------------------------------------------------------------------

-- what the stretch t holds, where the root has this role
unfoldable pub state : List ℕ → Role → List ℕ → State
state ns (Plain s) t = std ((part ns (modes t) (root ns)).std s)
state ns Running t = cmp (part ns (modes t) (root ns)).run

-- the role after a record: a closing makes of a part that runs its compensation
unfoldable pub role_next : Role → ℕ → Role
role_next (Plain s) r = Plain s
role_next Running r = cond (ltb r done_cue) Running (Plain Undoing)

unfoldable pub out_of : Option Trip → Found
out_of None = spent
out_of (Some trip) = back trip.found trip.far trip.left

-- the closing that a cue above those of events is
abbrev pub closing_of : ℕ → Closing
closing_of r = cond (eqb r done_cue) done (cond (eqb r withdrawn_cue) withdrawn failed)

-- whether what is viewed can end so
unfoldable pub ends_by : View → Closing → Bool
ends_by v done = v.done
ends_by v withdrawn = v.withdraws
ends_by v failed = v.fails

-- The search on from a state --------------------------------------------------------------------------------------------

-- the search through the successors of s by the record of cue r, with those of xs after it, and so much left of the allowance
unfoldable pub onward : State → ℕ → List ℕ → ℕ → Found
unfolding tries_b visit_b next cue_record
onward s r xs left = tries_b (λ t m. visit_b (cue_records xs) t m) (next s (cue_record r)) left

-- 01: "each deeper state is kept in its own stretch of the work bytes": as many bytes as m of n nodes take
unfoldable pub stretches : ℕ → ℕ → ℕ
stretches n m = 2 * n * m

-- the cues after checks 11 and 12
pub record Known (xs : List ℕ) : Type 0 where
  pub few : length xs ≤ 256
  pub low : (i : ℕ) → i < length xs → get_or xs i 0 ≤ failed_cue

-- what a visit needs: a table with a root, records whose closings are no more than the state can take, and a stretch for the state and
-- for each record
pub record VisitReady (ns xs t : List ℕ) (role : Role) : Type 0 where
  pub sound : Sound ns
  pub some : 3 ≤ length ns
  pub known : Known xs
  pub fits : Within (state ns role t) (cue_records xs)
  pub room : stretches (count ns) (suc (length xs)) ≤ length t

-- the state's own stretch is kept, and so is what lies behind the deeper ones
pub record Used (n m : ℕ) (t t' : List ℕ) : Type 0 where
  pub own : take (2 * n) t' ≡ take (2 * n) t
  pub rest : drop (stretches n m) t' ≡ drop (stretches n m) t

-- What is asked of the states where the records end ------------------------------------------------------------------------

-- An ask is a cue, as long as its record is not known to follow; 1 from then on; and 0 where nothing is asked.
abbrev pub follows_mark : ℕ
follows_mark = 1

-- an ask is answered, if at all, by a record that can follow rs from s
pub data Answers (s : State) (rs : List Record) (x : ℕ) : ℕ → Type 0 where
  as_was : Answers s rs x x
  can : follows_mark < x → T (may_follow rs s (cue_record x)) → Answers s rs x follows_mark

-- of all asks
pub record Strikes (s : State) (rs : List Record) (qs qs' : List ℕ) : Type 0 where
  pub long : length qs' ≡ length qs
  pub each : (j : ℕ) → Answers s rs (get_or qs j 0) (get_or qs' j 0)

-- what is still asked does not follow
pub record Settled (s : State) (rs : List Record) (qs : List ℕ) : Type 0 where
  pub none : (j : ℕ) → follows_mark < get_or qs j 0 → may_follow rs s (cue_record (get_or qs j 0)) ≡ false

-- no ask is above the last cue
abbrev pub Asking : List ℕ → Type 0
Asking qs = (j : ℕ) → get_or qs j 0 ≤ failed_cue

-- What is remembered ------------------------------------------------------------------------------------------------------

unfoldable pub role_number : Role → ℕ
role_number (Plain Drawn) = 0
role_number (Plain Undoing) = 1
role_number Running = 2

-- what a state is remembered by, beside its modes: the root's role, and how many records are left
abbrev pub key_of : Role → ℕ → ℕ
key_of role records = 4 * (records + 1) + role_number role

-- what is remembered of a state was seen without finding an end
abbrev pub saw_none : Sight → Seen
saw_none x = record { found = false; reached = x.reached; entered = x.entered }

-- the last of the records, so many
abbrev pub last : ℕ → List ℕ → List ℕ
last d xs = drop (length xs - d) xs

module _ (ns xs : List ℕ) where
  abbrev pub Has : List Slot → ℕ → List ℕ → Sight → Type 0
  Has m key t x = Held m (count ns) key t x

  -- what a search sees from the state that t holds, through the last of the records
  abbrev pub Saw : Role → ℕ → List ℕ → Sight → Type 0
  Saw role d t x = visit (cue_records (last d xs)) (state ns role t) ≡ saw_none x

  -- what a search finds out of the state that t holds: what it sees, and that nothing still asked can follow there
  pub record Knows (qs : List ℕ) (role : Role) (d : ℕ) (t : List ℕ) (x : Sight) : Type 0 where
    pub saw : Saw role d t x
    pub settled : Settled (state ns role t) (cue_records (last d xs)) qs

  -- a lookup is right: what the memory has of a state is what its search finds out
  pub record Truthful (qs : List ℕ) (m : List Slot) : Type 0 where
    pub asking : Asking qs
    pub right : (role : Role) (d : ℕ) → d ≤ length xs → (t : List ℕ) (x : Sight) → Has m (key_of role d) t x → Knows qs role d t x

  -- a state that was searched
  pub record SearchedState (qs : List ℕ) (key : ℕ) (t : List ℕ) (x : Sight) : Type 0 where
    pub role : Role
    pub depth : ℕ
    pub is : key ≡ key_of role depth
    pub within : depth ≤ length xs
    pub knows : Knows qs role depth t x

  -- what the memory has after a search it had before, or it was searched
  abbrev pub Learned : List ℕ → List Slot → List Slot → Type 0
  Learned qs m m' = (key : ℕ) (t : List ℕ) (x : Sight) → Has m' key t x → Has m key t x ⊎ SearchedState qs key t x

-- of `keep`: it adds nothing but the state of n modes, with what came of it, and that only if no end was found
pub record Added (n key : ℕ) (t : List ℕ) (left : ℕ) (o : Found) (x : Sight) (key' : ℕ) (t' : List ℕ) : Type 0 where
  pub same : Same n key' t' key t
  pub rest : ℕ
  pub less : rest ≤ left
  pub none : o ≡ back false x.reached rest
  pub entered : x.entered ≡ left - rest

pub record KeptOut (n key : ℕ) (t : List ℕ) (left : ℕ) (o : Found) (m m' : List Slot) : Type 0 where
  pub adds : (key' : ℕ) (t' : List ℕ) (x : Sight) → Held m' n key' t' x
      → Held m n key' t' x ⊎ Added n key t left o x key' t'

-- where a search stands: the table, the cues of the records to come, the stretch of the state and what lies behind it, the root's role, what is
-- asked, what is left of the allowance, and what is remembered
pub record Quest : Type 0 where
  pub ns : List ℕ
  pub cues : List ℕ
  pub t : List ℕ
  pub role : Role
  pub asks : List ℕ
  pub left : ℕ
  pub m : List Slot

abbrev pub quest : List ℕ → List ℕ → List ℕ → Role → List ℕ → ℕ → List Slot → Quest
quest ns xs t role qs left m = record { ns = ns; cues = xs; t = t; role = role; asks = qs; left = left; m = m }

abbrev pub state_at : Quest → State
state_at q = state q.ns q.role q.t

-- how asks come out of a search through rs from s that brings back o: those answered are right, and if no end was found, all are that can be
pub record AsksAfter (s : State) (rs : List Record) (o : Found) (qs qs' : List ℕ) : Type 0 where
  pub strikes : Strikes s rs qs qs'
  pub settles : (far left : ℕ) → o ≡ back false far left → Settled s rs qs'

-- of a search from a state, whatever is remembered
pub record Began (ns xs t : List ℕ) (role : Role) (qs : List ℕ) (left : ℕ) (t' qs' : List ℕ) (o : Option Trip) : Type 0 where
  pub out : out_of o ≡ visit_b (cue_records xs) (state ns role t) left
  pub used : Used (count ns) (suc (length xs)) t t'
  pub asked : AsksAfter (state ns role t) (cue_records xs) (out_of o) qs qs'

-- what comes of it: the work bytes t', the asks qs', the memory m', and the answer o
module _ (q : Quest) (t' qs' : List ℕ) (m' : List Slot) (o : Option Trip) where
  abbrev pub QuestUsed : Type 0
  QuestUsed = Used (count q.ns) (suc (length q.cues)) q.t t'

  abbrev pub QuestLearned : Type 0
  QuestLearned = Learned q.ns q.cues qs' q.m m'

  -- into the state and on
  pub record Visited : Type 0 where
    pub out : out_of o ≡ visit_b (cue_records q.cues) (state_at q) q.left
    pub used : QuestUsed
    pub asked : AsksAfter (state_at q) (cue_records q.cues) (out_of o) q.asks qs'
    pub learned : QuestLearned

  -- on from the state
  pub record Tried : Type 0 where
    pub out : out_of o ≡ onward (state_at q) (get_or q.cues 0 0) (drop 1 q.cues) q.left
    pub used : QuestUsed
    pub asked : AsksAfter (state_at q) (cue_records q.cues) (out_of o) q.asks qs'
    pub learned : QuestLearned

  -- into the k-th successor and on
  pub record Followed (k : ℕ) : Type 0 where
    pub into : State
    pub goes : At (next (state_at q) (cue_record (get_or q.cues 0 0))) k into
    pub out : out_of o ≡ visit_b (cue_records (drop 1 q.cues)) into q.left
    pub used : QuestUsed
    pub asked : AsksAfter into (cue_records (drop 1 q.cues)) (out_of o) q.asks qs'
    pub learned : QuestLearned

-- One record ------------------------------------------------------------------------------------------------------------

-- a record that does not end the search: an event, or for a part that runs a closing too
abbrev pub Inner : Role → ℕ → Type 0
Inner (Plain s) r = r < done_cue
Inner Running r = r ≤ failed_cue

-- whether a standard part closes, as the code tells: then nothing is left
unfoldable pub ends : Role → ℕ → Bool
ends (Plain s) r = leb done_cue r
ends Running r = false

-- the tables that the successors by this record are found by: what is kept of the root, and of what is live in it, is right
pub record RightCounts (ns : List ℕ) (role : Role) (a : ℕ) (t c d : List ℕ) : Type 0 where
  pub long : length d ≡ 576
  pub right : T (ok role (noted_at (scene ns t a) (notes c d) (root ns)))

-- how many successors, capped
abbrev pub successor_count : List ℕ → Role → ℕ → List ℕ → ℕ
successor_count ns role r t = cap (length (next (state ns role t) (cue_record r)))

module _ (ns : List ℕ) (role : Role) (r : ℕ) (t : List ℕ) where
  pub record SuccessorsCounted (c' d' : List ℕ) (n : ℕ) : Type 0 where
    pub many : n ≡ successor_count ns role r t
    pub right : RightCounts ns role r t c' d'

  -- the stretch has become the k-th successor's
  pub record Applied (k : ℕ) (t' : List ℕ) : Type 0 where
    pub goes : At (next (state ns role t) (cue_record r)) k (state ns (role_next role r) t')
    pub kept : Kept ns (root ns) (modes t) (modes t')
