-- What the judge's functions on a state ask and leave alone: `Sound` of the table, `Spot` of a node and a stretch of the work bytes,
-- `Sets`, `Kept` and `Redrawn` of the modes before and after; and what is asked of a choice among compensations (`Ask`). What the
-- choice is, is in Becomes. Definitions only. Assumes nothing.
use Rattle.std.specs.Prelude.{ℕ, ◌+◌, ◌*◌, ◌<◌, ◌≤◌, ◌≡◌, List, length, get_or, ◌≢◌}
use Rattle.calculus.specs.Term.{Closing}
use Rattle.calculus.specs.Successors.{comps}
use Rattle.flow.specs.Kinds.{shape}
use Rattle.flow.specs.Trees.{Under, Tree}
use Rattle.tallies.specs.Capped.{cap}
use Rattle.tallies.specs.Counts.{sum_of, weight}
use Rattle.tallies.specs.declared.Weight.{Weight}
use Rattle.states.specs.Standings.{as_drawn}
use Rattle.states.specs.State.{Part, part, modes}
use Rattle.states.specs.Rows.{Notes, entries}
use Rattle.states.specs.Stored.{Right, stored, noted}

-- a table that checks 1 to 9 passed
pub record Sound (ns : List ℕ) : Type 0 where
  pub few : length ns ≤ 192
  pub tree : Tree (shape ns)

-- node i of such a table
pub record Inside (ns : List ℕ) (i : ℕ) : Type 0 where
  pub sound : Sound ns
  pub inside : 3 * i + 2 < length ns

-- and its place in a stretch t of the work bytes
pub record Spot (ns t : List ℕ) (i : ℕ) : Type 0 where
  pub node : Inside ns i
  pub room : i < length t

-- t' is t, but for number i, which is n
pub record Sets (t : List ℕ) (i n : ℕ) (t' : List ℕ) : Type 0 where
  pub here : get_or t' i 0 ≡ n
  pub others : (j : ℕ) → j ≢ i → get_or t' j 0 ≡ get_or t j 0
  pub long : length t' ≡ length t

-- outside what is under i, d' is as d
abbrev pub Kept : {A : Type 0} → List ℕ → ℕ → (ℕ → A) → (ℕ → A) → Type 0
Kept ns i d d' = (j : ℕ) → (Under (shape ns) i j → ⊥) → d' j ≡ d j

-- node i and all under it are as drawn, and the rest is as it was
pub record Redrawn (ns : List ℕ) (i : ℕ) (t t' : List ℕ) : Type 0 where
  pub under : (j : ℕ) → Under (shape ns) i j → modes t' j ≡ as_drawn
  pub kept : Kept ns i (modes t) (modes t')
  pub long : length t' ≡ length t

-- A state and the cue of the next record: the table ns, the modes t, the cue a
pub record Scene : Type 0 where
  pub ns : List ℕ
  pub t : List ℕ
  pub a : ℕ

abbrev pub scene : List ℕ → List ℕ → ℕ → Scene
scene ns t a = record { ns = ns; t = t; a = a }

-- the part of node i in it, and whether what a step of it looks at in the tables c is right, and its own entry
abbrev pub part_at : Scene → ℕ → Part
part_at s i = part s.ns (modes s.t) i

abbrev pub stored_at : Scene → Notes → ℕ → Right
stored_at s c i = stored s.ns s.a (modes s.t) (entries c) i

abbrev pub noted_at : Scene → Notes → ℕ → Right
noted_at s c i = noted s.ns s.a (modes s.t) (entries c) i

-- how much all compensations of node i by w weigh
abbrev pub weight_of : Scene → ℕ → Closing → Weight → ℕ
weight_of s i w g = cap (sum_of (weight s.a g) (comps (part_at s i).run w))

-- what is asked of a choice among compensations: the closing, what each weighs, and the number that falls on one
pub record Ask : Type 0 where
  pub closing : Closing
  pub weight : Weight
  pub number : ℕ

abbrev pub ask : Closing → Weight → ℕ → Ask
ask w g j = record { closing = w; weight = g; number = j }
