-- What the functions that hand a step down promise: to which live part, at which place, and that its step is the node's (`Turned`).
-- How the modes change is in Hands, of the crate below. Definitions only; their laws are in AfterLaws, NodeLaws and TurnLaws. Assumes nothing.
use Rattle.std.specs.Prelude.{ℕ, ◌<◌, ◌≤◌, ◌-◌, Bool, true, false, List, ◌≡◌, length}
use Rattle.flow.specs.declared.Operator.{Operator}
use Rattle.flow.specs.declared.Two.{Two}
use Rattle.flow.specs.Kinds.{shape}
use Rattle.flow.specs.Trees.{Under}
use Rattle.states.specs.declared.Role.{Role}
use Rattle.states.specs.declared.Role.TheVariants.{Plain, Running}
use Rattle.states.specs.State.{Part, std_of, run_of, modes, counts}
use Rattle.states.specs.Rows.{Notes}
use Rattle.states.specs.Stored.{Right, std_right, run_right}
use Rattle.states.specs.Roles.{Term}
use Rattle.states.specs.Hands.{Move, Stance, first_mode, second_mode}
use Rattle.states.specs.Clauses.{Scene, scene, Sets, Ready, Stepped}
use Rattle.steps.specs.declared.Turn.{Turn}

-- the step x is handed down: from modes t' on, the step y of a node under it, by the tables c, makes it
pub record Turned (s : Scene) (c : Notes) (x : Move) (t' : List ℕ) (y : Move) : Type 0 where
  pub lower : y.node < x.node
  pub under : Under (shape s.ns) x.node y.node
  pub ready : Ready (scene s.ns t' s.a) y.role c y.node y.place
  pub back : (t'' : List ℕ) → Stepped (scene s.ns t' s.a) y.role y.node y.place t'' → Stepped s x.role x.node x.place t''

-- the step x has come down to y, by being handed down or as it was
pub record Reached (s : Scene) (c : Notes) (x : Move) (t' : List ℕ) (y : Move) : Type 0 where
  pub low : y.node ≤ x.node
  pub under : Under (shape s.ns) x.node y.node
  pub long : length t' ≡ length s.t
  pub ready : Ready (scene s.ns t' s.a) y.role c y.node y.place
  pub back : (t'' : List ℕ) → Stepped (scene s.ns t' s.a) y.role y.node y.place t'' → Stepped s x.role x.node x.place t''

-- the two live parts of a node, how they are joined, and the mode of a sequence that has gone on
pub record Halves : Type 0 where
  pub node : ℕ
  pub operator : Operator
  pub two : Two
  pub gone : ℕ

abbrev pub halves : ℕ → Operator → Two → ℕ → Halves
halves i o p g = record { node = i; operator = o; two = p; gone = g }

abbrev pub turn_to : ℕ → ℕ → Bool → Turn
turn_to j l b = record { node = j; at = l; second = b }

-- step k of a node with the parts f is one of the first or one of the second; the node's mode is set for it
pub data Forked (c t : List ℕ) (k : ℕ) (f : Halves) (t' : List ℕ) : Turn → Type 0 where
  in_first : k < counts c f.two.first → Sets t f.node (first_mode f.operator (modes t f.node)) t' → Forked c t k f t' (turn_to f.two.first k false)
  in_second : counts c f.two.first ≤ k → Sets t f.node (second_mode f.operator f.gone (modes t f.node)) t' → Forked c t k f t' (turn_to f.two.second (k - counts c f.two.first) true)

-- the term of a part, and whether what is kept of it is right, in a role, from its live parts
abbrev pub stance_term : (r : Role) → Stance r → (ℕ → Part) → Term r
stance_term (Plain s) x at = std_of x s at
stance_term Running x at = run_of x at

abbrev pub stance_right : (r : Role) → Stance r → (ℕ → Bool) → (ℕ → Right) → (ℕ → Right) → Bool
stance_right (Plain s) x over noted at = std_right x s noted at
stance_right Running x over noted at = run_right x over noted at
