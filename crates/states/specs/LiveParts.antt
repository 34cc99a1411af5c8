-- What it means that the parts that are live under a node are children of it, with nothing under two of them, and lower. Definitions only;
-- Rests proves it of every node of a tree. Assumes nothing.
use Rattle.std.specs.Prelude.{ℕ, ◌<◌, List}
use Rattle.flow.specs.declared.Two.{Two}
use Rattle.flow.specs.Shapes.{Kid}
use Rattle.flow.specs.Trees.{Under}
use Rattle.flow.specs.Kinds.{shape}
use Rattle.states.specs.declared.Standing.{Standing}
use Rattle.states.specs.declared.Standing.TheVariants as standing
use Rattle.states.specs.declared.Course.{Course}
use Rattle.states.specs.declared.Course.TheVariants as course

module _ (ns : List ℕ) (i : ℕ) where
  -- two children of node i, with nothing under both
  pub record Twins (t : Two) : Type 0 where
    pub one : Kid (shape ns) i t.first
    pub other : Kid (shape ns) i t.second
    pub free : (j : ℕ) → Under (shape ns) t.first j → Under (shape ns) t.second j → ⊥

  abbrev pub Rests : Standing → Type 0
  Rests (standing.Event e) = Unit {0}
  Rests (standing.Basic b) = Unit {0}
  Rests (standing.Both o t) = Twins t
  Rests (standing.Handler t) = Twins t
  Rests (standing.Block c) = Kid (shape ns) i c
  Rests (standing.As x) = Kid (shape ns) i x.node

  abbrev pub CRests : Course → Type 0
  CRests (course.Basic b) = Unit {0}
  CRests (course.Pair t) = Twins t
  CRests (course.Both o t) = Twins t
  CRests (course.Held t) = Twins t
  CRests (course.As c) = Kid (shape ns) i c

-- they are lower
module _ (i : ℕ) where
  abbrev pub Lower : Standing → Type 0
  Lower (standing.Event e) = Unit {0}
  Lower (standing.Basic b) = Unit {0}
  Lower (standing.Both o t) = (t.first < i) × (t.second < i)
  Lower (standing.Handler t) = (t.first < i) × (t.second < i)
  Lower (standing.Block c) = c < i
  Lower (standing.As x) = x.node < i

  abbrev pub CLower : Course → Type 0
  CLower (course.Basic b) = Unit {0}
  CLower (course.Pair t) = (t.first < i) × (t.second < i)
  CLower (course.Both o t) = (t.first < i) × (t.second < i)
  CLower (course.Held t) = (t.first < i) × (t.second < i)
  CLower (course.As c) = c < i
