-- What the functions below `choose` ask and promise: a search in a node of a known course (`Wanted`), in a child of a node that gets
-- a mode (`Below`), in the second part of PP;QQ once the first has become its compensation (`SecondWanted`, `SecondChosen`), what a pair
-- becomes (`PairLeft`), and that the tables are right below what was chosen (`UndoneBelow`). Definitions only. Assumes nothing.
use Rattle.std.specs.Prelude.{ℕ, ◌<◌, ◌≡◌, true, not, List, map, T, eqb, set}
use Rattle.calculus.specs.Term.{Closing, done, Std, Cmp, seq}
use Rattle.calculus.specs.Successors.{eqc, ends, comps}
use Rattle.flow.specs.declared.Operator.TheVariants.{Sequence}
use Rattle.flow.specs.declared.Two.{Two}
use Rattle.flow.specs.declared.Node.TheVariants.{Compensable}
use Rattle.flow.specs.Kinds.{node, shape}
use Rattle.flow.specs.Shapes.{Kid}
use Rattle.tallies.specs.Capped.{cap}
use Rattle.tallies.specs.Counts.{sum_of, moves, weight}
use Rattle.tallies.specs.Formulas.{closing}
use Rattle.tallies.specs.Sought.{Sought}
use Rattle.tallies.specs.declared.Weight.{Weight}
use Rattle.tallies.specs.declared.Word.{Word}
use Rattle.states.specs.declared.Sense.TheVariants.{Undoing}
use Rattle.states.specs.declared.Course.{Course}
use Rattle.states.specs.declared.Picked.{Picked}
use Rattle.states.specs.Standings.{left_second, left_nothing, left_both, course_of}
use Rattle.states.specs.State.{part, modes}
use Rattle.states.specs.Rows.{row, Notes, entries}
use Rattle.seek.specs.declared.Query.{Query}
use Rattle.states.specs.Becomes.{picked, Becomes, ask_second, seq_of}
use Rattle.states.specs.Clauses.{Spot, Sets, Kept, Redrawn, Scene, part_at, stored_at, weight_of, Ask, ask}

-- what node i is as a part that runs by the modes t, its term, and the compensation that it has become
abbrev pub course_at : List ℕ → List ℕ → ℕ → Course
course_at ns t i = course_of (node ns i) (modes t i)

abbrev pub runs : List ℕ → List ℕ → ℕ → Cmp
runs ns t i = (part ns (modes t) i).run

abbrev pub left : List ℕ → List ℕ → ℕ → Std
left ns t i = (part ns (modes t) i).std Undoing

-- what the code is asked, by its own closing
abbrev pub asked : Query → Ask
asked q = ask (closing q.closing) q.weight q.number

-- the one compensation by done that a row keeps, where j is left of the number
abbrev pub lone : Word → ℕ → Picked
lone x j = picked j x.done.moves (not (eqb x.done.able 0))

-- a pair becomes its compensation by w: P is passed, and Q is left to be done, or nothing
pub data PairLeft (ns t d : List ℕ) (i : ℕ) (two : Two) (w : Closing) (j : ℕ) (t' : List ℕ) : Picked → Type 0 where
  to_second : {t₁ : List ℕ} → w ≡ done → Redrawn ns two.first t t₁ → t' ≡ set t₁ i left_second → PairLeft ns t d i two w j t' (lone (row d i) j)
  to_nothing : {t₁ : List ℕ} → T (not (eqc w done)) → Redrawn ns two.first t t₁ → t' ≡ set t₁ i left_nothing → PairLeft ns t d i two w j t' (picked j 0 true)

-- node i has become a compensation, in s: below it the tables c are right, and nothing was changed outside
pub record UndoneBelow (s : Scene) (i : ℕ) (c₀ c : Notes) : Type 0 where
  pub right : T ((stored_at s c i).std Undoing)
  pub kept : Kept s.ns i (entries c₀) (entries c)

-- among the compensations l, what is asked falls on k, of which p is known
abbrev pub Picks : ℕ → Ask → List Std → Std → Picked → Type 0
Picks a q l k p = Sought a q.weight l q.number k p.rest p.moves p.able

module _ (s : Scene) where
  module _ (i : ℕ) where
    -- a search in node i: its place, its course, and that j falls on one of its compensations
    pub record Wanted (x : Course) (w : Closing) (g : Weight) (j : ℕ) : Type 0 where
      pub spot : Spot s.ns s.t i
      pub is : course_at s.ns s.t i ≡ x
      pub room : j < weight_of s i w g

    -- a search in the child c of node i
    pub record Below (c : ℕ) (w : Closing) (g : Weight) (j : ℕ) : Type 0 where
      pub spot : Spot s.ns s.t i
      pub kid : Kid (shape s.ns) i c
      pub room : j < weight_of s c w g

  -- QQ's compensations, each before the one that PP has become
  abbrev pub seconds : Two → Closing → List Std
  seconds two w = map (λ x. seq x (left s.ns s.t two.first)) (comps (part_at s two.second).run w)

  module _ (i : ℕ) (two : Two) where
    -- a search among them; k is what is known of PP's
    pub record SecondWanted (w : Closing) (g : Weight) (k : Picked) : Type 0 where
      pub spot : Spot s.ns s.t i
      pub is : node s.ns i ≡ Compensable Sequence two
      pub counted : k.moves ≡ cap (moves s.a (left s.ns s.t two.first))
      pub ended : k.able ≡ ends (left s.ns s.t two.first) done
      pub room : k.rest < cap (sum_of (weight s.a g) (seconds two w))

    -- one of them is chosen: the node gets its mode, QQ becomes what is known as `last`, and PP's follows
    pub record SecondChosen (w : Closing) (g : Weight) (k : Picked) (t' : List ℕ) (p : Picked) : Type 0 where
      pub sought : Picks s.a (ask w g k.rest) (seconds two w) (left s.ns t' i) p
      pub kept : Kept s.ns i (modes s.t) (modes t')
      pub between : List ℕ
      pub last : Picked
      pub sets : Sets s.t i left_both between
      pub becomes : Becomes s.ns s.a (course_at s.ns between two.second) between two.second (ask_second (ask w g k.rest) k) t' last
      pub is : p ≡ seq_of last k
