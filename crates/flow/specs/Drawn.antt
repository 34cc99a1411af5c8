-- The flow of a node table as a function, by going down from the last node.
-- A reader need not believe this file: `one_flow` (promises, Demands) proves that a table that is not refused draws (`Draws`) this
-- flow and no other. Definitions only. Assumes nothing.
use Rattle.std.specs.Prelude.{ℕ, List}
use Rattle.calculus.specs.Term.{Std, Cmp, ev, hnd, blk, pair}
use Rattle.calculus.specs.Records.{State, over, std, cmp}
use Rattle.flow.specs.declared.Node.{Node}
use Rattle.flow.specs.declared.Node.TheVariants.{Event, Basic, Standard, Handler, Block, Pair, Compensable, Paired, Unknown}
use Rattle.flow.specs.Trees.{descend}
use Rattle.flow.specs.Kinds.{node, basic, paired, standard, compensable}
use Rattle.flow.specs.Legends.{Legend, plain}
use Rattle.flow.specs.Refusals.{root}

-- a part made of a standard or of a compensable one; of anything else nothing is made
abbrev of_std : (Std → State) → State → State
of_std f over = over
of_std f (std p) = f p
of_std f (cmp pp) = over

abbrev of_cmp : (Cmp → State) → State → State
of_cmp f over = over
of_cmp f (std p) = over
of_cmp f (cmp pp) = f pp

module _ (legend : Legend) where
  -- the part that a node makes of what its children draw
  unfoldable pub made : Node → (ℕ → State) → State
  made (Event e) at = std (ev (legend.leaves e))
  made (Basic b) at = std (basic b)
  made (Standard o t) at = of_std (λ p. of_std (λ q. std (standard legend.sets o p q)) (at t.second)) (at t.first)
  made (Handler t) at = of_std (λ p. of_std (λ q. std (hnd p q)) (at t.second)) (at t.first)
  made (Block c) at = of_cmp (λ pp. std (blk pp)) (at c)
  made (Pair t) at = of_std (λ p. of_std (λ q. cmp (pair p q)) (at t.second)) (at t.first)
  made (Compensable o t) at = of_cmp (λ pp. of_cmp (λ qq. cmp (compensable legend.sets o pp qq)) (at t.second)) (at t.first)
  made (Paired b) at = cmp (paired b)
  made Unknown at = over

  unfoldable pub drawn : List ℕ → ℕ → State
  drawn ns i = descend over (λ j at. made (node ns j) at) i

  -- the flow of the last node
  unfoldable pub flow_by : List ℕ → State
  flow_by ns = drawn ns (root ns)

-- where no names are lent
abbrev pub flow_of : List ℕ → List ℕ → State
flow_of sets ns = flow_by (plain sets) ns
