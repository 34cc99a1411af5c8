-- `flow::set_number` meets its contract. Assumes nothing.
use mathlib.Core.Path.{◌≡◌, refl}
use Rattle.flow.specs.declared.Node.{Node}
use Rattle.flow.specs.declared.Node.TheVariants.{Event, Basic, Standard, Handler, Block, Pair, Compensable, Paired, Unknown}
use Rattle.flow.specs.declared.Operator.{Operator}
use Rattle.flow.specs.declared.Two.{Two}
use Rattle.flow.specs.Kinds.{most_sets, set_number}
use Rattle.flow.proofs.set_number.Goals as goal

-- a node that no operator makes
other_node : (n : Node) → ((o : Operator) → (t : Two) → n ≡ Standard o t → ⊥) → ((o : Operator) → (t : Two) → n ≡ Compensable o t → ⊥) → most_sets ≡ set_number n
other_node (Event e) f g = refl
other_node (Basic b) f g = refl
other_node (Standard o t) f g = absurd (f o t refl)
other_node (Handler t) f g = refl
other_node (Block c) f g = refl
other_node (Pair t) f g = refl
other_node (Compensable o t) f g = absurd (g o t refl)
other_node (Paired b) f g = refl
other_node Unknown f g = refl

pub returns-in_default : goal.returns-in_default
returns-in_default c = other_node c.args.node c.in_default.not-Standard c.in_default.not-Compensable
