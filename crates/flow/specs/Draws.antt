-- The flow that a node table means. `Draws legend ns i s`: node i of the table draws the part s, one constructor to a form of node, where the
-- legend says which records an event's number takes and which events are joint in a set: `plain` (Legends) where no names are lent,
-- `with_names` (format, Matching) where they are.
-- Definitions only: OneFlow proves that a table that is not refused draws exactly one flow, `flow_by` it (Drawn). Assumes nothing.
use Rattle.std.specs.Prelude.{ℕ, ◌≡◌, List}
use Rattle.calculus.specs.Term.{Std, Cmp, ev, hnd, blk, pair}
use Rattle.calculus.specs.Records.{State, std, cmp}
use Rattle.flow.specs.declared.Simple.{Simple}
use Rattle.flow.specs.declared.Operator.{Operator}
use Rattle.flow.specs.declared.Two.{Two}
use Rattle.flow.specs.declared.Node.TheVariants.{Event, Basic, Standard, Handler, Block, Pair, Compensable, Paired}
use Rattle.flow.specs.Legends.{Legend}
use Rattle.flow.specs.Kinds.{node, basic, paired, standard, compensable}

module _ (legend : Legend) (ns : List ℕ) where
  pub data Draws : ℕ → State → Type 0 where
    at_event : {i e : ℕ} → node ns i ≡ Event e → Draws i (std (ev (legend.leaves e)))
    at_basic : {i : ℕ} {b : Simple} → node ns i ≡ Basic b → Draws i (std (basic b))
    at_standard : {i : ℕ} {o : Operator} {t : Two} {p q : Std} → node ns i ≡ Standard o t → Draws t.first (std p) → Draws t.second (std q) → Draws i (std (standard legend.sets o p q))
    at_handler : {i : ℕ} {t : Two} {p q : Std} → node ns i ≡ Handler t → Draws t.first (std p) → Draws t.second (std q) → Draws i (std (hnd p q))
    at_block : {i c : ℕ} {pp : Cmp} → node ns i ≡ Block c → Draws c (cmp pp) → Draws i (std (blk pp))
    at_pair : {i : ℕ} {t : Two} {p q : Std} → node ns i ≡ Pair t → Draws t.first (std p) → Draws t.second (std q) → Draws i (cmp (pair p q))
    at_compensable : {i : ℕ} {o : Operator} {t : Two} {pp qq : Cmp} → node ns i ≡ Compensable o t → Draws t.first (cmp pp) → Draws t.second (cmp qq) → Draws i (cmp (compensable legend.sets o pp qq))
    at_paired : {i : ℕ} {b : Simple} → node ns i ≡ Paired b → Draws i (cmp (paired b))
