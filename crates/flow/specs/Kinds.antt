-- The sixteen kinds of 01, "Flow and records", and those of 02, Four: what a node's three numbers are, in the calculus's words; what is
-- asked of its fields and children; and the calculus's term for each of these words. Definitions only. Assumes nothing.
use Rattle.std.specs.Prelude.{ℕ, ◌+◌, ◌*◌, ◌-◌, Bool, true, false, not, ◌&&◌, cond, List, [], ◌∷◌, eqb, leb, ltb, get_or}
use Rattle.calculus.specs.Term.{Joint, none, Std, Cmp, skip, throw, yield, seq, alt, par, cseq, calt, cpar, skipp, throww, yieldd}
use Rattle.flow.specs.declared.Simple.{Simple}
use Rattle.flow.specs.declared.Simple.TheVariants.{Skip, Throw, Yield}
use Rattle.flow.specs.declared.Operator.{Operator}
use Rattle.flow.specs.declared.Operator.TheVariants.{Sequence, Choice, Parallel}
use Rattle.flow.specs.declared.Two.{Two}
use Rattle.flow.specs.declared.Node.{Node}
use Rattle.flow.specs.declared.Node.TheVariants.{Event, Basic, Standard, Handler, Block, Pair, Compensable, Paired, Unknown}
use Rattle.flow.specs.declared.Form.{Form}
use Rattle.flow.specs.Shapes.{Shape}

abbrev pub two : ℕ → ℕ → Two
two first second = record { first = first; second = second }

-- 02, Four: "set 0 to 15"; a parallel that has none of them, as kinds 7 and 13, goes by the number behind them
abbrev pub most_sets : ℕ
most_sets = 16

-- the table of kinds, from number 0: the node of its first and second number
abbrev pub kinds : List (ℕ → ℕ → Node)
kinds =
    (λ x y. Unknown)
    ∷ (λ x y. Event x)
    ∷ (λ x y. Basic Skip)
    ∷ (λ x y. Basic Throw)
    ∷ (λ x y. Basic Yield)
    ∷ (λ x y. Standard Sequence (two x y))
    ∷ (λ x y. Standard Choice (two x y))
    ∷ (λ x y. Standard (Parallel most_sets) (two x y))
    ∷ (λ x y. Handler (two x y))
    ∷ (λ x y. Block x)
    ∷ (λ x y. Pair (two x y))
    ∷ (λ x y. Compensable Sequence (two x y))
    ∷ (λ x y. Compensable Choice (two x y))
    ∷ (λ x y. Compensable (Parallel most_sets) (two x y))
    ∷ (λ x y. Paired Skip)
    ∷ (λ x y. Paired Throw)
    ∷ (λ x y. Paired Yield)
    ∷ []

-- k is one of so many numbers from a base up, as many as there may be sets
abbrev pub kind_in : ℕ → ℕ → Bool
kind_in base k = leb base k && ltb k (base + most_sets)

-- 02, Four: "Kinds 256 to 271 are the standard form with set 0 to 15, kinds 512 to 527 the compensable form."
unfoldable pub joint_kind : ℕ → ℕ → ℕ → Node
joint_kind k x y =
    cond (kind_in 256 k) (Standard (Parallel (k - 256)) (two x y))
    (cond (kind_in 512 k) (Compensable (Parallel (k - 512)) (two x y)) Unknown)

abbrev pub node_of : ℕ → ℕ → ℕ → Node
node_of k x y = get_or kinds k (joint_kind k) x y

-- what is asked: a known kind (4), its sort ("Kinds 1 to 9 are standard"), whether its first number is an event, how many
-- children, and their sort ("two standard", "one compensable", "two compensable")
abbrev pub asks : Bool → Bool → Bool → ℕ → Bool → Form
asks known standard event kids inner = record { known = known; standard = standard; event = event; kids = kids; inner = inner }

abbrev pub form : Node → Form
form (Event e) = asks true true true 0 false
form (Basic b) = asks true true false 0 false
form (Standard o t) = asks true true false 2 true
form (Handler t) = asks true true false 2 true
form (Block c) = asks true true false 1 false
form (Pair t) = asks true false false 2 true
form (Compensable o t) = asks true false false 2 false
form (Paired b) = asks true false false 0 false
form Unknown = asks false false false 0 false

abbrev pub is_standard : Node → Bool
is_standard n = (form n).standard

-- "Node i is three numbers: kind, first, second."
module _ (ns : List ℕ) where
  abbrev pub one_of : ℕ → ℕ
  one_of i = get_or ns (3 * i + 1) 0

  abbrev pub two_of : ℕ → ℕ
  two_of i = get_or ns (3 * i + 2) 0

  abbrev pub node : ℕ → Node
  node i = node_of (get_or ns (3 * i) 0) (one_of i) (two_of i)

  abbrev pub shape : Shape
  shape = record { has1 = λ i. not (eqb (form (node i)).kids 0); has2 = λ i. eqb (form (node i)).kids 2; one = one_of; two = two_of }

-- the number of the set of an operator and of a node, if it has one
abbrev pub operator_set : Operator → ℕ
operator_set Sequence = most_sets
operator_set Choice = most_sets
operator_set (Parallel k) = k

abbrev pub set_number : Node → ℕ
set_number (Event e) = most_sets
set_number (Basic b) = most_sets
set_number (Standard o t) = operator_set o
set_number (Handler t) = most_sets
set_number (Block c) = most_sets
set_number (Pair t) = most_sets
set_number (Compensable o t) = operator_set o
set_number (Paired b) = most_sets
set_number Unknown = most_sets

---- The terms ----

-- of a basic part and of an operator, by sort
abbrev pub basic : Simple → Std
basic Skip = skip
basic Throw = throw
basic Yield = yield

abbrev pub paired : Simple → Cmp
paired Skip = skipp
paired Throw = throww
paired Yield = yieldd

-- the set that a number names, where `sets` are those with a number; no other number names one
unfoldable pub set_of : (ℕ → Joint) → ℕ → Joint
set_of sets k = cond (ltb k most_sets) (sets k) none

abbrev pub standard : (ℕ → Joint) → Operator → Std → Std → Std
standard sets Sequence p q = seq p q
standard sets Choice p q = alt p q
standard sets (Parallel k) p q = par (set_of sets k) p q

abbrev pub compensable : (ℕ → Joint) → Operator → Cmp → Cmp → Cmp
compensable sets Sequence pp qq = cseq pp qq
compensable sets Choice pp qq = calt pp qq
compensable sets (Parallel k) pp qq = cpar (set_of sets k) pp qq
