-- What is seen of a whole by the cue a, by the word of the calculus that it is and what is seen of its parts. Definitions only. Assumes
-- nothing.
use Rattle.std.specs.Prelude.{ℕ, Bool}
use Rattle.flow.specs.declared.Simple.{Simple}
use Rattle.flow.specs.declared.Simple.TheVariants.{Skip, Throw, Yield}
use Rattle.flow.specs.declared.Operator.{Operator}
use Rattle.flow.specs.declared.Operator.TheVariants.{Sequence, Choice, Parallel}
use Rattle.flow.specs.Cues.{joint_at}
use Rattle.tallies.specs.declared.View.{View}
use Rattle.tallies.specs.declared.Word.{Word}
use Rattle.tallies.specs.Formulas.{skip_v, throw_v, yield_v, seq_v, alt_v, par_v, skipp_w, throww_w, yieldd_w, cseq_w, calt_w, cpar_w}

-- of SKIP, THROW or YIELD, where x, y and z are seen of them
unfoldable pub by_simple : {A : Type 0} → A → A → A → Simple → A
by_simple x y z Skip = x
by_simple x y z Throw = y
by_simple x y z Yield = z

-- of two parts, where f, g and h make of what is seen of them what is seen of the whole
unfoldable pub by_operator : {A : Type 0} → (A → A → A) → (A → A → A) → (Bool → A → A → A) → ℕ → Operator → A → A → A
by_operator f g h a Sequence p q = f p q
by_operator f g h a Choice p q = g p q
by_operator f g h a (Parallel n) p q = h (joint_at a n) p q

-- as standard parts
abbrev pub simple_v : Simple → View
simple_v = by_simple skip_v throw_v yield_v

abbrev pub operator_v : ℕ → Operator → View → View → View
operator_v = by_operator seq_v alt_v par_v

-- as parts that run
abbrev pub simple_w : Simple → Word
simple_w = by_simple skipp_w throww_w yieldd_w

abbrev pub operator_w : ℕ → Operator → Word → Word → Word
operator_w = by_operator cseq_w calt_w cpar_w
