-- What is seen of a term is what its word makes of what is seen of its parts. Assumes nothing.
use Rattle.std.specs.Prelude.{ℕ, ◌≡◌}
use Rattle.calculus.specs.Term.{Std, Cmp}
use Rattle.flow.specs.declared.Simple.{Simple}
use Rattle.flow.specs.declared.Simple.TheVariants.{Skip, Throw, Yield}
use Rattle.flow.specs.declared.Operator.{Operator}
use Rattle.flow.specs.declared.Operator.TheVariants.{Sequence, Choice, Parallel}
use Rattle.flow.specs.Kinds.{set_of, basic, paired, standard, compensable}
use Rattle.flow.specs.Cues.{cued}
use Rattle.tallies.specs.Counts.{view, word}
use Rattle.tallies.proofs.CountsLaws.{view_skip, view_throw, view_yield, view_seq, view_alt, view_par, word_skipp, word_throww, word_yieldd, word_cseq, word_calt, word_cpar}
use Rattle.counting.specs.Wholes.{by_simple, by_operator, simple_v, operator_v, simple_w, operator_w}

module _ (a : ℕ) where
  pub view_basic : (b : Simple) → view a (basic b) ≡ simple_v b
  unfolding by_simple
  view_basic Skip = view_skip a
  view_basic Throw = view_throw a
  view_basic Yield = view_yield a

  pub view_both : (o : Operator) (p q : Std) → view a (standard cued.sets o p q) ≡ operator_v a o (view a p) (view a q)
  unfolding by_operator
  view_both Sequence p q = view_seq a p q
  view_both Choice p q = view_alt a p q
  view_both (Parallel n) p q = view_par a (set_of cued.sets n) p q

  pub word_basic : (b : Simple) → word a (paired b) ≡ simple_w b
  unfolding by_simple
  word_basic Skip = word_skipp a
  word_basic Throw = word_throww a
  word_basic Yield = word_yieldd a

  pub word_both : (o : Operator) (pp qq : Cmp) → word a (compensable cued.sets o pp qq) ≡ operator_w a o (word a pp) (word a qq)
  unfolding by_operator
  word_both Sequence pp qq = word_cseq a pp qq
  word_both Choice pp qq = word_calt a pp qq
  word_both (Parallel n) pp qq = word_cpar a (set_of cued.sets n) pp qq
