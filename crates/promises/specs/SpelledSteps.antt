-- Flows that are drawn alike, but for leaves and choices in the same places that have the same first steps and are then over (`Like`),
-- follow the same records (`alike_follows`), where they get stuck too. So does a flow with each leaf spelled out by such a choice
-- (`spelled_follows`); the choice of the events that a leaf takes is such (`choice_like`). Assumes nothing.
use Rattle.std.specs.Prelude.{ℕ, List, [], ◌∷◌, ◌↔◌, ◌≡◌, refl}
use Rattle.std.proofs.Common.{sym, subst}
use Rattle.calculus.specs.Term.{Closing, done, Leaf, Joint, Std, Cmp, skip, throw, yield, ev, seq, alt, par, hnd, blk, pair, cseq, calt, cpar, held}
use Rattle.calculus.specs.Rules.{End, skip_ends, throw_ends, yield_ends, yield_yields, seq_on, seq_stops, hnd_on, hnd_stops, alt_left, alt_right, par_joins, blk_ends, blk_undoes, CEnd, pair_ends, pair_stops, cseq_stops, cseq_on, held_ends, calt_left, calt_right, cpar_joins, Step, ev_step, seq_first, seq_second, hnd_first, hnd_second, alt_first, alt_second, par_first, par_second, par_both, blk_first, blk_second, CStep, pair_step, cseq_first, cseq_second, held_step, calt_first, calt_second, cpar_first, cpar_second, cpar_both, Run, closes, goes}
use Rattle.calculus.specs.Records.{Record, State, over, std, cmp, Moves, by_step, by_end, by_cstep, by_cend, Follows, stays}
use Rattle.calculus.specs.Choices.{choice_of}
use Rattle.calculus.specs.Spelled.{spelled, cspelled, spelled_state}
use Rattle.calculus.specs.Leaves.{Each, CEach, EachState, AnySet}

---- Parts that are alike ----

-- neither part can end at once, and they step by the same events, to nothing more
pub record OneStep (p q : Std) : Type 0 where
  pub there : (a : ℕ) (r : Std) → Step p a r → (r ≡ skip) × Step q a skip
  pub back : (a : ℕ) (r : Std) → Step q a r → (r ≡ skip) × Step p a skip
  pub open_first : (w : Closing) → End p w → ⊥
  pub open_second : (w : Closing) → End q w → ⊥

-- drawn alike, with the same sets, but for such parts
mutual
  pub data Like : Std → Std → Type 0 where
    of_leaf : {l m : Leaf} → OneStep (ev l) (ev m) → Like (ev l) (ev m)
    of_leaf_alt : {l : Leaf} {p q : Std} → OneStep (ev l) (alt p q) → Like (ev l) (alt p q)
    of_alt_leaf : {l : Leaf} {p q : Std} → OneStep (alt p q) (ev l) → Like (alt p q) (ev l)
    of_skip : Like skip skip
    of_throw : Like throw throw
    of_yield : Like yield yield
    of_seq : {p q p' q' : Std} → Like p p' → Like q q' → Like (seq p q) (seq p' q')
    of_alt : {p q p' q' : Std} → Like p p' → Like q q' → Like (alt p q) (alt p' q')
    of_par : {j : Joint} {p q p' q' : Std} → Like p p' → Like q q' → Like (par j p q) (par j p' q')
    of_hnd : {p q p' q' : Std} → Like p p' → Like q q' → Like (hnd p q) (hnd p' q')
    of_blk : {pp pp' : Cmp} → CLike pp pp' → Like (blk pp) (blk pp')

  pub data CLike : Cmp → Cmp → Type 0 where
    of_pair : {p q p' q' : Std} → Like p p' → Like q q' → CLike (pair p q) (pair p' q')
    of_cseq : {pp qq pp' qq' : Cmp} → CLike pp pp' → CLike qq qq' → CLike (cseq pp qq) (cseq pp' qq')
    of_calt : {pp qq pp' qq' : Cmp} → CLike pp pp' → CLike qq qq' → CLike (calt pp qq) (calt pp' qq')
    of_cpar : {j : Joint} {pp qq pp' qq' : Cmp} → CLike pp pp' → CLike qq qq' → CLike (cpar j pp qq) (cpar j pp' qq')
    of_held : {qq qq' : Cmp} {r r' : Std} → CLike qq qq' → Like r r' → CLike (held qq r) (held qq' r')

data LikeState : State → State → Type 0 where
  of_over : LikeState over over
  of_std : {p q : Std} → Like p q → LikeState (std p) (std q)
  of_cmp : {pp qq : Cmp} → CLike pp qq → LikeState (cmp pp) (cmp qq)

turned : {p q : Std} → OneStep p q → OneStep q p
turned o = record { there = o.back; back = o.there; open_first = o.open_second; open_second = o.open_first }

mutual
  flip : {p q : Std} → Like p q → Like q p
  flip (of_leaf o) = of_leaf (turned o)
  flip (of_leaf_alt o) = of_alt_leaf (turned o)
  flip (of_alt_leaf o) = of_leaf_alt (turned o)
  flip of_skip = of_skip
  flip of_throw = of_throw
  flip of_yield = of_yield
  flip (of_seq h k) = of_seq (flip h) (flip k)
  flip (of_alt h k) = of_alt (flip h) (flip k)
  flip (of_par h k) = of_par (flip h) (flip k)
  flip (of_hnd h k) = of_hnd (flip h) (flip k)
  flip (of_blk h) = of_blk (cflip h)

  cflip : {pp qq : Cmp} → CLike pp qq → CLike qq pp
  cflip (of_pair h k) = of_pair (flip h) (flip k)
  cflip (of_cseq h k) = of_cseq (cflip h) (cflip k)
  cflip (of_calt h k) = of_calt (cflip h) (cflip k)
  cflip (of_cpar h k) = of_cpar (cflip h) (cflip k)
  cflip (of_held h k) = of_held (cflip h) (flip k)

flip_state : {s t : State} → LikeState s t → LikeState t s
flip_state of_over = of_over
flip_state (of_std h) = of_std (flip h)
flip_state (of_cmp h) = of_cmp (cflip h)

---- They move alike ----

-- a rule at a time
mutual
  end_alike : {p q : Std} {w : Closing} → End p w → Like p q → End q w
  end_alike skip_ends of_skip = skip_ends
  end_alike throw_ends of_throw = throw_ends
  end_alike yield_ends of_yield = yield_ends
  end_alike yield_yields of_yield = yield_yields
  end_alike (seq_on e d) (of_seq h k) = seq_on (end_alike e h) (end_alike d k)
  end_alike (seq_stops e n) (of_seq h k) = seq_stops (end_alike e h) n
  end_alike (alt_left e) (of_alt_leaf o) = absurd (o.open_first _ (alt_left e))
  end_alike (alt_right e) (of_alt_leaf o) = absurd (o.open_first _ (alt_right e))
  end_alike (alt_left e) (of_alt h k) = alt_left (end_alike e h)
  end_alike (alt_right e) (of_alt h k) = alt_right (end_alike e k)
  end_alike (par_joins e d x) (of_par h k) = par_joins (end_alike e h) (end_alike d k) x
  end_alike (hnd_on e d) (of_hnd h k) = hnd_on (end_alike e h) (end_alike d k)
  end_alike (hnd_stops e n) (of_hnd h k) = hnd_stops (end_alike e h) n
  end_alike (blk_ends e) (of_blk h) = blk_ends (cend_alike e h).1
  end_alike (blk_undoes e d) (of_blk h) = let c = cend_alike e h in blk_undoes c.1 (end_alike d c.2)

  cend_alike : {pp qq : Cmp} {w : Closing} {k : Std} → CEnd pp w k → CLike pp qq → (l : Std) × CEnd qq w l × Like k l
  cend_alike (pair_ends e) (of_pair h k) = (_, pair_ends (end_alike e h), k)
  cend_alike (pair_stops e n) (of_pair h k) = (skip, pair_stops (end_alike e h) n, of_skip)
  cend_alike (cseq_stops e n) (of_cseq h k) = let c = cend_alike e h in (c.0, cseq_stops c.1 n, c.2)
  cend_alike (cseq_on e d) (of_cseq h k) = let c = cend_alike e h in let b = cend_alike d k in (seq b.0 c.0, cseq_on c.1 b.1, of_seq b.2 c.2)
  cend_alike (calt_left e) (of_calt h k) = let c = cend_alike e h in (c.0, calt_left c.1, c.2)
  cend_alike (calt_right e) (of_calt h k) = let c = cend_alike e k in (c.0, calt_right c.1, c.2)
  cend_alike (cpar_joins e d x) (of_cpar {j} h k) = let c = cend_alike e h in let b = cend_alike d k in (par j c.0 b.0, cpar_joins c.1 b.1 x, of_par c.2 b.2)
  cend_alike (held_ends e) (of_held {r'} h k) = let c = cend_alike e h in (seq c.0 r', held_ends c.1, of_seq c.2 k)

one_alike : {p q r : Std} {a : ℕ} → OneStep p q → Step p a r → (t : Std) × Step q a t × Like r t
one_alike o m = let s = o.there _ _ m in (skip, s.1, subst (λ (r : Std). Like r skip) (sym s.0) of_skip)

mutual
  step_alike : {p q r : Std} {a : ℕ} → Step p a r → Like p q → (t : Std) × Step q a t × Like r t
  step_alike (ev_step t) (of_leaf o) = one_alike o (ev_step t)
  step_alike (ev_step t) (of_leaf_alt o) = one_alike o (ev_step t)
  step_alike (seq_first m) (of_seq {q'} h k) = let s = step_alike m h in (seq s.0 q', seq_first s.1, of_seq s.2 k)
  step_alike (seq_second e m) (of_seq h k) = let s = step_alike m k in (s.0, seq_second (end_alike e h) s.1, s.2)
  step_alike (alt_first m) (of_alt_leaf o) = one_alike o (alt_first m)
  step_alike (alt_second m) (of_alt_leaf o) = one_alike o (alt_second m)
  step_alike (alt_first m) (of_alt h k) = let s = step_alike m h in (s.0, alt_first s.1, s.2)
  step_alike (alt_second m) (of_alt h k) = let s = step_alike m k in (s.0, alt_second s.1, s.2)
  step_alike (par_first n m) (of_par {j} {q'} h k) = let s = step_alike m h in (par j s.0 q', par_first n s.1, of_par s.2 k)
  step_alike (par_second n m) (of_par {j} {p'} h k) = let s = step_alike m k in (par j p' s.0, par_second n s.1, of_par h s.2)
  step_alike (par_both n m o) (of_par {j} h k) = let s = step_alike m h in let t = step_alike o k in (par j s.0 t.0, par_both n s.1 t.1, of_par s.2 t.2)
  step_alike (hnd_first m) (of_hnd {q'} h k) = let s = step_alike m h in (hnd s.0 q', hnd_first s.1, of_hnd s.2 k)
  step_alike (hnd_second e m) (of_hnd h k) = let s = step_alike m k in (s.0, hnd_second (end_alike e h) s.1, s.2)
  step_alike (blk_first m) (of_blk h) = let s = cstep_alike m h in (blk s.0, blk_first s.1, of_blk s.2)
  step_alike (blk_second e m) (of_blk h) = let c = cend_alike e h in let s = step_alike m c.2 in (s.0, blk_second c.1 s.1, s.2)

  cstep_alike : {pp qq rr : Cmp} {a : ℕ} → CStep pp a rr → CLike pp qq → (tt' : Cmp) × CStep qq a tt' × CLike rr tt'
  cstep_alike (pair_step m) (of_pair {q'} h k) = let s = step_alike m h in (pair s.0 q', pair_step s.1, of_pair s.2 k)
  cstep_alike (cseq_first m) (of_cseq {qq'} h k) = let s = cstep_alike m h in (cseq s.0 qq', cseq_first s.1, of_cseq s.2 k)
  cstep_alike (cseq_second e m) (of_cseq h k) = let c = cend_alike e h in let s = cstep_alike m k in (held s.0 c.0, cseq_second c.1 s.1, of_held s.2 c.2)
  cstep_alike (calt_first m) (of_calt h k) = let s = cstep_alike m h in (s.0, calt_first s.1, s.2)
  cstep_alike (calt_second m) (of_calt h k) = let s = cstep_alike m k in (s.0, calt_second s.1, s.2)
  cstep_alike (cpar_first n m) (of_cpar {j} {qq'} h k) = let s = cstep_alike m h in (cpar j s.0 qq', cpar_first n s.1, of_cpar s.2 k)
  cstep_alike (cpar_second n m) (of_cpar {j} {pp'} h k) = let s = cstep_alike m k in (cpar j pp' s.0, cpar_second n s.1, of_cpar h s.2)
  cstep_alike (cpar_both n m o) (of_cpar {j} h k) = let s = cstep_alike m h in let t = cstep_alike o k in (cpar j s.0 t.0, cpar_both n s.1 t.1, of_cpar s.2 t.2)
  cstep_alike (held_step m) (of_held {r'} h k) = let s = cstep_alike m h in (held s.0 r', held_step s.1, of_held s.2 k)

moves_alike : {s t u : State} {r : Record} → LikeState s t → Moves s r u → (v : State) × Moves t r v × LikeState u v
moves_alike (of_std h) (by_step m) = let s = step_alike m h in (std s.0, by_step s.1, of_std s.2)
moves_alike (of_std h) (by_end e) = (over, by_end (end_alike e h), of_over)
moves_alike (of_cmp h) (by_cstep m) = let s = cstep_alike m h in (cmp s.0, by_cstep s.1, of_cmp s.2)
moves_alike (of_cmp h) (by_cend e) = let c = cend_alike e h in (std c.0, by_cend c.1, of_std c.2)
moves_alike of_over m = elim m [ ]

alike_follows : {s t : State} {batch : List Record} {n : ℕ} → LikeState s t → Follows s batch n → Follows t batch n
alike_follows h stays = stays
alike_follows h (Follows.moves m f) = let v = moves_alike h m in Follows.moves v.1 (alike_follows v.2 f)

---- A flow that is spelled out ----

module _ (f : Leaf → Std) where
  abbrev pub LikeLeaf : Leaf → Type 0
  LikeLeaf l = Like (ev l) (f l)

  mutual
    spelled_like : (p : Std) → Each LikeLeaf AnySet p → Like p (spelled f p)
    spelled_like skip h = of_skip
    spelled_like throw h = of_throw
    spelled_like yield h = of_yield
    spelled_like (ev l) h = h
    spelled_like (seq p q) h = of_seq (spelled_like p h.0) (spelled_like q h.1)
    spelled_like (alt p q) h = of_alt (spelled_like p h.0) (spelled_like q h.1)
    spelled_like (par j p q) h = of_par (spelled_like p h.1) (spelled_like q h.2)
    spelled_like (hnd p q) h = of_hnd (spelled_like p h.0) (spelled_like q h.1)
    spelled_like (blk pp) h = of_blk (cspelled_like pp h)

    cspelled_like : (pp : Cmp) → CEach LikeLeaf AnySet pp → CLike pp (cspelled f pp)
    cspelled_like (pair p q) h = of_pair (spelled_like p h.0) (spelled_like q h.1)
    cspelled_like (cseq pp qq) h = of_cseq (cspelled_like pp h.0) (cspelled_like qq h.1)
    cspelled_like (calt pp qq) h = of_calt (cspelled_like pp h.0) (cspelled_like qq h.1)
    cspelled_like (cpar j pp qq) h = of_cpar (cspelled_like pp h.1) (cspelled_like qq h.2)
    cspelled_like (held qq r) h = of_held (cspelled_like qq h.0) (spelled_like r h.1)

  state_like : (s : State) → EachState LikeLeaf AnySet s → LikeState s (spelled_state f s)
  state_like over h = of_over
  state_like (std p) h = of_std (spelled_like p h)
  state_like (cmp pp) h = of_cmp (cspelled_like pp h)

  pub spelled_follows : (s : State) → EachState LikeLeaf AnySet s → (batch : List Record) (n : ℕ) → Follows s batch n ↔ Follows (spelled_state f s) batch n
  spelled_follows s h batch n = (alike_follows (state_like s h), alike_follows (flip_state (state_like s h)))

---- A leaf and the choice of its events ----

leaf_open : {l : Leaf} {w : Closing} → End (ev l) w → ⊥
leaf_open e = elim e [ ]

choice_open : (k : ℕ) (ks : List ℕ) {w : Closing} → End (choice_of k ks) w → ⊥
choice_open k [] e = leaf_open e
choice_open k (j ∷ js) (alt_left e) = leaf_open e
choice_open k (j ∷ js) (alt_right e) = choice_open j js e

leaf_over : {l : Leaf} {a : ℕ} {r : Std} → Step (ev l) a r → r ≡ skip
leaf_over (ev_step t) = refl

choice_over : (k : ℕ) (ks : List ℕ) {a : ℕ} {r : Std} → Step (choice_of k ks) a r → r ≡ skip
choice_over k [] m = leaf_over m
choice_over k (j ∷ js) (alt_first m) = leaf_over m
choice_over k (j ∷ js) (alt_second m) = choice_over j js m

-- such a part steps by an event exactly if the event is a run of it
module _ (p : Std) (only_skip : (a : ℕ) (r : Std) → Step p a r → r ≡ skip) where
  step_run : {a : ℕ} {r : Std} → Step p a r → Run p (a ∷ []) done
  step_run {a} m = goes (subst (Step p a) (only_skip _ _ m) m) (closes skip_ends)

  run_step : {a : ℕ} → Run p (a ∷ []) done → Step p a skip
  run_step {a} (goes m r) = subst (Step p a) (only_skip _ _ m) m

module _ (l : Leaf) (k : ℕ) (ks : List ℕ) (runs : (s : List ℕ) (w : Closing) → Run (ev l) s w ↔ Run (choice_of k ks) s w) where
  one_step : OneStep (ev l) (choice_of k ks)
  one_step = record {
    there = λ a r m. (leaf_over m, run_step (choice_of k ks) (λ b q. choice_over k ks) ((runs (a ∷ []) done).0 (step_run (ev l) (λ b q. leaf_over) m)));
    back = λ a r m. (choice_over k ks m, run_step (ev l) (λ b q. leaf_over) ((runs (a ∷ []) done).1 (step_run (choice_of k ks) (λ b q. choice_over k ks) m)));
    open_first = λ w e. leaf_open e;
    open_second = λ w e. choice_open k ks e;
  }

pub choice_like : (l : Leaf) (k : ℕ) (ks : List ℕ) → ((s : List ℕ) (w : Closing) → Run (ev l) s w ↔ Run (choice_of k ks) s w) → Like (ev l) (choice_of k ks)
choice_like l k [] runs = of_leaf (one_step l k [] runs)
choice_like l k (j ∷ js) runs = of_leaf_alt (one_step l k (j ∷ js) runs)
