-- What remaking the leaves and the sets of a flow keeps: what holds of each leaf and of each set that is put in (`each_remade`), and the laws,
-- if the empty set stays empty (`redrawn_remade`). A loose flow follows the records as the flow does (`loose_passes`), and redrawing it is
-- redrawing the flow (`redrawn_loose`); but it does not get stuck, since each of its leaves can be passed over (`loose_passable`,
-- `passed_over`). Assumes nothing.
use Rattle.std.specs.Prelude.{ℕ, zero, suc, ◌≡◌, refl, false, List, [], ◌∷◌, map, T, eqb}
use Rattle.std.proofs.Common.{sym, subst, arith, eqb→eq}
use Rattle.std.proofs.Math.Path.{fun_ext}
use Rattle.calculus.specs.Term.{Leaf, leaf, Joint, none, Std, Cmp, skip, throw, yield, ev, seq, alt, par, hnd, blk, pair, cseq, calt, cpar, held, skipp, throww}
use Rattle.calculus.specs.Records.{Record, event, close, State, over, std, cmp, Complete}
use Rattle.calculus.specs.Ahead.{passes}
use Rattle.calculus.specs.Laws.{Law, Same, CSame, Redrawn, seq_assoc, seq_unit_left, seq_unit_right, seq_throw, alt_comm, alt_assoc, alt_self, par_comm, par_assoc, par_unit, seq_alt_left, seq_alt_right, par_alt_left, par_alt_right, same, flip, then, in_seq, in_alt, in_par, in_hnd, in_blk, law, hnd_assoc, hnd_throw_right, hnd_throw_left, hnd_skip, blk_skipp, blk_throww, blk_yieldd, blk_calt, blk_throws, csame, cflip, cthen, in_pair, in_cseq, in_calt, in_cpar, claw, standard, compensable}
use Rattle.calculus.specs.Renames.{renamed, HeardIn, and_event, and_close, Renames, CRenames, RenamesState, of_skip, of_throw, of_yield, of_leaf, of_seq, of_alt, of_par, of_hnd, of_blk, of_pair, of_cseq, of_calt, of_cpar, of_held, of_over, of_std, of_cmp}
use Rattle.calculus.specs.Leaves.{Each, CEach, EachState, AnyLeaf, AnySet, Empty}
use Rattle.calculus.specs.Deaf.{DeafLeaf, Deaf}
use Rattle.calculus.proofs.Members.{is_true, is_false}
use Rattle.calculus.proofs.Completes.{closes_somehow}
use Rattle.calculus.proofs.Found.{Ends, at_end, complete_ends, found_complete}
use Rattle.calculus.proofs.Renamed.{visit_renamed, passes_renamed}
use Rattle.calculus.proofs.DeafLaws.{deaf_moves, deaf_still}
use Rattle.calculus.specs.Remade.{remade, cremade, remade_state, above, loose_leaf, loose_set, loose, idle, Passable, Apart}

-- A map that goes through the operations of a sort carries its laws ------------------------------------------------------------------

record Carries {P : Type 0} (skip throw : P) (seq alt : P → P → P) (par : Joint → P → P → P) (m : P → P) (g : Joint → Joint) : Type 0 where
  skip_is : m skip ≡ skip
  throw_is : m throw ≡ throw
  seq_is : (p q : P) → m (seq p q) ≡ seq (m p) (m q)
  alt_is : (p q : P) → m (alt p q) ≡ alt (m p) (m q)
  par_is : (j : Joint) (p q : P) → m (par j p q) ≡ par (g j) (m p) (m q)
  none_is : g none ≡ none

module _ {P : Type 0} {skip throw : P} {seq alt : P → P → P} {par : Joint → P → P → P} {m : P → P} {g : Joint → Joint} (c : Carries skip throw seq alt par m g) where
  carried : {p q : P} → Law skip throw seq alt par p q → Law skip throw seq alt par (m p) (m q)
  carried (seq_assoc {p} {q} {r}) = rw (c.seq_is (seq p q) r, c.seq_is p q, c.seq_is p (seq q r), c.seq_is q r) seq_assoc
  carried (seq_unit_left {p}) = rw (c.seq_is skip p, c.skip_is) seq_unit_left
  carried (seq_unit_right {p}) = rw (c.seq_is p skip, c.skip_is) seq_unit_right
  carried (seq_throw {p}) = rw (c.seq_is throw p, c.throw_is) seq_throw
  carried (alt_comm {p} {q}) = rw (c.alt_is p q, c.alt_is q p) alt_comm
  carried (alt_assoc {p} {q} {r}) = rw (c.alt_is (alt p q) r, c.alt_is p q, c.alt_is p (alt q r), c.alt_is q r) alt_assoc
  carried (alt_self {p}) = rw (c.alt_is p p) alt_self
  carried (par_comm {j} {p} {q}) = rw (c.par_is j p q, c.par_is j q p) par_comm
  carried (par_assoc {j} {p} {q} {r}) = rw (c.par_is j (par j p q) r, c.par_is j p q, c.par_is j p (par j q r), c.par_is j q r) par_assoc
  carried (par_unit {p}) = rw (c.par_is none skip p, c.skip_is, c.none_is) par_unit
  carried (seq_alt_left {p} {q} {r}) = rw (c.seq_is (alt p q) r, c.alt_is p q, c.alt_is (seq p r) (seq q r), c.seq_is p r, c.seq_is q r) seq_alt_left
  carried (seq_alt_right {p} {q} {r}) = rw (c.seq_is p (alt q r), c.alt_is q r, c.alt_is (seq p q) (seq p r), c.seq_is p q, c.seq_is p r) seq_alt_right
  carried (par_alt_left {j} {p} {q} {r}) = rw (c.par_is j (alt p q) r, c.alt_is p q, c.alt_is (par j p r) (par j q r), c.par_is j p r, c.par_is j q r) par_alt_left
  carried (par_alt_right {j} {p} {q} {r}) = rw (c.par_is j p (alt q r), c.alt_is q r, c.alt_is (par j p q) (par j p r), c.par_is j p q, c.par_is j p r) par_alt_right

module _ (f : Leaf → Leaf) (g : Joint → Joint) where
  -- What is put in ------------------------------------------------------------------------------------------------------------------

  module _ (Q : Leaf → Type 0) (J : Joint → Type 0) (h : (l : Leaf) → Q (f l)) (k : (j : Joint) → J (g j)) where
    mutual
      each_std : (p : Std) → Each Q J (remade f g p)
      each_std skip = tt
      each_std throw = tt
      each_std yield = tt
      each_std (ev l) = h l
      each_std (seq p q) = (each_std p, each_std q)
      each_std (alt p q) = (each_std p, each_std q)
      each_std (par j p q) = (k j, each_std p, each_std q)
      each_std (hnd p q) = (each_std p, each_std q)
      each_std (blk pp) = each_cmp pp

      each_cmp : (pp : Cmp) → CEach Q J (cremade f g pp)
      each_cmp (pair p q) = (each_std p, each_std q)
      each_cmp (cseq pp qq) = (each_cmp pp, each_cmp qq)
      each_cmp (calt pp qq) = (each_cmp pp, each_cmp qq)
      each_cmp (cpar j pp qq) = (k j, each_cmp pp, each_cmp qq)
      each_cmp (held qq r) = (each_cmp qq, each_std r)

    pub each_remade : (s : State) → EachState Q J (remade_state f g s)
    each_remade over = tt
    each_remade (std p) = each_std p
    each_remade (cmp pp) = each_cmp pp

  -- The laws --------------------------------------------------------------------------------------------------------------------------

  module _ (e : g none ≡ none) where
    std_carries : Carries skip throw seq alt par (remade f g) g
    std_carries = record { skip_is = refl; throw_is = refl; seq_is = λ p q. refl; alt_is = λ p q. refl; par_is = λ j p q. refl; none_is = e }

    cmp_carries : Carries skipp throww cseq calt cpar (cremade f g) g
    cmp_carries = record { skip_is = refl; throw_is = refl; seq_is = λ p q. refl; alt_is = λ p q. refl; par_is = λ j p q. refl; none_is = e }

    mutual
      std_same : {p q : Std} → Same p q → Same (remade f g p) (remade f g q)
      std_same same = same
      std_same (flip h) = flip (std_same h)
      std_same (then h k) = then (std_same h) (std_same k)
      std_same (in_seq h k) = in_seq (std_same h) (std_same k)
      std_same (in_alt h k) = in_alt (std_same h) (std_same k)
      std_same (in_par h k) = in_par (std_same h) (std_same k)
      std_same (in_hnd h k) = in_hnd (std_same h) (std_same k)
      std_same (in_blk h) = in_blk (cmp_same h)
      std_same (law h) = law (carried std_carries h)
      std_same hnd_assoc = hnd_assoc
      std_same hnd_throw_right = hnd_throw_right
      std_same hnd_throw_left = hnd_throw_left
      std_same hnd_skip = hnd_skip
      std_same blk_skipp = blk_skipp
      std_same blk_throww = blk_throww
      std_same blk_yieldd = blk_yieldd
      std_same blk_calt = blk_calt
      std_same blk_throws = blk_throws

      cmp_same : {pp qq : Cmp} → CSame pp qq → CSame (cremade f g pp) (cremade f g qq)
      cmp_same csame = csame
      cmp_same (cflip h) = cflip (cmp_same h)
      cmp_same (cthen h k) = cthen (cmp_same h) (cmp_same k)
      cmp_same (in_pair h k) = in_pair (std_same h) (std_same k)
      cmp_same (in_cseq h k) = in_cseq (cmp_same h) (cmp_same k)
      cmp_same (in_calt h k) = in_calt (cmp_same h) (cmp_same k)
      cmp_same (in_cpar h k) = in_cpar (cmp_same h) (cmp_same k)
      cmp_same (claw h) = claw (carried cmp_carries h)

    pub redrawn_remade : {s t : State} → Redrawn s t → Redrawn (remade_state f g s) (remade_state f g t)
    redrawn_remade (standard h) = standard (std_same h)
    redrawn_remade (compensable h) = compensable (cmp_same h)

-- Searched alike ----------------------------------------------------------------------------------------------------------------------

abbrev AnyEvent : ℕ → Type 0
AnyEvent a = Unit {0}

abbrev Zero : ℕ → Type 0
Zero a = a ≡ 0

mutual
  loose_std : (p : Std) → Renames suc AnyEvent (remade loose_leaf loose_set p) p
  loose_std skip = of_skip
  loose_std throw = of_throw
  loose_std yield = of_yield
  loose_std (ev l) = of_leaf (λ a h. refl)
  loose_std (seq p q) = of_seq (loose_std p) (loose_std q)
  loose_std (alt p q) = of_alt (loose_std p) (loose_std q)
  loose_std (par j p q) = of_par (λ a h. refl) (loose_std p) (loose_std q)
  loose_std (hnd p q) = of_hnd (loose_std p) (loose_std q)
  loose_std (blk pp) = of_blk (loose_cmp pp)

  loose_cmp : (pp : Cmp) → CRenames suc AnyEvent (cremade loose_leaf loose_set pp) pp
  loose_cmp (pair p q) = of_pair (loose_std p) (loose_std q)
  loose_cmp (cseq pp qq) = of_cseq (loose_cmp pp) (loose_cmp qq)
  loose_cmp (calt pp qq) = of_calt (loose_cmp pp) (loose_cmp qq)
  loose_cmp (cpar j pp qq) = of_cpar (λ a h. refl) (loose_cmp pp) (loose_cmp qq)
  loose_cmp (held qq r) = of_held (loose_cmp qq) (loose_std r)

loose_renames : (s : State) → RenamesState suc AnyEvent (loose s) s
loose_renames over = of_over
loose_renames (std p) = of_std (loose_std p)
loose_renames (cmp pp) = of_cmp (loose_cmp pp)

any_heard : (rs : List Record) → HeardIn AnyEvent rs
any_heard [] = HeardIn.none
any_heard (event a ∷ rs) = and_event tt (any_heard rs)
any_heard (close w ∷ rs) = and_close (any_heard rs)

-- the records of the loose flow
abbrev pub loosely : List Record → List Record
loosely rs = map (renamed suc) rs

pub loose_passes : (rs : List Record) (s : State) → passes rs s ≡ passes (loosely rs) (loose s)
loose_passes rs s = passes_renamed suc AnyEvent (loose_renames s) (any_heard rs)

-- Passed over -------------------------------------------------------------------------------------------------------------------------

pub loose_passable : (s : State) → EachState Passable Apart (loose s)
loose_passable s = each_remade loose_leaf loose_set Passable Apart (λ l. tt) (λ j. refl) s

pub redrawn_loose : {s t : State} → Redrawn s t → Redrawn (loose s) (loose t)
redrawn_loose h = redrawn_remade loose_leaf loose_set (fun_ext above_none) h
  where
    above_none : (a : ℕ) → above false none a ≡ none a
    above_none zero = refl
    above_none (suc a) = refl

idle_leaf : (l : Leaf) → Passable l → (a : ℕ) → Zero a → eqb a 0 ≡ l.takes a
idle_leaf l h a e = subst (λ x. eqb x 0 ≡ l.takes x) (sym e) (sym (is_true (l.takes 0) h))

idle_set : (j : Joint) → Apart j → (a : ℕ) → Zero a → false ≡ j a
idle_set j h a e = subst (λ x. false ≡ j x) (sym e) (sym h)

mutual
  idle_std : (p : Std) → Each Passable Apart p → Renames (λ a. a) Zero p (remade (λ l. leaf 0) (λ j. none) p)
  idle_std skip o = of_skip
  idle_std throw o = of_throw
  idle_std yield o = of_yield
  idle_std (ev l) o = of_leaf (idle_leaf l o)
  idle_std (seq p q) o = of_seq (idle_std p o.0) (idle_std q o.1)
  idle_std (alt p q) o = of_alt (idle_std p o.0) (idle_std q o.1)
  idle_std (par j p q) o = of_par (idle_set j o.0) (idle_std p o.1) (idle_std q o.2)
  idle_std (hnd p q) o = of_hnd (idle_std p o.0) (idle_std q o.1)
  idle_std (blk pp) o = of_blk (idle_cmp pp o)

  idle_cmp : (pp : Cmp) → CEach Passable Apart pp → CRenames (λ a. a) Zero pp (cremade (λ l. leaf 0) (λ j. none) pp)
  idle_cmp (pair p q) o = of_pair (idle_std p o.0) (idle_std q o.1)
  idle_cmp (cseq pp qq) o = of_cseq (idle_cmp pp o.0) (idle_cmp qq o.1)
  idle_cmp (calt pp qq) o = of_calt (idle_cmp pp o.0) (idle_cmp qq o.1)
  idle_cmp (cpar j pp qq) o = of_cpar (idle_set j o.0) (idle_cmp pp o.1) (idle_cmp qq o.2)
  idle_cmp (held qq r) o = of_held (idle_cmp qq o.0) (idle_std r o.1)

idle_renames : (s : State) → EachState Passable Apart s → RenamesState (λ a. a) Zero s (idle s)
idle_renames over o = of_over
idle_renames (std p) o = of_std (idle_std p o)
idle_renames (cmp pp) o = of_cmp (idle_cmp pp o)

-- an idle flow hears nothing but the event 0
idle_deaf : (s : State) (a : ℕ) → Deaf (suc a) (idle s)
idle_deaf s a = each_remade (λ l. leaf 0) (λ j. none) (DeafLeaf (suc a)) AnySet (λ l. is_false (eqb (suc a) 0) (λ h. not_zero (eqb→eq (suc a) 0 h))) (λ j. tt) s
  where
    not_zero : suc a ≡ 0 → ⊥
    not_zero e = omega arith

zeros : {s : State} {rs : List Record} → Ends s rs → ((a : ℕ) → Deaf (suc a) s) → HeardIn Zero rs
zeros at_end d = HeardIn.none
zeros (Ends.moves {r = event zero} m e) d = and_event refl (zeros e (λ a. deaf_moves (suc a) (d a) m))
zeros (Ends.moves {r = event (suc a)} m e) d = absurd (deaf_still (suc a) (d a) m)
zeros (Ends.moves {r = close w} m e) d = and_close (zeros e (λ a. deaf_moves (suc a) (d a) m))

-- each leaf is passed over in its turn
pub passed_over : (s : State) → EachState Passable Apart s → (rest : List Record) × Complete s rest
passed_over s o =
    let c = closes_somehow (idle s) (each_remade (λ l. leaf 0) (λ j. none) AnyLeaf Empty (λ l. tt) (λ j a. refl) s) in
    let heard = zeros (complete_ends (idle s) c.0 c.1) (idle_deaf s) in
    let rest = map (renamed (λ a. a)) c.0 in
    (rest, (found_complete s rest).0 (subst (λ x. T x.found) (visit_renamed (λ a. a) Zero (idle_renames s o) heard) ((found_complete (idle s) c.0).1 c.1)))
