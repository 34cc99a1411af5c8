-- The laws of demand 3 (01, "The laws of demand 3") as the least congruence on terms: every law, at any depth, in either
-- direction, any number of times. 02, Four: parallel keeps its laws with any set, which is one throughout; but SKIP is the unit of the
-- empty set only, stated on one side: commutativity gives the other. Definitions only; that they keep the traces is in LawsHold.
-- Assumes nothing.
use Rattle.calculus.specs.Term.{Leaf, Joint, none, Std, Cmp, skip, throw, ev, seq, alt, par, hnd, blk, pair, cseq, calt, cpar, skipp, throww, yieldd}
use Rattle.calculus.specs.Records.{State, std, cmp}

-- what both sorts have. 01: "The same for compensable parts, with SKIPP and THROWW, but for ▷."
pub data Law {P : Type 0} (skip throw : P) (seq alt : P → P → P) (par : Joint → P → P → P) : P → P → Type 0 where
  seq_assoc : {p q r : P} → Law skip throw seq alt par (seq (seq p q) r) (seq p (seq q r))
  seq_unit_left : {p : P} → Law skip throw seq alt par (seq skip p) p
  seq_unit_right : {p : P} → Law skip throw seq alt par (seq p skip) p
  seq_throw : {p : P} → Law skip throw seq alt par (seq throw p) throw
  alt_comm : {p q : P} → Law skip throw seq alt par (alt p q) (alt q p)
  alt_assoc : {p q r : P} → Law skip throw seq alt par (alt (alt p q) r) (alt p (alt q r))
  alt_self : {p : P} → Law skip throw seq alt par (alt p p) p
  par_comm : {j : Joint} {p q : P} → Law skip throw seq alt par (par j p q) (par j q p)
  par_assoc : {j : Joint} {p q r : P} → Law skip throw seq alt par (par j (par j p q) r) (par j p (par j q r))
  par_unit : {p : P} → Law skip throw seq alt par (par none skip p) p
  seq_alt_left : {p q r : P} → Law skip throw seq alt par (seq (alt p q) r) (alt (seq p r) (seq q r))
  seq_alt_right : {p q r : P} → Law skip throw seq alt par (seq p (alt q r)) (alt (seq p q) (seq p r))
  par_alt_left : {j : Joint} {p q r : P} → Law skip throw seq alt par (par j (alt p q) r) (alt (par j p r) (par j q r))
  par_alt_right : {j : Joint} {p q r : P} → Law skip throw seq alt par (par j p (alt q r)) (alt (par j p q) (par j p r))

mutual
  -- P = Q by the laws, at any depth
  pub data Same : Std → Std → Type 0 where
    same : {p : Std} → Same p p
    flip : {p q : Std} → Same p q → Same q p
    then : {p q r : Std} → Same p q → Same q r → Same p r
    in_seq : {p p' q q' : Std} → Same p p' → Same q q' → Same (seq p q) (seq p' q')
    in_alt : {p p' q q' : Std} → Same p p' → Same q q' → Same (alt p q) (alt p' q')
    in_par : {j : Joint} {p p' q q' : Std} → Same p p' → Same q q' → Same (par j p q) (par j p' q')
    in_hnd : {p p' q q' : Std} → Same p p' → Same q q' → Same (hnd p q) (hnd p' q')
    in_blk : {pp qq : Cmp} → CSame pp qq → Same (blk pp) (blk qq)
    law : {p q : Std} → Law skip throw seq alt par p q → Same p q
    hnd_assoc : {p q r : Std} → Same (hnd (hnd p q) r) (hnd p (hnd q r))
    hnd_throw_right : {p : Std} → Same (hnd p throw) p
    hnd_throw_left : {p : Std} → Same (hnd throw p) p
    hnd_skip : {p : Std} → Same (hnd skip p) skip
    blk_skipp : Same (blk skipp) skip
    blk_throww : Same (blk throww) skip
    blk_yieldd : Same (blk yieldd) skip
    blk_calt : {pp qq : Cmp} → Same (blk (calt pp qq)) (alt (blk pp) (blk qq))
    blk_throws : {l : Leaf} {q : Std} → Same (blk (cseq (pair (ev l) q) throww)) (seq (ev l) q)

  pub data CSame : Cmp → Cmp → Type 0 where
    csame : {pp : Cmp} → CSame pp pp
    cflip : {pp qq : Cmp} → CSame pp qq → CSame qq pp
    cthen : {pp qq rr : Cmp} → CSame pp qq → CSame qq rr → CSame pp rr
    in_pair : {p p' q q' : Std} → Same p p' → Same q q' → CSame (pair p q) (pair p' q')
    in_cseq : {p p' q q' : Cmp} → CSame p p' → CSame q q' → CSame (cseq p q) (cseq p' q')
    in_calt : {p p' q q' : Cmp} → CSame p p' → CSame q q' → CSame (calt p q) (calt p' q')
    in_cpar : {j : Joint} {p p' q q' : Cmp} → CSame p p' → CSame q q' → CSame (cpar j p q) (cpar j p' q')
    claw : {pp qq : Cmp} → Law skipp throww cseq calt cpar pp qq → CSame pp qq

-- one flow becomes the other by exchanges from the list
pub data Redrawn : State → State → Type 0 where
  standard : {p q : Std} → Same p q → Redrawn (std p) (std q)
  compensable : {pp qq : Cmp} → CSame pp qq → Redrawn (cmp pp) (cmp qq)
