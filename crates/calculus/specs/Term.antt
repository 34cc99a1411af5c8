-- Flows as terms: standard and compensable parts (the table of kinds in 01, with the parallel of 02, Four), the form ⟨QQ, R⟩ that
-- 002 adds for states, and the three closings with their join. Definitions only. Assumes nothing.
use Rattle.std.specs.Prelude.{ℕ, Bool, true, false, T, eqb}
use Rattle.std.proofs.Math.Dec.{eqb_refl}

-- ✓, ? and !
pub data Closing : Type 0 where
  done withdrawn failed : Closing

-- Table 1 of 002; 01: "! if either is !, else ? if either is ?, else ✓"
abbrev pub join : Closing → Closing → Closing
join done v = v
join withdrawn done = withdrawn
join withdrawn withdrawn = withdrawn
join withdrawn failed = failed
join failed v = failed

-- the same closing
abbrev pub eqc : Closing → Closing → Bool
eqc done v = elim v [ done ↦ true | withdrawn ↦ false | failed ↦ false ]
eqc withdrawn v = elim v [ done ↦ false | withdrawn ↦ true | failed ↦ false ]
eqc failed v = elim v [ done ↦ false | withdrawn ↦ false | failed ↦ true ]

-- An event leaf: the event that it names, and the events of records that it takes, its own among them.
-- Which those are is settled where a leaf is made, and nowhere else.
pub record Leaf : Type 0 where
  pub names : ℕ
  pub takes : ℕ → Bool
  pub own : T (takes names)

-- 01: "A node matches a record exactly if the event numbers are equal."
abbrev pub leaf : ℕ → Leaf
leaf k = record { names = k; takes = λ a. eqb a k; own = eqb_refl k }

-- The set of joint events of two parallel sides. 02, Four: "an event in the set is one step of both sides"
abbrev pub Joint : Type 0
Joint = ℕ → Bool

-- kinds 7 and 13: nothing is joint
abbrev pub none : Joint
none a = false

mutual
  -- kinds 1 to 9, and 256 to 271: a parallel carries its set
  pub data Std : Type 0 where
    skip throw yield : Std
    ev : Leaf → Std
    seq alt hnd : Std → Std → Std
    par : Joint → Std → Std → Std
    blk : Cmp → Std

  -- kinds 10 to 13, and 512 to 527; `held qq r` is 002's ⟨QQ, R⟩, which stands in states only
  pub data Cmp : Type 0 where
    pair : Std → Std → Cmp
    cseq calt : Cmp → Cmp → Cmp
    cpar : Joint → Cmp → Cmp → Cmp
    held : Cmp → Std → Cmp

-- kinds 14 to 16. 01: "SKIPP, THROWW, YIELDD are SKIP, THROW, YIELD paired with SKIP."
abbrev pub skipp : Cmp
skipp = pair skip skip

abbrev pub throww : Cmp
throww = pair throw skip

abbrev pub yieldd : Cmp
yieldd = pair yield skip
