-- A record as a flow is asked for it: a cue, the event of the record, the numbers of the sets that have it, and the other event that takes
-- it, in one number. Which other event that is, if any, depends on the names that are lent. All is found once for each record of a call, so
-- that the functions on a state look at the cue alone, and `cued` is the one legend that they know.
-- A reader need not believe this file: a flow drawn by the `cued` legend and searched by cues is searched as the flow drawn by the legend
-- that is meant, by the records themselves (CuedFlows). Definitions only. Assumes nothing.
use Rattle.std.specs.Prelude.{ℕ, zero, suc, ◌+◌, ◌*◌, ◌/◌, ◌%◌, ◌^◌, Bool, false, ◌||◌, cond, List, map, ◌≡◌, T, eqb, leb}
use Rattle.std.proofs.Common.{sym, subst, arith}
use Rattle.std.proofs.Math.Dec.{eqb_refl}
use Rattle.calculus.specs.Term.{Leaf, Joint, done, withdrawn, failed}
use Rattle.calculus.specs.Records.{Record, event, close}
use Rattle.calculus.proofs.Members.{or_in_right}
use Rattle.flow.specs.declared.Operator.{Operator}
use Rattle.flow.specs.declared.Operator.TheVariants.{Sequence, Choice, Parallel}
use Rattle.flow.specs.Kinds.{most_sets, set_of}
use Rattle.flow.specs.Legends.{Legend}
use Rattle.flow.specs.Records.{done_number, withdrawn_number, failed_number, most_events}

-- an event, the mask of its sets, and the other event that takes it: itself, where there is none
abbrev pub cue : ℕ → ℕ → ℕ → ℕ
cue a mask other = 4294967296 * other + 65536 * mask + a

-- the sets below n that f holds of, set k as bit k
unfoldable pub mask_of : (ℕ → Bool) → ℕ → ℕ
mask_of f zero = 0
mask_of f (suc n) = mask_of f n + cond (f n) (2 ^ n) 0

-- whether a leaf of event e takes the record of cue x
unfoldable pub takes_cue : ℕ → ℕ → Bool
takes_cue x e = eqb (x % 65536) e || eqb (x / 4294967296) e

-- whether set k has its event
unfoldable pub joint_cue : ℕ → ℕ → Bool
joint_cue k x = eqb (x / 2 ^ (16 + k) % 2) 1

-- the leaf of an event; the cue that it names has it as the other one
pub own_cue : (e : ℕ) → T (takes_cue (4294967296 * e) e)
unfolding takes_cue
own_cue e = or_in_right (eqb (4294967296 * e % 65536) e) (eqb (4294967296 * e / 4294967296) e) (subst (λ (z : ℕ). T (eqb z e)) (sym quotient) (eqb_refl e))
  where
    quotient : 4294967296 * e / 4294967296 ≡ e
    quotient = omega arith

abbrev pub cued_leaf : ℕ → Leaf
cued_leaf e = record { names = 4294967296 * e; takes = λ x. takes_cue x e; own = own_cue e }

abbrev pub cued : Legend
cued = record { leaves = cued_leaf; sets = joint_cue }

-- whether the event of cue x is joint in the set that number k names
abbrev pub joint_at : ℕ → ℕ → Bool
joint_at x k = set_of joint_cue k x

-- or of two parts that an operator joins
abbrev pub joint_by : ℕ → Operator → Bool
joint_by x Sequence = false
joint_by x Choice = false
joint_by x (Parallel k) = joint_at x k

-- a closing, which no leaf takes, beside a number that is no event's: so the closings' cues are above those of all events
abbrev pub closing_cue : ℕ → ℕ
closing_cue r = cue r 0 65535

abbrev pub done_cue : ℕ
done_cue = closing_cue done_number

abbrev pub withdrawn_cue : ℕ
withdrawn_cue = closing_cue withdrawn_number

abbrev pub failed_cue : ℕ
failed_cue = closing_cue failed_number

-- the cue of a record, where `other` gives the other event that takes an event, and `mask` the sets that have it
unfoldable pub cue_of : (ℕ → ℕ) → (ℕ → ℕ) → ℕ → ℕ
cue_of mask other r = cond (leb r most_events) (cue r (mask r) (other r)) (closing_cue r)

-- where no names are lent: no other
abbrev pub itself : ℕ → ℕ
itself r = r

-- the mask of an event, by the sets that have it
abbrev pub masked : (ℕ → Joint) → ℕ → ℕ
masked sets r = mask_of (λ k. sets k r) most_sets

-- the record of a cue, whose event is the cue itself
unfoldable pub cue_record : ℕ → Record
cue_record x =
    cond (eqb x done_cue) (close done)
    (cond (eqb x withdrawn_cue) (close withdrawn)
    (cond (eqb x failed_cue) (close failed) (event x)))

abbrev pub cue_records : List ℕ → List Record
cue_records xs = map cue_record xs
