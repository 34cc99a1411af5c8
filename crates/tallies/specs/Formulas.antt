-- The formulas that the code of this crate computes: views, tallies, words and weights of a whole from those of its parts. What
-- they mean for terms is in Counts, and that they are right in CountsLaws. Definitions only. Assumes nothing.
--
-- A name ends in the letter of what it makes: _v a view, _t a tally, _w a word, _g a weight; one that reads something out of views or
-- of a word ends in theirs (ends_v, meet_v, both_v, by_w). It begins with the calculus's own word for the whole (skip throw yield ev seq
-- alt par hnd blk; pair cseq held calt cpar skipp throww yieldd), or with what is done to tallies or weights (none one when plus over
-- fitting partners both; after inside beside within). Of two sides p and q that end by x and y, both end by u. What is put together of
-- two sides takes first whether the record's event is joint there: then a step of the whole is one of each side.
use Rattle.std.specs.Prelude.{ℕ, ◌+◌, ◌*◌, Bool, true, false, not, ◌&&◌, ◌||◌, cond, eqb}
use Rattle.calculus.specs.Term.{Closing, done, withdrawn, failed, join}
use Rattle.calculus.specs.Successors.{eqc, closings, some_of}
use Rattle.tallies.specs.Capped.{cap}
use Rattle.tallies.specs.declared.Closing.{Closing as Ending}
use Rattle.tallies.specs.declared.Closing.TheVariants.{Done, Withdrawn, Failed}
use Rattle.tallies.specs.declared.View.{View}
use Rattle.tallies.specs.declared.Tally.{Tally}
use Rattle.tallies.specs.declared.Word.{Word}
use Rattle.tallies.specs.declared.Weight.{Weight}

-- Closings --------------------------------------------------------------------------------------------------------------

-- the calculus's closing for one of the code's, and the code's for one of the calculus's
abbrev pub closing : Ending → Closing
closing Done = done
closing Withdrawn = withdrawn
closing Failed = failed

abbrev pub rank : Closing → Ending
rank done = Done
rank withdrawn = Withdrawn
rank failed = Failed

-- Views -----------------------------------------------------------------------------------------------------------------

abbrev pub viewed : ℕ → Bool → Bool → Bool → View
viewed n d w f = record { moves = n; done = d; withdraws = w; fails = f }

abbrev pub skip_v : View
skip_v = viewed 0 true false false

abbrev pub throw_v : View
throw_v = viewed 0 false false true

abbrev pub yield_v : View
yield_v = viewed 0 true true false

-- an event leaf, by whether it takes the record
abbrev pub ev_v : Bool → View
ev_v b = viewed (cond b 1 0) false false false

abbrev pub alt_v : View → View → View
alt_v p q = viewed (cap (p.moves + q.moves)) (p.done || q.done) (p.withdraws || q.withdraws) (p.fails || q.fails)

unfoldable pub seq_v : View → View → View
seq_v p q = cond p.done (viewed (cap (p.moves + q.moves)) q.done (p.withdraws || q.withdraws) (p.fails || q.fails)) p

unfoldable pub hnd_v : View → View → View
hnd_v p q = cond p.fails (viewed (cap (p.moves + q.moves)) (p.done || q.done) (p.withdraws || q.withdraws) q.fails) p

abbrev pub ends_v : View → Closing → Bool
ends_v v done = v.done
ends_v v withdrawn = v.withdraws
ends_v v failed = v.fails

-- p can end by x and q by y, and both end by u then
unfoldable pub meet_v : View → View → Closing → Closing → Closing → Bool
meet_v p q u x y = eqc u (join x y) && (ends_v p x && ends_v q y)

-- two sides can end by u together
unfoldable pub both_v : View → View → Closing → Bool
both_v p q u = some_of (λ x. some_of (meet_v p q u x) closings) closings

-- how many steps two sides have that have m and n
unfoldable pub sides : Bool → ℕ → ℕ → ℕ
sides b m n = cond b (cap (m * n)) (cap (m + n))

unfoldable pub par_v : Bool → View → View → View
par_v b p q = viewed (sides b p.moves q.moves) (both_v p q done) (both_v p q withdrawn) (both_v p q failed)

-- Tallies ---------------------------------------------------------------------------------------------------------------

abbrev pub tallied : ℕ → ℕ → ℕ → Bool → Bool → Tally
tallied n a s w f = record { many = n; able = a; moves = s; withdraws = w; fails = f }

abbrev pub nonzero : ℕ → Bool
nonzero n = not (eqb n 0)

abbrev pub none_t : Tally
none_t = tallied 0 0 0 false false

abbrev pub one_t : View → Tally
one_t v = tallied 1 (cond v.done 1 0) v.moves v.withdraws v.fails

abbrev pub when_t : Bool → Tally → Tally
when_t b t = cond b t none_t

-- of two lists, one after the other
unfoldable pub plus_t : Tally → Tally → Tally
plus_t x y = cond (eqb x.many 0) y (cond (eqb y.many 0) x (tallied
    (cap (x.many + y.many))
    (cap (x.able + y.able))
    (cap (x.moves + y.moves))
    (x.withdraws || y.withdraws)
    (x.fails || y.fails)))

-- of all l;k, l of x and k of y
unfoldable pub seq_t : Tally → Tally → Tally
seq_t x y = cond (eqb x.many 0) none_t (cond (eqb y.many 0) none_t (tallied
    (cap (x.many * y.many))
    (cap (x.able * y.able))
    (cap (cap (x.moves * y.many) + cap (x.able * y.moves)))
    (x.withdraws || (nonzero x.able && y.withdraws))
    (x.fails || (nonzero x.able && y.fails))))

-- one term that can end as some of a tally can
abbrev pub any_v : Tally → View
any_v t = viewed 0 (nonzero t.able) t.withdraws t.fails

-- how many steps all k beside l have, k of x and l of y
unfoldable pub sides_t : Bool → Tally → Tally → ℕ
sides_t b x y = cond b (cap (x.moves * y.moves)) (cap (cap (x.moves * y.many) + cap (x.many * y.moves)))

-- of all k beside l, k of x and l of y; those that can end done multiply, since only done and done join to done
unfoldable pub par_t : Bool → Tally → Tally → Tally
par_t b x y = cond (eqb x.many 0) none_t (cond (eqb y.many 0) none_t (tallied
    (cap (x.many * y.many))
    (cap (x.able * y.able))
    (sides_t b x y)
    (both_v (any_v x) (any_v y) withdrawn)
    (both_v (any_v x) (any_v y) failed)))

-- of three lists, one for each closing, one after the other
abbrev pub over_t : (Closing → Tally) → Tally
over_t f = plus_t (plus_t (f done) (f withdrawn)) (f failed)

-- Words -----------------------------------------------------------------------------------------------------------------

abbrev pub worded : ℕ → Tally → Tally → Tally → Word
worded n d w f = record { moves = n; done = d; withdrawn = w; failed = f }

abbrev pub by_w : Word → Closing → Tally
by_w x done = x.done
by_w x withdrawn = x.withdrawn
by_w x failed = x.failed

unfoldable pub blk_v : Word → View
blk_v x = viewed
    (cap (x.moves + x.failed.moves))
    (nonzero x.done.many || nonzero x.failed.able)
    x.failed.withdraws
    x.failed.fails

-- P÷Q
unfoldable pub pair_w : View → View → Word
pair_w p q = worded p.moves (when_t p.done (one_t q)) (when_t p.withdraws (one_t skip_v)) (when_t p.fails (one_t skip_v))

-- PP;QQ before its first part has ended, and after it has become what is viewed as r
unfoldable pub cseq_w : Word → Word → Word
cseq_w x y = worded
    (cap (x.moves + cap (x.done.many * y.moves)))
    (seq_t y.done x.done)
    (plus_t x.withdrawn (seq_t y.withdrawn x.done))
    (plus_t x.failed (seq_t y.failed x.done))

unfoldable pub held_w : Word → View → Word
held_w y r = worded y.moves (seq_t y.done (one_t r)) (seq_t y.withdrawn (one_t r)) (seq_t y.failed (one_t r))

unfoldable pub calt_w : Word → Word → Word
calt_w x y = worded
    (cap (x.moves + y.moves))
    (plus_t x.done y.done)
    (plus_t x.withdrawn y.withdrawn)
    (plus_t x.failed y.failed)

-- compensations of the second side by y, where the first ends by x and both by u
unfoldable pub fitting_t : Word → Closing → Closing → Closing → Tally
fitting_t q u x y = when_t (eqc u (join x y)) (by_w q y)

-- all that go with an ending x of the first side
unfoldable pub partners_t : Word → Closing → Closing → Tally
partners_t q u x = over_t (fitting_t q u x)

-- of both sides
unfoldable pub both_t : Bool → Word → Word → Closing → Tally
both_t b p q u = over_t (λ x. par_t b (by_w p x) (partners_t q u x))

unfoldable pub cpar_w : Bool → Word → Word → Word
cpar_w b x y = worded (sides b x.moves y.moves) (both_t b x y done) (both_t b x y withdrawn) (both_t b x y failed)

abbrev pub skipp_w : Word
skipp_w = worded 0 (one_t skip_v) none_t none_t

abbrev pub throww_w : Word
throww_w = worded 0 none_t none_t (one_t skip_v)

abbrev pub yieldd_w : Word
yieldd_w = worded 0 (one_t skip_v) (one_t skip_v) none_t

-- Weights ---------------------------------------------------------------------------------------------------------------

abbrev pub weighs : ℕ → ℕ → ℕ → Weight
weighs n b c = record { own = n; moves = b; able = c }

-- the weight of all of a tally
unfoldable pub total : Tally → Weight → ℕ
total t g = cap (cap (cap (g.own * t.many) + cap (g.moves * t.moves)) + cap (g.able * t.able))

-- each compensation is one
abbrev pub one_g : Weight
one_g = weighs 1 0 0

-- each of its steps is one
abbrev pub moves_g : Weight
moves_g = weighs 0 1 0

-- each is n, the steps of a part that goes on
abbrev pub hold_g : ℕ → Weight
hold_g n = weighs n 0 0

-- a compensation weighs by itself alone
abbrev pub is_own : Weight → Bool
is_own g = eqb g.moves 0 && eqb g.able 0

-- what k weighs with all l;k, l of t
unfoldable pub after_g : Tally → Weight → Weight
after_g t g = weighs (cap (cap (g.own * t.many) + cap (g.moves * t.moves))) (cap (g.moves * t.able)) (cap (g.able * t.able))

-- what l weighs in l;k, where k has so many steps and can end done or not
unfoldable pub inside_g : Weight → ℕ → Bool → Weight
inside_g g n b = weighs g.own g.moves (cap (cap (g.moves * n) + cond b g.able 0))

-- what p weighs with all q beside it, q of t
unfoldable pub beside_g : Bool → Tally → Weight → Weight
beside_g b t g = cond b
    (weighs (cap (g.own * t.many)) (cap (g.moves * t.moves)) (cap (g.able * t.able)))
    (weighs (cap (cap (g.own * t.many) + cap (g.moves * t.moves))) (cap (g.moves * t.many)) (cap (g.able * t.able)))

-- what q weighs beside p, where p has so many steps and can end done or not
unfoldable pub within_g : Bool → Weight → ℕ → Bool → Weight
within_g b g n c = cond b
    (weighs g.own (cap (g.moves * n)) (cond c g.able 0))
    (weighs (cap (g.own + cap (g.moves * n))) g.moves (cond c g.able 0))
