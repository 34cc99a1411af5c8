-- Wrong counts that the formulas rule out, each by the smallest parts on which it shows; that the formulas are right for all parts is
-- in CountsLaws. All lines follow by computation. Theorems only; no proof of code needs them. Assumes nothing.
use Rattle.std.specs.Prelude.{◌+◌, ◌*◌, ◌≡◌, refl, true, false}
use Rattle.calculus.specs.Successors.{some_of}
use Rattle.tallies.specs.Capped.{cap}
use Rattle.tallies.specs.Formulas.{viewed, skip_v, throw_v, yield_v, ev_v, meet_v, both_v, sides, par_v, one_t, plus_t, seq_t, blk_v, pair_w, cseq_w, throww_w}

-- Counts stop at 4294967295, neither earlier nor by turning to 0 -----------------------------------------------------------

pub not_capped_early : cap (4294967293 + 1) ≡ 4294967294
not_capped_early = refl

pub sum_capped : cap (4294967295 + 1) ≡ 4294967295
sum_capped = refl

pub product_capped : cap (65536 * 65536) ≡ 4294967295
product_capped = refl

-- Two sides ----------------------------------------------------------------------------------------------------------------

-- one side done is not both done, and failed beside whatever ends is failed
pub one_side_done : par_v false skip_v throw_v ≡ throw_v
unfolding sides par_v both_v meet_v some_of
one_side_done = refl

pub failed_beside_withdrawn : par_v false throw_v yield_v ≡ throw_v
unfolding sides par_v both_v meet_v some_of
failed_beside_withdrawn = refl

pub withdrawn_beside_done : par_v false yield_v skip_v ≡ yield_v
unfolding sides par_v both_v meet_v some_of
withdrawn_beside_done = refl

-- failed beside what cannot end yet does not end
pub failed_beside_open : par_v false throw_v (ev_v true) ≡ ev_v true
unfolding sides par_v both_v meet_v some_of
failed_beside_open = refl

-- a joint event is one step of both sides, and none where one of them does not take it; any other is a step of each
pub joint_event_once : par_v true (ev_v true) (ev_v true) ≡ ev_v true
unfolding sides par_v both_v meet_v some_of
joint_event_once = refl

pub joint_event_awaited : par_v true (ev_v true) (ev_v false) ≡ ev_v false
unfolding sides par_v both_v meet_v some_of
joint_event_awaited = refl

pub other_event_twice : par_v false (ev_v true) (ev_v true) ≡ viewed 2 false false false
unfolding sides par_v both_v meet_v some_of
other_event_twice = refl

-- Sequences ----------------------------------------------------------------------------------------------------------------

-- k has steps in l;k where l can end done, and only there
pub able_goes_on : seq_t (one_t skip_v) (one_t (ev_v true)) ≡ one_t (ev_v true)
unfolding seq_t
able_goes_on = refl

pub unable_stays : seq_t (one_t throw_v) (one_t (ev_v true)) ≡ one_t throw_v
unfolding seq_t
unable_stays = refl

-- Blocks -------------------------------------------------------------------------------------------------------------------

-- [a÷b] after a is done: b is dropped, and is no step of the block
pub done_drops_compensation : blk_v (pair_w skip_v (ev_v true)) ≡ skip_v
unfolding blk_v pair_w
done_drops_compensation = refl

-- [a÷b;THROWW] after a fails: b is its step
pub failed_compensates : blk_v (cseq_w (pair_w skip_v (ev_v true)) throww_w) ≡ ev_v true
unfolding blk_v pair_w cseq_w plus_t seq_t
failed_compensates = refl
