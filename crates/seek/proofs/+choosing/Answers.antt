-- `seek::choose` and the functions that it calls by the course of a node, which call it again for the children, meet their contracts.
-- Each call and each return is answered by its lemma in Branches and Undoing, from what the code has learnt on its way there. The measure is
-- the node's number, and below it the order in which functions call each other at one node. Assumes nothing.
use Rattle.seek.specs.Branches.{wanted, wanted_both, basic_chosen, below_spot, below_room, below_weighed, below_chosen, pair_chosen, pair_undone, as_lower, as_room, as_chosen, first_lower, second_lower, first_spot, second_spot, first_known, second_known, first_row, second_row, second_still, choice_weight, choice_first_below, choice_first, choice_first_undone, choice_second_below, choice_second, choice_second_undone, second_below, second_chosen, held_room, held_wanted, held_chosen, own_weight, weight_before, own_below, own_chosen, own_undone, both_room, both_wanted, both_chosen, both_undone, par_first_room, par_second_room, par_chosen}
use Rattle.seek.specs.Undoing.{undone_by, basic_undone, as_undone, second_undone, par_undone}
use Rattle.seek.specs.WeighedLaws.{row_room, as_weighed, held_undone, held_weighed}
use Rattle.states.specs.ChildLaws.{lower_spot, same_room, kid_lower}
use Rattle.states.specs.StageLaws.{still_lent}
use mathlib.Core.Path.{refl, sym, ◌∙◌}
use native.Mathlib.Omega.{arith}
use Rattle.seek.proofs.+choosing.Goals as goal

pub choose-choose_by-p-requires : goal.choose-choose_by-p-requires
choose-choose_by-p-requires t c = (omega (arith, c.decreases), (c.requires.spot, (c.requires.weighed, c.requires.j_bound)))

pub choose-put_count-requires : goal.choose-put_count-requires
choose-put_count-requires t c = let spot = c.requires.spot in omega (arith, spot.node.inside, spot.node.sound.few)

pub choose-returns : goal.choose-returns
choose-returns t c =
    record {
      chosen = c.choose_by-p.ensures.chosen;
      counted = undone_by c.requires.spot c.choose_by-p.ensures.chosen c.choose_by-p.ensures.counted c.put_count.ensures;
      lent = record { name = c.choose_by-p.ensures.lent.name; long = c.choose_by-p.ensures.lent.long };
    }

pub choose_both-seek_running-requires : goal.choose_both-seek_running-requires
choose_both-seek_running-requires t c = (omega (arith, c.decreases), (wanted_both c.requires.wanted c.in-Sequence.is, c.requires.weighed))

pub choose_both-seek_choice-requires : goal.choose_both-seek_choice-requires
choose_both-seek_choice-requires t c = (omega (arith, c.decreases), (wanted_both c.requires.wanted c.in-Choice.is, c.requires.weighed))

pub choose_both-seek_parallel-requires : goal.choose_both-seek_parallel-requires
choose_both-seek_parallel-requires t c = (omega (arith, c.decreases), (wanted_both c.requires.wanted c.in-Parallel.is, c.requires.weighed))

pub choose_both-returns-in-Sequence : goal.choose_both-returns-in-Sequence
choose_both-returns-in-Sequence t c =
    record {
      chosen = c.seek_running.ensures.chosen;
      counted = c.seek_running.ensures.counted;
      lent = c.seek_running.ensures.lent;
    }

pub choose_both-returns-in-Choice : goal.choose_both-returns-in-Choice
choose_both-returns-in-Choice t c =
    record {
      chosen = c.seek_choice.ensures.chosen;
      counted = c.seek_choice.ensures.counted;
      lent = c.seek_choice.ensures.lent;
    }

pub choose_both-returns-in-Parallel : goal.choose_both-returns-in-Parallel
choose_both-returns-in-Parallel t c =
    record {
      chosen = c.seek_parallel.ensures.chosen;
      counted = c.seek_parallel.ensures.counted;
      lent = c.seek_parallel.ensures.lent;
    }

pub choose_by-course_at-course-requires : goal.choose_by-course_at-course-requires
choose_by-course_at-course-requires t c = c.requires.spot

pub choose_by-seek_pair-requires : goal.choose_by-seek_pair-requires
choose_by-seek_pair-requires t c =
    record {
      spot = c.requires.spot;
      stands = sym c.course_at-course.ensures ∙ c.in-Pair.is;
      i_in_bounds = row_room c.requires.weighed c.requires.spot;
    }

pub choose_by-choose_both-requires : goal.choose_by-choose_both-requires
choose_by-choose_both-requires t c = (omega (arith, c.decreases), (wanted c.requires.spot c.requires.number_bound c.course_at-course.ensures c.in-Both.is, c.requires.weighed))

pub choose_by-lone_at-k-requires : goal.choose_by-lone_at-k-requires
choose_by-lone_at-k-requires t c = held_room (wanted c.requires.spot c.requires.number_bound c.course_at-course.ensures c.in-Held.is) c.requires.weighed

pub choose_by-seek_second-requires : goal.choose_by-seek_second-requires
choose_by-seek_second-requires t c = let h = wanted c.requires.spot c.requires.number_bound c.course_at-course.ensures c.in-Held.is in let k = c.requires.weighed in (omega (arith, c.decreases), (held_wanted h k c.lone_at-k.ensures, (held_weighed k h.spot h.is, held_undone k h.spot h.is)))

pub choose_by-choose-requires : goal.choose_by-choose-requires
choose_by-choose-requires t c = let h = wanted c.requires.spot c.requires.number_bound c.course_at-course.ensures c.in-As.is in let l = as_lower h in (omega (arith, c.decreases, l), (lower_spot c.requires.spot l, (as_weighed c.requires.weighed h.spot h.is, as_room h)))

pub choose_by-returns-in-Basic : goal.choose_by-returns-in-Basic
choose_by-returns-in-Basic t c =
    let h = wanted c.requires.spot c.requires.number_bound c.course_at-course.ensures c.in-Basic.is in record {
      chosen = basic_chosen h;
      counted = basic_undone h _;
      lent = record { name = refl; long = refl };
    }

pub choose_by-returns-in-Pair : goal.choose_by-returns-in-Pair
choose_by-returns-in-Pair t c =
    let spot = c.requires.spot in let e = sym c.course_at-course.ensures ∙ c.in-Pair.is in let k = c.requires.weighed in let room = c.requires.number_bound in record {
      chosen = pair_chosen spot e k _ room c.seek_pair.ensures;
      counted = pair_undone spot e k _ room c.seek_pair.ensures;
      lent = record { name = refl; long = c.seek_pair.auto.t };
    }

pub choose_by-returns-in-Both : goal.choose_by-returns-in-Both
choose_by-returns-in-Both t c =
    record {
      chosen = c.choose_both.ensures.chosen;
      counted = c.choose_both.ensures.counted;
      lent = c.choose_both.ensures.lent;
    }

pub choose_by-returns-in-Held : goal.choose_by-returns-in-Held
choose_by-returns-in-Held t c =
    let h = wanted c.requires.spot c.requires.number_bound c.course_at-course.ensures c.in-Held.is in record {
      chosen = held_chosen h c.requires.weighed c.lone_at-k.ensures c.seek_second.ensures.second_chosen;
      counted = c.seek_second.ensures.counted;
      lent = c.seek_second.ensures.lent;
    }

pub choose_by-returns-in-As : goal.choose_by-returns-in-As
choose_by-returns-in-As t c =
    let h = wanted c.requires.spot c.requires.number_bound c.course_at-course.ensures c.in-As.is in record {
      chosen = as_chosen h c.choose.ensures.chosen;
      counted = as_undone h c.choose.ensures.chosen.kept c.choose.ensures.counted;
      lent = c.choose.ensures.lent;
    }

pub seek_choice-weight_by-p-requires : goal.seek_choice-weight_by-p-requires
seek_choice-weight_by-p-requires t c = first_row c.requires.wanted c.requires.weighed

pub seek_choice-seek_marked-requires : goal.seek_choice-seek_marked-requires
seek_choice-seek_marked-requires t c = let h = c.requires.wanted in let k = c.requires.weighed in let d = choice_weight h k c.weight_by-p.ensures in (omega (arith, c.decreases), (choice_first_below h d c.if-q-p.true, first_known h k))

pub seek_choice-returns-then-q-p : goal.seek_choice-returns-then-q-p
seek_choice-returns-then-q-p t c =
    let h = c.requires.wanted in let k = c.requires.weighed in let d = choice_weight h k c.weight_by-p.ensures in record {
      chosen = choice_first h d c.if-q-p.true c.seek_marked.ensures.chosen;
      counted = choice_first_undone h d c.if-q-p.true c.seek_marked.ensures.chosen c.seek_marked.ensures.counted;
      lent = c.seek_marked.ensures.lent;
    }

pub seek_choice-seek_marked-requires-2 : goal.seek_choice-seek_marked-requires-2
seek_choice-seek_marked-requires-2 t c = let h = c.requires.wanted in let k = c.requires.weighed in let d = choice_weight h k c.weight_by-p.ensures in (omega (arith, c.decreases), (choice_second_below h d c.if-q-p.false, second_known h k))

pub seek_choice-returns : goal.seek_choice-returns
seek_choice-returns t c =
    let h = c.requires.wanted in let k = c.requires.weighed in let d = choice_weight h k c.weight_by-p.ensures in record {
      chosen = choice_second h d c.if-q-p.false c.seek_marked-2.ensures.chosen;
      counted = choice_second_undone h d c.if-q-p.false c.seek_marked-2.ensures.chosen c.seek_marked-2.ensures.counted;
      lent = c.seek_marked-2.ensures.lent;
    }

pub seek_marked-set_mode-requires : goal.seek_marked-set_mode-requires
seek_marked-set_mode-requires t c = c.requires.below.spot.room

pub seek_marked-choose-requires : goal.seek_marked-choose-requires
seek_marked-choose-requires t c = let b = c.requires.below in let e = c.set_mode.ensures in let l = kid_lower c.args.by.now.ns.now b.spot.node.sound.tree b.kid in (omega (arith, c.decreases), (below_spot _ e b, (below_weighed _ e b c.requires.weighed, below_room _ e b)))

pub seek_marked-returns : goal.seek_marked-returns
seek_marked-returns t c =
    record {
      chosen = below_chosen _ c.set_mode.ensures c.requires.below c.choose.ensures.chosen;
      counted = c.choose.ensures.counted;
      lent = record { name = c.choose.ensures.lent.name; long = c.choose.ensures.lent.long ∙ c.set_mode.auto.t };
    }

pub seek_parallel-first_ending-x-requires : goal.seek_parallel-first_ending-x-requires
seek_parallel-first_ending-x-requires t c = (first_row c.requires.wanted c.requires.weighed, second_row c.requires.wanted c.requires.weighed)

pub seek_parallel-beside-requires : goal.seek_parallel-beside-requires
seek_parallel-beside-requires t c =
    second_row c.requires.wanted c.requires.weighed

pub seek_parallel-choose-k-requires : goal.seek_parallel-choose-k-requires
seek_parallel-choose-k-requires t c = let h = c.requires.wanted in let f = c.first_ending-x.ensures in (omega (arith, c.decreases, first_lower h), (first_spot h, (first_known h c.requires.weighed, par_first_room h c.requires.weighed c.joint-joint.ensures refl refl f c.beside.ensures)))

pub seek_parallel-second_ending-y-requires : goal.seek_parallel-second_ending-y-requires
seek_parallel-second_ending-y-requires t c =
    second_row c.requires.wanted c.requires.weighed

pub seek_parallel-choose-l-requires : goal.seek_parallel-choose-l-requires
seek_parallel-choose-l-requires t c = let h = c.requires.wanted in let k = c.requires.weighed in (omega (arith, c.decreases, second_lower h), (same_room (second_spot h) c.choose-k.ensures.lent.long, (second_still h k c.choose-k.ensures.chosen.kept c.choose-k.ensures.counted.kept refl, par_second_room h k c.joint-joint.ensures refl refl c.first_ending-x.ensures c.beside.ensures c.choose-k.ensures.chosen c.within-within.ensures c.second_ending-y.ensures)))

pub seek_parallel-returns : goal.seek_parallel-returns
seek_parallel-returns t c =
    let h = c.requires.wanted in let k = c.requires.weighed in record {
      chosen = rw c.sides.ensures (par_chosen h k c.joint-joint.ensures refl refl c.first_ending-x.ensures c.beside.ensures c.choose-k.ensures.chosen c.within-within.ensures c.second_ending-y.ensures c.choose-l.ensures.chosen);
      counted = par_undone h c.choose-k.ensures.chosen c.choose-l.ensures.chosen c.choose-k.ensures.counted c.choose-l.ensures.counted;
      lent = still_lent c.choose-k.ensures.lent c.choose-l.ensures.lent;
    }

pub seek_running-own_weight-own-requires : goal.seek_running-own_weight-own-requires
seek_running-own_weight-own-requires t c = first_row c.requires.wanted c.requires.weighed

pub seek_running-seek_marked-requires : goal.seek_running-seek_marked-requires
seek_running-seek_marked-requires t c = let h = c.requires.wanted in let k = c.requires.weighed in let d = own_weight h k c.own_weight-own.ensures in (omega (arith, c.decreases), (own_below h d c.if-q-own.true, first_known h k))

pub seek_running-returns-then-q-own : goal.seek_running-returns-then-q-own
seek_running-returns-then-q-own t c =
    let h = c.requires.wanted in let k = c.requires.weighed in let d = own_weight h k c.own_weight-own.ensures in record {
      chosen = own_chosen h d c.if-q-own.true c.seek_marked.ensures.chosen;
      counted = own_undone h d c.if-q-own.true c.seek_marked.ensures.chosen c.seek_marked.ensures.counted;
      lent = c.seek_marked.ensures.lent;
    }

pub seek_running-weight_before-before-requires : goal.seek_running-weight_before-before-requires
seek_running-weight_before-before-requires t c = second_row c.requires.wanted c.requires.weighed

pub seek_running-choose-k-requires : goal.seek_running-choose-k-requires
seek_running-choose-k-requires t c = let h = c.requires.wanted in let k = c.requires.weighed in let d = own_weight h k c.own_weight-own.ensures in let e = weight_before h k c.weight_before-before.ensures in let l = first_lower h in (omega (arith, c.decreases, l), (first_spot h, (first_known h k, both_room h d c.if-q-own.false e)))

pub seek_running-seek_second-requires : goal.seek_running-seek_second-requires
seek_running-seek_second-requires t c = let h = c.requires.wanted in let k = c.requires.weighed in let d = own_weight h k c.own_weight-own.ensures in let e = weight_before h k c.weight_before-before.ensures in (omega (arith, c.decreases), (both_wanted h d c.if-q-own.false e c.choose-k.ensures.chosen c.choose-k.ensures.lent.long, (second_still h k c.choose-k.ensures.chosen.kept c.choose-k.ensures.counted.kept refl, c.choose-k.ensures.counted.right)))

pub seek_running-returns : goal.seek_running-returns
seek_running-returns t c =
    let h = c.requires.wanted in let k = c.requires.weighed in let d = own_weight h k c.own_weight-own.ensures in let e = weight_before h k c.weight_before-before.ensures in record {
      chosen = both_chosen h d c.if-q-own.false e c.choose-k.ensures.chosen c.seek_second.ensures.second_chosen;
      counted = both_undone h c.choose-k.ensures.counted c.seek_second.ensures.counted;
      lent = still_lent c.choose-k.ensures.lent c.seek_second.ensures.lent;
    }

pub seek_second-seek_marked-l-requires : goal.seek_second-seek_marked-l-requires
seek_second-seek_marked-l-requires t c = (omega (arith, c.decreases), (second_below c.requires.second_wanted c.inside-inside.ensures, c.requires.weighed))

pub seek_second-returns : goal.seek_second-returns
seek_second-returns t c =
    record {
      second_chosen = rw c.moves_before.ensures (second_chosen c.requires.second_wanted c.inside-inside.ensures c.seek_marked-l.ensures.chosen);
      counted = second_undone c.requires.second_wanted c.requires.first_noted c.seek_marked-l.ensures.chosen c.seek_marked-l.ensures.counted;
      lent = c.seek_marked-l.ensures.lent;
    }
