-- `search::successors` meets its contract: by the role and the record, what the counting pass gives of the root. Assumes nothing.
use mathlib.Core.Path.{◌∙◌}
use Rattle.search.proofs.OneRecord.{inner_is, closing_high, counted_event, counted_closing}
use Rattle.search.proofs.successors.Goals as goal

pub count_std-v-requires : goal.count_std-v-requires
count_std-v-requires c = rw c.root_of-i.ensures c.args.here.spot

pub count_run-w-requires : goal.count_run-w-requires
count_run-w-requires c = rw c.root_of-i.ensures c.args.here.spot

pub returns-in-Plain : goal.returns-in-Plain
returns-in-Plain c =
    let a = c.args in
    let g = c.in-Plain.is in
    counted_event a.here.ns.now a.here.t.now a.cue c.root_of-i.result c.root_of-i.ensures g (inner_is a.here.ns.now a.here.t.now a.cue c.root_of-i.result c.root_of-i.ensures g c.requires.inner) c.requires.d_len c.count_std-v.ensures

pub returns-then-cue-lt-DONE_CUE : goal.returns-then-cue-lt-DONE_CUE
returns-then-cue-lt-DONE_CUE c =
    let a = c.args in
    counted_event a.here.ns.now a.here.t.now a.cue c.root_of-i.result c.root_of-i.ensures c.in-Running.is c.if-cue-lt-DONE_CUE.true c.requires.d_len c.count_run-w.ensures

pub returns-else-cue-lt-DONE_CUE : goal.returns-else-cue-lt-DONE_CUE
returns-else-cue-lt-DONE_CUE c =
    let a = c.args in
    let g = c.in-Running.is in
    counted_closing a.here.ns.now a.here.t.now a.cue c.root_of-i.result c.root_of-i.ensures c.if-cue-lt-DONE_CUE.false (closing_high g c.requires.inner) c.closing_of.result c.closing_of.ensures {v = c.count_run-w.result} {y = c.by-y.result} c.count_run-w.ensures.seen c.by-y.ensures g (c.count_run-w.ensures.long ∙ c.requires.d_len) c.count_run-w.ensures.right
