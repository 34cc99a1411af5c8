-- `search::apply` meets its contract: by the role, the step of the root or the choice of its compensation. The modes are those of the struct after the call,
-- since it still has what was lent. Assumes nothing.
use Rattle.search.proofs.OneRecord.{inner_is, step_asked, closing_asked, step_applied, closing_applied}
use Rattle.std.proofs.Common.{rules}
use Rattle.search.proofs.apply.Goals as goal

pub step_std-requires : goal.step_std-requires
step_std-requires c =
    let a = c.args in
    let g = c.in-Plain.is in
    step_asked a.ns.now a.t.now a.cue c.root_of-i.result c.root_of-i.ensures g (inner_is a.ns.now a.t.now a.cue c.root_of-i.result c.root_of-i.ensures g c.requires.in_bounds.1) c.requires.spot c.requires.right_counts c.requires.k_bound

pub step_run-requires : goal.step_run-requires
step_run-requires c =
    let a = c.args in
    step_asked a.ns.now a.t.now a.cue c.root_of-i.result c.root_of-i.ensures c.in-Running.is c.if-cue-lt-DONE_CUE.true c.requires.spot c.requires.right_counts c.requires.k_bound

pub choose-requires : goal.choose-requires
choose-requires c =
    let a = c.args in
    let whole = closing_asked a.ns.now a.t.now a.cue c.root_of-i.result c.root_of-i.ensures c.in-Running.is c.if-cue-lt-DONE_CUE.false c.requires.in_bounds.1 c.closing_of.result c.closing_of.ensures c.requires.spot c.requires.right_counts c.requires.k_bound in record {
      spot = whole.0;
      weighed = whole.1.0;
      j_bound = whole.1.1;
    }

pub returns-in-Plain : goal.returns-in-Plain
returns-in-Plain c =
    let a = c.args in
    let g = c.in-Plain.is in
    step_applied a.ns.now a.t.now a.cue c.root_of-i.result c.root_of-i.ensures g (inner_is a.ns.now a.t.now a.cue c.root_of-i.result c.root_of-i.ensures g c.requires.in_bounds.1) (let n = c.step_std.ensures.lent.name in let e = c.step_std.ensures.stepped in search rules)

pub returns-then-cue-lt-DONE_CUE : goal.returns-then-cue-lt-DONE_CUE
returns-then-cue-lt-DONE_CUE c =
    let a = c.args in
    step_applied a.ns.now a.t.now a.cue c.root_of-i.result c.root_of-i.ensures c.in-Running.is c.if-cue-lt-DONE_CUE.true (let n = c.step_run.ensures.lent.name in let e = c.step_run.ensures.stepped in search rules)

pub returns-else-cue-lt-DONE_CUE : goal.returns-else-cue-lt-DONE_CUE
returns-else-cue-lt-DONE_CUE c =
    let a = c.args in
    closing_applied a.ns.now a.t.now a.cue c.root_of-i.result c.root_of-i.ensures c.in-Running.is c.if-cue-lt-DONE_CUE.false c.requires.in_bounds.1 c.closing_of.result c.closing_of.ensures {p = c.choose.result} (let n = c.choose.ensures.lent.name in let e = c.choose.ensures.chosen in search rules)
