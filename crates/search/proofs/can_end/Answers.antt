-- `search::can_end` meets its contract: by the role, what the counting pass sees of the root; a part that runs has two closings
-- to come. Assumes nothing.
use Rattle.search.proofs.OneRecord.{std_ends, never_running}
use Rattle.search.proofs.can_end.Goals as goal

pub count_std-v-requires : goal.count_std-v-requires
count_std-v-requires c = rw c.root_of-i.ensures c.args.here.spot

pub returns-in-Plain : goal.returns-in-Plain
returns-in-Plain c =
    let a = c.args in
    std_ends a.here.ns.now a.here.t.now a.cue c.root_of-i.result c.root_of-i.ensures a.here.role c.requires c.ends_by.ensures _ c.in-Plain.is c.count_std-v.ensures

pub returns-in-Running : goal.returns-in-Running
returns-in-Running c =
    let a = c.args in
    absurd (never_running a.here.ns.now a.here.t.now a.cue c.root_of-i.result c.root_of-i.ensures a.here.role c.requires c.in-Running.is)
