-- `search::follows` meets its contract: a standard part's closing, or how many successors there are. Assumes nothing.
use mathlib.Core.Path.{refl, sym, ◌∙◌}
use Rattle.search.specs.Visits.{state}
use Rattle.search.proofs.Numbers.{first_inner, ends_fits}
use Rattle.search.proofs.OneRecord.{count_follows, end_follows}
use Rattle.search.proofs.follows.Goals as goal

pub can_end-requires : goal.can_end-requires
can_end-requires c =
    let a = c.args in
    ends_fits a.here.ns.now a.here.t.now a.cue c.requires a.here.role (sym c.ends.ensures ∙ c.if-ends.true)

pub returns-then-ends : goal.returns-then-ends
returns-then-ends c =
    let a = c.args in
    end_follows (state a.here.ns.now a.here.role a.here.t.now) a.cue c.can_end.ensures

pub successors-requires : goal.successors-requires
successors-requires c =
    let a = c.args in record {
      inner = first_inner a.here.role a.cue c.requires (sym c.ends.ensures ∙ c.if-ends.false);
      d_len = refl;
    }

pub returns : goal.returns
returns c =
    let a = c.args in
    count_follows a.here.ns.now a.here.role a.cue a.here.t.now c.successors.ensures.many
