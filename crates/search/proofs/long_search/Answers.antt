-- `search::long_search` meets its contract: empty slots remember nothing yet. Assumes nothing.
use Rattle.search.proofs.Deeper.{visited_began}
use Rattle.search.proofs.Memories.{truthful_fresh}
use Rattle.search.proofs.long_search.Goals as goal

pub visit-requires : goal.visit-requires
visit-requires c =
    let a = c.args in record {
      visit_ready = c.requires.0;
      truthful = truthful_fresh a.ns.now a.cues.now a.asks.now c.requires.1 7168;
    }

pub returns : goal.returns
returns c = visited_began c.visit.ensures
