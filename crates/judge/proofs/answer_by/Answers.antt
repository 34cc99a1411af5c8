-- `judge::answer_by` meets its contract: what the search by the cues brings back, as an answer. Assumes nothing.
use Prim.Native.Nat.{ℕ}
use mathlib.Core.List.{List}
use mathlib.Core.Path.{ap, sym, ◌∙◌}
use Rattle.std.proofs.Common.{subst}
use Rattle.std.proofs.lemmas.List.{length-map}
use Rattle.flow.specs.Cues.{cue_of, masked}
use Rattle.flow.specs.Legends.{in_set}
use Rattle.search.specs.Searches.{SearchReady, Searched}
use Rattle.search.specs.Visits.{out_of}
use Rattle.judge.specs.Settled.{answer_to}
use Rattle.judge.specs.ByCues.{cues_front, searched_within, searched_answer}
use Rattle.judge.proofs.answer_by.Goals as goal

pub search-out-requires : goal.search-out-requires
search-out-requires g c =
    let a = c.args in
    let front = cues_front _ a.records.now _ _ c.write_cues.ensures in
    subst (λ (xs : List ℕ). SearchReady a.nodes.now xs a.work.now) (sym front) c.requires.ready

pub answer_of-requires : goal.answer_of-requires
answer_of-requires g c = record { left_within = searched_within c.search-out.ensures; records_bound = c.requires.records_bound }

pub returns : goal.returns
returns g c =
    let a = c.args in
    let f = cue_of (masked (in_set a.sets.now)) (g.N.Names.beside a.names.now) in
    let front = cues_front f a.records.now _ _ c.write_cues.ensures in
    let found = subst (λ (xs : List ℕ). Searched a.nodes.now xs a.allowance a.work.now c.search-out.result c.search-out.new.work) front c.search-out.ensures in
    searched_answer found (c.answer_of.ensures ∙ ap (λ (n : ℕ). answer_to n a.allowance (out_of c.search-out.result)) (sym (length-map a.records.now f)))
