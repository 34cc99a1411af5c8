-- `program::next_tables` meets its contract: what is answered, as text. Assumes nothing.
use mathlib.Core.Path.{sym, subst}
use lib.Seq.{length-take-le}
use Rattle.program.specs.NextFile.{ListShowable}
use Rattle.program.specs.NextFileLaws.{listed_showable, listed_inside, listed_first, table_listed, listed_printed, undecided_printed, refused_printed}
use Rattle.program.proofs.next_tables.Goals as goal

pub slice_bounds-list-end : goal.slice_bounds-list-end
slice_bounds-list-end c =
    let a = c.args in
    listed_inside (table_listed a.names.now a.sets.now a.nodes.now a.beginning.now c.next_named.ensures c.in-Listed.is)

pub slice_bounds-put_list-end : goal.slice_bounds-put_list-end
slice_bounds-put_list-end c =
    let a = c.args in
    sym (length-take-le _ _ (listed_inside (table_listed a.names.now a.sets.now a.nodes.now a.beginning.now c.next_named.ensures c.in-Listed.is)))

pub put_list-requires : goal.put_list-requires
put_list-requires c =
    let a = c.args in
    let h = table_listed a.names.now a.sets.now a.nodes.now a.beginning.now c.next_named.ensures c.in-Listed.is in
    subst (ListShowable a.names.now) (sym (listed_first h)) (listed_showable a.names.now a.sets.now a.nodes.now a.beginning.now h.fine)

pub returns-in-Listed : goal.returns-in-Listed
returns-in-Listed c =
    let a = c.args in
    let e = listed_printed a.names.now a.sets.now a.nodes.now a.beginning.now c.next_named.ensures c.in-Listed.is in record {
      put = rw e at c.put_list.ensures.put;
      prefix_len = c.put_list.ensures.prefix_len;
    }

pub returns-in-Undecided : goal.returns-in-Undecided
returns-in-Undecided c =
    let a = c.args in
    let e = undecided_printed a.names.now a.sets.now a.nodes.now a.beginning.now c.next_named.ensures c.in-Undecided.is in record {
      put = rw e at c.put_answer.ensures.put;
      prefix_len = c.put_answer.ensures.prefix_len;
    }

pub returns-in-Refused : goal.returns-in-Refused
returns-in-Refused c =
    let a = c.args in
    let e = refused_printed a.names.now a.sets.now a.nodes.now a.beginning.now c.next_named.ensures c.in-Refused.is in record {
      put = rw e at c.put_answer-in-Refused.ensures.put;
      prefix_len = c.put_answer-in-Refused.ensures.prefix_len;
    }
