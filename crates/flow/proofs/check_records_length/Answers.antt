-- `flow::check_records_length` meets its contract: each return rewrites with the extent and the tests that led there. Assumes nothing.
use borrow.Author.Tests.{eq-eqb, ne_eqb, lt-ltb, le-ltb}
use Rattle.flow.specs.Refusals.{no_records, too_many_records}
use Rattle.flow.specs.Checks.{records_length_check, first, answer, or_else_check}
use Rattle.flow.proofs.check_records_length.Goals as goal
use Rattle.flow.proofs.check_records_length.Goals.{in-Whole+else-records-eq0, in_default}

pub returns-then-records-eq0 : goal.returns-then-records-eq0
unfolding records_length_check first answer or_else_check no_records too_many_records
returns-then-records-eq0 c = rw (c.refuse.ensures, c.in-Whole.is, eq-eqb _ _ c.if-records-eq0.true)

pub returns-then-records-gt-MOST_RECORDS : goal.returns-then-records-gt-MOST_RECORDS
unfolding records_length_check first answer or_else_check no_records too_many_records
returns-then-records-gt-MOST_RECORDS c =
    elim c.match-extent.branch [
      | in-Whole+else-records-eq0 w ↦ rw (c.refuse-then-records-gt-MOST_RECORDS.ensures, w.in-Whole.is, ne_eqb _ _ w.if-records-eq0.false, lt-ltb _ _ c.if-records-gt-MOST_RECORDS.true)
      | in_default w ↦ rw (c.refuse-then-records-gt-MOST_RECORDS.ensures, w.in_default.is, lt-ltb _ _ c.if-records-gt-MOST_RECORDS.true)
    ]

pub returns : goal.returns
unfolding records_length_check first answer or_else_check no_records too_many_records
returns c =
    elim c.match-extent.branch [
      | in-Whole+else-records-eq0 w ↦ rw (w.in-Whole.is, ne_eqb _ _ w.if-records-eq0.false, le-ltb _ _ c.if-records-gt-MOST_RECORDS.false)
      | in_default w ↦ rw (w.in_default.is, le-ltb _ _ c.if-records-gt-MOST_RECORDS.false)
    ]
