-- `program::so_many` meets its contract, case by case. Assumes nothing.
use native.Mathlib.Omega.{arith}
use borrow.Author.Tests.{eq-eqb, ne_eqb, lt-ltb, le-ltb}
use Rattle.program.specs.Listing.{all_but_last, so_many}
use Rattle.program.proofs.so_many.Goals as goal

pub returns-then-records-eq0 : goal.returns-then-records-eq0
unfolding so_many
returns-then-records-eq0 c = rw (eq-eqb c.args.first all_but_last c.if-first-eq-ALL_BUT_LAST.true) (omega arith)

pub returns-then-first-eq-ALL_BUT_LAST : goal.returns-then-first-eq-ALL_BUT_LAST
unfolding so_many
returns-then-first-eq-ALL_BUT_LAST c = rw (eq-eqb c.args.first all_but_last c.if-first-eq-ALL_BUT_LAST.true) c.from.ensures

pub returns-then-first-records : goal.returns-then-first-records
unfolding so_many
returns-then-first-records c = rw (ne_eqb c.args.first all_but_last c.if-first-eq-ALL_BUT_LAST.false, lt-ltb c.args.first c.args.records c.if-first-records.true) c.from-then-first-records.ensures

pub returns : goal.returns
unfolding so_many
returns c = rw (ne_eqb c.args.first all_but_last c.if-first-eq-ALL_BUT_LAST.false, le-ltb c.args.first c.args.records c.if-first-records.false) c.from-2.ensures
