use Rattle.ahead.specs.Answering.{ListedTo}
use Rattle.ahead.proofs.write_listed.Given as goal

abbrev pub invariant-loop-place : goal.invariant-loop-place
invariant-loop-place l = ListedTo l.asks l.initial.list l.place l.n l.list
