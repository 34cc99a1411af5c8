use Rattle.format.specs.SectionLaws.{Scanned}
use Rattle.format.proofs.scan_names.Given as goal

abbrev pub invariant-loop-i : goal.invariant-loop-i
invariant-loop-i l = Scanned l.file l.count.value l.i l.next.at
