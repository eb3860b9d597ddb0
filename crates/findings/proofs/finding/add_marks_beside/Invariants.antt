-- With those that are left, they are all.
use Rattle.std.proofs.Common.{◌≡◌, ◌++◌, drop, map}
use Rattle.findings.specs.Marking.{seen, seen_beside}
use Rattle.findings.proofs.finding.add_marks_beside.Given as goal

abbrev pub invariant-loop-one : goal.invariant-loop-one
invariant-loop-one l =
    map seen l.marks.items ++ map seen_beside (drop l.one-index l.beside)
    ≡ map seen l.initial.marks.items ++ map seen_beside l.beside
