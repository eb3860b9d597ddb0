-- None of those before begins there.
use Rattle.std.proofs.Common.{◌≡◌, drop}
use Rattle.std.specs.List.{list_any}
use Rattle.findings.specs.MarkedPlaces.{begins_at}
use Rattle.findings.proofs.finding.is_marked.Given as goal

abbrev pub invariant-loop-mark : goal.invariant-loop-mark
invariant-loop-mark l = list_any (begins_at l.at) (drop l.mark-index l.marks) ≡ list_any (begins_at l.at) l.marks
