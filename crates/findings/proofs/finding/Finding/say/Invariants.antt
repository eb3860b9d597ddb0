-- Nothing else of the finding is changed.
use Rattle.std.proofs.Common.{◌≡◌}
use Rattle.findings.proofs.finding.Finding.say.Given as goal

abbrev pub invariant-loop-part : goal.invariant-loop-part
invariant-loop-part l = l.self ≡ record l.initial.self { what = l.self.what }
